-- The loops over strings and keys, a turn at a time.
use Rattle.std.proofs.Common.{◌≡◌, ℕ, zero, suc, ◌+◌, ◌-◌, ◌<◌, ◌≤◌, Bool, false, cond, ◌==◌, List, length, take, take_all, drop, get_or, length-drop, get_or-drop, Some, None, option_and_then, refl, arith}
use Rattle.std.proofs.lemmas.Bool.Decides.{nat_tests}
use Rattle.std.proofs.lemmas.List.Sums.{prefix_len-le-length, prefix_len_stops}
use Rattle.std.specs.List.{prefix_len}
use Rattle.std.specs.Str.{IsCharBoundary}
use Rattle.toml_parser.specs.Lexical.{first, skip_ws}
use Rattle.toml_places.specs.Strings.{string_goes_on, next_step, after_step, after_content, char_step, content_char, after_part, next_part, part_from, after_key}

lead_byte : (c : ℕ) → string_goes_on c ≡ false → 128 ≤ c → 192 ≤ c
lead_byte c h wide = grind (arith, nat_tests)

-- a character ends at a boundary
pub char_ends : (bs : List ℕ) → 0 < length bs → IsCharBoundary bs (1 + prefix_len string_goes_on (drop 1 bs))
char_ends bs some =
    let rest = drop 1 bs in
    let n = prefix_len string_goes_on rest in
    let len : length rest ≡ length bs - 1 = length-drop 1 bs in (
      omega (arith, prefix_len-le-length string_goes_on rest),
      λ within wide.
          let stops = prefix_len_stops string_goes_on rest 0 (omega arith) in
          let same : get_or rest n 0 ≡ get_or bs (1 + n) 0 = get_or-drop 1 bs n 0 in
          lead_byte (get_or bs (1 + n) 0) (rw same at stops) wide,
    )

pub after_char_step : (bs : List ℕ) → take (length bs - 1) (drop 1 bs) ≡ drop 1 bs
after_char_step bs = take_all _ (drop 1 bs) (omega (arith, length-drop 1 bs))

module _ (delim : ℕ) (multi : Bool) where
  pub content_turn : (m : ℕ) (text : List ℕ) → length text < m
      → after_content delim multi m text ≡ option_and_then (λ s. after_step (after_content delim multi (m - 1)) s.0 s.1) (next_step delim multi text)
  unfolding after_content
  content_turn zero text room = absurd (omega arith)
  content_turn (suc m) text room = let less : suc m - 1 ≡ m = omega arith in rw less

  pub char_turn : (m k : ℕ) (text : List ℕ) → length text < m
      → content_char delim multi m k text ≡ option_and_then (λ s. char_step (content_char delim multi (m - 1)) k text s.0 s.1) (next_step delim multi text)
  unfolding content_char
  char_turn zero k text room = absurd (omega arith)
  char_turn (suc m) k text room = let less : suc m - 1 ≡ m = omega arith in rw less

pub key_turn : (n : ℕ) (text : List ℕ) → 0 < n
    → after_key n text
    ≡ option_and_then (λ rest. cond (first (skip_ws rest) == 46) (after_key (n - 1) (skip_ws (drop 1 (skip_ws rest)))) (Some rest)) (after_part text)
unfolding after_key
key_turn zero text some = absurd (omega arith)
key_turn (suc n) text some = let less : suc n - 1 ≡ n = omega arith in rw less

pub key_none : (text : List ℕ) → after_key 0 text ≡ None
unfolding after_key
key_none text = refl

pub part_turn : (k : ℕ) (text : List ℕ) → 0 < k
    → part_from k text ≡ option_and_then (λ rest. option_and_then (part_from (k - 1)) (next_part rest)) (after_part text)
unfolding part_from
part_turn zero text some = absurd (omega arith)
part_turn (suc k) text some = let less : suc k - 1 ≡ k = omega arith in rw less

pub part_here : (text : List ℕ) → part_from 0 text ≡ Some text
unfolding part_from
part_here text = refl
