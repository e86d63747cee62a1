-- An EP1 file that was written is read as its screen.
use Rattle.std.proofs.Common.{◌≡◌, ◌∙◌, ◌+◌, ◌==◌, ◌||◌, ℕ, Bool, true, false, List, [], ◌∷◌, ◌++◌, Option, Some, refl, ap, drop, length, map, take, arith}
use Rattle.std.specs.List.{list_any}
use Rattle.std.proofs.lemmas.Bool.{eqb-true}
use Rattle.std.proofs.lemmas.Bool.Decides.{nat_tests}
use Rattle.std.proofs.lemmas.List.{length-append, length-map, take_at}
use Rattle.std.proofs.lemmas.List.Elements.{All-head, All-tail}
use Rattle.std.specs.List.{All}
use Rattle.terminal_codes.specs.Writes.{IsCode}
use Rattle.screen_forms.specs.Bits.{low_bits}
use Rattle.screen_forms.specs.Forms.{ep1_bytes, ep1_head}
use Rattle.screen_forms.specs.Laws.{IsSavedScreen}
use Rattle.screen_forms.proofs.Letters.{all_back}
use Rattle.screen_files.specs.Codes.{codes_of_rows, has_all_rows, is_ep1, is_space_byte, placed, row_code, rows_in}
use Rattle.screen_files.specs.Laws.{Ep1KeepsScreens}

space_kept : (c : ℕ) → IsCode c → is_space_byte c ≡ true → is_space_byte (low_bits c) ≡ true
space_kept c is e =
    let other : (c == 0xA0) ≡ false = grind (arith, nat_tests, is.1) in
    by (c == 0x20) refl (rw other at e) where
      by : (b : Bool) → (c == 0x20) ≡ b → ((c == 0x20) || false) ≡ true → is_space_byte (low_bits c) ≡ true
      by true f g = rw (eqb-true c 0x20 f) refl
      by false f g = let none = rw f at g in absurd cc

or_true : (b : Bool) → (b || true) ≡ true
or_true true = refl
or_true false = refl

any_kept : (cs : List ℕ) → All IsCode cs → list_any is_space_byte cs ≡ true → list_any is_space_byte (map low_bits cs) ≡ true
any_kept [] are e = absurd cc
any_kept (c ∷ cs) are e = one_kept c cs (All-head IsCode c cs are) (any_kept cs (All-tail IsCode c cs are)) e where
  one_kept : (c : ℕ) (cs : List ℕ) → IsCode c → (list_any is_space_byte cs ≡ true → list_any is_space_byte (map low_bits cs) ≡ true)
      → list_any is_space_byte (c ∷ cs) ≡ true → list_any is_space_byte (map low_bits (c ∷ cs)) ≡ true
  one_kept c cs is more = by (is_space_byte c) refl where
    by : (b : Bool) → is_space_byte c ≡ b → list_any is_space_byte (c ∷ cs) ≡ true → list_any is_space_byte (map low_bits (c ∷ cs)) ≡ true
    by true f e = rw (space_kept c is f) refl
    by false f e = rw (more (rw f at e)) (or_true (is_space_byte (low_bits c)))

pub kept : Ep1KeepsScreens
kept screen saved spaced =
    let rows = map low_bits screen in
    let bytes = ep1_bytes screen in
    let long : length rows ≡ 960 = length-map screen low_bits ∙ saved.cells in
    let size : length bytes ≡ 968 = omega (arith, long, length-append (ep1_head ++ rows) (0 ∷ 0 ∷ []), length-append ep1_head rows) in
    let not_all : has_all_rows (length bytes) ≡ false = grind (arith, nat_tests, size) in
    let not_inner : (length bytes == 880) ≡ false = grind (arith, nat_tests, size) in
    let sized : (length bytes == 968) ≡ true = grind (arith, nat_tests, size) in
    let whole : (length rows == 880) ≡ false = grind (arith, nat_tests, long) in
    let first : take 960 (drop 6 bytes) ≡ rows = take_at rows (0 ∷ 0 ∷ []) 960 long in
    let in_file : rows_in bytes ≡ Some rows =
    rw (not_all, not_inner, sized) (ap (λ (l : List ℕ). let o : Option (List ℕ) = Some l in o) first) in
    let codes : codes_of_rows rows ≡ screen =
    rw whole (ap (λ (s : Bool). map (row_code s) rows) (any_kept screen saved.codes spaced) ∙ all_back screen saved.codes) in
    rw in_file (ap (λ (l : List ℕ). let o : Option (List ℕ) = Some l in o) codes)
