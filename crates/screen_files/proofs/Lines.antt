-- The text of the keys that are shown, and of rows.
use Rattle.std.proofs.Common.{◌≡◌, ◌∙◌, ◌<◌, ◌≤◌, ◌+◌, ◌-◌, ℕ, suc, true, false, List, [], ◌∷◌, ◌++◌, refl, sym, ap, arith, append_assoc}
use Rattle.std.proofs.lemmas.Grind.{flat_map-append}
use Rattle.std.proofs.lemmas.List.{append-nil}
use Rattle.std.proofs.lemmas.List.FromFn.{map-range_with_len_more}
use Rattle.std.specs.List.{flat_map}
use Rattle.screens.specs.declared.look.Look.{Look}
use Rattle.screen_files.specs.Keys.{shows_key}
use Rattle.screen_files.specs.Rows.{screen_row, rows_to}
use Rattle.screen_files.specs.Texts.{keys_from, row_text_line}

pub key_shown : (all : List (List Look)) (text : List ℕ) (d : ℕ) → d < 10 → shows_key all d ≡ true
    → ((text ++ 32 ∷ []) ++ (48 + d) ∷ []) ++ keys_from all (10 - (d + 1)) (d + 1) ≡ text ++ keys_from all (10 - d) d
unfolding keys_from
key_shown all text d few shown =
    let left : 10 - d ≡ suc (10 - (d + 1)) = omega arith in
    append_assoc (text ++ 32 ∷ []) ((48 + d) ∷ []) (keys_from all (10 - (d + 1)) (d + 1))
    ∙ append_assoc text (32 ∷ []) ((48 + d) ∷ keys_from all (10 - (d + 1)) (d + 1))
    ∙ sym (ap (λ (n : ℕ). text ++ keys_from all n d) left ∙ rw shown refl)

pub key_hidden : (all : List (List Look)) (d : ℕ) → d < 10 → shows_key all d ≡ false
    → keys_from all (10 - (d + 1)) (d + 1) ≡ keys_from all (10 - d) d
unfolding keys_from
key_hidden all d few hidden =
    let left : 10 - d ≡ suc (10 - (d + 1)) = omega arith in
    sym (ap (λ (n : ℕ). keys_from all n d) left ∙ rw hidden refl)

pub no_more_keys : (all : List (List Look)) (text : List ℕ) (d : ℕ) → 10 ≤ d → text ++ keys_from all (10 - d) d ≡ text
unfolding keys_from
no_more_keys all text d past =
    let none : 10 - d ≡ 0 = omega arith in
    ap (λ (n : ℕ). text ++ keys_from all n d) none ∙ append-nil text

-- the lines of one row more
pub lines_more : (screen : List ℕ) (n : ℕ)
    → flat_map row_text_line (rows_to screen n) ++ row_text_line (screen_row screen (n + 1)) ≡ flat_map row_text_line (rows_to screen (n + 1))
lines_more screen n =
    sym (ap (flat_map row_text_line) (map-range_with_len_more (screen_row screen) 1 n (n + 1) (omega arith))
    ∙ flat_map-append row_text_line (rows_to screen n) (screen_row screen (n + 1) ∷ [])
    ∙ ap (λ (xs : List ℕ). flat_map row_text_line (rows_to screen n) ++ xs) (append-nil (row_text_line (screen_row screen (n + 1)))))
