-- Which rows are covered, and the rows of a screen one after another.
use Rattle.std.proofs.Common.{◌≡◌, ℕ, zero, suc, ◌+◌, ◌<◌, arith, refl, sym, ap, ◌∙◌, true, List, [], ◌∷◌, ◌++◌, ◌&&◌, not, Bool, false, ◌==◌, subst, add-one, map, replicate, take, set, length}
use Rattle.std.specs.List.{range_with_len, list_all}
use Rattle.std.proofs.lemmas.Bool.{and_parts}
use Rattle.std.proofs.lemmas.Bool.Decides.{nat_tests}
use Rattle.std.proofs.lemmas.List.{take_more_set, take_all}
use Rattle.std.proofs.lemmas.List.FromFn.{map-range_with_len_more}
use Rattle.screens.specs.declared.look.Colour.TheVariants.{Black, White}
use Rattle.screens.specs.declared.look.Glyph.TheVariants.{Char}
use Rattle.screens.specs.declared.look.Height.TheVariants.{Single}
use Rattle.screens.specs.declared.look.Look.{Look}
use Rattle.screens.specs.Table.{start}
use Rattle.screens.specs.Looks.{row_looks, has_double, is_covered, looks_at, looks}

-- a row of spaces is blank
abbrev blank : Look
blank = record { glyph = Char 0x20; foreground = White; background = Black; flash = false; concealed = false; height = Single }

blank_looks : (b : Bool) (cs : List ℕ) → list_all (λ c. c == 0x20) cs ≡ true → row_looks (start b) cs ≡ replicate (length cs) blank
blank_looks b [] h = refl
blank_looks b (c ∷ cs) h =
    let parts = and_parts (c == 0x20) (list_all (λ k. k == 0x20) cs) h in
    let space : c ≡ 0x20 = grind (arith, nat_tests) in
    subst (λ (k : ℕ). row_looks (start b) (k ∷ cs) ≡ blank ∷ replicate (length cs) blank) (sym space) (ap (λ (rest : List Look). blank ∷ rest) (blank_looks b cs parts.1))

pub blank_row : (b : Bool) (cs : List ℕ) → list_all (λ c. c == 0x20) cs ≡ true → length cs ≡ 40 → row_looks (start b) cs ≡ replicate 40 blank
blank_row b cs h size = blank_looks b cs h ∙ ap (λ (n : ℕ). replicate n blank) size

-- no row covers the first
pub covered_row : (cells : List ℕ) (r : ℕ) → is_covered cells r ≡ true → 0 < r
covered_row cells zero h = cc
covered_row cells (suc r) h = omega arith

pub covered_next : (cells : List ℕ) (r : ℕ) → is_covered cells (r + 1) ≡ (has_double cells r && not (is_covered cells r))
covered_next cells r = rw add-one refl

pub looks_more : (cells : List ℕ) (rows : List (List Look)) (r : ℕ) (row : List Look) → take r rows ≡ map (looks_at cells) (range_with_len 0 r) → r < length rows → row ≡ looks_at cells r → take (r + 1) (set rows r row) ≡ map (looks_at cells) (range_with_len 0 (r + 1))
looks_more cells rows r row done lt e =
    take_more_set rows r row lt ∙ (ap (λ (front : List (List Look)). front ++ row ∷ []) done ∙ (ap (λ (last : List Look). map (looks_at cells) (range_with_len 0 r) ++ last ∷ []) e ∙ sym (map-range_with_len_more (looks_at cells) 0 r r (omega arith))))

pub looks_done : (cells : List ℕ) (rows : List (List Look)) (n : ℕ) → take n rows ≡ map (looks_at cells) (range_with_len 0 n) → length rows ≡ 24 → n ≡ 24 → rows ≡ looks cells
unfolding looks
looks_done cells rows n done size e =
    sym (take_all n rows (omega arith)) ∙ (done ∙ ap (λ (k : ℕ). map (looks_at cells) (range_with_len 0 k)) e)
