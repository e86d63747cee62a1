-- Lines show what cells show, and a text is its lines.
use Rattle.std.proofs.Common.{◌≡◌, ◌≢◌, ℕ, zero, suc, ◌+◌, ◌-◌, ◌≤◌, arith, refl, sym, ap, ◌∙◌, subst, inl, inr, Bool, true, false, ◌&&◌, ◌||◌, List, [], ◌∷◌, ◌++◌, ◌==◌, nat_le, nat_lt, if◌then◌else◌, map, get_or, append_assoc}
use Rattle.std.specs.Prelude as P
use Rattle.std.specs.List.{slice_split, range_with_len}
use Rattle.std.proofs.lemmas.Bool.Decides.{nat_tests}
use Rattle.std.proofs.lemmas.Bool.{cases_eq, cond_both}
use Rattle.std.proofs.lemmas.List.Elements.{All-nil, All-cons, All-head, All-tail}
use Rattle.std.proofs.lemmas.List.Splits.{slice_split_at}
use Rattle.screens.specs.declared.look.Glyph.{Glyph}
use Rattle.screens.specs.declared.look.Glyph.TheVariants.{Char, Block}
use Rattle.screens.specs.declared.look.Height.{Height}
use Rattle.screens.specs.declared.look.Height.TheVariants.{Single, Upper, Lower}
use Rattle.screens.specs.declared.look.Look.{Look}
use Rattle.screens.specs.declared.look.Shown.{Shown}
use Rattle.screens.specs.declared.look.Shown.TheVariants.{Ground, All}
use Rattle.screens.specs.Table.{character, six, sextants_char}
use Rattle.screens.specs.Looks.{is_space, looks_at, looks}
use Rattle.screens.specs.Laws.{IsOfTables}
use Rattle.screens.proofs.Glyphs.{glyphs_are_of_tables}
use Rattle.screens.specs.Text.{glyph_char, half_char, shown_char, seen_char, before, trimmed, line, text}
use Rattle.screens.specs.Laws.{IsItsLines}

-- Columns.

space_at : (i : ℕ) → get_or {A = ℕ} [] i 0x20 ≡ get_or (0x20 ∷ []) i 0x20
space_at zero = refl
space_at (suc i) = refl

-- reading a line with spaces after it
read_before : (c : ℕ) (ds : List ℕ) (i : ℕ) → get_or (before c ds) i 0x20 ≡ get_or (c ∷ ds) i 0x20
read_before c (d ∷ ds) i = refl
read_before c [] i =
    elim (cases_eq c 0x20) [
      | inl e ↦ subst (λ (k : ℕ). get_or (before k []) i 0x20 ≡ get_or (k ∷ []) i 0x20) (sym e) (space_at i)
      | inr differs ↦ let f : (c == 0x20) ≡ false = grind (arith, nat_tests) in rw f refl
    ]

read_trimmed : (cs : List ℕ) (i : ℕ) → get_or (trimmed cs) i 0x20 ≡ get_or cs i 0x20
read_trimmed [] i = refl
read_trimmed (c ∷ cs) zero = read_before c (trimmed cs) zero
read_trimmed (c ∷ cs) (suc i) = read_before c (trimmed cs) (suc i) ∙ read_trimmed cs i

pub columns_show : (row : List Look) (c : ℕ) → get_or (line row) c 0x20 ≡ get_or (map seen_char row) c 0x20
columns_show row c = read_trimmed (map seen_char row) c

nothing_ends : (front : List ℕ) → [] ≡ front ++ 0x20 ∷ [] → ⊥
nothing_ends [] h = cc
nothing_ends (x ∷ xs) h = cc

one_ends : (c : ℕ) (front : List ℕ) → c ≢ 0x20 → c ∷ [] ≡ front ++ 0x20 ∷ [] → ⊥
one_ends c [] differs h = let e : c ≡ 0x20 = cc in differs e
one_ends c (x ∷ xs) differs h = let e : [] ≡ xs ++ 0x20 ∷ [] = cc in nothing_ends xs e

more_end : (c d : ℕ) (ds front : List ℕ) → ((f : List ℕ) → d ∷ ds ≡ f ++ 0x20 ∷ [] → ⊥) → c ∷ d ∷ ds ≡ front ++ 0x20 ∷ [] → ⊥
more_end c d ds [] rest h = cc
more_end c d ds (x ∷ xs) rest h = let e : d ∷ ds ≡ xs ++ 0x20 ∷ [] = cc in rest xs e

before_ends : (c : ℕ) (ds front : List ℕ) → ((f : List ℕ) → ds ≡ f ++ 0x20 ∷ [] → ⊥) → before c ds ≡ front ++ 0x20 ∷ [] → ⊥
before_ends c (d ∷ ds) front rest h = more_end c d ds front rest h
before_ends c [] front rest h =
    elim (cases_eq c 0x20) [
      | inl e ↦ nothing_ends front (subst (λ (k : ℕ). before k [] ≡ front ++ 0x20 ∷ []) e h)
      | inr differs ↦ let f : (c == 0x20) ≡ false = grind (arith, nat_tests) in one_ends c front differs (rw f at h)
    ]

trimmed_ends : (cs front : List ℕ) → trimmed cs ≡ front ++ 0x20 ∷ [] → ⊥
trimmed_ends [] front h = nothing_ends front h
trimmed_ends (c ∷ cs) front h = before_ends c (trimmed cs) front (trimmed_ends cs) h

pub no_space_ends : (row : List Look) (front : List ℕ) → line row ≡ front ++ 0x20 ∷ [] → ⊥
no_space_ends row front h = trimmed_ends (map seen_char row) front h

-- Characters.

abbrev Fine : ℕ → Type 0
Fine k = 0x20 ≤ k

one_at_most : (b : Bool) → (if b then 1 else 0) ≤ 1
one_at_most true = omega arith
one_at_most false = omega arith

far : (n a b : ℕ) → a ≤ 1 → b ≤ 1 → 0x20 ≤ 0x1FB00 + n - 1 - a - b
far n a b p q = omega arith

fine_sextants : (n : ℕ) → Fine (sextants_char n)
fine_sextants n =
    (cond_both (n == 21) _ _ Fine (λ e. omega arith)
    (λ e. cond_both (n == 42) _ _ Fine (λ e. omega arith)
    (λ e. cond_both (n == 63) _ _ Fine (λ e. omega arith)
    (λ e. far n (if nat_lt 21 n then 1 else 0) (if nat_lt 42 n then 1 else 0) (one_at_most (nat_lt 21 n)) (one_at_most (nat_lt 42 n))))))

low_enough : (c : ℕ) → (nat_le 0x20 c && nat_lt c 0x7B) ≡ true → 0x20 ≤ c
low_enough c h = grind (arith, nat_tests)

fine_character : (c : ℕ) → Fine (character c)
fine_character c =
    cond_both (c == 0x23) _ _ Fine (λ e. omega arith)
    (λ e. cond_both (c == 0x5B) _ _ Fine (λ e. omega arith)
    (λ e. cond_both (c == 0x5C) _ _ Fine (λ e. omega arith)
    (λ e. cond_both (c == 0x5D) _ _ Fine (λ e. omega arith)
    (λ e. cond_both (c == 0x5E) _ _ Fine (λ e. omega arith)
    (λ e. cond_both (c == 0x5F) _ _ Fine (λ e. omega arith)
    (λ e. cond_both (c == 0x60) _ _ Fine (λ e. omega arith)
    (λ e. cond_both (c == 0x7B) _ _ Fine (λ e. omega arith)
    (λ e. cond_both (c == 0x7C) _ _ Fine (λ e. omega arith)
    (λ e. cond_both (c == 0x7D) _ _ Fine (λ e. omega arith)
    (λ e. cond_both (c == 0x7E) _ _ Fine (λ e. omega arith)
    (λ e. cond_both (c == 0x7F) _ _ Fine (λ e. omega arith)
    (λ e. cond_both (nat_le 0x20 c && nat_lt c 0x7B) c 0x20 Fine (low_enough c) (λ e. omega arith)))))))))))))

fine_glyph : (g : Glyph) → IsOfTables g → Fine (glyph_char g)
fine_glyph (Char k) h = subst Fine (sym h.1) (fine_character h.0)
fine_glyph (Block m) h = fine_sextants (six m.sextants)

fine_half : (h : Height) (g : Glyph) → Fine (glyph_char g) → Fine (half_char h g)
fine_half Lower g p = omega arith
fine_half Single g p = p
fine_half Upper g p = p

abbrev IsFineShown : Shown → Type 0
IsFineShown s = Fine (shown_char s)

fine_char : (a : Look) → IsOfTables a.glyph → Fine (seen_char a)
fine_char a p = cond_both (a.concealed || is_space a.glyph) (Ground a.background) (All a) IsFineShown (λ e. omega arith) (λ e. fine_half a.height a.glyph (fine_glyph a.glyph p))

abbrev OfTables : Look → Type 0
OfTables a = IsOfTables a.glyph

fine_chars : (row : List Look) → P.All OfTables row → P.All Fine (map seen_char row)
fine_chars [] h = All-nil Fine
fine_chars (a ∷ row) h = All-cons Fine (seen_char a) (map seen_char row) (fine_char a (All-head OfTables a row h)) (fine_chars row (All-tail OfTables a row h))

fine_before : (c : ℕ) (cs : List ℕ) → Fine c → P.All Fine cs → P.All Fine (before c cs)
fine_before c [] p h = cond_both (c == 0x20) [] (c ∷ []) (P.All Fine) (λ e. All-nil Fine) (λ e. All-cons Fine c [] p h)
fine_before c (d ∷ ds) p h = All-cons Fine c (d ∷ ds) p h

fine_trimmed : (cs : List ℕ) → P.All Fine cs → P.All Fine (trimmed cs)
fine_trimmed [] h = h
fine_trimmed (c ∷ cs) h = fine_before c (trimmed cs) (All-head Fine c cs h) (fine_trimmed cs (All-tail Fine c cs h))

fine_line : (cells : List ℕ) (r : ℕ) → P.All Fine (line (looks_at cells r))
fine_line cells r = fine_trimmed (map seen_char (looks_at cells r)) (fine_chars (looks_at cells r) (glyphs_are_of_tables cells r))

-- The text.

abbrev Stays : ℕ → Type 0
Stays k = (k == 10) ≡ false

no_newline : (cs : List ℕ) → P.All Fine cs → P.All Stays cs
no_newline [] h = All-nil Stays
no_newline (c ∷ cs) h =
    let high : 0x20 ≤ c = All-head Fine c cs h in
    let e : (c == 10) ≡ false = grind (arith, nat_tests) in
    All-cons Stays c cs e (no_newline cs (All-tail Fine c cs h))

split_lines : (cells : List ℕ) (rs : List ℕ) → slice_split (λ k. k == 10) (text (map (looks_at cells) rs)) ≡ map line (map (looks_at cells) rs) ++ [] ∷ []
split_lines cells [] = refl
split_lines cells (r ∷ rs) =
    let first = line (looks_at cells r) in
    let rest = text (map (looks_at cells) rs) in
    ap (slice_split (λ k. k == 10)) (append_assoc first (10 ∷ []) rest)
    ∙ (slice_split_at (λ k. k == 10) first 10 rest (no_newline first (fine_line cells r)) refl
    ∙ ap (λ (later : List (List ℕ)). first ∷ later) (split_lines cells rs))

pub text_is_its_lines : (cells : List ℕ) → IsItsLines cells
unfolding looks
text_is_its_lines cells = record { lines = split_lines cells (range_with_len 0 24); rows = refl }
