-- The laws.
use Rattle.std.proofs.Common.{◌≡◌, ℕ, zero, suc, ◌-◌, ◌<◌, ◌≤◌, arith, refl, sym, ap, ◌∙◌, inl, inr, ◌⊎◌, Bool, true, false, ◌&&◌, not, List, [], ◌∷◌, ◌++◌, ◌==◌, nat_le, if◌then◌else◌, map, ◌||◌}
use Rattle.std.proofs.lemmas.Bool.Decides.{nat_tests}
use Rattle.std.proofs.lemmas.List.Elements.{All-head, All-tail}
use Rattle.screens.specs.declared.look.Glyph.TheVariants.{Char}
use Rattle.screens.specs.declared.look.Look.{Look}
use Rattle.screens.specs.declared.look.Shown.{Shown}
use Rattle.screens.specs.declared.look.Shown.TheVariants.{Ground, All}
use Rattle.std.specs.Prelude as P
use Rattle.screens.specs.declared.row.State.{State}
use Rattle.screens.specs.Table.{is_mosaic, mosaic_of, start, at, after, seen, look_of}
use Rattle.screens.specs.Looks.{row_step, row_looks, below, shown, is_space, can_stretch, codes_of_row, has_double, is_covered, own_looks, looks_at}
use Rattle.screens.specs.Laws.{RowsDecide, plain_look}

by_own : (cells : List ℕ) (r : ℕ) → is_covered cells r ≡ false → looks_at cells r ≡ own_looks cells r
by_own cells r e = rw e refl

by_above : (cells : List ℕ) (r : ℕ) → is_covered cells r ≡ true → looks_at cells r ≡ map below (own_looks cells (r - 1))
by_above cells r e = rw e refl

same_own : (cells others : List ℕ) (r : ℕ) → codes_of_row cells r ≡ codes_of_row others r → own_looks cells r ≡ own_looks others r
same_own cells others r e = ap (row_looks (start (can_stretch r))) e

both_parts : (a b : Bool) → (a && not b) ≡ true → (a ≡ true) × (b ≡ false)
both_parts true true h = cc
both_parts true false h = (refl, refl)
both_parts false b h = cc

covers_above : (cells : List ℕ) (r : ℕ) → is_covered cells r ≡ true → (has_double cells (r - 1) ≡ true) × (is_covered cells (r - 1) ≡ false)
covers_above cells zero h = cc
covers_above cells (suc r) h =
    let e : suc r - 1 ≡ r = omega arith in
    rw e (both_parts (has_double cells r) (is_covered cells r) h)

pub rows_decide : (cells others : List ℕ) (r : ℕ) → RowsDecide cells others r
rows_decide cells others r = record {
  own = λ p q e. by_own cells r p ∙ (same_own cells others r e ∙ sym (by_own others r q));
  covered = λ p q e. by_above cells r p ∙ (ap (map below) (same_own cells others (r - 1) e) ∙ sym (by_above others r q));
  covers = covers_above cells r;
}

first_or : (b : Bool) (x y : Shown) → (if b || true then x else y) ≡ x
first_or true x y = refl
first_or false x y = refl

pub ground_shows : (a : Look) → (a.concealed ≡ true) ⊎ (a.glyph ≡ Char 0x20) → shown a ≡ Ground a.background
ground_shows a (inl e) = rw e refl
ground_shows a (inr e) =
    let blank : is_space a.glyph ≡ true = ap is_space e in
    rw blank (first_or a.concealed (Ground a.background) (All a))

not_eq : (c k : ℕ) → c < 0x80 → 0x80 < k → (c == k) ≡ false
not_eq c k lt gt = grind (arith, nat_tests)

not_le : (c k : ℕ) → c < 0x80 → 0x80 < k → nat_le k c ≡ false
not_le c k lt gt = grind (arith, nat_tests)

at_plain : (s : State) (c : ℕ) → c < 0x80 → at s c ≡ s
at_plain s c lt =
    rw (not_eq c 0x89 lt (omega arith), not_eq c 0x8C lt (omega arith), not_eq c 0x98 lt (omega arith), not_eq c 0x99 lt (omega arith), not_eq c 0x9A lt (omega arith), not_eq c 0x9C lt (omega arith), not_eq c 0x9D lt (omega arith), not_eq c 0x9E lt (omega arith)) refl

after_plain : (s : State) (c : ℕ) → c < 0x80 → after s c ≡ s
after_plain s c lt =
    rw (not_le c 0x81 lt (omega arith), not_le c 0x91 lt (omega arith), not_eq c 0x88 lt (omega arith), not_eq c 0x8D lt (omega arith), not_eq c 0x9F lt (omega arith)) refl

step_plain : (can : Bool) (c : ℕ) → c < 0x80 → row_step (start can) c ≡ start can
step_plain can c lt = ap (λ (s : State). after (seen s c) c) (at_plain (start can) c lt) ∙ after_plain (start can) c lt

look_plain : (can : Bool) (c : ℕ) → c < 0x80 → look_of (at (start can) c) c ≡ plain_look c
look_plain can c lt =
    let low : nat_le 0x80 c ≡ false = grind (arith, nat_tests) in
    ap (λ (s : State). look_of s c) (at_plain (start can) c lt) ∙ rw low refl

pub plain_before : (can : Bool) (front rest : List ℕ) → P.All (λ c. c < 0x80) front → row_looks (start can) (front ++ rest) ≡ map plain_look front ++ row_looks (start can) rest
plain_before can [] rest h = refl
plain_before can (c ∷ cs) rest h =
    let low : c < 0x80 = All-head (λ (k : ℕ). k < 0x80) c cs h in
    let tail : row_looks (row_step (start can) c) (cs ++ rest) ≡ map plain_look cs ++ row_looks (start can) rest = ap (λ (s : State). row_looks s (cs ++ rest)) (step_plain can c low) ∙ plain_before can cs rest (All-tail (λ (k : ℕ). k < 0x80) c cs h) in
    ap (λ (a : Look). a ∷ row_looks (row_step (start can) c) (cs ++ rest)) (look_plain can c low) ∙ ap (λ (later : List Look). plain_look c ∷ later) tail

neither : (a b : Bool) → (a && false || b && false) ≡ false
neither true true = refl
neither true false = refl
neither false true = refl
neither false false = refl

first_of_false : (b : Bool) (x y : State) → (if b && false then x else y) ≡ y
first_of_false true x y = refl
first_of_false false x y = refl

pub plain_cell : (s : State) (c : ℕ) → c < 0x80 → look_of (at s c) c ≡ look_of s c
plain_cell s c lt = ap (λ (t : State). look_of t c) (at_plain s c lt)

pub plain_step : (s : State) (c : ℕ) → c < 0x80 → row_step s c ≡ seen s c
plain_step s c lt = ap (λ (t : State). after (seen t c) c) (at_plain s c lt) ∙ after_plain (seen s c) c lt

no_block : (c : ℕ) → 0x80 ≤ c → is_mosaic c ≡ false
no_block c ge =
    let a : nat_le c 0x3F ≡ false = grind (arith, nat_tests) in
    let b : nat_le c 0x7F ≡ false = grind (arith, nat_tests) in
    rw (a, b) (neither (nat_le 0x20 c) (nat_le 0x60 c))

attribute_seen : (s : State) (c : ℕ) → 0x80 ≤ c → seen s c ≡ s
attribute_seen s c ge = rw (no_block c ge) (first_of_false s.mosaics (record s { held = mosaic_of c s.separated }) s)

pub attribute_step : (s : State) (c : ℕ) → 0x80 ≤ c → row_step s c ≡ after (at s c) c
attribute_step s c ge = ap (λ (t : State). after t c) (attribute_seen (at s c) c ge)
