-- With 80 in place of 98 a screen looks as it does, but conceals nothing.
use Rattle.std.proofs.Common.{◌≡◌, ℕ, zero, suc, ◌-◌, ◌*◌, arith, refl, sym, ap, ◌∙◌, Bool, true, false, ◌&&◌, List, [], ◌∷◌, ◌==◌, nat_le, if◌then◌else◌, map, take, drop}
use Rattle.std.specs.List.{list_any, range_with_len, take-map, drop-map}
use Rattle.std.proofs.lemmas.Bool.{cond_both}
use Rattle.std.proofs.lemmas.Bool.Decides.{nat_tests}
use Rattle.screens.specs.declared.look.Height.{Height}
use Rattle.screens.specs.declared.look.Height.TheVariants.{Single, Upper, Lower}
use Rattle.screens.specs.declared.look.Look.{Look}
use Rattle.screens.specs.declared.look.Colour.{Colour}
use Rattle.screens.specs.declared.row.State.{State}
use Rattle.screens.specs.Table.{is_mosaic, start, at, after, seen, with_double, with_mosaics, look_of}
use Rattle.screens.specs.Looks.{row_step, row_looks, below_of, below, can_stretch, codes_of_row, has_double, is_covered, own_looks, looks_at, looks}
use Rattle.screens.proofs.Plain.{attribute_step}
use Rattle.base_pages.specs.Revealed.{revealed_look, revealed}
use Rattle.base_pages.specs.Loops.{revealed_code}

-- a state that conceals nothing
abbrev plain : State → State
plain s = record s { concealed = false }

-- alike choices
choice : (b : Bool) (x y u v : State) → x ≡ plain u → y ≡ plain v → (if b then x else y) ≡ plain (if b then u else v)
choice true x y u v p q = p
choice false x y u v p q = q

-- Codes that don't conceal do the same to both states.

plain_double : (d : Bool) (s : State) → with_double d (plain s) ≡ plain (with_double d s)
plain_double true s = choice s.double _ _ _ _ refl refl
plain_double false s = choice s.double _ _ _ _ refl refl

plain_mosaics : (m : Bool) (k : Colour) (s : State) → with_mosaics m k (plain s) ≡ plain (with_mosaics m k s)
plain_mosaics true k s = refl
plain_mosaics false k s = refl

plain_at : (s : State) (c : ℕ) → (c == 0x98) ≡ false → at (plain s) c ≡ plain (at s c)
plain_at s c e =
    rw e (choice (c == 0x89) _ _ _ _ refl
    (choice (c == 0x8C) _ _ _ _ (plain_double false s)
    (choice (c == 0x99) _ _ _ _ refl
    (choice (c == 0x9A) _ _ _ _ refl
    (choice (c == 0x9C) _ _ _ _ refl
    (choice (c == 0x9D) _ _ _ _ refl
    (choice (c == 0x9E) _ _ _ _ refl refl)))))))

plain_after : (s : State) (c : ℕ) → after (plain s) c ≡ plain (after s c)
plain_after s c =
    choice (nat_le 0x81 c && nat_le c 0x87) _ _ _ _ (plain_mosaics false _ s)
    (choice (nat_le 0x91 c && nat_le c 0x97) _ _ _ _ (plain_mosaics true _ s)
    (choice (c == 0x88) _ _ _ _ refl
    (choice (c == 0x8D) _ _ _ _ (choice s.can_stretch _ _ _ _ (plain_double true s) refl)
    (choice (c == 0x9F) _ _ _ _ refl refl))))

plain_seen : (s : State) (c : ℕ) → seen (plain s) c ≡ plain (seen s c)
plain_seen s c = choice (s.mosaics && is_mosaic c) _ _ _ _ refl refl

-- 98 conceals, 80 doesn't.

is_code : (c k : ℕ) → (c == k) ≡ true → c ≡ k
is_code c k e = grind (arith, nat_tests)

concealing_step : (s : State) → row_step (plain s) 0x80 ≡ plain (row_step s 0x98)
concealing_step s = attribute_step (plain s) 0x80 (omega arith) ∙ sym (ap plain (attribute_step s 0x98 (omega arith)))

step_revealed : (s : State) (c : ℕ) → row_step (plain s) (revealed_code c) ≡ plain (row_step s c)
step_revealed s c =
    cond_both (c == 0x98) 0x80 c (λ (d : ℕ). row_step (plain s) d ≡ plain (row_step s c))
    (λ e. let is = is_code c 0x98 e in concealing_step s ∙ ap (λ (d : ℕ). plain (row_step s d)) (sym is))
    (λ e. ap (λ (t : State). after (seen t c) c) (plain_at s c e) ∙ (ap (λ (t : State). after t c) (plain_seen (at s c) c) ∙ plain_after (seen (at s c) c) c))

look_revealed : (s : State) (c : ℕ) → look_of (at (plain s) (revealed_code c)) (revealed_code c) ≡ revealed_look (look_of (at s c) c)
look_revealed s c =
    cond_both (c == 0x98) 0x80 c (λ (d : ℕ). look_of (at (plain s) d) d ≡ revealed_look (look_of (at s c) c))
    (λ e. let is = is_code c 0x98 e in ap (λ (d : ℕ). revealed_look (look_of (at s d) d)) (sym is))
    (λ e. ap (λ (t : State). look_of t c) (plain_at s c e))

-- One row.

row_revealed : (s : State) (cs : List ℕ) → row_looks (plain s) (map revealed_code cs) ≡ map revealed_look (row_looks s cs)
row_revealed s [] = refl
row_revealed s (c ∷ cs) =
    ap (λ (a : Look). a ∷ row_looks (row_step (plain s) (revealed_code c)) (map revealed_code cs)) (look_revealed s c)
    ∙ ap (λ (later : List Look). revealed_look (look_of (at s c) c) ∷ later) (ap (λ (t : State). row_looks t (map revealed_code cs)) (step_revealed s c) ∙ row_revealed (row_step s c) cs)

codes_revealed : (cells : List ℕ) (r : ℕ) → codes_of_row (map revealed_code cells) r ≡ map revealed_code (codes_of_row cells r)
codes_revealed cells r = ap (take 40) (drop-map revealed_code (40 * r) cells) ∙ take-map revealed_code 40 (drop (40 * r) cells)

own_revealed : (cells : List ℕ) (r : ℕ) → own_looks (map revealed_code cells) r ≡ map revealed_look (own_looks cells r)
own_revealed cells r = ap (row_looks (start (can_stretch r))) (codes_revealed cells r) ∙ row_revealed (start (can_stretch r)) (codes_of_row cells r)

-- Covered rows.

same_test : (c : ℕ) → (revealed_code c == 0x8D) ≡ (c == 0x8D)
same_test c =
    cond_both (c == 0x98) 0x80 c (λ (d : ℕ). (d == 0x8D) ≡ (c == 0x8D)) (λ e. ap (λ (d : ℕ). d == 0x8D) (sym (is_code c 0x98 e))) (λ e. refl)

same_any : (cs : List ℕ) → list_any (λ c. c == 0x8D) (map revealed_code cs) ≡ list_any (λ c. c == 0x8D) cs
same_any [] = refl
same_any (c ∷ cs) = rw (same_test c, same_any cs) refl

same_double : (cells : List ℕ) (r : ℕ) → has_double (map revealed_code cells) r ≡ has_double cells r
same_double cells r = ap (λ (b : Bool). can_stretch r && b) (ap (list_any (λ c. c == 0x8D)) (codes_revealed cells r) ∙ same_any (codes_of_row cells r))

same_covered : (cells : List ℕ) (r : ℕ) → is_covered (map revealed_code cells) r ≡ is_covered cells r
same_covered cells zero = refl
same_covered cells (suc r) = rw (same_double cells r, same_covered cells r) refl

below_revealed : (row : List Look) → map below (map revealed_look row) ≡ map revealed_look (map below row)
below_revealed [] = refl
below_revealed (a ∷ row) = ap (λ (b : Look). b ∷ map below (map revealed_look row)) (by a.height) ∙ ap (λ (later : List Look). revealed_look (below a) ∷ later) (below_revealed row) where
  by : (h : Height) → below_of h (revealed_look a) ≡ revealed_look (below_of h a)
  by Single = refl
  by Upper = refl
  by Lower = refl

-- A screen.

row_at_revealed : (cells : List ℕ) (r : ℕ) → looks_at (map revealed_code cells) r ≡ map revealed_look (looks_at cells r)
row_at_revealed cells r = rw (same_covered cells r) (by (is_covered cells r)) where
  by : (b : Bool)
      → (if b then map below (own_looks (map revealed_code cells) (r - 1)) else own_looks (map revealed_code cells) r)
      ≡ map revealed_look (if b then map below (own_looks cells (r - 1)) else own_looks cells r)
  by true = ap (map below) (own_revealed cells (r - 1)) ∙ below_revealed (own_looks cells (r - 1))
  by false = own_revealed cells r

rows_revealed : (cells ns : List ℕ) → map (looks_at (map revealed_code cells)) ns ≡ revealed (map (looks_at cells) ns)
rows_revealed cells [] = refl
rows_revealed cells (n ∷ ns) =
    ap (λ (row : List Look). row ∷ map (looks_at (map revealed_code cells)) ns) (row_at_revealed cells n)
    ∙ ap (λ (later : List (List Look)). map revealed_look (looks_at cells n) ∷ later) (rows_revealed cells ns)

pub looks_revealed : (cells : List ℕ) → looks (map revealed_code cells) ≡ revealed (looks cells)
unfolding looks
looks_revealed cells = rows_revealed cells (range_with_len 0 24)
