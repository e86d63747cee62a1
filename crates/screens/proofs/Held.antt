-- The held mosaic touches no colour, flash, concealment or height.
use Rattle.std.specs.List.{list_any}
use Rattle.std.proofs.lemmas.List.{map-id, drop-set-lt, drop-set-add, take-set-le, get_or-take, get_or-drop}
use Rattle.std.proofs.Math.Seq.{take-set-lt}
use Rattle.std.proofs.Common.{None, ◌+◌, ◌-◌, ◌*◌, ◌⊎◌, ◌||◌, not, inl, inr, subst, set, take, drop, ◌≡◌, ℕ, ◌<◌, arith, refl, sym, ap, ◌∙◌, Bool, true, false, ◌&&◌, List, [], ◌∷◌, ◌==◌, nat_le, if◌then◌else◌, map, zero, suc, ◌≢◌, get_or}
use Rattle.std.proofs.lemmas.Bool.{cases_lt}
use Rattle.std.proofs.lemmas.Bool.Decides.{nat_tests}
use Rattle.screens.specs.declared.look.Colour.{Colour}
use Rattle.screens.specs.declared.look.Height.{Height}
use Rattle.screens.specs.declared.look.Height.TheVariants.{Single, Upper, Lower}
use Rattle.screens.specs.declared.look.Look.{Look}
use Rattle.screens.specs.declared.row.State.{State}
use Rattle.screens.specs.Table.{start, is_mosaic, with_double, with_mosaics, at, after, seen, look_of}
use Rattle.screens.specs.Looks.{row_step, row_looks, below_of, below, codes_of_row, can_stretch, has_double, is_covered, own_looks}
use Rattle.screens.specs.Laws.{bare, ChangesGlyphs}
use Rattle.screens.proofs.Plain.{plain_cell, plain_step}

-- a state aside from its held mosaic
abbrev pub free : State → State
free s = record s { held = None }

-- alike choices of alike states
choice : (b : Bool) (x y u v : State) → free x ≡ free u → free y ≡ free v → free (if b then x else y) ≡ free (if b then u else v)
choice true x y u v p q = p
choice false x y u v p q = q

free_double : (d : Bool) (s : State) → free (with_double d s) ≡ free (with_double d (free s))
free_double true s = choice s.double _ _ _ _ refl refl
free_double false s = choice s.double _ _ _ _ refl refl

free_colour : (m : Bool) (k : Colour) (s : State) → free (with_mosaics m k s) ≡ free (with_mosaics m k (free s))
free_colour true k s = refl
free_colour false k s = refl

free_at : (s : State) (c : ℕ) → free (at s c) ≡ free (at (free s) c)
free_at s c =
    choice (c == 0x89) _ _ _ _ refl
    (choice (c == 0x8C) _ _ _ _ (free_double false s)
    (choice (c == 0x98) _ _ _ _ refl
    (choice (c == 0x99) _ _ _ _ refl
    (choice (c == 0x9A) _ _ _ _ refl
    (choice (c == 0x9C) _ _ _ _ refl
    (choice (c == 0x9D) _ _ _ _ refl
    (choice (c == 0x9E) _ _ _ _ refl refl)))))))

free_after : (s : State) (c : ℕ) → free (after s c) ≡ free (after (free s) c)
free_after s c =
    choice (nat_le 0x81 c && nat_le c 0x87) _ _ _ _ (free_colour false _ s)
    (choice (nat_le 0x91 c && nat_le c 0x97) _ _ _ _ (free_colour true _ s)
    (choice (c == 0x88) _ _ _ _ refl
    (choice (c == 0x8D) _ _ _ _ (choice s.can_stretch _ _ _ _ (free_double true s) refl)
    (choice (c == 0x9F) _ _ _ _ refl refl))))

same_choice : (b : Bool) (s : State) → free (if b then s else s) ≡ free s
same_choice true s = refl
same_choice false s = refl

free_seen : (s : State) (c : ℕ) → free (seen s c) ≡ free s
free_seen s c = choice (s.mosaics && is_mosaic c) _ _ s s refl refl ∙ same_choice (s.mosaics && is_mosaic c) s

free_step : (s : State) (c : ℕ) → free (row_step s c) ≡ free (row_step (free s) c)
free_step s c =
    free_after (seen (at s c) c) c
    ∙ (ap (λ (t : State). free (after t c)) (free_seen (at s c) c ∙ (free_at s c ∙ sym (free_seen (at (free s) c) c)))
    ∙ sym (free_after (seen (at (free s) c) c) c))

alike_step : (s t : State) (c : ℕ) → free s ≡ free t → free (row_step s c) ≡ free (row_step t c)
alike_step s t c e = free_step s c ∙ (ap (λ (u : State). free (row_step u c)) e ∙ sym (free_step t c))

bare_cell : (s t : State) (c : ℕ) → free s ≡ free t → bare (look_of (at s c) c) ≡ bare (look_of (at t c) c)
bare_cell s t c e =
    ap (λ (u : State). bare (look_of u c)) (free_at s c ∙ (ap (λ (u : State). free (at u c)) e ∙ sym (free_at t c)))

-- alike states make rows that are alike aside from their glyphs
bare_rows : (s t : State) (cs : List ℕ) → free s ≡ free t → map bare (row_looks s cs) ≡ map bare (row_looks t cs)
bare_rows s t [] e = refl
bare_rows s t (c ∷ cs) e =
    ap (λ (a : Look). a ∷ map bare (row_looks (row_step s c) cs)) (bare_cell s t c e)
    ∙ ap (λ (later : List Look). bare (look_of (at t c) c) ∷ later) (bare_rows (row_step s c) (row_step t c) cs (alike_step s t c e))

plain_alike : (s : State) (c : ℕ) → c < 0x80 → free (row_step s c) ≡ free s
plain_alike s c lt = ap free (plain_step s c lt) ∙ free_seen s c

both_plain : (s : State) (c d : ℕ) → c < 0x80 → d < 0x80 → free (row_step s c) ≡ free (row_step s d)
both_plain s c d lc ld = plain_alike s c lc ∙ sym (plain_alike s d ld)

bare_plain : (s : State) (c : ℕ) → c < 0x80 → bare (look_of (at s c) c) ≡ bare (look_of s 0)
bare_plain s c lt = ap bare (plain_cell s c lt)

unheld : (s : State) (c : ℕ) → c < 0x80 → look_of s c ≡ look_of (free s) c
unheld s c lt = let low : nat_le 0x80 c ≡ false = grind (arith, nat_tests) in rw low refl

-- the cell of a code that is no attribute shows nothing of the held mosaic
glyph_alike : (s t : State) (c : ℕ) → c < 0x80 → free s ≡ free t → look_of (at s c) c ≡ look_of (at t c) c
glyph_alike s t c lt e =
    plain_cell s c lt ∙ (unheld s c lt ∙ (ap (λ (u : State). look_of u c) e ∙ (sym (unheld t c lt) ∙ sym (plain_cell t c lt))))

-- the looks of cells that are no attribute, or what becomes of them, from alike states
looks_alike : (f : Look → Look) (s t : State) (cs : List ℕ) (k : ℕ) (a : Look) → free s ≡ free t → get_or cs k 0 < 0x80 → get_or (map f (row_looks s cs)) k a ≡ get_or (map f (row_looks t cs)) k a
looks_alike f s t [] k a e h = refl
looks_alike f s t (c ∷ cs) zero a e h = ap f (glyph_alike s t c h e)
looks_alike f s t (c ∷ cs) (suc k) a e h = looks_alike f (row_step s c) (row_step t c) cs k a (alike_step s t c e) h

-- One row with another character at i.

set_bare : (s : State) (cs : List ℕ) (i d : ℕ) → get_or cs i 0 < 0x80 → d < 0x80 → map bare (row_looks s (set cs i d)) ≡ map bare (row_looks s cs)
set_bare s [] i d lc ld = refl
set_bare s (c ∷ cs) zero d lc ld =
    ap (λ (a : Look). a ∷ map bare (row_looks (row_step s d) cs)) (bare_plain s d ld ∙ sym (bare_plain s c lc))
    ∙ ap (λ (later : List Look). bare (look_of (at s c) c) ∷ later) (bare_rows (row_step s d) (row_step s c) cs (both_plain s d c ld lc))
set_bare s (c ∷ cs) (suc i) d lc ld =
    ap (λ (later : List Look). bare (look_of (at s c) c) ∷ later) (set_bare (row_step s c) cs i d lc ld)

set_looks : (f : Look → Look) (s : State) (cs : List ℕ) (i d k : ℕ) (a : Look) → get_or cs i 0 < 0x80 → d < 0x80 → k ≢ i → get_or cs k 0 < 0x80 → get_or (map f (row_looks s (set cs i d))) k a ≡ get_or (map f (row_looks s cs)) k a
set_looks f s [] i d k a lc ld n h = refl
set_looks f s (c ∷ cs) zero d zero a lc ld n h = absurd (n refl)
set_looks f s (c ∷ cs) zero d (suc k) a lc ld n h = looks_alike f (row_step s d) (row_step s c) cs k a (both_plain s d c ld lc) h
set_looks f s (c ∷ cs) (suc i) d zero a lc ld n h = refl
set_looks f s (c ∷ cs) (suc i) d (suc k) a lc ld n h = set_looks f (row_step s c) cs i d k a lc ld (λ e. n (ap suc e)) h

-- A screen with another character at p.

-- row r is as it was, or has the other character in its place
abbrev RowSet : List ℕ → ℕ → ℕ → ℕ → Type 0
RowSet cells p d r =
    (codes_of_row (set cells p d) r ≡ codes_of_row cells r)
    ⊎ ((i : ℕ) × (p ≡ 40 * r + i) × (i < 40) × (codes_of_row (set cells p d) r ≡ set (codes_of_row cells r) i d))

row_set_from : (cells : List ℕ) (d r i : ℕ) → RowSet cells (40 * r + i) d r
row_set_from cells d r i =
    let e : drop (40 * r) (set cells (40 * r + i) d) ≡ set (drop (40 * r) cells) i d = drop-set-add (40 * r) cells i d in
    elim (cases_lt i 40) [
      | inl lt ↦ inr (i, refl, lt, ap (take 40) e ∙ take-set-lt 40 (drop (40 * r) cells) i d lt)
      | inr ge ↦ inl (ap (take 40) e ∙ take-set-le 40 (drop (40 * r) cells) i d ge)
    ]

row_set : (cells : List ℕ) (p d r : ℕ) → RowSet cells p d r
row_set cells p d r =
    elim (cases_lt p (40 * r)) [
      | inl lt ↦ inl (ap (take 40) (drop-set-lt (40 * r) cells p d lt))
      | inr ge ↦
          let e : 40 * r + (p - 40 * r) ≡ p = omega arith in
          subst (λ (k : ℕ). RowSet cells k d r) e (row_set_from cells d r (p - 40 * r))
    ]

-- the code at column k of row r
code_at : (cells : List ℕ) (r k : ℕ) → k < 40 → get_or (codes_of_row cells r) k 0 ≡ get_or cells (40 * r + k) 0
code_at cells r k lt = get_or-take 40 (drop (40 * r) cells) k 0 lt ∙ get_or-drop (40 * r) cells k 0

any_set : (cs : List ℕ) (i d : ℕ) → get_or cs i 0 < 0x80 → d < 0x80 → list_any (λ c. c == 0x8D) (set cs i d) ≡ list_any (λ c. c == 0x8D) cs
any_set [] i d lc ld = refl
any_set (c ∷ cs) zero d lc ld =
    let old : (c == 0x8D) ≡ false = grind (arith, nat_tests) in
    let new : (d == 0x8D) ≡ false = grind (arith, nat_tests) in
    rw (old, new) refl
any_set (c ∷ cs) (suc i) d lc ld = ap (λ (b : Bool). (c == 0x8D) || b) (any_set cs i d lc ld)

double_set : (cells : List ℕ) (p d r : ℕ) → get_or cells p 0 < 0x80 → d < 0x80 → has_double (set cells p d) r ≡ has_double cells r
double_set cells p d r lc ld =
    elim (row_set cells p d r) [
      | inl e ↦ ap (λ (cs : List ℕ). can_stretch r && list_any (λ c. c == 0x8D) cs) e
      | inr w ↦
          let low : get_or (codes_of_row cells r) w.0 0 < 0x80 = subst (λ (k : ℕ). k < 0x80) (ap (λ (q : ℕ). get_or cells q 0) w.1 ∙ sym (code_at cells r w.0 w.2)) lc in
          ap (λ (cs : List ℕ). can_stretch r && list_any (λ c. c == 0x8D) cs) w.3
          ∙ ap (λ (b : Bool). can_stretch r && b) (any_set (codes_of_row cells r) w.0 d low ld)
    ]

covered_set : (cells : List ℕ) (p d r : ℕ) → get_or cells p 0 < 0x80 → d < 0x80 → is_covered (set cells p d) r ≡ is_covered cells r
covered_set cells p d zero lc ld = refl
covered_set cells p d (suc r) lc ld =
    ap (λ (b : Bool). b && not (is_covered (set cells p d) r)) (double_set cells p d r lc ld)
    ∙ ap (λ (b : Bool). has_double cells r && not b) (covered_set cells p d r lc ld)

own_bare : (cells : List ℕ) (p d r : ℕ) → get_or cells p 0 < 0x80 → d < 0x80 → map bare (own_looks (set cells p d) r) ≡ map bare (own_looks cells r)
own_bare cells p d r lc ld =
    elim (row_set cells p d r) [
      | inl e ↦ ap (λ (cs : List ℕ). map bare (row_looks (start (can_stretch r)) cs)) e
      | inr w ↦
          let low : get_or (codes_of_row cells r) w.0 0 < 0x80 = subst (λ (k : ℕ). k < 0x80) (ap (λ (q : ℕ). get_or cells q 0) w.1 ∙ sym (code_at cells r w.0 w.2)) lc in
          ap (λ (cs : List ℕ). map bare (row_looks (start (can_stretch r)) cs)) w.3 ∙ set_bare (start (can_stretch r)) (codes_of_row cells r) w.0 d low ld
    ]

own_same : (f : Look → Look) (cells : List ℕ) (p d r k : ℕ) (a : Look) → get_or cells p 0 < 0x80 → d < 0x80 → k < 40 → 40 * r + k ≢ p → get_or cells (40 * r + k) 0 < 0x80 → get_or (map f (own_looks (set cells p d) r)) k a ≡ get_or (map f (own_looks cells r)) k a
own_same f cells p d r k a lc ld lt n h =
    elim (row_set cells p d r) [
      | inl e ↦ ap (λ (cs : List ℕ). get_or (map f (row_looks (start (can_stretch r)) cs)) k a) e
      | inr w ↦
          let low : get_or (codes_of_row cells r) w.0 0 < 0x80 = subst (λ (c : ℕ). c < 0x80) (ap (λ (q : ℕ). get_or cells q 0) w.1 ∙ sym (code_at cells r w.0 w.2)) lc in
          let here : get_or (codes_of_row cells r) k 0 < 0x80 = subst (λ (c : ℕ). c < 0x80) (sym (code_at cells r k lt)) h in
          let other : k ≢ w.0 = λ e. n (ap (λ (q : ℕ). 40 * r + q) e ∙ sym w.1) in
          ap (λ (cs : List ℕ). get_or (map f (row_looks (start (can_stretch r)) cs)) k a) w.3 ∙ set_looks f (start (can_stretch r)) (codes_of_row cells r) w.0 d k a low ld other here
    ]

-- Lower halves.

bare_below_of : (h : Height) (a : Look) → bare (below_of h a) ≡ bare (below_of h (bare a))
bare_below_of Upper a = refl
bare_below_of Single a = refl
bare_below_of Lower a = refl

bare_below : (row : List Look) → map bare (map below row) ≡ map (λ a. bare (below a)) (map bare row)
bare_below [] = refl
bare_below (a ∷ row) =
    ap (λ (b : Look). b ∷ map bare (map below row)) (bare_below_of a.height a)
    ∙ ap (λ (later : List Look). bare (below (bare a)) ∷ later) (bare_below row)

-- row r, by whether it is covered
changes_by : (cells : List ℕ) (p d r : ℕ) (covered : Bool) → get_or cells p 0 < 0x80 → d < 0x80 → is_covered cells r ≡ covered → is_covered (set cells p d) r ≡ covered → ChangesGlyphs cells p d r
changes_by cells p d r true lc ld e f = record {
  bare = rw (e, f) (bare_below (own_looks (set cells p d) (r - 1)) ∙ (ap (map (λ a. bare (below a))) (own_bare cells p d (r - 1) lc ld) ∙ sym (bare_below (own_looks cells (r - 1)))));
  looks = λ k a lt n h. rw (e, f) (own_same below cells p d (r - 1) k a lc ld lt (rw e at n) (rw e at h));
}
changes_by cells p d r false lc ld e f = record {
  bare = rw (e, f) (own_bare cells p d r lc ld);
  looks = λ k a lt n h. rw (e, f) (ap (λ (row : List Look). get_or row k a) (sym (map-id (own_looks (set cells p d) r))) ∙ (own_same (λ b. b) cells p d r k a lc ld lt (rw e at n) (rw e at h) ∙ ap (λ (row : List Look). get_or row k a) (map-id (own_looks cells r))));
}

pub characters_change_glyphs : (cells : List ℕ) (p d r : ℕ) → get_or cells p 0 < 0x80 → d < 0x80 → ChangesGlyphs cells p d r
characters_change_glyphs cells p d r lc ld = changes_by cells p d r (is_covered cells r) lc ld refl (covered_set cells p d r lc ld)
