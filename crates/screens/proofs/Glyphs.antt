-- What the cells of a screen hold.
use Rattle.std.proofs.Common.{◌≡◌, ◌==◌, ℕ, ◌-◌, ◌<◌, arith, refl, Bool, true, false, ◌&&◌, List, [], ◌∷◌, nat_le, nat_lt, if◌then◌else◌, map, Option, Some, None}
use Rattle.std.specs.Prelude as P
use Rattle.std.proofs.lemmas.Bool.{cond_both}
use Rattle.std.proofs.lemmas.Bool.Decides.{nat_tests}
use Rattle.std.proofs.lemmas.List.Elements.{All-nil, All-cons, All-head, All-tail}
use Rattle.screens.specs.declared.look.Glyph.TheVariants.{Char}
use Rattle.screens.specs.declared.look.Height.{Height}
use Rattle.screens.specs.declared.look.Height.TheVariants.{Single, Upper, Lower}
use Rattle.screens.specs.declared.look.Look.{Look}
use Rattle.screens.specs.declared.look.Colour.{Colour}
use Rattle.screens.specs.declared.mosaic.Mosaic.{Mosaic}
use Rattle.screens.specs.declared.mosaic.Sextants.{Sextants}
use Rattle.screens.specs.declared.row.State.{State}
use Rattle.screens.specs.Table.{colour_of, block, is_mosaic, six, mosaic_of, six_of, start, at, after, seen, with_double, with_mosaics, glyph_of, look_of}
use Rattle.screens.specs.Looks.{row_step, row_looks, below_of, below, can_stretch, codes_of_row, is_covered, own_looks, looks_at}
use Rattle.screens.specs.Laws.{IsOfTables}

-- the six bits of a mosaic, if there is one
abbrev IsHeld : Option Mosaic → Type 0
IsHeld None = Unit {0}
IsHeld (Some m) = (0 < six m.sextants) × (six m.sextants < 64)

some_held : (n : ℕ) (b separated : Bool) → (b ≡ true → (0 < n) × (n < 64)) → IsHeld (P.option_map (λ (s : Sextants). record { sextants = s; separated = separated }) (if b then Some (record { six = n }) else None))
some_held n true separated h = h refl
some_held n false separated h = tt

within : (n : ℕ) → (nat_lt 0 n && nat_lt n 64) ≡ true → (0 < n) × (n < 64)
within n h = (grind (arith, nat_tests), grind (arith, nat_tests))

is_held : (c : ℕ) (separated : Bool) → IsHeld (mosaic_of c separated)
is_held c separated = some_held (six_of c) (nat_lt 0 (six_of c) && nat_lt (six_of c) 64) separated (within (six_of c))

-- Each state of a row holds a mosaic with blocks, or none.

abbrev Holds : State → Type 0
Holds s = IsHeld s.held

holds_double : (d : Bool) (s : State) → Holds s → Holds (with_double d s)
holds_double true s h = cond_both s.double _ _ Holds (λ e. h) (λ e. tt)
holds_double false s h = cond_both s.double _ _ Holds (λ e. tt) (λ e. h)

holds_mosaics : (m : Bool) (k : Colour) (s : State) → Holds s → Holds (with_mosaics m k s)
holds_mosaics true k s h = cond_both s.mosaics s.held None IsHeld (λ e. h) (λ e. tt)
holds_mosaics false k s h = cond_both s.mosaics None s.held IsHeld (λ e. tt) (λ e. h)

holds_at : (s : State) (c : ℕ) → Holds s → Holds (at s c)
holds_at s c h =
    cond_both (c == 0x89) _ _ Holds (λ e. h)
    (λ e. cond_both (c == 0x8C) _ _ Holds (λ e. holds_double false s h)
    (λ e. cond_both (c == 0x98) _ _ Holds (λ e. h)
    (λ e. cond_both (c == 0x99) _ _ Holds (λ e. h)
    (λ e. cond_both (c == 0x9A) _ _ Holds (λ e. h)
    (λ e. cond_both (c == 0x9C) _ _ Holds (λ e. h)
    (λ e. cond_both (c == 0x9D) _ _ Holds (λ e. h)
    (λ e. cond_both (c == 0x9E) _ _ Holds (λ e. h) (λ e. h))))))))

holds_seen : (s : State) (c : ℕ) → Holds s → Holds (seen s c)
holds_seen s c h = cond_both (s.mosaics && is_mosaic c) _ _ Holds (λ e. is_held c s.separated) (λ e. h)

holds_after : (s : State) (c : ℕ) → Holds s → Holds (after s c)
holds_after s c h =
    cond_both (nat_le 0x81 c && nat_le c 0x87) _ _ Holds (λ e. holds_mosaics false (colour_of (c - 0x80)) s h)
    (λ e. cond_both (nat_le 0x91 c && nat_le c 0x97) _ _ Holds (λ e. holds_mosaics true (colour_of (c - 0x90)) s h)
    (λ e. cond_both (c == 0x88) _ _ Holds (λ e. h)
    (λ e. cond_both (c == 0x8D) _ _ Holds (λ e. cond_both s.can_stretch _ _ Holds (λ f. holds_double true s h) (λ e. h))
    (λ e. cond_both (c == 0x9F) _ _ Holds (λ e. h) (λ e. h)))))

holds_step : (s : State) (c : ℕ) → Holds s → Holds (row_step s c)
holds_step s c h = holds_after (seen (at s c) c) c (holds_seen (at s c) c (holds_at s c h))

-- The glyphs.

of_space : IsOfTables (Char 0x20)
of_space = (0x20, refl)

of_block : (m : Option Mosaic) → IsHeld m → IsOfTables (block m)
of_block None h = of_space
of_block (Some m) h = h

of_glyph : (s : State) (c : ℕ) → Holds s → IsOfTables (glyph_of s c)
of_glyph s c h =
    cond_both (nat_le 0x80 c) _ _ IsOfTables (λ e. cond_both (s.mosaics && s.hold) _ _ IsOfTables (λ f. of_block s.held h) (λ e. of_space))
    (λ e. cond_both (s.mosaics && is_mosaic c) _ _ IsOfTables (λ e. of_block (mosaic_of c s.separated) (is_held c s.separated)) (λ e. (c, refl)))

abbrev IsFine : Look → Type 0
IsFine a = IsOfTables a.glyph

fine_row : (s : State) (cs : List ℕ) → Holds s → P.All IsFine (row_looks s cs)
fine_row s [] h = All-nil IsFine
fine_row s (c ∷ cs) h = All-cons IsFine (look_of (at s c) c) (row_looks (row_step s c) cs) (of_glyph (at s c) c (holds_at s c h)) (fine_row (row_step s c) cs (holds_step s c h))

fine_below_of : (h : Height) (a : Look) → IsFine a → IsFine (below_of h a)
fine_below_of Upper a p = p
fine_below_of Single a p = of_space
fine_below_of Lower a p = of_space

fine_below : (row : List Look) → P.All IsFine row → P.All IsFine (map below row)
fine_below [] h = All-nil IsFine
fine_below (a ∷ row) h =
    All-cons IsFine (below a) (map below row) (fine_below_of a.height a (All-head IsFine a row h)) (fine_below row (All-tail IsFine a row h))

pub glyphs_are_of_tables : (cells : List ℕ) (r : ℕ) → P.All (λ a. IsOfTables a.glyph) (looks_at cells r)
glyphs_are_of_tables cells r =
    cond_both (is_covered cells r) _ _ (P.All IsFine) (λ e. fine_below (own_looks cells (r - 1)) (fine_row (start (can_stretch (r - 1))) (codes_of_row cells (r - 1)) tt)) (λ e. fine_row (start (can_stretch r)) (codes_of_row cells r) tt)
