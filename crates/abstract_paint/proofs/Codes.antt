-- Codes written one after another from a spot.
use Rattle.std.proofs.Common.{◌≡◌, ℕ, ◌+◌, arith, refl, ap, ◌∙◌, Bool, true, false, not, ◌&&◌, List, [], ◌∷◌, ◌++◌, length, Option, Some, None, nat_lt}
use Rattle.std.proofs.lemmas.Bool.Decides.{nat_tests}
use Rattle.terminal_codes.specs.Writes.{is_service}
use Rattle.abstract_paint.specs.declared.cursor.AbsCursor.{AbsCursor}
use Rattle.abstract_paint.specs.declared.cursor.Place.TheVariants.{Spot}
use Rattle.abstract_paint.specs.Paint.{calm, written_at, cursor_step, or_touches, paint_from, is_cell_code, codes_fit, CodesGoOn, CodeTouches}
use Rattle.std.proofs.lemmas.Bool.{and_parts, not-true}

cell_low : (b : ℕ) → is_cell_code b ≡ true → nat_lt b 32 ≡ false
cell_low b h = grind (arith, nat_tests)

cell_high : (b : ℕ) → is_cell_code b ≡ true → nat_lt b 160 ≡ true
cell_high b h = grind (arith, nat_tests)

-- such a code is written if no escape is pending
cell_step : (p b : ℕ) → is_cell_code b ≡ true → (r : Bool) → nat_lt b 128 ≡ r → cursor_step (calm (Spot p)) b ≡ written_at (Spot p) b
cell_step p b h true e = let low = cell_low b h in rw (low, e) refl
cell_step p b h false e =
    let low = cell_low b h in
    let high = cell_high b h in
    rw (low, e, high) refl

next_is : (p b i : ℕ) (bs : List ℕ) (next : Option AbsCursor) → is_cell_code b ≡ true → written_at (Spot p) b ≡ next → paint_from (calm (Spot p)) i (b ∷ bs) ≡ or_touches i (λ y. paint_from y (i + 1) bs) next
next_is p b i bs next h e = ap (or_touches i (λ y. paint_from y (i + 1) bs)) (cell_step p b h (nat_lt b 128) refl ∙ e)

pub goes_on : (p b i : ℕ) (bs : List ℕ) → is_cell_code b ≡ true → is_service p b ≡ false → paint_from (calm (Spot p)) i (b ∷ bs) ≡ paint_from (calm (Spot (p + 1))) (i + 1) bs
goes_on p b i bs h s = next_is p b i bs (Some (calm (Spot (p + 1)))) h (rw s refl)

pub code_touches : CodeTouches
code_touches b bs p i h s = next_is p b i bs None h (rw s refl)

pub same_paint : (p q i j : ℕ) (bs : List ℕ) → p ≡ q → i ≡ j → paint_from (calm (Spot p)) i bs ≡ paint_from (calm (Spot q)) j bs
same_paint p q i j bs e f = ap (λ (k : ℕ). paint_from (calm (Spot k)) i bs) e ∙ ap (λ (k : ℕ). paint_from (calm (Spot q)) k bs) f

pub codes_go_on : CodesGoOn
codes_go_on [] rest p i h = same_paint p (p + 0) i (i + 0) rest (omega arith) (omega arith)
codes_go_on (b ∷ bs) rest p i h =
    let t = and_parts (is_cell_code b && not (is_service p b)) (codes_fit (p + 1) bs) h in
    let c = and_parts (is_cell_code b) (not (is_service p b)) t.0 in
    let s = not-true (is_service p b) c.1 in
    goes_on p b i (bs ++ rest) c.0 s ∙ (codes_go_on bs rest (p + 1) (i + 1) t.1 ∙ same_paint (p + 1 + length bs) (p + length (b ∷ bs)) (i + 1 + length bs) (i + length (b ∷ bs)) rest (omega arith) (omega arith))
