-- Runs of plain bytes from a spot.
use Rattle.std.proofs.Common.{◌≡◌, ℕ, zero, suc, ◌+◌, ◌<◌, ◌≤◌, arith, refl, ap, ◌∙◌, Bool, true, false, List, [], ◌∷◌, length, drop, get_or, add-one, drop-cons}
use Rattle.std.proofs.lemmas.Bool.Decides.{nat_tests}
use Rattle.std.proofs.lemmas.List.Sums.{prefix_len-le-length, prefix_len_passes}
use Rattle.terminal_codes.specs.Writes.{is_service}
use Rattle.abstract_paint.specs.declared.cursor.Place.TheVariants.{Spot}
use Rattle.abstract_paint.specs.Paint.{calm, paint_from, is_cell_code}
use Rattle.abstract_paint.specs.Plain.{is_plain, plain_len, room, PlainGoesOn, PlainReaches}
use Rattle.abstract_paint.proofs.Codes.{goes_on, code_touches, same_paint}

cell_of_plain : (b : ℕ) → is_plain b ≡ true → is_cell_code b ≡ true
cell_of_plain b h = grind (arith, nat_tests)

-- if there is room for a plain byte it counts nowhere as written in a service row, and after the room it does
some_room : (p b n : ℕ) → is_plain b ≡ true → suc n ≤ room p → is_service p b ≡ false
some_room p b n plain h = grind (arith, nat_tests)

room_next : (p n : ℕ) → suc n ≤ room p → n ≤ room (p + 1)
room_next p n h = grind (arith, nat_tests)

room_end : (p n b : ℕ) → n ≡ room p → is_service (p + n) b ≡ true
room_end p n b h = grind (arith, nat_tests)

first_plain : (b n : ℕ) (bs : List ℕ) → suc n ≤ plain_len (b ∷ bs) → (is_plain b ≡ true) × (n ≤ plain_len bs)
first_plain b n bs h = by_test (is_plain b) refl where
  by_test : (r : Bool) → is_plain b ≡ r → (is_plain b ≡ true) × (n ≤ plain_len bs)
  by_test true e = (e, omega (arith, rw e at h))
  by_test false e = absurd (omega (arith, rw e at h))

pub goes_so_far : (n : ℕ) (bs : List ℕ) (p i : ℕ) → n ≤ plain_len bs → n ≤ room p → paint_from (calm (Spot p)) i bs ≡ paint_from (calm (Spot (p + n))) (i + n) (drop n bs)
goes_so_far zero bs p i h r = same_paint p (p + 0) i (i + 0) bs (omega arith) (omega arith)
goes_so_far (suc n) [] p i h r = absurd (omega arith)
goes_so_far (suc n) (b ∷ bs) p i h r =
    let f = first_plain b n bs h in
    goes_on p b i bs (cell_of_plain b f.0) (some_room p b n f.0 r) ∙ (goes_so_far n bs (p + 1) (i + 1) f.1 (room_next p n r) ∙ same_paint (p + 1 + n) (p + suc n) (i + 1 + n) (i + suc n) (drop n bs) (omega arith) (omega arith))

pub plain_goes_on : PlainGoesOn
plain_goes_on bs n p i h r = goes_so_far n bs p i h r

pub plain_reaches : PlainReaches
plain_reaches bs p i h =
    let n = room p in
    let within : n < length bs = omega (arith, prefix_len-le-length is_plain bs) in
    let b = get_or bs n 0 in
    let cut : drop n bs ≡ b ∷ drop (n + 1) bs = rw (add-one, drop-cons bs n 0) refl in
    let plain : is_plain b ≡ true = prefix_len_passes is_plain bs n 0 h in
    plain_goes_on bs n p i (omega arith) (omega arith) ∙ (ap (paint_from (calm (Spot (p + n))) (i + n)) cut ∙ code_touches b (drop (n + 1) bs) (p + n) (i + n) (cell_of_plain b plain) (room_end p n b refl))
