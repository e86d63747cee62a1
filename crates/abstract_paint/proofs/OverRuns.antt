-- So many plain bytes at the front, however they were counted.
use Rattle.std.proofs.Common.{ℕ, zero, suc, ◌+◌, ◌<◌, ◌≤◌, arith, Bool, true, false, cond, List, [], ◌∷◌, take}
use Rattle.std.proofs.lemmas.Bool.Decides.{nat_tests}
use Rattle.std.proofs.lemmas.List.Sums.{prefix_len-le-length}
use Rattle.abstract_paint.specs.declared.advance.Advance.TheVariants.{Touches, Goes}
use Rattle.abstract_paint.specs.declared.cursor.Place.TheVariants.{Spot}
use Rattle.abstract_paint.specs.Paint.{calm}
use Rattle.abstract_paint.specs.Plain.{is_plain, plain_len, room}
use Rattle.abstract_paint.specs.Loops.{IsAdvance}
use Rattle.abstract_paint.proofs.PlainRuns.{plain_goes_on, plain_reaches}

room_on_screen : (p n : ℕ) → p < 960 → n ≤ room p → p + n < 960
room_on_screen p n lt h = grind (arith, nat_tests)

pub goes_over : (bs : List ℕ) (p n : ℕ) → p < 960 → 0 < n → n ≤ plain_len bs → n ≤ room p → IsAdvance (calm (Spot p)) bs (Goes (calm (Spot (p + n))) n)
goes_over bs p n lt some plain fits = record {
  some = some;
  within = omega (arith, prefix_len-le-length is_plain bs);
  on_screen = room_on_screen p n lt fits;
  same = λ i. plain_goes_on bs n p i plain fits;
}

pub stops_at : (bs : List ℕ) (p n : ℕ) → n ≤ plain_len bs → room p < n → IsAdvance (calm (Spot p)) bs (Touches (room p))
stops_at bs p n plain over = record { within = omega (arith, prefix_len-le-length is_plain bs); same = λ i. plain_reaches bs p i (omega arith) }

-- the run at the front of a front
as_many : (r : Bool) (m n : ℕ) → m ≤ n → cond r (1 + m) 0 ≤ cond r (1 + n) 0
as_many true m n h = omega arith
as_many false m n h = omega arith

pub front_run : (m : ℕ) (bs : List ℕ) → plain_len (take m bs) ≤ plain_len bs
front_run zero bs = omega arith
front_run (suc m) [] = omega arith
front_run (suc m) (b ∷ bs) = as_many (is_plain b) (plain_len (take m bs)) (plain_len bs) (front_run m bs)

some_run : (r : Bool) (m n : ℕ) → 0 < cond r (1 + m) 0 → 0 < cond r (1 + n) 0
some_run true m n h = omega arith
some_run false m n h = absurd (omega arith)

pub front_begins : (m : ℕ) (bs : List ℕ) → 0 < m → 0 < plain_len bs → 0 < plain_len (take m bs)
front_begins zero bs some h = absurd (omega arith)
front_begins (suc m) [] some h = absurd (omega arith)
front_begins (suc m) (b ∷ bs) some h = some_run (is_plain b) (plain_len bs) (plain_len (take m bs)) h
