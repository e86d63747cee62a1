-- Laws of the order of ways.
use Rattle.std.proofs.Common.{◌≡◌, ℕ, ◌<◌, Bool, true, false, cond, length, get_or, refl, arith}
use Rattle.std.specs.Prelude.{nat_lt}
use Rattle.std.proofs.lemmas.List.FromFn.{get_or-map-range_with_len, length-map-range_with_len}
use Rattle.std.proofs.lemmas.Bool.Decides.{nat_tests}
use Rattle.page_ids.specs.declared.way.Way.{Way}
use Rattle.page_ids.specs.declared.way.Way.TheVariants.{Route, Next}
use Rattle.page_ids.specs.Ways.{way_at, way_place, ways}

-- there are eleven
pub ways_length : length ways ≡ 11
ways_length = length-map-range_with_len way_at 0 11

-- each is at its place
pub ways_at : (n : ℕ) (d : Way) → n < 11 → get_or ways n d ≡ way_at n
ways_at n d lt = get_or-map-range_with_len way_at 0 11 n n d lt (omega arith)

-- a place is that of the way at it
pub place_at : (n : ℕ) → n < 11 → way_place (way_at n) ≡ n
place_at n lt = by (nat_lt n 10) refl where
  by : (b : Bool) → nat_lt n 10 ≡ b → way_place (cond b (Route n) Next) ≡ n
  by true e = refl
  by false e = grind (arith, nat_tests, lt)
