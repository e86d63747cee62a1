-- Facts that hold between the turns of loops, and what functions that aren't exported say. No promise rests on them.
use Rattle.std.specs.Prelude.{◌≡◌, ℕ, ◌+◌, ◌<◌, List, length, ◌≤◌, drop, not, Bool}
use Rattle.abstract_paint.specs.declared.cursor.AbsCursor.{AbsCursor}
use Rattle.abstract_paint.specs.declared.painting.Painted.TheVariants.{Touches as touches_at}
use Rattle.abstract_paint.specs.Paint.{paint_from, OnScreen}
use Rattle.abstract_paint.specs.declared.advance.Advance.{Advance}
use Rattle.abstract_paint.specs.declared.advance.Advance.TheVariants.{Touches, Goes}
use Rattle.abstract_paint.specs.Plain.{is_plain}

-- Bytes that aren't plain.

-- each byte but 20 to 7F
abbrev pub is_other : ℕ → Bool
is_other b = not (is_plain b)

-- How far painting gets at once from a cursor.

-- the byte after this many touches
pub record StopsAfter (x : AbsCursor) (bs : List ℕ) (k : ℕ) : Type 0 where
  pub within : k < length bs
  pub same : (i : ℕ) → paint_from x i bs ≡ touches_at (i + k)

-- painting goes on after some bytes, from the next cursor
pub record GoesOn (x : AbsCursor) (bs : List ℕ) (y : AbsCursor) (n : ℕ) : Type 0 where
  pub some : 0 < n
  pub within : n ≤ length bs
  pub on_screen : OnScreen y.place
  pub same : (i : ℕ) → paint_from x i bs ≡ paint_from y (i + n) (drop n bs)

-- what painting the front of the bytes gives
abbrev pub IsAdvance : AbsCursor → List ℕ → Advance → Type 0
IsAdvance x bs (Touches k) = StopsAfter x bs k
IsAdvance x bs (Goes y n) = GoesOn x bs y n
