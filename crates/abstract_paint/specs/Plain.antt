-- Plain bytes, and runs of them.
use Rattle.std.specs.Prelude.{ℕ, ◌&&◌, Bool, List, nat_lt, nat_le, ◌≡◌, ◌+◌, ◌-◌, ◌<◌, ◌≤◌, drop, if◌then◌else◌}
use Rattle.std.specs.List.{prefix_len}
use Rattle.abstract_paint.specs.declared.cursor.Place.TheVariants.{Spot}
use Rattle.abstract_paint.specs.declared.painting.Painted.TheVariants.{Touches}
use Rattle.abstract_paint.specs.Paint.{calm, paint_from}

-- Plain bytes, and the run of them at the front of a list.

-- the bytes 20 to 7F
abbrev pub is_plain : ℕ → Bool
is_plain b = nat_le 32 b && nat_lt b 128

-- how many plain bytes the list begins with
abbrev pub plain_len : List ℕ → ℕ
plain_len bs = prefix_len is_plain bs

-- Runs of plain bytes from a spot: they fit before row 23, or reach it.

-- how many of them can be written from the position on, up to the end of row 22; none in rows 0 and 23
abbrev pub room : ℕ → ℕ
room p = if nat_lt p 40 then 0 else 920 - p

-- as many as there is room for only move the spot on
abbrev pub PlainGoesOn : Type 0
PlainGoesOn =
    (bytes : List ℕ) (n p i : ℕ) →
    n ≤ plain_len bytes →
    n ≤ room p →
    paint_from (calm (Spot p)) i bytes ≡ paint_from (calm (Spot (p + n))) (i + n) (drop n bytes)

-- among more codes than there is room for, the first without room touches
abbrev pub PlainReaches : Type 0
PlainReaches =
    (bytes : List ℕ) (p i : ℕ) →
    room p < plain_len bytes →
    paint_from (calm (Spot p)) i bytes ≡ Touches (i + room p)
