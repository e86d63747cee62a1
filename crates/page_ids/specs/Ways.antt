-- The ways on from a frame, in their order.
use Rattle.std.specs.Prelude.{ℕ, List, map, nat_lt, if◌then◌else◌}
use Rattle.std.specs.List.{range_with_len}
use Rattle.page_ids.specs.declared.key.Key.{Key}
use Rattle.page_ids.specs.declared.key.Key.TheVariants as key
use Rattle.page_ids.specs.declared.way.Way.{Way}
use Rattle.page_ids.specs.declared.way.Way.TheVariants.{Route, Next}

-- the way at a place: the digits' routes are at 0 to 9, `#` at 10
abbrev pub way_at : ℕ → Way
way_at n = if nat_lt n 10 then Route n else Next

-- the place of a way
abbrev pub way_place : Way → ℕ
way_place (Route digit) = digit
way_place Next = 10

-- the key that goes that way
abbrev pub way_key : Way → Key
way_key (Route digit) = key.Route digit
way_key Next = key.Next

-- all of them, in order
abbrev pub ways : List Way
ways = map way_at (range_with_len 0 11)
