use Rattle.std.proofs.Common.{◌≡◌, ◌++◌}
use Rattle.std.specs.Prelude.{map}
use Rattle.std.specs.List.{flat_map, range_with_len}
use Rattle.page_ids.specs.Ways.{way_at, way_key}
use Rattle.frame_records.specs.Ways.{destination_of}
use Rattle.screens.specs.Svg.{markup}
use Rattle.base_pages.specs.Ways.{way_pieces}
use Rattle.base_pages.proofs.ways.push_each.Given as goal

-- the first ways are written
abbrev pub invariant-loop-place : goal.invariant-loop-place
invariant-loop-place l = l.out.items ≡ l.fn.out.items ++ markup (flat_map (λ way. way_pieces l.part (way_key way) (destination_of l.groups l.base l.frame way)) (map way_at (range_with_len 0 l.place)))
