use Rattle.std.proofs.Common.{◌≤◌, length, IsSome}
use denote.Text.{Utf8}
use denote.Shadow.{shadow}
use Rattle.toml.specs.Parse.{parse_document}
use Rattle.toml_places.specs.Loops.{frame_count, section_view, IsOpen}
use Rattle.toml_places.proofs.Walking.{Walked}
use Rattle.toml_places.proofs.places.Places.walk.Given as goal

abbrev pub invariant-lines : goal.invariant-lines
invariant-lines l =
    shadow (Utf8 l.rest) × (length l.rest ≤ length l.fn.text) × IsOpen (section_view (frame_count l.self) l.section)
    × (IsSome (parse_document l.fn.text) → Walked l.fn.text l.self (section_view (frame_count l.self) l.section) l.rest)

abbrev pub decreases-lines : goal.decreases-lines
decreases-lines l = length l.rest
