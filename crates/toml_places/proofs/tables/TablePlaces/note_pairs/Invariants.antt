use Rattle.std.proofs.Common.{ℕ, ◌<◌, ◌≤◌, List, length}
use denote.Text.{Utf8}
use denote.Shadow.{shadow}
use Rattle.toml_places.specs.Places.{Mark, TableKeeps}
use Rattle.toml_places.proofs.PairTurns.{Noted}
use Rattle.toml_places.proofs.tables.TablePlaces.note_pairs.Given as goal

abbrev pub invariant-pairs : goal.invariant-pairs
invariant-pairs l =
    shadow (Utf8 l.rest) × (length l.rest ≤ length l.fn.pairs)
    × ((ms : List Mark) (n : ℕ) → length l.fn.pairs < n → TableKeeps l.initial.self ms → Noted l.size l.self ms n l.fn.pairs l.rest)

abbrev pub decreases-pairs : goal.decreases-pairs
decreases-pairs l = length l.rest
