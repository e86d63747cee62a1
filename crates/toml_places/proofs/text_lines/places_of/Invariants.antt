use Rattle.std.proofs.Common.{◌≡◌, ◌*◌, ◌+◌, ◌<◌, ℕ, length, Some}
use Rattle.std.specs.Prelude.{slice_get}
use Rattle.toml_places.specs.Skips.{place_at}
use Rattle.toml_places.proofs.text_lines.places_of.Given as goal

abbrev pub invariant-loop-step : goal.invariant-loop-step
invariant-loop-step l = (length l.places.items ≡ l.step + 1) × (l.place ≡ place_at l.text (l.step * 512))
    × ((k : ℕ) → k < length l.places.items → slice_get l.places.items k ≡ Some (place_at l.text (k * 512)))
