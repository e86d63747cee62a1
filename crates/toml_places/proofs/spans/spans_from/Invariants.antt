use Rattle.std.proofs.Common.{◌≡◌, ◌≤◌, ℕ, length, option_map}
use denote.Text.{Utf8}
use denote.Shadow.{shadow}
use Rattle.toml_places.specs.Values.{element_from}
use Rattle.toml_places.specs.Spans.{span_in}
use Rattle.toml_places.proofs.ListTurns.{listed}
use Rattle.toml_places.proofs.spans.spans_from.Given as goal

-- the spans so far, and those of the elements that are left, are those of all
abbrev pub invariant-elements : goal.invariant-elements
invariant-elements l =
    shadow (Utf8 l.rest) × (length l.rest ≤ length l.elements)
    × ((k : ℕ) → option_map (span_in l.text) (element_from k l.elements) ≡ listed (span_in l.text) l.spans.items k l.rest)

abbrev pub decreases-elements : goal.decreases-elements
decreases-elements l = length l.rest
