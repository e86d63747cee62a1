use Rattle.std.proofs.Common.{◌≡◌, ℕ, ◌<◌, ◌≤◌, length}
use denote.Text.{Utf8}
use denote.Shadow.{shadow}
use Rattle.toml_places.specs.Strings.{after_content}
use Rattle.toml_places.proofs.strings.after_content.Given as goal

abbrev pub invariant-steps : goal.invariant-steps
invariant-steps l =
    shadow (Utf8 l.rest) × (length l.rest ≤ length l.fn.text)
    × ((n : ℕ) → length l.fn.text < n
    → (m : ℕ) × (length l.rest < m) × (after_content l.delim l.multi n l.fn.text ≡ after_content l.delim l.multi m l.rest))

abbrev pub decreases-steps : goal.decreases-steps
decreases-steps l = length l.rest
