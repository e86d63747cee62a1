use Rattle.std.proofs.Common.{◌≡◌, ℕ, ◌+◌, ◌*◌, ◌<◌, ◌≤◌, length}
use denote.Text.{Utf8}
use denote.Shadow.{shadow}
use Rattle.toml_places.specs.Values.{after_value, after_members}
use Rattle.toml_places.proofs.values.+after_value.Given as goal

abbrev pub decreases-after_value : goal.decreases-after_value
decreases-after_value l = 3 * l.depth

abbrev pub decreases-after_member : goal.decreases-after_member
decreases-after_member l = 3 * l.depth + 1

abbrev pub decreases-after_members : goal.decreases-after_members
decreases-after_members l = 3 * l.depth + 2

abbrev pub invariant-after_members-members : goal.invariant-after_members-members
invariant-after_members-members l =
    shadow (Utf8 l.rest) × (length l.rest ≤ length l.fn.text)
    × ((n : ℕ) → length l.fn.text < n → (m : ℕ) × (length l.rest < m)
    × (after_members (after_value l.fn.depth) l.fn.closing n l.fn.text ≡ after_members (after_value l.fn.depth) l.fn.closing m l.rest))

abbrev pub decreases-after_members-members : goal.decreases-after_members-members
decreases-after_members-members l = length l.rest
