use Rattle.std.proofs.Common.{◌≡◌, ◌-◌, ◌≤◌, length}
use denote.Text.{Utf8}
use denote.Shadow.{shadow}
use Rattle.toml_places.specs.Strings.{part_from}
use Rattle.toml_places.proofs.keys.part_from.Given as goal

abbrev pub invariant-parts : goal.invariant-parts
invariant-parts l =
    shadow (Utf8 l.rest) × (length l.rest ≤ length l.text) × (part_from l.part l.text ≡ part_from (l.part - l._part) l.rest)
