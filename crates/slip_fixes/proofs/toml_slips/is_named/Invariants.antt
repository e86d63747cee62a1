use Rattle.std.proofs.Common.{◌≡◌, length}
use Rattle.slip_fixes.specs.TomlSlips.{is_named}
use Rattle.slip_fixes.proofs.toml_slips.is_named.Given as goal

abbrev pub invariant-loop-field : goal.invariant-loop-field
invariant-loop-field l = is_named l.rest l.key ≡ is_named l.fields l.key

abbrev pub decreases-loop-field : goal.decreases-loop-field
decreases-loop-field l = length l.rest
