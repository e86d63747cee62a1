use Rattle.std.proofs.Common.{◌≡◌, ◌++◌, length}
use Rattle.slip_fixes.specs.Rounds.{fixes_from, fixes_of}
use Rattle.slip_fixes.proofs.rounds.fixes_of.Given as goal

abbrev pub invariant-loop-finding : goal.invariant-loop-finding
invariant-loop-finding l = l.fixes.items ++ fixes_from l.text l.at l.rest ≡ fixes_of l.text l.findings

abbrev pub decreases-loop-finding : goal.decreases-loop-finding
decreases-loop-finding l = length l.rest
