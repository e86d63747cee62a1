use Rattle.std.proofs.Common.{◌≡◌, drop}
use Rattle.edition_lists.specs.Forks.{first_fork}
use Rattle.edition_lists.proofs.forks.first_fork.Given as goal

-- the first fork of all is that of the findings that are left
abbrev pub invariant-loop-finding : goal.invariant-loop-finding
invariant-loop-finding l = first_fork 0 l.findings ≡ first_fork l.last (drop l.finding-index l.findings)
