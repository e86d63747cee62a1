use Rattle.std.proofs.Common.{◌≡◌, drop}
use Rattle.std.specs.List.{list_all}
use Rattle.edition_lists.specs.Findings.{is_right}
use Rattle.edition_lists.proofs.finding.are_right.Given as goal

-- all findings are right if those that are left are
abbrev pub invariant-loop-finding : goal.invariant-loop-finding
invariant-loop-finding l = list_all is_right l.findings ≡ list_all is_right (drop l.finding-index l.findings)
