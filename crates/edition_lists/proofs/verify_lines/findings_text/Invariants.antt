use Rattle.std.proofs.Common.{◌≡◌, ◌++◌, drop}
use Rattle.edition_lists.specs.VerifyLines.{findings_text}
use Rattle.edition_lists.proofs.verify_lines.findings_text.Given as goal

-- the lines so far, and those of the findings that are left, are the whole text
abbrev pub invariant-loop-finding : goal.invariant-loop-finding
invariant-loop-finding l = l.out.items ++ findings_text l.folder l.served (drop l.finding-index l.findings) ≡ findings_text l.folder l.served l.findings
