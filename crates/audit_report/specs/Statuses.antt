-- Whether what was judged is clear.
use Rattle.checker.specs.declared.verdict.Verdict.{Verdict}
use Rattle.checker.specs.declared.verdict.Verdict.TheVariants.{Cleared, Refused}
use Rattle.checker.specs.declared.change.ChangeVerdict.{ChangeVerdict}
use Rattle.checker.specs.declared.change.ChangeVerdict.TheVariants as change
use Rattle.fault_scripts.specs.declared.outcome.Outcome.{Outcome}
use Rattle.fault_scripts.specs.declared.outcome.Outcome.TheVariants.{Certified, Faulty}
use Rattle.audit_report.specs.declared.status.Status.{Status}
use Rattle.audit_report.specs.declared.status.Status.TheVariants as status

-- clear if and only if there is a certificate
abbrev pub status_of_outcome : Outcome → Status
status_of_outcome (Certified cert) = status.Clear
status_of_outcome (Faulty faults) = status.Faulty

abbrev pub status_of_verdict : Verdict → Status
status_of_verdict Cleared = status.Clear
status_of_verdict (Refused cause) = status.Faulty

abbrev pub status_of_change : ChangeVerdict → Status
status_of_change change.Cleared = status.Clear
status_of_change _ = status.Faulty
