-- Exit statuses.
use Rattle.std.specs.Prelude.{ℕ, Result, Ok, Err}
use Rattle.audit_report.specs.declared.run_fault.RunFault.{RunFault}
use Rattle.audit_report.specs.declared.run_fault.RunFault.TheVariants as run
use Rattle.audit_report.specs.declared.status.Status.{Status}
use Rattle.audit_report.specs.declared.status.Status.TheVariants.{Clear, Faulty}

-- the status of a fault: bad groups or keys 2, a file or the output 3, out of memory 4
abbrev pub fault_number : RunFault → ℕ
fault_number run.Groups = 2
fault_number (run.Keys offset) = 2
fault_number run.Memory = 4
fault_number _ = 3

abbrev pub status_number : Result Status RunFault → ℕ
status_number (Ok Clear) = 0
status_number (Ok Faulty) = 1
status_number (Err fault) = fault_number fault
