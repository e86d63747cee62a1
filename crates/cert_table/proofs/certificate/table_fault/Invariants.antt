use Rattle.std.proofs.Common.{◌≡◌, drop, None}
use Rattle.std.specs.Option.{option_copied}
use Rattle.cert_table.specs.Table.{rows_fault}
use Rattle.cert_table.proofs.certificate.table_fault.Given as goal

-- what is left, after the row before, has the fault of the whole
abbrev pub invariant-loop-i : goal.invariant-loop-i
invariant-loop-i l = rows_fault l.i (option_copied l.before) (drop l.i l.rows) ≡ rows_fault 0 None l.rows
