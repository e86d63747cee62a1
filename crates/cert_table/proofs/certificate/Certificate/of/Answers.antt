use Rattle.std.proofs.Common.{List, sym, subst}
use Rattle.cert_table.specs.declared.row.Row.{Row}
use Rattle.cert_table.specs.Table.{AreRows, AreOnScreen}
use Rattle.cert_table.proofs.Tables.{are_rows}
use Rattle.cert_table.proofs.certificate.Certificate.of.Goals as goal

pub of-requires : goal.of-requires
of-requires g c = (are_rows c.args.rows.items c.requires).0

pub invariant_of-result : goal.invariant_of-result
invariant_of-result g c = subst (λ (rows : List Row). AreRows rows × AreOnScreen rows) (sym c.of.ensures) (are_rows c.args.rows.items c.requires)
