-- What a reader has at the end is a certificate.
use Rattle.std.proofs.Common.{◌≡◌, List, [], ◌∷◌, None}
use Rattle.std.specs.List.{AllByRecursion}
use Rattle.std.proofs.lemmas.List.Elements.{All-from_recursion}
use Rattle.abstract_paint.specs.Paint.{OnScreen}
use Rattle.cert_table.specs.declared.row.Row.{Row}
use Rattle.cert_table.specs.Table.{table_fault}
use Rattle.cert_table.proofs.Tables.{no_fault}
use Rattle.cert_text.specs.Grammar.{IsRow}
use Rattle.cert_text.specs.Reading.{Said, IsSound}

places : (rows : List Row) → AllByRecursion IsRow rows → AllByRecursion (λ r. OnScreen r.cursor.place) rows
places [] each = tt
places (r ∷ rows) each = (each.0.place, places rows each.1)

pub never_refused : (s : Said) → IsSound s → table_fault s.rows ≡ None
never_refused s is = no_fault s.rows (is.rows, All-from_recursion (λ r. OnScreen r.cursor.place) s.rows (places s.rows is.each))
