use Rattle.std.proofs.Common.{◌≡◌, ◌++◌, List, drop, None}
use Rattle.std.specs.Prelude.{map}
use Rattle.toml_places.specs.Places.{Mark}
use Rattle.lint.specs.Tables.{table_at}
use Rattle.lint.specs.Loops.{KnowsTables, IsTable, table_seen, Lists}
use Rattle.lint.specs.Lint.{whole_finding}
use Rattle.lint.proofs.text_findings.add_whole_findings.Given as goal

abbrev pub invariant-loop-fault : goal.invariant-loop-fault
invariant-loop-fault l = record {
  table : (ms : List Mark) → KnowsTables ms l.tables → l.lines ≡ l.tables.text.now → IsTable l.tables.text.now ms (table_seen l.table);
  findings : (ms : List Mark) → KnowsTables ms l.tables → l.lines ≡ l.tables.text.now → Lists (table_at l.tables.text.now ms None) l.pages
      → l.findings.items ++ map (whole_finding l.tables.text.now ms) (drop l.fault-index l.faults) ≡ l.fn.findings.items ++ map (whole_finding l.tables.text.now ms) l.faults;
}
