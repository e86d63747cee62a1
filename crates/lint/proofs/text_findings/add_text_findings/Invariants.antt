use Rattle.std.proofs.Common.{◌≡◌, ◌++◌, List, drop}
use Rattle.std.specs.Prelude.{map}
use Rattle.toml_places.specs.Places.{Mark}
use Rattle.lint.specs.Loops.{KnowsTables, IsTable, table_seen}
use Rattle.lint.specs.Lint.{text_finding}
use Rattle.lint.proofs.text_findings.add_text_findings.Given as goal

abbrev pub invariant-loop-fault : goal.invariant-loop-fault
invariant-loop-fault l = record {
  table : (ms : List Mark) → KnowsTables ms l.tables → IsTable l.tables.text.now ms (table_seen l.table);
  findings : (ms : List Mark) → KnowsTables ms l.tables
      → l.findings.items ++ map (text_finding l.tables.text.now ms) (drop l.fault-index l.faults) ≡ l.fn.findings.items ++ map (text_finding l.tables.text.now ms) l.faults;
}
