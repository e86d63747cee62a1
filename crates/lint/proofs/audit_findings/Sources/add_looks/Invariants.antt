use Rattle.std.proofs.Common.{◌≡◌, ◌++◌, ℕ, List, drop}
use Rattle.page_ids.specs.Ids.{Id}
use Rattle.toml_places.specs.Places.{Mark}
use Rattle.lint.specs.Loops.{KnowsTables, IsTable, table_seen, AreKnown}
use Rattle.lint.specs.Lint.{look_findings}
use Rattle.lint.proofs.audit_findings.Sources.add_looks.Given as goal

abbrev pub invariant-loop-look : goal.invariant-loop-look
invariant-loop-look l = record {
  table : (ms : List Mark) → KnowsTables ms l.self.text.now → IsTable l.self.text.now.text.now ms (table_seen l.table);
  findings : (ms : List Mark) (tables : List (Id × ℕ)) → AreKnown ms tables l.self
      → l.findings.items ++ look_findings l.self.text.now.text.now ms tables (drop l.look-index l.looks)
      ≡ l.fn.findings.items ++ look_findings l.self.text.now.text.now ms tables l.looks;
}
