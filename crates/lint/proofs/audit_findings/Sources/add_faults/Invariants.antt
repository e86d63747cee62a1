use Rattle.std.proofs.Common.{◌≡◌, ◌++◌, ℕ, List, Option, drop}
use Rattle.std.specs.Prelude.{map}
use Rattle.page_ids.specs.Ids.{Id}
use Rattle.toml_places.specs.Places.{Mark}
use Rattle.lint.specs.Loops.{KnowsTables, IsTable, table_seen, AreKnown}
use Rattle.lint.specs.Lookups.{KnowsValues}
use Rattle.lint.specs.Lint.{fault_finding}
use Rattle.lint.proofs.audit_findings.Sources.add_faults.Given as goal

abbrev pub invariant-loop-fault : goal.invariant-loop-fault
invariant-loop-fault l = record {
  table : (ms : List Mark) → KnowsTables ms l.self.text.now → IsTable l.self.text.now.text.now ms (table_seen l.table);
  findings : (ms : List Mark) (tables : List (Id × ℕ)) (known : List (Id × Option ℕ)) → AreKnown ms tables l.self → KnowsValues known l.audit.ranks
      → l.findings.items ++ map (fault_finding l.self.text.now.text.now ms tables l.self.base.now l.self.policy.now known) (drop l.fault-index l.audit.faults)
      ≡ l.fn.findings.items ++ map (fault_finding l.self.text.now.text.now ms tables l.self.base.now l.self.policy.now known) l.audit.faults;
}
