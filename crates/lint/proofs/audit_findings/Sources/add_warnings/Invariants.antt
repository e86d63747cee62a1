use Rattle.std.proofs.Common.{◌≡◌, ◌++◌, ℕ, List, drop}
use Rattle.std.specs.Prelude.{map}
use Rattle.page_ids.specs.Ids.{Id}
use Rattle.toml_places.specs.Places.{Mark}
use Rattle.lint.specs.Lint.{warning}
use Rattle.lint.specs.Loops.{AreKnown}
use Rattle.lint.proofs.audit_findings.Sources.add_warnings.Given as goal

abbrev pub invariant-loop-id : goal.invariant-loop-id
invariant-loop-id l = (ms : List Mark) (tables : List (Id × ℕ)) → AreKnown ms tables l.self
    → l.findings.items ++ map (warning l.self.text.now.text.now ms tables) (drop l.id-index l.ids) ≡ l.fn.findings.items ++ map (warning l.self.text.now.text.now ms tables) l.ids
