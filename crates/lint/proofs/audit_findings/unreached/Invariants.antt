use Rattle.std.proofs.Common.{◌≡◌, ◌++◌, ℕ, List, Option, drop}
use Rattle.page_ids.specs.Ids.{Id}
use Rattle.lint.specs.Lookups.{KnowsValues}
use Rattle.lint.specs.Lint.{unreached, frame_ids}
use Rattle.lint.proofs.audit_findings.unreached.Given as goal

-- the ids so far, and those of the frames that are left, are those of all
abbrev pub invariant-loop-frame : goal.invariant-loop-frame
invariant-loop-frame l = (known : List (Id × Option ℕ)) → KnowsValues known l.ranks
    → l.ids.items ++ frame_ids (unreached l.groups known (drop l.frame-index l.frames)) ≡ frame_ids (unreached l.groups known l.frames)
