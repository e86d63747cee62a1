use Rattle.std.proofs.Common.{◌≡◌, take}
use Rattle.indexmap.specs.IndexSet.{contains}
use Rattle.page_ids.specs.Ids.{Id, id_eq}
use Rattle.audit_report.specs.Listing.{is_listed}
use Rattle.audit_report.proofs.reached.Reached.of.Given as goal

-- the first frames are known
abbrev pub invariant-loop-discovered : goal.invariant-loop-discovered
invariant-loop-discovered l = (id : Id) → contains id_eq l.ids id ≡ is_listed (take l.discovered-index l.found) id
