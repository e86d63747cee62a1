use Rattle.std.proofs.Common.{◌≡◌, ◌-◌, ◌++◌}
use Rattle.std.specs.Vec.Iter.{into_iter_items}
use Rattle.base_text.specs.Drafts.{listed_from}
use Rattle.base_text.proofs.details.Details.list.Given as goal

abbrev pub invariant-loop-detail : goal.invariant-loop-detail
invariant-loop-detail l =
    l.initial.faults.items ++ listed_from l.frame l.id l.fn.self.most (l.fn.self.count - l.fn.self.most) l.fn.self.first
    ≡ l.faults.items ++ listed_from l.frame l.id l.left (l.count - l.most) (into_iter_items l.detail-iterator)
