use Rattle.std.proofs.Common.{◌≡◌, rules, subst, sym}
use Rattle.screen_files.specs.Settling.{Ascend, settled_frames}
use Rattle.screen_files.proofs.Rising.{kept_rise}
use Rattle.screen_files.proofs.settling.settle.Goals as goal

pub invariant_of-result : goal.invariant_of-result
invariant_of-result c =
    let are : c.add.new.self.frames.items ≡ settled_frames c.sort.new.filed.items = search rules in
    subst Ascend (sym are) (kept_rise c.sort.new.filed.items c.in_ok-sort.ensures.ascend)
