use Rattle.std.proofs.Common.{ℕ, List, subst}
use Rattle.frame_records.specs.declared.frame.Frame.{Frame}
use Rattle.frame_records.specs.Bases.{IsBuildFault}
use Rattle.frame_records.specs.Loops.{IsUnrefused}
use Rattle.frame_records.proofs.Built.{fault_back, base_valid, base_back}
use Rattle.frame_records.proofs.base.Base.build.Goals as goal

pub returns-in-Some : goal.returns-in-Some
returns-in-Some c =
    let frames = subst (λ (fs : List Frame). IsBuildFault c.as_slice-3.result.now fs c.in-Some.fault) c.as_slice-4.ensures.value c.in-Some.ensures in
    let both = subst (λ (pages : List ℕ). IsBuildFault pages c.sort.new.frames.items c.in-Some.fault) c.as_slice-3.ensures.value frames in
    fault_back c.args.outside.items c.sort.new.outside.items c.args.frames.items c.sort.new.frames.items c.sort.ensures c.in-Some.fault both

unrefused : (c : goal.In-None) → IsUnrefused c.sort.new.outside.items c.sort.new.frames.items
unrefused c =
    let frames = subst (λ (fs : List Frame). IsUnrefused c.as_slice-3.result.now fs) c.as_slice-4.ensures.value c.in-None.ensures in
    subst (λ (pages : List ℕ). IsUnrefused pages c.sort.new.frames.items) c.as_slice-3.ensures.value frames

pub invariant_of-result : goal.invariant_of-result
invariant_of-result c = base_valid c.args.outside.items c.sort.new.outside.items c.args.frames.items c.sort.new.frames.items c.sort.ensures c.args.entry (unrefused c)

pub returns-in-None : goal.returns-in-None
returns-in-None c = base_back c.args.outside.items c.sort.new.outside.items c.args.frames.items c.sort.new.frames.items c.sort.ensures c.args.entry (unrefused c)
