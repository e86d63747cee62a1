use Rattle.std.proofs.Common.{◌≡◌, ◌≤◌, ◌<◌, ◌+◌, ◌*◌, Some, get_or, slice_get, sym, ◌∙◌, ap, arith}
use Rattle.std.proofs.lemmas.List.{get_or_default}
use Rattle.std.proofs.lemmas.Option.{get_or_from_slice_get, slice_get-get_or}
use Rattle.frame_records.specs.declared.frame.Frame.{Frame}
use Rattle.frame_records.specs.Ways.{sought, destination_of}
use Rattle.finder.specs.declared.aim.Aim.TheVariants.{NotOffered}
use Rattle.finder.specs.Loops.WayTargets.{lost_to}
use Rattle.finder.proofs.Followed.{found_is, lost_is}
use Rattle.finder.proofs.table.WayTable.follow.Goals as goal

pub returns-then-node-self : goal.returns-then-node-self
returns-then-node-self c = λ f at.
    let t = c.args.self.now in
    let to = c.index-frames-node.result in
    let node = get_or t.targets.nodes.items (c.args.from * 11 + c.number_of-number.result) 0 in
    let lt : node < t.count = omega (arith, c.node_to-node.ensures, c.if-node-self.true) in
    let same : get_or t.base.now.frames node to ≡ to = ap (λ (n : _). get_or t.base.now.frames n to) (sym c.node_to-node.ensures) ∙ ap (λ fs. get_or fs c.node_to-node.result to) (sym c.frames-frames.ensures.all) ∙ sym c.index-frames-node.is in
    let there : slice_get t.base.now.frames node ≡ Some to = slice_get-get_or t.base.now.frames node to (omega (arith, lt, t.nodes)) ∙ ap Some same in
    found_is t c.args.from c.number_of-number.result f at c.number_of-number.ensures.within to lt there
    ∙ ap (destination_of t.groups.now t.base.now f) c.number_of-number.ensures.way

pub returns-else-node-self : goal.returns-else-node-self
returns-else-node-self c = λ f at.
    let t = c.args.self.now in
    let way = c.args.way.now in
    let frame = c.index-frames-from.result in
    let past : t.count ≤ get_or t.targets.nodes.items (c.args.from * 11 + c.number_of-number.result) 0 = omega (arith, c.node_to-node.ensures, c.if-node-self.false) in
    let aim = c.index-aim.ensures ∙ get_or_default t.targets.aims.items c.way_slot.result c.index-aim.result.now NotOffered (omega (arith, c.way_slot.ensures, c.requires, c.number_of-number.ensures.within, t.nodes, t.whole.slots)) ∙ ap (λ slot. get_or t.targets.aims.items slot NotOffered) c.way_slot.ensures in
    let same : frame ≡ f = c.index-frames-from.is ∙ ap (λ fs. get_or fs c.args.from frame) c.frames-frames.ensures.all ∙ get_or_from_slice_get t.base.now.frames c.args.from f frame at in
    let seeks = c.sought.ensures ∙ ap (λ (g : Frame). sought g way) same ∙ ap (sought f) (sym c.number_of-number.ensures.way) in
    c.lost_to.ensures ∙ ap (lost_to c.index-aim.result.now) seeks
    ∙ lost_is t c.args.from c.number_of-number.result f at c.number_of-number.ensures.within past c.index-aim.result.now aim
    ∙ ap (destination_of t.groups.now t.base.now f) c.number_of-number.ensures.way
