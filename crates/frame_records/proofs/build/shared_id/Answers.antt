use Rattle.std.proofs.Common.{◌≡◌, ◌-◌, ◌<◌, arith, get_or, length, sym, ◌∙◌, ap}
use Rattle.std.proofs.lemmas.List.{get_or_default}
use Rattle.std.proofs.lemmas.List.Sorted.{all_adjacent_more}
use Rattle.std.specs.declared.cmp.Ordering.TheVariants.{Less}
use Rattle.page_ids.specs.Ids.{id_cmp, id_eq}
use Rattle.frame_records.specs.declared.frame.Frame.{Frame}
use Rattle.frame_records.proofs.SortedFrames.{least_twice, rises}
use Rattle.frame_records.proofs.build.shared_id.Goals as goal

pub loop-i-preserved : goal.loop-i-preserved
loop-i-preserved c =
    all_adjacent_more c.args.frames.now (λ f g. id_cmp f.id g.id ≡ Less) c.loop-i.i (omega arith) c.loop-i.invariant
    (λ d. rises c.args.frames.now (c.loop-i.i - 1) c.loop-i.i c.index-frames-i.result c.index-frames-i-in-loop-i.result d (omega arith) c.loop-i-test.true c.requires (sym c.if-eq.ensures))

pub returns-then-eq-clause-least : goal.returns-then-eq-clause-least
returns-then-eq-clause-least c =
    let frames = c.args.frames.now in
    let i = c.loop-i.i in
    let f = c.index-frames-i-then-eq.result in
    let lt : i < length frames = c.loop-i-test.true in
    least_twice frames (i - 1) i f (omega arith) lt c.requires c.loop-i.invariant
    (ap (λ (x : Frame). id_eq x.id (get_or frames i f).id) (get_or_default frames (i - 1) f c.index-frames-i.result (omega arith))
    ∙ ap (λ (x : Frame). id_eq (get_or frames (i - 1) c.index-frames-i.result).id x.id) (get_or_default frames i f c.index-frames-i-in-loop-i.result lt)
    ∙ sym c.if-eq.ensures)
