use Rattle.std.proofs.Common.{◌≡◌, ◌<◌, ◌+◌, ◌*◌, option_map, sym, ◌∙◌, ap, refl, arith}
use Rattle.abstract_paint.specs.Start.{start_of}
use Rattle.fault_scripts.specs.declared.frame_fault.FrameFault.TheVariants.{Touches}
use Rattle.page_ids.specs.declared.way.Way.{Way}
use Rattle.page_ids.specs.Ways.{way_at}
use Rattle.frame_records.specs.Ways.{destination_by, destination_of}
use Rattle.fault_scripts.specs.Loops.{way_fault}
use Rattle.fault_scripts.proofs.Asked.{asked_way}
use Rattle.fault_scripts.proofs.Reported.{step}
use Rattle.fault_scripts.proofs.reporter.Reporter.judge.Goals as goal

-- the price, and then the painting
pub loop-place-init : goal.loop-place-init
loop-place-init c =
    let i = c.args.index in
    let s = c.args.survey.now in
    let frame = c.args.frame.now in
    let d = c.discovered_at-discovered.result.now in
    let painted = c.touch_start.ensures ∙ ap (λ p. option_map Touches (start_of frame.lead frame.body p)) c.requires.painted in
    let one = step s c.args.policy.now i d c.discovered_at-discovered.ensures frame c.requires.frame (i * 14) (i * 14 + 1) 0 (omega arith) (omega arith) (omega arith) c.args.self.now c.report.new.self c.over_price.result (sym c.over_price.ensures) c.requires.reporting c.in_ok-report.ensures.script c.in_ok-report.ensures.reported in
    step s c.args.policy.now i d c.discovered_at-discovered.ensures frame c.requires.frame (i * 14 + 1) (i * 14 + 2) 1 (omega arith) (omega arith) (omega arith) c.report.new.self c.report-2.new.self c.touch_start.result (sym painted) one c.in_ok-report-2.ensures.script c.in_ok-report-2.ensures.reported

-- a way
pub loop-place-preserved : goal.loop-place-preserved
loop-place-preserved c =
    let i = c.args.index in
    let s = c.args.survey.now in
    let frame = c.args.frame.now in
    let n = c.loop-place.place in
    let few : n < 11 = omega (arith, c.loop-place-test.true) in
    let d = c.discovered_at-discovered in
    let to = c.follow.ensures d.result.now d.ensures ∙ ap (destination_by s.groups s.base c.at-way.result) (c.requires.frame d.result.now d.ensures) in
    let wrong = c.way_fault-wrong.ensures ∙ ap (way_fault c.at-way.result) to ∙ ap (λ (w : Way). way_fault w (destination_of s.groups s.base frame w)) c.at-way.ensures ∙ ap (λ g. way_fault (way_at n) (destination_of g s.base frame (way_at n))) c.requires.groups in
    step s c.args.policy.now i c.discovered_at-discovered.result.now c.discovered_at-discovered.ensures frame c.requires.frame (i * 14 + (n + 2)) (i * 14 + (n + 1 + 2)) (n + 2) (omega (arith, few)) refl (omega arith) c.loop-place.self c.report-in-loop-place.new.self c.way_fault-wrong.result (asked_way s.base c.args.policy.now frame c.discovered_at-discovered.result.now.rank n few ∙ sym wrong) c.loop-place.invariant c.in_ok-report-3.ensures.script c.in_ok-report-3.ensures.reported

-- the way back
pub returns : goal.returns
returns c =
    let i = c.args.index in
    let n = c.loop-place.place in
    let all : n ≡ 11 = omega (arith, c.loop-place-test.false, c.loop-place.auto.place-end) in
    step c.args.survey.now c.args.policy.now i c.discovered_at-discovered.result.now c.discovered_at-discovered.ensures c.args.frame.now c.requires.frame (i * 14 + (n + 2)) ((i + 1) * 14) 13 (omega arith) (omega (arith, all)) (omega (arith, all)) c.loop-place.self c.report-3.new.self c.return_fault.result (sym c.return_fault.ensures) c.loop-place.invariant c.in_ok-report-4.ensures.script c.in_ok-report-4.ensures.reported
