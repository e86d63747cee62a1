use Rattle.std.proofs.Common.{◌∷◌, [], ℕ, ap, arith, length, subst, sym}
use Rattle.std.proofs.lemmas.List.{length-append}
use Rattle.frame_screens.specs.Painted.{AreKept, IsKept}
use Rattle.frame_screens.proofs.Painted.{last_kept}
use Rattle.frame_screens.proofs.painter.Painter.of.Goals as goal

pub loop-place-preserved : goal.loop-place-preserved
loop-place-preserved c =
    let s = c.args.survey in
    let kept = c.loop-place.kept.items in
    let one = c.in_ok-terminal.terminal in
    let here = subst (λ (n : ℕ). IsKept s n one) (sym c.loop-place.invariant.count) c.in_ok-terminal.ensures in
    let items = c.in_ok-push.ensures.items in
    record {
      count = omega (arith, ap length items, length-append kept (one ∷ []), c.loop-place.invariant.count);
      held = subst (AreKept s) (sym items) (last_kept s kept one c.loop-place.invariant.held here);
    }
