use Rattle.std.proofs.Common.{◌∙◌, ◌<◌, ◌+◌, sym, ap, length, arith}
use Rattle.finding_forms.specs.Excerpts.{left_after, end_ahead}
use Rattle.finding_forms.proofs.Windows.{ahead_room, ahead_step, ahead_stop}
use Rattle.finding_forms.proofs.excerpt.end_ahead.Goals as goal

pub ahead-preserved : goal.ahead-preserved
ahead-preserved c =
    let l = c.ahead in
    let text = c.args.text.now in
    let goes = sym c.goes_ahead.ensures ∙ c.ahead-test.true in
    let left = c.left_after-left.ensures ∙ ap (left_after l.left) c.byte_at.ensures in
    let room : l.at < length text = ahead_room text l.left l.at goes in
    record {
      value = ap (λ n. end_ahead text n (l.at + 1)) left ∙ sym (ahead_step text l.left l.at goes) ∙ l.invariant.value;
      from = omega arith;
      within = omega arith;
    }

pub returns : goal.returns
returns c =
    let l = c.ahead in
    record {
      value = sym (ahead_stop c.args.text.now l.left l.at (sym c.goes_ahead.ensures ∙ c.ahead-test.false)) ∙ l.invariant.value;
      within = (l.invariant.from, l.invariant.within);
    }
