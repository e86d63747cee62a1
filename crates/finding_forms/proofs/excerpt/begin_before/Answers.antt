use Rattle.std.proofs.Common.{◌∙◌, ◌-◌, sym, ap, arith}
use Rattle.finding_forms.specs.Excerpts.{left_after, begin_before}
use Rattle.finding_forms.proofs.Windows.{back_step, back_stop}
use Rattle.finding_forms.proofs.excerpt.begin_before.Goals as goal

pub back-preserved : goal.back-preserved
back-preserved c =
    let l = c.back in
    let left = c.left_after-left.ensures ∙ ap (left_after l.left) c.byte_at.ensures in
    record {
      value = ap (λ n. begin_before c.args.text.now n (l.at - 1)) left ∙ sym (back_step c.args.text.now l.left l.at (sym c.goes_back.ensures ∙ c.back-test.true)) ∙ l.invariant.value;
      within = omega arith;
    }

pub returns : goal.returns
returns c =
    let l = c.back in
    record {
      value = sym (back_stop c.args.text.now l.left l.at (sym c.goes_back.ensures ∙ c.back-test.false)) ∙ l.invariant.value;
      within = l.invariant.within;
    }
