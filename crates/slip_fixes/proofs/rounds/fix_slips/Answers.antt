use Rattle.std.proofs.Common.{rules, ◌≡◌, ◌++◌, ◌∙◌, ap, inl, inr, refl, subst}
use Rattle.slip_fixes.specs.Loops.{IsAdvanced, AdvancesTo}
use Rattle.slip_fixes.proofs.Ways.{and_round, of_same}
use Rattle.slip_fixes.proofs.rounds.fix_slips.Goals.{else-loop-made-test, then-loop-made-test+in_ok-next+in-None}
use Rattle.slip_fixes.proofs.rounds.fix_slips.Goals as goal

pub loop-made-init : goal.loop-made-init
loop-made-init c =
    let same : c.extend_from_slice.new.self.items ≡ c.args.text.now = c.in_ok-extend_from_slice.ensures.items ∙ ap (λ l. l ++ c.args.text.now) c.new-copy.ensures.items in
    record {
      rounds = (same, refl);
      found = of_same c.args.policy.now c.args.text.now c.extend_from_slice.new.self.items c.in_ok-findings.findings.items same c.in_ok-findings.ensures.findings;
    }

pub loop-made-preserved : goal.loop-made-preserved
loop-made-preserved c =
    let step : IsAdvanced c.args.policy.now c.loop-made.state c.in-Some.next = subst (AdvancesTo c.args.policy.now c.loop-made.state) c.in-Some.is c.in_ok-next.ensures in
    let round = step.round c.loop-made.invariant.found in
    record {
      rounds = and_round c.args.policy.now c.args.text.now c.loop-made.state.text.items c.in-Some.next.text.items c.loop-made._made c.loop-made.state.fixes round.0 c.in-Some.next.fixes c.loop-made.invariant.rounds round.1.0 round.1.1;
      found = step.found;
    }

pub returns : goal.returns
returns c = record {
  number = c.loop-made._made;
  rounds = c.loop-made.invariant.rounds;
  over = elim c.loop-made-test.branch [
    | else-loop-made-test w ↦ inr (search rules)
    | then-loop-made-test+in_ok-next+in-None w ↦ inl (subst (AdvancesTo c.args.policy.now c.loop-made.state) w.in-None.is w.in_ok-next.ensures c.loop-made.invariant.found)
  ];
}
