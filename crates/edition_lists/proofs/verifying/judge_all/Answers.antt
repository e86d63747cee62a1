use Rattle.std.proofs.Common.{◌∙◌, refl, sym, subst, get_or, Option}
use Rattle.edition_lists.specs.declared.kept.KeptEdition.{KeptEdition}
use Rattle.edition_lists.specs.Loops.{IsKeptBefore}
use Rattle.edition_lists.proofs.InTurn.{kept_after, found_more}
use Rattle.edition_lists.proofs.verifying.judge_all.Goals as goal

pub loop-number-preserved : goal.loop-number-preserved
loop-number-preserved g c =
    let seen = g.S.EditionFolder.seen in
    let numbers = c.args.numbers.now in
    let served = c.args.served in
    let i = c.loop-number.number-index in
    let n = get_or numbers i 0 in
    let before = c.loop-number.invariant in
    let ensures = c.in_ok-judged.ensures in
    record {
      held = ensures.unchanged.held;
      same = ensures.unchanged.same ∙ before.same;
      kept = subst (λ (o : Option KeptEdition). IsKeptBefore (seen c.judge_next.new.store) o) (sym c.kept_if_right-before.ensures)
          (kept_after (seen c.loop-number.store) (seen c.judge_next.new.store) numbers served n c.in_ok-judged.judged ensures.unchanged.same ensures.right);
      so_far = found_more (seen c.args.store.now).state (seen c.loop-number.store) numbers served i 0 n c.loop-number.findings.items c.judge_next.new.findings.items
          c.in_ok-judged.judged before.same c.loop-number-test.true refl before.so_far ensures.right ensures.added;
    }
