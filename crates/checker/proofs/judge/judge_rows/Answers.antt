use Rattle.std.proofs.Common.{◌≡◌, ◌+◌, ◌≤◌, List, Some, length, sym, subst, ◌∙◌, arith}
use Rattle.std.specs.Prelude.{slice_get}
use Rattle.page_ids.specs.Ids.{Id}
use Rattle.cert_table.specs.declared.row.Row.{Row}
use Rattle.checker.specs.Counts.{row_probes, row_steps}
use Rattle.checker.specs.Verdict.{on_row}
use Rattle.checker.proofs.Taken.{sum_within, sum_next, sum_last}
use Rattle.checker.proofs.RowsInTurn.{next_row, last_row}
use Rattle.checker.proofs.Counted.{probes_few, steps_short}
use Rattle.checker.proofs.judge.judge_rows.Given.{Over}
use Rattle.checker.proofs.judge.judge_rows.Goals as goal

-- what is known at the row that is at fault; the sums with what it took fit
record AtFault (g : Over) (c : goal.In-Some g) : Type 0 where
  at : slice_get c.args.cert.now.rows c.loop-i.i ≡ Some c.row_at.result.now
  probes : c.loop-i.total.probes + c.judge_row-cause.result.1.probes ≤ 18446744073709551615
  steps : c.loop-i.total.steps + c.judge_row-cause.result.1.steps ≤ 18446744073709551615
  fails : (on_row c.args.cert.now.groups c.args.base.now c.args.cert.now c.row_at.result.now).first_cause ≡ Some c.in-Some.cause

at_fault : (g : Over) (c : goal.In-Some g) → AtFault g c
at_fault g c =
    let base = c.args.base.now in
    let cert = c.args.cert.now in
    let compared = g.C.Cover.compared in
    let at : slice_get cert.rows c.loop-i.i ≡ Some c.row_at.result.now = subst (λ (xs : List Row). slice_get xs c.loop-i.i ≡ Some c.row_at.result.now) c.cover-cover.ensures.rows c.row_at.ensures in
    let few : (id : Id) → compared cert.rows id ≤ 65535 = λ id. omega (arith, g.met.C.Cover.few cert.rows id c.requires.few, g.met.C.Cover.most_is_small (length cert.rows) c.requires.few) in
    let count = c.judge_row-cause in
    record {
      at = at;
      probes = omega (arith, c.requires.few, sum_within (row_probes compared cert.groups base cert) cert.groups base cert cert.rows c.loop-i.i c.row_at.result.now at c.loop-i.total.probes count.result.1.probes _ c.loop-i.invariant.probes count.ensures.probes, probes_few compared base cert 65535 c.requires.valid few);
      steps = omega (arith, c.requires.few, sum_within (row_steps cert.groups base cert) cert.groups base cert cert.rows c.loop-i.i c.row_at.result.now at c.loop-i.total.steps count.result.1.steps _ c.loop-i.invariant.steps count.ensures.steps, steps_short compared base cert 65535 c.requires.valid few);
      fails = sym count.ensures.cause ∙ c.in-Some.is;
    }

pub returns-in-Some-clause-cause : goal.returns-in-Some-clause-cause
returns-in-Some-clause-cause g c =
    let k = at_fault g c in
    sym (last_row c.args.cert.now.groups c.args.base.now c.args.cert.now c.args.cert.now.rows c.loop-i.i c.row_at.result.now k.at c.in-Some.cause k.fails) ∙ c.loop-i.invariant.right

pub returns-in-Some-clause-probes : goal.returns-in-Some-clause-probes
returns-in-Some-clause-probes g c =
    let k = at_fault g c in
    let cert = c.args.cert.now in
    sum_last (row_probes g.C.Cover.compared cert.groups c.args.base.now cert) cert.groups c.args.base.now cert cert.rows c.loop-i.i c.row_at.result.now k.at c.loop-i.total.probes c.judge_row-cause.result.1.probes _ c.loop-i.invariant.probes c.judge_row-cause.ensures.probes c.together-total.result.probes (c.together-total.ensures.probes k.probes) c.in-Some.cause k.fails

pub returns-in-Some-clause-steps : goal.returns-in-Some-clause-steps
returns-in-Some-clause-steps g c =
    let k = at_fault g c in
    let cert = c.args.cert.now in
    sum_last (row_steps cert.groups c.args.base.now cert) cert.groups c.args.base.now cert cert.rows c.loop-i.i c.row_at.result.now k.at c.loop-i.total.steps c.judge_row-cause.result.1.steps _ c.loop-i.invariant.steps c.judge_row-cause.ensures.steps c.together-total.result.steps (c.together-total.ensures.steps k.steps) c.in-Some.cause k.fails

pub loop-i-preserved : goal.loop-i-preserved
loop-i-preserved g c =
    let base = c.args.base.now in
    let cert = c.args.cert.now in
    let compared = g.C.Cover.compared in
    let row = c.row_at.result.now in
    let i = c.loop-i.i in
    let count = c.judge_row-cause in
    let at : slice_get cert.rows i ≡ Some row = subst (λ (xs : List Row). slice_get xs i ≡ Some row) c.cover-cover.ensures.rows c.row_at.ensures in
    let few : (id : Id) → compared cert.rows id ≤ 65535 = λ id. omega (arith, g.met.C.Cover.few cert.rows id c.requires.few, g.met.C.Cover.most_is_small (length cert.rows) c.requires.few) in
    let probes = row_probes compared cert.groups base cert in
    let steps = row_steps cert.groups base cert in
    let probes_fit : c.loop-i.total.probes + count.result.1.probes ≤ 18446744073709551615 = omega (arith, c.requires.few, sum_within probes cert.groups base cert cert.rows i row at c.loop-i.total.probes count.result.1.probes _ c.loop-i.invariant.probes count.ensures.probes, probes_few compared base cert 65535 c.requires.valid few) in
    let steps_fit : c.loop-i.total.steps + count.result.1.steps ≤ 18446744073709551615 = omega (arith, c.requires.few, sum_within steps cert.groups base cert cert.rows i row at c.loop-i.total.steps count.result.1.steps _ c.loop-i.invariant.steps count.ensures.steps, steps_short compared base cert 65535 c.requires.valid few) in
    let none = sym count.ensures.cause ∙ c.in_default.is in
    record {
      right = next_row cert.groups base cert cert.rows i row at none ∙ c.loop-i.invariant.right;
      probes = sum_next probes cert.groups base cert cert.rows i row at c.loop-i.total.probes count.result.1.probes _ c.loop-i.invariant.probes count.ensures.probes c.together-total.result.probes (c.together-total.ensures.probes probes_fit) none;
      steps = sum_next steps cert.groups base cert cert.rows i row at c.loop-i.total.steps count.result.1.steps _ c.loop-i.invariant.steps count.ensures.steps c.together-total.result.steps (c.together-total.ensures.steps steps_fit) none;
    }
