use Rattle.std.proofs.Common.{◌≡◌, ◌≤◌, Option, None, length, sym, ap, ◌∙◌, arith}
use Rattle.std.specs.Prelude.{is_none}
use Rattle.std.specs.List.{sum_by}
use Rattle.page_ids.specs.Ids.{Id}
use Rattle.frame_records.specs.Seek.{entry_of}
use Rattle.checker.specs.declared.verdict.Cause.{Cause}
use Rattle.checker.specs.Counts.{row_probes, rows_unless_fault, rows_judged, judged_rows}
use Rattle.checker.specs.Verdict.{on_terms, on_head}
use Rattle.checker.proofs.Counted.{if_done, probes_few}
use Rattle.checker.proofs.judge.first_cause.Goals as goal

pub returns-clause-probes : goal.returns-clause-probes
returns-clause-probes g c =
    let base = c.args.base.now in
    let policy = c.args.policy.now in
    let cert = c.args.cert.now in
    let compared = g.C.Cover.compared in
    let head = c.judge_head-cause.ensures in
    let few : (id : Id) → compared cert.rows id ≤ 65535 = λ id. omega (arith, g.met.C.Cover.few cert.rows id head.rows.few, g.met.C.Cover.most_is_small (length cert.rows) head.rows.few) in
    let none : (on_head base policy cert).first_cause ≡ None = sym head.cause ∙ c.in_default.is in
    let rows : judged_rows base policy cert ≡ rows_judged cert.groups base cert cert.rows = ap (λ (o : Option Cause). rows_unless_fault o (rows_judged cert.groups base cert cert.rows)) none in
    let sum = c.together.ensures.probes (omega (arith, head.rows.few, c.from.ensures, head.probes, if_done (is_none (on_terms base policy cert).first_cause) (compared cert.rows (entry_of base)), few (entry_of base), c.judge_rows-cause.ensures.probes, probes_few compared base cert 65535 head.base few)) in
    omega (arith, sum, c.from.ensures, head.probes, c.judge_rows-cause.ensures.probes, ap (sum_by (row_probes compared cert.groups base cert)) rows)
