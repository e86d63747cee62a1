use Rattle.std.proofs.Common.{◌≡◌, ◌+◌, drop}
use Rattle.checker.specs.Verdict.{on_rows}
use Rattle.std.specs.List.{sum_by}
use Rattle.checker.specs.Counts.{row_probes, row_steps, rows_judged}
use Rattle.checker.proofs.judge.judge_rows.Given as goal

-- the rows so far are right, and what they took is a part of the whole
abbrev pub invariant-loop-i : goal.invariant-loop-i
invariant-loop-i g l = record {
  right : (on_rows l.cert.groups l.base l.cert (drop l.i l.cert.rows)).first_cause ≡ (on_rows l.cert.groups l.base l.cert l.cert.rows).first_cause;
  probes : l.total.probes + sum_by (row_probes g.C.Cover.compared l.cert.groups l.base l.cert) (rows_judged l.cert.groups l.base l.cert (drop l.i l.cert.rows)) ≡ sum_by (row_probes g.C.Cover.compared l.cert.groups l.base l.cert) (rows_judged l.cert.groups l.base l.cert l.cert.rows);
  steps : l.total.steps + sum_by (row_steps l.cert.groups l.base l.cert) (rows_judged l.cert.groups l.base l.cert (drop l.i l.cert.rows)) ≡ sum_by (row_steps l.cert.groups l.base l.cert) (rows_judged l.cert.groups l.base l.cert l.cert.rows);
}
