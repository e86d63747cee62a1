use Rattle.std.proofs.Common.{arith, sym, ◌∙◌}
use Rattle.std.proofs.lemmas.Bool.Decides.{nat_tests}
use Rattle.checker.proofs.Places.{covered_is, not_covered}
use Rattle.checker.proofs.change.has_row_at.Goals as goal

pub returns-then-at-len : goal.returns-then-at-len
returns-then-at-len g c =
    c.eq.ensures ∙ covered_is (g.C.Cover.rows c.args.rows.now) c.len.ensures.valid c.args.id c.args.at c.requires c.row_at.result.now c.row_at.ensures

pub returns-else-at-len : goal.returns-else-at-len
returns-else-at-len g c =
    grind (arith, nat_tests, c.if-at-len.false)
    ∙ sym (not_covered (g.C.Cover.rows c.args.rows.now) c.len.ensures.valid c.args.id c.args.at c.requires (λ d lt. absurd (omega (arith, lt, c.len.ensures.count, c.if-at-len.false))))
