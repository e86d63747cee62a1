use Rattle.std.proofs.Common.{arith, ap, sym, ◌∙◌}
use Rattle.std.specs.Ordering.{is_lt}
use Rattle.checker.proofs.Places.{below_more, place_here, place_end}
use Rattle.checker.proofs.change.place_from.Goals as goal

pub returns-then-not-is_lt : goal.returns-then-not-is_lt
returns-then-not-is_lt g c =
    place_here (g.C.Cover.rows c.args.rows.now) c.args.id c.loop-at.at c.loop-at.invariant c.row_at.result.now c.row_at.ensures (ap is_lt (sym c.cmp.ensures) ∙ sym c.is_lt.ensures ∙ c.if-not-is_lt.true)

pub loop-at-preserved : goal.loop-at-preserved
loop-at-preserved g c =
    below_more (g.C.Cover.rows c.args.rows.now) c.args.id c.loop-at.at c.loop-at.invariant c.row_at.result.now c.row_at.ensures (ap is_lt (sym c.cmp.ensures) ∙ sym c.is_lt.ensures ∙ c.if-not-is_lt.false)

pub returns : goal.returns
returns g c = place_end (g.C.Cover.rows c.args.rows.now) c.args.id c.loop-at.at c.loop-at.invariant c.len.result c.len.ensures.count (omega (arith, c.len.ensures.count, c.len-at-end.ensures.count, c.loop-at-test.false))
