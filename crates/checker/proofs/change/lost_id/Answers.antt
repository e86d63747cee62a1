use Rattle.std.proofs.Common.{arith, sym, ◌∙◌}
use Rattle.checker.proofs.Places.{beside_first, below_row, is_lost, beside_next, none_lost}
use Rattle.checker.proofs.change.lost_id.Goals as goal

pub loop-i-init : goal.loop-i-init
loop-i-init g c = beside_first (g.C.Cover.rows c.args.old.now) (g.C.Cover.rows c.args.new.now)

pub place_from-at-requires : goal.place_from-at-requires
place_from-at-requires g c = below_row (g.C.Cover.rows c.args.old.now) (g.C.Cover.rows c.args.new.now) c.len-i-end.ensures.valid c.loop-i.i c.row_at.result.now c.row_at.ensures c.loop-i.at c.loop-i.invariant

pub returns-then-not-has_row_at : goal.returns-then-not-has_row_at
returns-then-not-has_row_at g c =
    sym (is_lost (g.C.Cover.rows c.args.old.now) (g.C.Cover.rows c.args.new.now) c.len-i-end.ensures.valid c.loop-i.i c.row_at.result.now c.row_at.ensures (sym c.has_row_at.ensures ∙ c.if-not-has_row_at.true))
    ∙ c.loop-i.invariant.right

pub loop-i-preserved : goal.loop-i-preserved
loop-i-preserved g c =
    beside_next (g.C.Cover.rows c.args.old.now) (g.C.Cover.rows c.args.new.now) c.len-i-end.ensures.valid c.loop-i.i c.row_at.result.now c.row_at.ensures c.loop-i.at c.place_from-at.result c.loop-i.invariant (sym c.has_row_at.ensures ∙ c.if-not-has_row_at.false) c.place_from-at.ensures

pub returns : goal.returns
returns g c = none_lost (g.C.Cover.rows c.args.old.now) (g.C.Cover.rows c.args.new.now) c.loop-i.i c.loop-i.at c.loop-i.invariant (omega (arith, c.len-i-end.ensures.count, c.loop-i-test.false))
