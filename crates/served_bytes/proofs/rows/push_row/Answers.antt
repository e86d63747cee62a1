use Rattle.std.proofs.Common.{◌≡◌, ◌++◌, ℕ, arith, map, subst}
use Rattle.std.specs.List.{range_with_len}
use Rattle.served_bytes.specs.Rows.{cell_in}
use Rattle.served_bytes.proofs.Centre.{row_more, row_whole}
use Rattle.served_bytes.proofs.rows.push_row.Goals as goal

pub loop-column-preserved : goal.loop-column-preserved
loop-column-preserved c =
    row_more c.args.text.now c.args.out.now.items c.loop-column.out.items c.push.new.self.items c.cell_in.result c.loop-column.column
    c.loop-column.invariant c.cell_in.ensures c.in_ok-push.ensures.items

pub returns : goal.returns
returns c =
    let all : c.loop-column.column ≡ 40 = omega (arith, c.loop-column-test.false, c.loop-column.auto.column-end) in
    row_whole c.args.text.now c.args.out.now.items c.loop-column.out.items
    (subst (λ (n : ℕ). c.loop-column.out.items ≡ c.args.out.now.items ++ map (cell_in c.args.text.now) (range_with_len 0 n)) all c.loop-column.invariant)
