use Rattle.base_pages.proofs.Numbering.{number_more}
use Rattle.base_pages.proofs.index.number_all.Goals as goal

pub loop-number-preserved : goal.loop-number-preserved
loop-number-preserved c =
    number_more c.args.faults.now c.loop-number.number c.index-faults-number.result c.loop-number.list.items c.number_one.new.list.items
    c.index-faults-number.is c.loop-number-test.true c.in_ok-number_one.ensures c.loop-number.invariant
