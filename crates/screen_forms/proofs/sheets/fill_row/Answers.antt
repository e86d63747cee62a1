use Rattle.std.proofs.Common.{◌∙◌, length, arith}
use Rattle.std.proofs.lemmas.List.{length-set}
use Rattle.screen_forms.specs.Sheets.{sheet_cells}
use Rattle.screen_forms.proofs.Pages.{cell_more, cells_done}
use Rattle.screen_forms.proofs.sheets.fill_row.Goals as goal

pub loop-at-preserved : goal.loop-at-preserved
loop-at-preserved c =
    let n = length c.args.row.now in
    record {
      cells = cell_more c.loop-at.row c.loop-at.left.now (sheet_cells n c.args.text.now) n c.loop-at.at c.loop-at.invariant.long c.loop-at.invariant.cells c.first_cell.result c.after_cell-left.result.now (omega (arith, c.loop-at-test.true, c.loop-at.invariant.long)) c.first_cell.ensures c.after_cell-left.ensures;
      long = length-set c.loop-at.row c.loop-at.at c.first_cell.result ∙ c.loop-at.invariant.long;
    }

pub returns : goal.returns
returns c =
    let n = length c.args.row.now in
    cells_done c.loop-at.row c.loop-at.left.now (sheet_cells n c.args.text.now) n c.loop-at.at c.loop-at.invariant.long c.loop-at.invariant.cells (omega (arith, c.loop-at-test.false, c.loop-at.invariant.long))
