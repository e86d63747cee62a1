use Rattle.std.proofs.Common.{◌∙◌, ◌++◌, ℕ, List, ap, arith, length}
use Rattle.std.proofs.lemmas.List.{length-replicate}
use Rattle.frame_screens.proofs.Cells.{blank_before, on_ok}
use Rattle.frame_screens.proofs.header.push_blank.Goals as goal

pub returns-clause-items : goal.returns-clause-items
returns-clause-items c =
    let blank = blank_before c.args.columns (omega arith) in
    let fits = c.try_extend_from_slice.ensures.variant.1 (omega (arith, ap length blank, length-replicate {A = ℕ} c.args.columns 32)) in
    on_ok c.try_extend_from_slice.result fits c.try_extend_from_slice.ensures.ok ∙ ap (λ (xs : List ℕ). c.args.row.now.items ++ xs) blank
