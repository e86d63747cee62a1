use Rattle.std.proofs.Common.{◌∙◌, ◌++◌, ap, sym, arith}
use Rattle.std.proofs.lemmas.List.{append-nil}
use Rattle.screen_forms.proofs.Pages.{rows_none}
use Rattle.screen_forms.proofs.sheet_lines.push_rows.Goals as goal

pub returns : goal.returns
returns c =
    let written = c.loop-number.out.items in
    let none = rows_none c.args.codes.now c.loop-number.number (omega (arith, c.loop-number-test.false)) in
    sym (append-nil written) ∙ ap (λ l. written ++ l) (sym none) ∙ c.loop-number.invariant
