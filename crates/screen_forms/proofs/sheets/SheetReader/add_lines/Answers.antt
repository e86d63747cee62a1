use Rattle.std.proofs.Common.{◌≡◌, ◌∷◌, [], Ok, Err, arith, rules}
use Rattle.page_ids.specs.Parts.{parts_of}
use Rattle.screen_forms.specs.Loops.{sheet_of}
use Rattle.screen_forms.specs.Sheets.{then_lines}
use Rattle.screen_forms.proofs.Pages.{fault_after, sheet_after, sheet_at_last}
use Rattle.screen_forms.proofs.sheets.SheetReader.add_lines.Goals as goal

pub returns-in_err-add_line : goal.returns-in_err-add_line
returns-in_err-add_line c =
    let whole = then_lines (Ok (sheet_of c.args.self.now)) 1 (parts_of 10 c.args.text.now) in
    let parts : parts_of 10 c.loop-text.left.now ≡ c.in-Some.text.now ∷ parts_of 10 c.in-Some.rest.now = c.in-Some.ensures.parts in
    let same : c.from_residual.result ≡ Err c.in_err-add_line.field-0.0 = search rules in
    rw same (fault_after (sheet_of c.loop-text.self) c.loop-text.line (parts_of 10 c.loop-text.left.now) c.in-Some.text.now c.in-Some.rest.now c.without_return.result.now whole c.add_line.new.self c.loop-text.invariant.all c.in_err-add_line.field-0.0 parts c.without_return.ensures c.in_err-add_line.ensures)

pub loop-text-preserved : goal.loop-text-preserved
loop-text-preserved c =
    let whole = then_lines (Ok (sheet_of c.args.self.now)) 1 (parts_of 10 c.args.text.now) in
    let parts : parts_of 10 c.loop-text.left.now ≡ c.in-Some.text.now ∷ parts_of 10 c.in-Some.rest.now = c.in-Some.ensures.parts in
    record {
      all = sheet_after (sheet_of c.loop-text.self) c.loop-text.line (parts_of 10 c.loop-text.left.now) c.in-Some.text.now c.in-Some.rest.now c.without_return.result.now whole c.add_line.new.self c.loop-text.invariant.all tt parts c.without_return.ensures c.in_ok-add_line.ensures;
      few = omega (arith, c.loop-text.invariant.few, c.in-Some.ensures.shorter);
    }

pub returns : goal.returns
returns c =
    let whole = then_lines (Ok (sheet_of c.args.self.now)) 1 (parts_of 10 c.args.text.now) in
    let parts : parts_of 10 c.loop-text.left.now ≡ c.loop-text.left.now ∷ [] = c.in_default.ensures.parts in
    sheet_at_last (sheet_of c.loop-text.self) c.loop-text.line (parts_of 10 c.loop-text.left.now) c.loop-text.left.now [] [] whole c.add_line-2.new.self c.loop-text.invariant.all c.add_line-2.result parts c.add_line-2.ensures
