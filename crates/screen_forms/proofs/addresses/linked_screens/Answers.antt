use Rattle.std.proofs.Common.{◌≡◌, ◌∷◌, [], Err, rules}
use Rattle.page_ids.specs.Parts.{parts_of}
use Rattle.screen_forms.specs.Addresses.{linked_screens}
use Rattle.screen_forms.proofs.Walks.{fault_in, screens_in}
use Rattle.screen_forms.proofs.addresses.linked_screens.Goals as goal

pub returns-in_err-push_line : goal.returns-in_err-push_line
returns-in_err-push_line c =
    let parts : parts_of 10 c.loop-text.left.now ≡ c.in-Some.text.now ∷ parts_of 10 c.in-Some.rest.now = c.in-Some.ensures.parts in
    let same : c.from_residual.result ≡ Err c.in_err-push_line.field-0.0 = search rules in
    rw same (fault_in c.loop-text.line c.loop-text.screens.items c.push_line.new.screens.items (parts_of 10 c.loop-text.left.now) c.in-Some.text.now (parts_of 10 c.in-Some.rest.now) (linked_screens c.args.text.now) c.in_err-push_line.field-0.0 c.in_err-push_line.ensures c.loop-text.invariant.all parts)

pub returns : goal.returns
returns c =
    let parts : parts_of 10 c.loop-text.left.now ≡ c.loop-text.left.now ∷ [] = c.in_default.ensures.parts in
    screens_in c.loop-text.line c.loop-text.screens.items c.push_line-2.new.screens.items (parts_of 10 c.loop-text.left.now) c.loop-text.left.now (linked_screens c.args.text.now) tt c.in_ok-push_line-2.ensures c.loop-text.invariant.all parts

pub returns-in_err-push_line-2 : goal.returns-in_err-push_line-2
returns-in_err-push_line-2 c =
    let parts : parts_of 10 c.loop-text.left.now ≡ c.loop-text.left.now ∷ [] = c.in_default.ensures.parts in
    let same : c.from_residual-in_err-push_line-2.result ≡ Err c.in_err-push_line-2.field-0.0 = search rules in
    rw same (fault_in c.loop-text.line c.loop-text.screens.items c.push_line-2.new.screens.items (parts_of 10 c.loop-text.left.now) c.loop-text.left.now [] (linked_screens c.args.text.now) c.in_err-push_line-2.field-0.0 c.in_err-push_line-2.ensures c.loop-text.invariant.all parts)
