use Rattle.std.proofs.Common.{◌≡◌, ◌∷◌, [], true, false, arith}
use Rattle.std.proofs.lemmas.Grind.{common_steps}
use Rattle.page_ids.specs.Parts.{parts_of}
use Rattle.screen_forms.specs.Addresses.{is_number_field}
use Rattle.screen_forms.proofs.Walks.{field_here, field_later, field_none}
use Rattle.screen_forms.proofs.addresses.field_number.Goals as goal

pub returns-then-is_number_field : goal.returns-then-is_number_field
returns-then-is_number_field c =
    let parts : parts_of 58 c.loop-field.left.now ≡ c.in-Some.field.now ∷ parts_of 58 c.in-Some.rest.now = c.in-Some.ensures.parts in
    let is : is_number_field c.in-Some.field.now ≡ true = grind (arith, common_steps, c.is_number_field.ensures.value, c.if-is_number_field.true) in
    grind (arith, common_steps, field_here (parts_of 58 c.loop-field.left.now) c.in-Some.field.now (parts_of 58 c.in-Some.rest.now) parts is, c.loop-field.invariant, c.field_id.ensures)

pub loop-field-preserved : goal.loop-field-preserved
loop-field-preserved c =
    let parts : parts_of 58 c.loop-field.left.now ≡ c.in-Some.field.now ∷ parts_of 58 c.in-Some.rest.now = c.in-Some.ensures.parts in
    let is : is_number_field c.in-Some.field.now ≡ false = grind (arith, common_steps, c.is_number_field.ensures.value, c.if-is_number_field.false) in
    grind (arith, common_steps, field_later (parts_of 58 c.loop-field.left.now) c.in-Some.field.now (parts_of 58 c.in-Some.rest.now) parts is, c.loop-field.invariant)

pub returns-then-is_number_field-2 : goal.returns-then-is_number_field-2
returns-then-is_number_field-2 c =
    let parts : parts_of 58 c.loop-field.left.now ≡ c.loop-field.left.now ∷ [] = c.in_default.ensures.parts in
    let is : is_number_field c.loop-field.left.now ≡ true = grind (arith, common_steps, c.is_number_field-2.ensures.value, c.if-is_number_field-2.true) in
    grind (arith, common_steps, field_here (parts_of 58 c.loop-field.left.now) c.loop-field.left.now [] parts is, c.loop-field.invariant, c.field_id-then-is_number_field-2.ensures)

pub returns : goal.returns
returns c =
    let parts : parts_of 58 c.loop-field.left.now ≡ c.loop-field.left.now ∷ [] = c.in_default.ensures.parts in
    let is : is_number_field c.loop-field.left.now ≡ false = grind (arith, common_steps, c.is_number_field-2.ensures.value, c.if-is_number_field-2.false) in
    grind (arith, common_steps, field_none (parts_of 58 c.loop-field.left.now) c.loop-field.left.now parts is, c.loop-field.invariant)
