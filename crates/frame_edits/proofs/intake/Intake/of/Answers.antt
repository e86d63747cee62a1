use Rattle.std.proofs.Common.{◌≡◌, ◌∙◌, ◌∷◌, ap, length, rules, sym}
use Rattle.std.proofs.lemmas.List.{nil_from_length}
use Rattle.frame_edits.specs.Merging.{IntakeView, fate_of, intake_from, is_shown, taken_by}
use Rattle.frame_edits.proofs.Intakes.{at_end, one_more, without_places}
use Rattle.frame_edits.proofs.intake.Intake.of.Goals as goal

pub returns-in_default-split_first : goal.returns-in_default-split_first
returns-in_default-split_first c =
    let i = c.loop-filed.intake in
    let places = c.loop-filed.their_places.now in
    let frames = c.loop-filed.rest.now in
    let is : frames ≡ c.in-Some.filed.now ∷ c.in-Some.more.now = search rules in
    let empty : length places ≡ 0 = search rules in
    sym (without_places c.args.base.now i places frames c.in-Some.more.now c.in-Some.filed.now is (nil_from_length places empty)) ∙ c.loop-filed.invariant

pub loop-filed-preserved : goal.loop-filed-preserved
loop-filed-preserved c =
    let i = c.loop-filed.intake in
    let places = c.loop-filed.their_places.now in
    let frames = c.loop-filed.rest.now in
    let f = c.in-Some.filed.now in
    let p = c.in-Some-split_first.place.now in
    let others = c.in-Some-split_first.others.now in
    let is : frames ≡ f ∷ c.in-Some.more.now = search rules in
    let here : places ≡ p ∷ others = search rules in
    let took : c.take.new.self ≡ taken_by i f (fate_of p (is_shown c.args.base.now f.frame)) = search rules in
    ap (λ (j : IntakeView). intake_from c.args.base.now j others c.in-Some.more.now) took
    ∙ one_more c.args.base.now i places frames c.in-Some.more.now f is p others here ∙ c.loop-filed.invariant

pub returns : goal.returns
returns c =
    let frames = c.loop-filed.rest.now in
    let empty : length frames ≡ 0 = search rules in
    sym (at_end c.args.base.now c.loop-filed.intake c.loop-filed.their_places.now frames (nil_from_length frames empty)) ∙ c.loop-filed.invariant
