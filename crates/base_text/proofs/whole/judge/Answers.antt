use Rattle.std.proofs.Common.{◌≡◌, ◌∙◌, ◌==◌, Bool, true, List, [], length, map, subst, sym, arith}
use Rattle.std.proofs.lemmas.Bool.Decides.{nat_tests}
use Rattle.std.proofs.lemmas.List.{nil_from_length}
use Rattle.base_text.specs.declared.whole_fault.WholeFault.{WholeFault}
use Rattle.frame_records.specs.Bases.{IsBaseOf}
use Rattle.base_text.specs.Drafts.{framed}
use Rattle.base_text.specs.WholeFaults.{AreOrderedFaults}
use Rattle.base_text.proofs.WholeAgreements.{sound}
use Rattle.base_text.proofs.whole.judge.Goals as goal

none_left : (xs ys : List WholeFault) (empty : Bool) → ys ≡ xs → empty ≡ (length ys == 0) → empty ≡ true → xs ≡ []
none_left xs ys empty same tests is = sym same ∙ nil_from_length ys (grind (arith, nat_tests, sym tests ∙ is))

pub base_of-requires : goal.base_of-requires
base_of-requires c =
    let none = none_left _ _ _ c.as_slice.ensures.value c.is_empty.ensures c.if-is_empty.true in
    (sound c.args.entry c.args.outside.items c.whole_faults.new.outside.items c.args.frames.items c.whole_faults.new.frames.items c.in_ok-faults.faults.items c.in_ok-faults.ensures none).valid

pub returns-in_ok-base_of-clause-base : goal.returns-in_ok-base_of-clause-base
returns-in_ok-base_of-clause-base c =
    let none = none_left _ _ _ c.as_slice.ensures.value c.is_empty.ensures c.if-is_empty.true in
    subst (IsBaseOf c.args.entry c.args.outside.items (map framed c.args.frames.items)) (sym c.in_ok-base_of.ensures)
    (sound c.args.entry c.args.outside.items c.whole_faults.new.outside.items c.args.frames.items c.whole_faults.new.frames.items c.in_ok-faults.faults.items c.in_ok-faults.ensures none)

pub returns-in_ok-base_of-clause-sound : goal.returns-in_ok-base_of-clause-sound
returns-in_ok-base_of-clause-sound c =
    let none = none_left _ _ _ c.as_slice.ensures.value c.is_empty.ensures c.if-is_empty.true in
    let pages = c.whole_faults.new.outside.items in
    let frames = c.whole_faults.new.frames.items in
    (pages, frames, subst (AreOrderedFaults c.args.outside.items c.args.frames.items pages frames) none c.in_ok-faults.ensures)
