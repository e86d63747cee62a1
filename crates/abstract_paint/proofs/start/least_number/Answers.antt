use Rattle.std.proofs.Common.{◌≡◌, ℕ, true, false, rules, tests}
use Rattle.std.proofs.lemmas.Iterator.{first_from_Range}
use Rattle.abstract_paint.specs.Start.{caret_numbered, start_touches, least_number}
use Rattle.abstract_paint.proofs.LeastStart.{found_below}
use Rattle.abstract_paint.proofs.start.least_number.Goals as goal

pub returns : goal.returns
unfolding least_number
returns c =
    let test = λ (n : ℕ). start_touches c.args.lead c.args.body.now c.args.offset (caret_numbered n) in
    found_below test 1920 c.find.result (first_from_Range _ _ _ c.find.result (λ n. test n ≡ true) (λ n. test n ≡ false) c.find.ensures.ran (λ x q k. search (rules, tests)) (λ x q k. search (rules, tests)))
