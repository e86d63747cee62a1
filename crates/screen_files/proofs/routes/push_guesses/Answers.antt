use Rattle.std.proofs.Common.{◌∙◌, ap, arith, not, sym}
use Rattle.std.proofs.lemmas.Grind.{common_steps}
use Rattle.screen_files.specs.Routes.{guessed_routes}
use Rattle.screen_files.proofs.Guesses.{guess_here, guess_past, no_more_guesses, some_by_length, some_more, still_longer}
use Rattle.screen_files.proofs.routes.push_guesses.Goals as goal
use Rattle.screen_files.proofs.routes.push_guesses.Goals.{in-Some+in_ok-push_pair, in_default}

pub loop-digit-preserved : goal.loop-digit-preserved
loop-digit-preserved c =
    let known = c.args.known.now in
    let page = c.args.page in
    let all = c.args.looks.now in
    let first = c.loop-digit.is_first in
    let out = c.loop-digit.out.items in
    let d = c.loop-digit.digit in
    elim c.match-guessed.branch [
      | in-Some+in_ok-push_pair w ↦ record {
        rest = grind (arith, common_steps, guess_here known page all first out d w.in-Some.to, c.loop-digit.invariant.rest);
        none = grind (arith, common_steps, some_more c.args.out.now.items out first d w.in-Some.to, c.loop-digit.invariant.longer);
        longer = grind (arith, common_steps, still_longer c.args.out.now.items out first d w.in-Some.to, c.loop-digit.invariant.longer);
      }
      | in_default w ↦ record {
        rest = grind (arith, common_steps, guess_past known page all first d, c.loop-digit.invariant.rest);
        none = grind (arith, common_steps, c.loop-digit.invariant.none);
        longer = grind (arith, common_steps, c.loop-digit.invariant.longer);
      }
    ]

pub returns : goal.returns
returns c =
    let known = c.args.known.now in
    let page = c.args.page in
    let all = c.args.looks.now in
    let appended = sym (no_more_guesses known page all c.loop-digit.is_first c.loop-digit.out.items c.loop-digit.digit (omega arith))
    ∙ c.loop-digit.invariant.rest in
    record {
      appended = appended;
      are_some = ap not c.loop-digit.invariant.none
          ∙ some_by_length c.args.out.now.items c.loop-digit.out.items (guessed_routes known page all) appended;
    }
