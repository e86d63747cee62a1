use Rattle.std.proofs.Common.{◌-◌, rules, arith}
use Rattle.std.proofs.lemmas.Grind.{common_steps}
use Rattle.toml_places.proofs.StringTurns.{content_turn}
use Rattle.toml_places.proofs.strings.after_content.Goals as goal

pub returns-in_err-step-clause-value : goal.returns-in_err-step-clause-value
returns-in_err-step-clause-value c n h =
    let l = c.steps in
    let (m, room, loop) = l.invariant.2 n h in
    let turn = content_turn c.args.delim c.args.multi m l.rest.now room in
    grind (arith, common_steps)

pub returns-then-is_end-clause-value : goal.returns-then-is_end-clause-value
returns-then-is_end-clause-value c n h =
    let l = c.steps in
    let (m, room, loop) = l.invariant.2 n h in
    let turn = content_turn c.args.delim c.args.multi m l.rest.now room in
    grind (arith, common_steps)

pub steps-preserved : goal.steps-preserved
steps-preserved c =
    let l = c.steps in
    let shorter = c.in_ok-step.ensures.shorter in (
      search rules,
      omega (arith, l.invariant.1),
      λ n h.
          let (m, room, loop) = l.invariant.2 n h in
          let turn = content_turn c.args.delim c.args.multi m l.rest.now room in
          (m - 1, omega arith, grind (arith, common_steps)),
    )
