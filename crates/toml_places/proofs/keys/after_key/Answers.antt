use Rattle.std.proofs.Common.{◌≡◌, ◌+◌, ◌-◌, rules, arith}
use Rattle.std.proofs.lemmas.Grind.{common_steps}
use Rattle.std.proofs.lemmas.Bool.Decides.{nat_tests}
use Rattle.toml_places.proofs.StringTurns.{key_turn, key_none}
use Rattle.toml_places.proofs.keys.after_key.Goals as goal

pub returns-in_err-after-clause-value : goal.returns-in_err-after-clause-value
returns-in_err-after-clause-value c =
    let l = c.parts in
    let turn = key_turn (80 - l._part) l.rest.now (omega arith) in
    grind (arith, common_steps)

pub returns-then-first-ne46-clause-value : goal.returns-then-first-ne46-clause-value
returns-then-first-ne46-clause-value c =
    let l = c.parts in
    let turn = key_turn (80 - l._part) l.rest.now (omega arith) in
    grind (arith, nat_tests, common_steps)

pub parts-preserved : goal.parts-preserved
parts-preserved c =
    let l = c.parts in
    let turn = key_turn (80 - l._part) l.rest.now (omega arith) in
    let less : 80 - (l._part + 1) ≡ 80 - l._part - 1 = omega arith in (
      search rules,
      omega (arith, l.invariant.1, c.in_ok-after.ensures.shorter, c.skip_ws-end.ensures.within, c.skip.ensures.shorter, c.skip_ws-rest.ensures.within),
      rw less (grind (arith, nat_tests, common_steps)),
    )

pub returns-clause-value : goal.returns-clause-value
returns-clause-value c =
    let l = c.parts in
    let none : 80 - l._part ≡ 0 = omega arith in
    let ends = key_none l.rest.now in
    grind (arith, common_steps)
