use Rattle.std.proofs.Common.{◌≡◌, ◌+◌, ◌-◌, rules, arith}
use Rattle.std.proofs.lemmas.Grind.{common_steps}
use Rattle.toml_places.proofs.StringTurns.{part_turn, part_here}
use Rattle.toml_places.proofs.keys.part_from.Goals as goal

pub returns-in_err-after_part-clause-value : goal.returns-in_err-after_part-clause-value
returns-in_err-after_part-clause-value c =
    let l = c.parts in
    let turn = part_turn (c.args.part - l._part) l.rest.now (omega arith) in
    grind (arith, common_steps)

pub returns-in_err-rest-clause-value : goal.returns-in_err-rest-clause-value
returns-in_err-rest-clause-value c =
    let l = c.parts in
    let turn = part_turn (c.args.part - l._part) l.rest.now (omega arith) in
    grind (arith, common_steps)

pub parts-preserved : goal.parts-preserved
parts-preserved c =
    let l = c.parts in
    let turn = part_turn (c.args.part - l._part) l.rest.now (omega arith) in
    let less : c.args.part - (l._part + 1) ≡ c.args.part - l._part - 1 = omega arith in
    let shorter = c.in_ok-after_part.ensures.shorter in
    let next = c.in_ok-rest.ensures.shorter in (
      search rules,
      omega (arith, l.invariant.1),
      rw less (grind (arith, common_steps)),
    )

pub returns-clause-value : goal.returns-clause-value
returns-clause-value c =
    let l = c.parts in
    let none : c.args.part - l._part ≡ 0 = omega arith in
    let ends = part_here l.rest.now in
    grind (arith, common_steps)
