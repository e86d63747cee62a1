use Rattle.std.proofs.Common.{◌≡◌, ◌==◌, ◌||◌, ◌-◌, ◌<◌, true, false, length, rules, arith}
use Rattle.std.proofs.lemmas.Grind.{common_steps}
use Rattle.toml_parser.specs.Lexical.{first}
use Rattle.toml_places.specs.Values.{after_value}
use Rattle.toml_places.proofs.SkipTurns.{members_turn, value_atom, value_array, value_table, value_deep}
use Rattle.toml_places.proofs.values.+after_value.Goals as goal

pub after_members-returns-then-first-closing-clause-value : goal.after_members-returns-then-first-closing-clause-value
after_members-returns-then-first-closing-clause-value c c' n h =
    let l = c'.members in
    let (m, room, loop) = l.invariant.2 n h in
    let turn = members_turn (after_value c'.args.depth) c'.args.closing m l.rest.now room in
    grind (arith, common_steps)

pub after_members-returns-in_err-after-clause-value : goal.after_members-returns-in_err-after-clause-value
after_members-returns-in_err-after-clause-value c c' n h =
    let l = c'.members in
    let (m, room, loop) = l.invariant.2 n h in
    let turn = members_turn (after_value c'.args.depth) c'.args.closing m l.rest.now room in
    grind (arith, common_steps)

pub after_members-returns-in_err-rest-clause-value : goal.after_members-returns-in_err-rest-clause-value
after_members-returns-in_err-rest-clause-value c c' n h =
    let l = c'.members in
    let (m, room, loop) = l.invariant.2 n h in
    let turn = members_turn (after_value c'.args.depth) c'.args.closing m l.rest.now room in
    grind (arith, common_steps)

pub after_members-members-preserved : goal.after_members-members-preserved
after_members-members-preserved c c' =
    let l = c'.members in
    let shorter = c'.in_ok-after.ensures.shorter in
    let within = c'.in_ok-rest.ensures.within in
    let before = c'.skip_blank-start.ensures.within in (
      search rules,
      omega (arith, l.invariant.1),
      λ n h.
          let (m, room, loop) = l.invariant.2 n h in
          let turn = members_turn (after_value c'.args.depth) c'.args.closing m l.rest.now room in
          (m - 1, omega arith, grind (arith, common_steps)),
    )

pub after_value-returns-then-byte-ne123-clause-value : goal.after_value-returns-then-byte-ne123-clause-value
after_value-returns-then-byte-ne123-clause-value c c' =
    let s = c'.args.text.now in
    let a : (first s == 91) ≡ false = grind (arith, common_steps) in
    let b : (first s == 123) ≡ false = grind (arith, common_steps) in
    rw (value_atom c'.args.depth s a b) c'.after_atom.ensures.value

pub after_value-returns-then-depth-eq0-clause-value : goal.after_value-returns-then-depth-eq0-clause-value
after_value-returns-then-depth-eq0-clause-value c c' =
    let s = c'.args.text.now in
    let bracket : ((first s == 91) || (first s == 123)) ≡ true = grind (arith, common_steps) in
    let zero : c'.args.depth ≡ 0 = omega arith in
    let none = value_deep s bracket in
    rw zero (grind (arith, common_steps))

pub after_value-returns-then-byte-eq91-clause-value : goal.after_value-returns-then-byte-eq91-clause-value
after_value-returns-then-byte-eq91-clause-value c c' =
    let s = c'.args.text.now in
    let some : 0 < c'.args.depth = omega arith in
    let a : (first s == 91) ≡ true = grind (arith, common_steps) in
    rw (value_array c'.args.depth s some a, ← c'.skip-inside.ensures.rest)
    (c'.after_members.ensures.value (length s) c'.skip-inside.ensures.shorter)

pub after_value-returns-else-byte-eq91-clause-value : goal.after_value-returns-else-byte-eq91-clause-value
after_value-returns-else-byte-eq91-clause-value c c' =
    let s = c'.args.text.now in
    let some : 0 < c'.args.depth = omega arith in
    let a : (first s == 91) ≡ false = grind (arith, common_steps) in
    let b : (first s == 123) ≡ true = grind (arith, common_steps) in
    rw (value_table c'.args.depth s some a b, ← c'.skip-inside.ensures.rest)
    (c'.after_members-else-byte-eq91.ensures.value (length s) c'.skip-inside.ensures.shorter)
