use Rattle.std.proofs.Common.{◌≡◌, rules, true, false, chars, arith}
use Rattle.std.specs.Str.Iter.{chars_rest}
use Rattle.std.proofs.lemmas.Str.{IsUtf8-past_char, chars_past_char}
use Rattle.base_text.specs.Rows.{may_hold}
use Rattle.base_text.proofs.CodePoints.{empty, count_passed, count_one, shorter}
use Rattle.base_text.proofs.refused.count_refused.Goals as goal

pub loop-code-preserved-then-not-may_hold : goal.loop-code-preserved-then-not-may_hold
loop-code-preserved-then-not-may_hold c =
    let held = c.loop-code.invariant in
    let parts = c.in-Some.ensures.steps.0 in
    let step = chars_past_char _ _ c.in-Some.code held.utf8 parts in
    let bad : may_hold c.args.holder c.in-Some.code ≡ false = search rules in
    let one = count_one c.args.holder c.in-Some.code (chars (chars_rest c.next.new.self)) bad in
    let so_far = rw (step, one) at held.so_far in
    record {
      utf8 = IsUtf8-past_char _ _ c.in-Some.code held.utf8 parts;
      room = shorter _ _ c.in-Some.code c.loop-code.count _ parts held.room;
      so_far = omega (arith, so_far);
    }

pub loop-code-preserved : goal.loop-code-preserved
loop-code-preserved c =
    let held = c.loop-code.invariant in
    let parts = c.in-Some.ensures.steps.0 in
    let step = chars_past_char _ _ c.in-Some.code held.utf8 parts in
    let good : may_hold c.args.holder c.in-Some.code ≡ true = search rules in
    let shorter = shorter _ _ c.in-Some.code c.loop-code.count _ parts held.room in
    record {
      utf8 = IsUtf8-past_char _ _ c.in-Some.code held.utf8 parts;
      room = omega (arith, shorter);
      so_far = rw (step, count_passed c.args.holder c.in-Some.code (chars (chars_rest c.next.new.self)) good) at held.so_far;
    }

pub returns : goal.returns
returns c =
    let held = c.loop-code.invariant in
    let done = empty _ c.in-None.ensures.steps.0.0 in
    let so_far = rw done at held.so_far in
    omega (arith, so_far)
