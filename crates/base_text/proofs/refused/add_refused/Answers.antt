use Rattle.std.proofs.Common.{◌≡◌, ◌+◌, ◌-◌, rules, true, false, chars, length, arith, sym}
use Rattle.std.specs.Str.Iter.{chars_rest}
use Rattle.std.proofs.lemmas.Str.{IsUtf8-past_char, chars_past_char}
use Rattle.base_text.specs.Rows.{may_hold, refused}
use Rattle.base_text.proofs.CodePoints.{empty, refused_here, passed_here, one_listed, others_counted, shorter}
use Rattle.base_text.proofs.refused.add_refused.Goals as goal

pub returns-then-left-eq0 : goal.returns-then-left-eq0
returns-then-left-eq0 c =
    let held = c.loop-code.invariant in
    let n = c.loop-code.number + 1 in
    let cs = chars (chars_rest c.next.new.self) in
    let step = chars_past_char _ _ c.in-Some.code held.utf8 c.in-Some.ensures.steps.0 in
    let bad : may_hold c.args.holder c.in-Some.code ≡ false = search rules in
    let none : c.loop-code.left ≡ 0 = search rules in
    let here = refused_here c.args.holder n c.in-Some.code cs bad in
    let count = rw (step, here) at held.count in
    let more : c.count_refused-count.result - 10 ≡ length (refused c.args.holder (n + 1) cs) + 1 = omega (arith, count, none) in
    let so_far = rw (step, here, others_counted c.args.holder c.loop-code.left (n, c.in-Some.code) (refused c.args.holder (n + 1) cs) none) at held.so_far in
    rw (so_far, ← more, ← c.more_codes.ensures) c.add.ensures

pub loop-code-preserved-then-not-may_hold : goal.loop-code-preserved-then-not-may_hold
loop-code-preserved-then-not-may_hold c =
    let held = c.loop-code.invariant in
    let n = c.loop-code.number + 1 in
    let cs = chars (chars_rest c.next.new.self) in
    let parts = c.in-Some.ensures.steps.0 in
    let step = chars_past_char _ _ c.in-Some.code held.utf8 parts in
    let bad : may_hold c.args.holder c.in-Some.code ≡ false = search rules in
    let some : c.loop-code.left ≡ c.loop-code.left - 1 + 1 = search rules in
    let here = refused_here c.args.holder n c.in-Some.code cs bad in
    let count = rw (step, here) at held.count in
    let left = held.left in
    let so_far = rw (step, here, one_listed c.args.holder c.loop-code.left (c.loop-code.left - 1) (n, c.in-Some.code) (refused c.args.holder (n + 1) cs) some) at held.so_far in
    record {
      utf8 = IsUtf8-past_char _ _ c.in-Some.code held.utf8 parts;
      number = shorter _ _ c.in-Some.code c.loop-code.number _ parts held.number;
      left = omega (arith, left);
      count = omega (arith, count, some);
      so_far = rw (c.in_ok-add.ensures, c.refused_code.ensures) so_far;
    }

pub loop-code-preserved : goal.loop-code-preserved
loop-code-preserved c =
    let held = c.loop-code.invariant in
    let n = c.loop-code.number + 1 in
    let cs = chars (chars_rest c.next.new.self) in
    let parts = c.in-Some.ensures.steps.0 in
    let step = chars_past_char _ _ c.in-Some.code held.utf8 parts in
    let good : may_hold c.args.holder c.in-Some.code ≡ true = search rules in
    let here = passed_here c.args.holder n c.in-Some.code cs good in
    record {
      utf8 = IsUtf8-past_char _ _ c.in-Some.code held.utf8 parts;
      number = shorter _ _ c.in-Some.code c.loop-code.number _ parts held.number;
      left = held.left;
      count = rw (step, here) at held.count;
      so_far = rw (step, here) at held.so_far;
    }

pub returns : goal.returns
returns c =
    let held = c.loop-code.invariant in
    let done = empty _ c.in-None.ensures.steps.0.0 in
    let so_far = rw done at held.so_far in
    sym so_far
