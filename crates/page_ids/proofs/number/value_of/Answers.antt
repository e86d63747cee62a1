use Rattle.std.proofs.Common.{◌+◌, get_or, arith}
use Rattle.std.proofs.lemmas.Str.Parse.{digit_at, digits_value-take-le}
use Rattle.std.proofs.lemmas.Int.Digits.{digits_value_more, digits_more}
use Rattle.page_ids.proofs.Numerals.{digit_is}
use Rattle.std.proofs.lemmas.Grind.{common_steps}
use Rattle.page_ids.proofs.number.value_of.Goals as goal

pub returns-then-not-is_ascii_digit : goal.returns-then-not-is_ascii_digit
returns-then-not-is_ascii_digit c h =
    let r = digit_at c.args.digits.now c.loop-digit.digit-index h.0 c.loop-digit-test.true in
    let e = c.if-not-is_ascii_digit.ensures in
    grind (arith, common_steps, r, e.cases)

pub returns-then-next-gt4294967295 : goal.returns-then-next-gt4294967295
returns-then-next-gt4294967295 c h =
    let r = digit_at c.args.digits.now c.loop-digit.digit-index h.0 c.loop-digit-test.true in
    let is = digit_is (get_or c.args.digits.now c.loop-digit.digit-index 0) r.0 r.1 in
    let more = digits_value_more 10 c.args.digits.now c.loop-digit.digit-index c.loop-digit-test.true in
    let le = digits_value-take-le 10 c.args.digits.now (c.loop-digit.digit-index + 1) (omega arith) in
    let value = c.loop-digit.invariant.value in
    omega (arith, is, more, le, value)

pub loop-digit-preserved : goal.loop-digit-preserved
loop-digit-preserved c =
    let more = digits_value_more 10 c.args.digits.now c.loop-digit.digit-index c.loop-digit-test.true in
    let e = c.if-not-is_ascii_digit.ensures.cases in
    let is = digit_is (get_or c.args.digits.now c.loop-digit.digit-index 0) e.0 e.1 in
    record {
      digits = digits_more 10 c.args.digits.now c.loop-digit.digit-index c.loop-digit-test.true c.loop-digit.invariant.digits (c.if-not-is_ascii_digit.ensures.bound);
      value = omega (arith, is, more);
      small = omega arith;
    }
