use Rattle.std.proofs.Common.{◌≡◌, ◌≤◌, ap, arith, length}
use Rattle.std.proofs.lemmas.Fmt.{length-decimal-le}
use Rattle.frame_screens.proofs.header.price_text.Goals as goal

pub push_str-requires : goal.push_str-requires
push_str-requires c =
    let small : c.args.price ≤ 9999 = c.get.ensures.in_range in
    let is : c.get.result ≡ c.args.price = c.get.ensures.value in
    omega (arith, ap length c.format-digits.ensures.text, ap length c.new-text.ensures, length-decimal-le 4 c.get.result (omega arith) (omega arith) (omega arith))

pub push_str-requires-2 : goal.push_str-requires-2
push_str-requires-2 c =
    let small : c.args.price ≤ 9999 = c.get.ensures.in_range in
    let is : c.get.result ≡ c.args.price = c.get.ensures.value in
    omega (arith, c.push_str.ensures.len, ap length c.format-digits.ensures.text, ap length c.new-text.ensures, length-decimal-le 4 c.get.result (omega arith) (omega arith) (omega arith))
