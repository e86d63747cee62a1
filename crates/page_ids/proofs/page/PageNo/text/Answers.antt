use Rattle.std.proofs.Common.{arith, ◌≤◌, length, ap}
use Rattle.std.proofs.lemmas.Fmt.{length-decimal-le}
use Rattle.page_ids.proofs.page.PageNo.text.Goals as goal

pub push_str-requires : goal.push_str-requires
push_str-requires c =
    let small : c.self.inside.number ≤ 999999999 = c.self.invariant in
    omega (arith, ap length c.format-digits.ensures.text, ap length c.new-text.ensures, length-decimal-le 9 c.self.inside.number (omega arith) (omega arith) (omega arith))
