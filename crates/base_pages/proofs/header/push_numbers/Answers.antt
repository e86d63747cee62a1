use Rattle.std.proofs.Common.{◌≡◌, ◌++◌, List, ℕ, decimal, ap, ◌∙◌}
use Rattle.cert_text.proofs.Written.{numbers_more}
use Rattle.base_pages.proofs.header.push_numbers.Goals as goal

pub loop-i-preserved : goal.loop-i-preserved
loop-i-preserved c =
    let group = c.at-group.result in
    let number : c.from.result ≡ group = c.from.ensures ∙ c.get.ensures.value in
    c.in_ok-push_number.ensures ∙ ap (λ (n : ℕ). c.push.new.self.items ++ decimal n) number
    ∙ ap (λ (t : List ℕ). t ++ decimal group) c.in_ok-push.ensures.items
    ∙ numbers_more c.args.out.now.items c.loop-i.out.items c.args.groups.now c.loop-i.i group c.at-group.ensures
    c.loop-i.invariant
