use Rattle.lint_words.proofs.fault_words.push_price.Goals as goal

pub returns : goal.returns
returns c =
    rw (c.from.ensures, c.get.ensures.value, c.from-2.ensures, c.get-2.ensures.value, c.as_slice.ensures.value) at c.say.ensures
