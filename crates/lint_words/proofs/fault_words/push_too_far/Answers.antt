use Rattle.lint_words.proofs.fault_words.push_too_far.Goals as goal

pub returns : goal.returns
returns c = rw (c.from.ensures, c.from-2.ensures, c.as_slice.ensures.value) at c.say.ensures
