use Rattle.lint_words.proofs.fault_words.push_byte_touches.Goals as goal

pub returns : goal.returns
returns c = rw (c.from.ensures, c.as_slice.ensures.value) at c.say.ensures
