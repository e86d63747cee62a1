use Rattle.lint_words.proofs.fault_words.push_missing_page.Goals as goal

pub returns : goal.returns
returns c = rw c.as_slice.ensures.value at c.say.ensures
