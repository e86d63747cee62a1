use Rattle.lint_words.proofs.text_words.push_shown_detail.Goals as goal

pub returns-in-BodyCode : goal.returns-in-BodyCode
returns-in-BodyCode c = rw c.in-BodyCode.is c.say-in-BodyCode.ensures

pub returns-in-TooManyRows : goal.returns-in-TooManyRows
returns-in-TooManyRows c = rw c.in-TooManyRows.is c.say-in-TooManyRows.ensures
