use Rattle.line_keys.proofs.Words.{words_are_heard}
use Rattle.line_keys.proofs.laws.words_are_heard.Goals as goal

pub returns : goal.returns
returns c = words_are_heard
