use Rattle.std.proofs.Common.{rules, append_assoc}
use Rattle.lint_words.proofs.key_pieces.push_item.Goals as goal

pub returns-in_ok-push_nth-in-Outside : goal.returns-in_ok-push_nth-in-Outside
returns-in_ok-push_nth-in-Outside c = rw c.in-Outside.is (search (append_assoc, rules))
