use Rattle.std.proofs.Common.{length}
use Rattle.lint_words.proofs.pieces.+push_with_commas.Given as goal

-- the digits that are left
abbrev pub decreases-push_with_commas : goal.decreases-push_with_commas
decreases-push_with_commas l = length l.digits.now
