use Rattle.std.proofs.Common.{length}
use Rattle.lint_words.proofs.piece.+push_pieces.Given as goal

-- the pieces that are left
abbrev pub decreases-push_pieces : goal.decreases-push_pieces
decreases-push_pieces l = length l.pieces.now
