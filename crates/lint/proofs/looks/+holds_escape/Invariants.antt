use Rattle.std.proofs.Common.{length}
use Rattle.lint.proofs.looks.+holds_escape.Given as goal

-- the codes that are left
abbrev pub decreases-holds_escape : goal.decreases-holds_escape
decreases-holds_escape l = length l.codes.now
