use Rattle.std.proofs.Common.{length}
use Rattle.explain.proofs.cursor.+is_end.Given as goal

-- the bytes that are left
abbrev pub decreases-is_end : goal.decreases-is_end
decreases-is_end l = length l.bytes.now
