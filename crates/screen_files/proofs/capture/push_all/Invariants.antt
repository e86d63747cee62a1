use Rattle.std.proofs.Common.{◌≡◌, ◌≤◌, ◌++◌, length}
use Rattle.screen_files.specs.declared.capture.TheConstants.{MOST_SHOTS}
use Rattle.screen_files.specs.Captures.{cleared, wound}
use Rattle.screen_files.proofs.capture.push_all.Given as goal

-- the screens so far, then those that the remaining bytes clear, are all of them; the terminal ends up the same
abbrev pub invariant-loop-byte : goal.invariant-loop-byte
invariant-loop-byte l = record {
  shots : l.shots.items ++ cleared (length l.bytes) l.reel l.left ≡ l.fn.shots.items ++ cleared (length l.bytes) l.fn.reel l.bytes;
  reel : wound (length l.bytes) l.reel l.left ≡ wound (length l.bytes) l.fn.reel l.bytes;
  few : length l.fn.shots.items ≤ MOST_SHOTS → length l.shots.items ≤ MOST_SHOTS;
}

abbrev pub decreases-loop-byte : goal.decreases-loop-byte
decreases-loop-byte l = length l.left
