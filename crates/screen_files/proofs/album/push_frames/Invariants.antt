use Rattle.std.proofs.Common.{◌≡◌, ◌++◌, length}
use Rattle.screen_files.specs.Album.{frames_text, first_over}
use Rattle.screen_files.proofs.album.push_frames.Given as goal

-- what is written and what is left make up the text, and the first frame that ends too late is in what is left
abbrev pub invariant-loop-filed : goal.invariant-loop-filed
invariant-loop-filed l =
    (l.out.items ++ frames_text l.known l.rest ≡ l.fn.out.items ++ frames_text l.known l.frames)
    × (first_over l.known (length l.out.items) l.rest ≡ first_over l.known (length l.fn.out.items) l.frames)

abbrev pub decreases-loop-filed : goal.decreases-loop-filed
decreases-loop-filed l = length l.rest
