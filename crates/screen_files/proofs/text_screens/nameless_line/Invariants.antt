use Rattle.std.proofs.Common.{◌≡◌, length}
use Rattle.screen_files.specs.Files.{nameless_line}
use Rattle.screen_files.proofs.text_screens.nameless_line.Given as goal

-- the first without an id is in what is left
abbrev pub invariant-loop-screen : goal.invariant-loop-screen
invariant-loop-screen l = nameless_line l.name l.left ≡ nameless_line l.name l.screens

abbrev pub decreases-loop-screen : goal.decreases-loop-screen
decreases-loop-screen l = length l.left
