use Rattle.std.proofs.Common.{ℕ, ◌<◌, [], get_or}
use Rattle.explain.specs.Words.{IsSame}
use Rattle.explain.specs.Loops.{texts_of}
use Rattle.explain.proofs.word.place_among.Given as goal

-- none so far is the word
abbrev pub invariant-loop-place : goal.invariant-loop-place
invariant-loop-place l = (j : ℕ) → j < l.place → ¬ (IsSame (get_or (texts_of l.words) j []) l.word)
