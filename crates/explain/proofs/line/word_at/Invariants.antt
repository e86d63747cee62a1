use Rattle.std.proofs.Common.{◌≡◌, ℕ, ◌<◌, [], get_or, true}
use Rattle.explain.specs.Loops.{texts_of}
use Rattle.explain.specs.Lines.{is_word}
use Rattle.explain.proofs.line.word_at.Given as goal

-- none so far is there
abbrev pub invariant-loop-place : goal.invariant-loop-place
invariant-loop-place l = (j : ℕ) → j < l.place → ¬ (is_word l.sought l.line l.at (get_or (texts_of l.names) j []) ≡ true)
