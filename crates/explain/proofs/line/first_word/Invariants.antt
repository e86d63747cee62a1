use Rattle.std.proofs.Common.{ℕ, ◌<◌}
use Rattle.explain.specs.Loops.{texts_of}
use Rattle.explain.specs.Lines.{HasWordAt}
use Rattle.explain.proofs.line.first_word.Given as goal

-- none is at a place before
abbrev pub invariant-loop-at : goal.invariant-loop-at
invariant-loop-at l = (j : ℕ) → j < l.at → ¬ (HasWordAt l.sought (texts_of l.names) l.line j)
