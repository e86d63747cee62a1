use Rattle.std.proofs.Common.{List, take}
use Rattle.finder.specs.declared.found.Discovered.{Discovered}
use Rattle.lint.specs.FrameLines.{AreSentences}
use Rattle.lint.specs.Lint.{ranks_of}
use Rattle.lint.specs.Lookups.{KnowsValues}
use Rattle.lint.proofs.sentences.each_sentence.Given as goal

-- the first faults have their sentences
abbrev pub invariant-loop-fault : goal.invariant-loop-fault
invariant-loop-fault l = (found : List Discovered) → KnowsValues (ranks_of found) l.ranks
    → AreSentences l.lines l.base l.policy found (take l.fault-index l.faults) l.sentences.items
