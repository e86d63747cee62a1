use Rattle.std.proofs.Common.{refl, inl}
use Rattle.explain.proofs.Places.{is_among_same}
use Rattle.explain.specs.Loops.{texts_of}
use Rattle.explain.specs.Listed.{listed_words}
use Rattle.explain.proofs.word.explanation.Goals as goal

pub returns-in-Some : goal.returns-in-Some
returns-in-Some c =
    ((λ _. inl (is_among_same (texts_of c.words.result.now) listed_words c.args.word.now c.words.ensures (c.in-Some.ensures.0 refl))), (λ _. refl))
