use Rattle.explain.proofs.Places.{none_more, not_at}
use Rattle.explain.specs.Loops.{texts_of}
use Rattle.explain.proofs.word.place_among.Goals as goal

pub loop-place-preserved : goal.loop-place-preserved
loop-place-preserved c =
    none_more (texts_of c.args.words.now) c.args.word.now c.loop-place.place c.loop-place.invariant
    (not_at c.args.words.now c.args.word.now c.loop-place.place _ c.loop-place-test.true c.if-eq_ignore_ascii_case.ensures.test.1)
