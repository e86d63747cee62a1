use Rattle.std.proofs.Common.{◌≡◌, ◌∙◌, [], ap, sym, get_or, true}
use Rattle.explain.specs.Loops.{texts_of}
use Rattle.explain.specs.Lines.{is_word}
use Rattle.explain.proofs.Places.{none_yet, not_word}
use Rattle.explain.proofs.line.word_at.Goals as goal

pub loop-place-preserved : goal.loop-place-preserved
loop-place-preserved c =
    let names = c.args.names.now in
    let differs = ap (is_word c.args.sought c.args.line.now c.args.at) (sym c.as_bytes.ensures.value) ∙ (sym c.is_word.ensures ∙ c.if-is_word.false) in
    none_yet (λ j. is_word c.args.sought c.args.line.now c.args.at (get_or (texts_of names) j []) ≡ true) c.loop-place.place c.loop-place.invariant
    (not_word names c.args.sought c.args.line.now c.args.at c.loop-place.place _ c.loop-place-test.true differs)
