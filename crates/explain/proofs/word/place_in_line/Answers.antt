use Rattle.std.proofs.Common.{refl, sym}
use Rattle.explain.specs.declared.line.WordKind.TheVariants.{Code, Capital, Any}
use Rattle.explain.specs.Listed.{listed_words}
use Rattle.explain.specs.Loops.{texts_of}
use Rattle.explain.proofs.Places.{has_word}
use Rattle.explain.proofs.word.place_in_line.Goals as goal

pub returns-in-Some : goal.returns-in-Some
returns-in-Some c = (
  λ _. has_word Code (texts_of c.words.result.now) listed_words c.as_bytes-bytes.result.now c.args.line.now c.words.ensures c.as_bytes-bytes.ensures.value
      (c.in-Some.ensures.0 refl),
  λ _. refl,
)

pub returns-in-Some-first_word : goal.returns-in-Some-first_word
returns-in-Some-first_word c = (
  λ _. has_word Capital (texts_of c.words-2.result.now) listed_words c.as_bytes-bytes.result.now c.args.line.now c.words-2.ensures c.as_bytes-bytes.ensures.value
      (c.in-Some-first_word.ensures.0 refl),
  λ _. refl,
)

pub returns : goal.returns
returns c =
    let names = texts_of c.words-3.result.now in
    let bytes = c.as_bytes-bytes.result.now in (
      λ some. has_word Any names listed_words bytes c.args.line.now c.words-3.ensures c.as_bytes-bytes.ensures.value (c.first_word-3.ensures.0 some),
      λ h. c.first_word-3.ensures.1 (has_word Any listed_words names c.args.line.now bytes (sym c.words-3.ensures) (sym c.as_bytes-bytes.ensures.value) h),
    )
