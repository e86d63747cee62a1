-- The words of a fault of a base as a whole.
use Rattle.std.specs.Prelude.{ℕ, List, ◌++◌, codes, decimal}
use Rattle.page_ids.specs.Ids.{Id, frame_text, page_text}
use Rattle.frame_records.specs.declared.limits.TheConstants.{MOST_LISTED, MOST_BODY}
use Rattle.base_text.specs.declared.whole_fault.WholeFault.{WholeFault}
use Rattle.base_text.specs.declared.whole_fault.WholeFault.TheVariants.{TooManyFrames, TooManyOutside, BodyTooLong, NextAfterZ, Duplicate, OutsideInside}
use Rattle.lint_words.specs.Lines.{line_of}
use Rattle.lint_words.specs.Pieces.{grouped}
use Rattle.lint_words.specs.AboutOf.{whole_about}
use Rattle.lint_words.specs.WordsOf.{WordsView, words_of}
use Rattle.lint_words.specs.declared.code.Code.{Code}
use Rattle.lint_words.specs.declared.code.Code.TheVariants as code

-- more frames, or more outside pages as listed, than a base may have
abbrev pub too_many_words : List ℕ → ℕ → List ℕ → List ℕ
too_many_words has n what =
    has ++ (grouped n ++ (what ++ (codes ", at most " ++ (grouped MOST_LISTED ++ codes " are allowed"))))

abbrev pub long_body_words : Id → ℕ → List ℕ
long_body_words id length =
    codes "the body of frame " ++ (frame_text id ++ (codes " has " ++ (grouped length ++
    (codes " bytes, at most " ++ (grouped MOST_BODY ++ codes " are allowed")))))

-- the line is that of the first frame with the id
abbrev pub whole_message : WholeFault → ℕ → List ℕ
whole_message (TooManyFrames n) line = too_many_words (codes "the base has ") n (codes " frames")
whole_message (TooManyOutside n) line = too_many_words (codes "\"outside\" has ") n (codes " pages")
whole_message (BodyTooLong table id length) line = long_body_words id length
whole_message (NextAfterZ table id) line =
    codes "frame " ++ (frame_text id ++ codes " has \"next\", but z is the last frame of a page")
whole_message (Duplicate table first id) line =
    codes "frame " ++ (frame_text id ++ (codes " is defined already on line " ++ decimal line))
whole_message (OutsideInside page) line =
    codes "page " ++ (page_text page ++ codes " is listed as outside, but the base has a frame of it")

abbrev pub whole_code : WholeFault → Code
whole_code (TooManyFrames n) = code.TooMany
whole_code (TooManyOutside n) = code.TooMany
whole_code (BodyTooLong table id length) = code.BodyTooLong
whole_code (NextAfterZ table id) = code.NextAfterZ
whole_code (Duplicate table first id) = code.Duplicate
whole_code (OutsideInside page) = code.OutsideInside

-- a fault of the whole
abbrev pub whole_fault_words : WholeFault → ℕ → WordsView
whole_fault_words fault line = words_of (whole_code fault) (whole_about fault) (line_of (whole_message fault line))
