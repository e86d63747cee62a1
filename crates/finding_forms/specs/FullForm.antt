-- The form `full`: under the line of a finding the line of the text, and carets below the span.
use Rattle.std.specs.Prelude.{◌≡◌, ℕ, ◌-◌, ◌/◌, ◌%◌, Bool, not, ◌&&◌, ◌||◌, ◌==◌, nat_le, if◌then◌else◌, List, [], ◌∷◌, ◌++◌, codes, decimal, length, drop, replicate, flat_map, Option}
use Rattle.std.specs.Char.{is_control, encode_utf8}
use Rattle.std.specs.Str.{chars}
use Rattle.std.specs.Str.Lossy.{utf8_lossy}
use Rattle.page_ids.specs.Texts.{hex_digit}
use Rattle.lint_words.specs.Lines.{IsLine, line_of}
use Rattle.lint_words.specs.WordsOf.{WordsView}
use Rattle.lint.specs.declared.finding.Level.{Level}
use Rattle.lint.specs.Findings.{FindingView}
use Rattle.toml_places.specs.declared.spans.Span.{Span}
use Rattle.toml_places.specs.Extents.{extent}
use Rattle.finding_forms.specs.declared.drawing.Drawing.{Drawing}
use Rattle.finding_forms.specs.declared.drawing.Drawing.TheVariants.{Text, Blank, Carets}
use Rattle.finding_forms.specs.declared.excerpt.Excerpt.{Excerpt}
use Rattle.finding_forms.specs.declared.paint.Shade.TheVariants.{White}
use Rattle.finding_forms.specs.declared.paint.Paint.{Paint}
use Rattle.finding_forms.specs.declared.paint.Paint.TheVariants.{Plain, Of}
use Rattle.finding_forms.specs.LineForm.{IsFindingLine, level_text, begin_of, line_place, words_text, line_text}
use Rattle.finding_forms.specs.Paints.{shaded, level_shade, begin_number, begin_carets, end_paint}
use Rattle.finding_forms.specs.Excerpts.{mark_length, part, excerpt_of}

-- The characters of a line, and what is below them.

-- a control character but a tab (9)
abbrev pub is_shown_control : ℕ → Bool
is_shown_control c = is_control c && not (c == 9)

-- it is shown as TOML takes it, as \u001B
abbrev pub drawn_text : ℕ → List ℕ
drawn_text c = if is_shown_control c then codes "\\u00" ++ hex_digit (c / 16) ∷ hex_digit (c % 16) ∷ [] else encode_utf8 c

-- a letter of double width: of the alphabets of East Asia, or a full-width one
abbrev pub is_wide : ℕ → Bool
is_wide c =
    (nat_le 0x1100 c && nat_le c 0x115F) || (nat_le 0x2E80 c && nat_le c 0xA4CF) || (nat_le 0xAC00 c && nat_le c 0xD7A3)
    || (nat_le 0xF900 c && nat_le c 0xFAFF) || (nat_le 0xFF01 c && nat_le c 0xFF60)

-- how many columns a character has
abbrev pub columns : ℕ → ℕ
columns c = if is_shown_control c then 6 else if is_wide c then 2 else 1

-- a space or a caret for each column of a character; below a tab a tab
abbrev pub drawn_char : Drawing → ℕ → List ℕ
drawn_char Text c = drawn_text c
drawn_char Blank c = if c == 9 then c ∷ [] else replicate (columns c) 32
drawn_char Carets c = replicate (columns c) 94

-- the characters of bytes, with U+FFFD in place of what isn't UTF-8
abbrev pub drawn_chars : Drawing → List ℕ → List ℕ
drawn_chars d bytes = flat_map (drawn_char d) (chars (utf8_lossy bytes))

-- a caret at least
abbrev pub carets : List ℕ → List ℕ
carets [] = codes "^"
carets (b ∷ bs) = drawn_chars Carets (b ∷ bs)

-- Both lines.

-- the number of the line, in 5 columns at least, and a bar
abbrev pub number_bar : Paint → ℕ → List ℕ
number_bar paint line =
    begin_number paint ++ (replicate (5 - length (decimal line)) 32 ++ (decimal line ++ (codes " | " ++ end_paint paint)))

abbrev pub blank_bar : Paint → ℕ → List ℕ
blank_bar paint line =
    begin_number paint ++
    (replicate (5 - length (decimal line)) 32 ++ (replicate (length (decimal line)) 32 ++ (codes " | " ++ end_paint paint)))

abbrev pub dots : Bool → List ℕ
dots cut = if cut then codes "..." else []

abbrev pub blank_dots : Bool → List ℕ
blank_dots cut = if cut then codes "   " else []

abbrev pub source_line : List ℕ → Excerpt → List ℕ
source_line text e = dots e.goes_before ++ (drawn_chars Text (part text e.from e.to) ++ (dots e.goes_on ++ codes "\n"))

abbrev pub caret_line : Paint → List ℕ → Excerpt → List ℕ
caret_line paint text e =
    blank_dots e.goes_before ++ (drawn_chars Blank (part text e.from e.begin) ++
    (begin_carets paint ++ (carets (part text e.begin e.end) ++ (end_paint paint ++ codes "\n"))))

abbrev pub both_lines : Paint → List ℕ → ℕ → Excerpt → List ℕ
both_lines paint text line e = number_bar paint line ++ (source_line text e ++ (blank_bar paint line ++ caret_line paint text e))

-- the lines of a text without its byte order mark, which has this many bytes
abbrev pub lines_below : Paint → List ℕ → ℕ → Span → ℕ → List ℕ
lines_below paint text mark s line =
    both_lines paint (drop mark text) line (excerpt_of (drop mark text) (record { begin = s.begin - mark; end = s.end - mark }))

abbrev pub source_text : Paint → List ℕ → Span → List ℕ
source_text paint text s = lines_below paint text (mark_length text) s (extent text s).line

-- the line of a finding, and both lines below it
pub record IsFullFinding (path text : List ℕ) (f : FindingView) (out : List ℕ) : Type 0 where
  pub line : List ℕ
  pub is_line : IsFindingLine path text f line
  pub is : out ≡ line ++ codes "\n" ++ source_text Plain text f.span

-- In colour: the place is bold, the level and the carets are red or yellow, and the lines' numbers are blue. Without the colours it is
-- the form `full`.

abbrev pub coloured_line : List ℕ → ℕ × ℕ → Level → WordsView → Option (List ℕ) → List ℕ
coloured_line path place level words hint =
    shaded White (line_place path place) ++
    (codes " " ++ (shaded (level_shade level) (level_text level ++ codes ":") ++ (codes " " ++ words_text words hint)))

-- the first line, but for its line feed
pub record IsColouredLine (path text : List ℕ) (f : FindingView) (line : List ℕ) : Type 0 where
  pub hint : Option (List ℕ)
  pub is : line ≡ coloured_line (line_of path) (begin_of text f.span) f.level f.words hint
  pub is_line : IsLine (line_text (line_of path) (begin_of text f.span) f.level f.words hint)

pub record IsColouredFinding (path text : List ℕ) (f : FindingView) (out : List ℕ) : Type 0 where
  pub line : List ℕ
  pub is_line : IsColouredLine path text f line
  pub is : out ≡ line ++ codes "\n" ++ source_text (Of f.level) text f.span
