-- The form `line`.
use Rattle.std.specs.Prelude.{◌≡◌, ℕ, List, [], ◌∷◌, ◌++◌, codes, decimal, Option, Some, None}
use Rattle.lint_words.specs.declared.code.Code.{Code}
use Rattle.lint_words.specs.Codes.{code_word, code_name}
use Rattle.lint_words.specs.Lines.{IsLine, line_of}
use Rattle.lint_words.specs.WordsOf.{WordsView}
use Rattle.lint.specs.declared.finding.Level.{Level}
use Rattle.lint.specs.declared.finding.Level.TheVariants.{Error, Warning}
use Rattle.lint.specs.Findings.{FindingView}
use Rattle.toml_places.specs.declared.spans.Span.{Span}
use Rattle.toml_places.specs.Extents.{extent}

abbrev pub level_text : Level → List ℕ
level_text Error = codes "error"
level_text Warning = codes "warning"

-- the line and the column at which a span begins
abbrev pub begin_of : List ℕ → Span → ℕ × ℕ
begin_of text span = ((extent text span).line, (extent text span).column)

-- the path, the line and the column, each with a colon
abbrev pub line_place : List ℕ → ℕ × ℕ → List ℕ
line_place path place = path ++ codes ":" ++ (decimal place.0 ++ codes ":") ++ (decimal place.1 ++ codes ":")

-- the code, and its name if it has one
abbrev pub name_text : List ℕ → List ℕ
name_text [] = []
name_text (c ∷ cs) = codes " " ++ (c ∷ cs)

abbrev pub code_text : Code → List ℕ
code_text code = code_word code ++ name_text (code_name code)

abbrev pub line_hint : Option (List ℕ) → List ℕ
line_hint None = []
line_hint (Some hint) = codes "; " ++ hint

-- the words of a finding, if this is its hint
abbrev pub words_text : WordsView → Option (List ℕ) → List ℕ
words_text words hint = code_text words.code ++ (codes ": " ++ (words.message ++ line_hint hint))

-- a line, but for its line feed
abbrev pub line_text : List ℕ → ℕ × ℕ → Level → WordsView → Option (List ℕ) → List ℕ
line_text path place level words hint =
    line_place path place ++ (codes " " ++ (level_text level ++ (codes ": " ++ words_text words hint)))

-- The line of a finding is all of this, with some hint or none; control characters of the path are shown. It has no control
-- character, whatever is in the text and the path.
pub record IsFindingLine (path text : List ℕ) (f : FindingView) (line : List ℕ) : Type 0 where
  pub hint : Option (List ℕ)
  pub is : line ≡ line_text (line_of path) (begin_of text f.span) f.level f.words hint
  pub is_line : IsLine line
