-- The form `github`: workflow commands, as GitHub's runner reads them.
use Rattle.std.specs.Prelude.{◌≡◌, ℕ, ◌==◌, if◌then◌else◌, List, [], ◌∷◌, ◌++◌, codes, decimal, flat_map, Option, Some, None}
use Rattle.lint_words.specs.declared.code.Code.{Code}
use Rattle.lint_words.specs.Lines.{IsLine, line_of}
use Rattle.lint_words.specs.WordsOf.{WordsView}
use Rattle.lint.specs.declared.finding.Level.{Level}
use Rattle.lint.specs.Findings.{FindingView}
use Rattle.toml_places.specs.declared.text_lines.Extent.{Extent}
use Rattle.toml_places.specs.Extents.{extent}
use Rattle.finding_forms.specs.declared.github_form.Slot.{Slot}
use Rattle.finding_forms.specs.declared.github_form.Slot.TheVariants.{Property, Message}
use Rattle.finding_forms.specs.LineForm.{level_text, code_text}

-- 37 is `%`, 58 `:`, 44 `,`. A line has no 13 and no 10, which GitHub wants escaped too.
abbrev pub percent_escaped : ℕ → List ℕ
percent_escaped b = if b == 37 then codes "%25" else b ∷ []

abbrev pub escaped_byte : Slot → ℕ → List ℕ
escaped_byte Message b = percent_escaped b
escaped_byte Property b = if b == 58 then codes "%3A" else if b == 44 then codes "%2C" else percent_escaped b

abbrev pub github_escaped : Slot → List ℕ → List ℕ
github_escaped slot bytes = flat_map (escaped_byte slot) bytes

-- the columns of a span on one line
abbrev pub columns_text : Extent → List ℕ
columns_text e =
    if e.line == e.end_line then codes ",col=" ++ (decimal e.column ++ (codes ",endColumn=" ++ decimal e.end_column)) else []

abbrev pub github_place : Extent → List ℕ
github_place e = codes ",line=" ++ (decimal e.line ++ (codes ",endLine=" ++ (decimal e.end_line ++ columns_text e)))

abbrev pub github_hint : Option (List ℕ) → List ℕ
github_hint None = []
github_hint (Some hint) = codes "; " ++ github_escaped Message hint

abbrev pub message_text : WordsView → Option (List ℕ) → List ℕ
message_text words hint = github_escaped Message words.message ++ github_hint hint

-- no code has a character to escape
abbrev pub properties_text : List ℕ → Extent → Code → List ℕ
properties_text path e code =
    codes " file=" ++ (github_escaped Property path ++ (github_place e ++ (codes ",title=" ++ code_text code)))

-- a command, but for its line feed
abbrev pub command_text : List ℕ → Extent → Level → WordsView → Option (List ℕ) → List ℕ
command_text path e level words hint =
    codes "::" ++ (level_text level ++ (properties_text path e words.code ++ (codes "::" ++ message_text words hint)))

-- all of this, with some hint or none, and without a control character
pub record IsCommand (path text : List ℕ) (f : FindingView) (line : List ℕ) : Type 0 where
  pub hint : Option (List ℕ)
  pub is : line ≡ command_text (line_of path) (extent text f.span) f.level f.words hint
  pub is_line : IsLine line
