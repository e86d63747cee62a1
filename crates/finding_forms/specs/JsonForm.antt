-- The form `json`.
use Rattle.std.specs.Prelude.{◌≡◌, ℕ, List, codes, count_by, ◌==◌, Option, Some, None}
use Rattle.std.specs.Str.Lossy.{utf8_lossy}
use Rattle.serde_json.specs.Data.{Data, null, string, number, unsigned, object, member, no_members}
use Rattle.serde_json.specs.Written.{compact_text}
use Rattle.page_ids.specs.Ids.{Id, frame_text}
use Rattle.lint_words.specs.Codes.{code_word}
use Rattle.lint_words.specs.Lines.{line_of}
use Rattle.lint_words.specs.WordsOf.{WordsView}
use Rattle.lint.specs.declared.finding.Level.{Level}
use Rattle.lint.specs.Findings.{FindingView}
use Rattle.toml_places.specs.declared.text_lines.Extent.{Extent}
use Rattle.toml_places.specs.Extents.{extent}
use Rattle.toml_places.specs.declared.spans.Span.{Span}
use Rattle.text_edits.specs.Edits.{ReplacementView}
use Rattle.slip_fixes.specs.Certain.{certain_fix}
use Rattle.finding_forms.specs.LineForm.{level_text}

-- what is absent is null
abbrev pub text_data : Option (List ℕ) → Data
text_data None = null
text_data (Some text) = string text

abbrev pub frame_data : Option Id → Data
frame_data None = null
frame_data (Some id) = string (line_of (frame_text id))

abbrev pub number_data : ℕ → Data
number_data n = number (unsigned n)

-- where a text is replaced, and by what
abbrev pub replacing_data : Extent → List ℕ → Data
replacing_data e text =
    object (member (codes "column") (number_data e.column)
    (member (codes "end_column") (number_data e.end_column)
    (member (codes "end_line") (number_data e.end_line)
    (member (codes "line") (number_data e.line)
    (member (codes "text") (string text) no_members)))))

abbrev pub fix_data : List ℕ → Option ReplacementView → Data
fix_data text None = null
fix_data text (Some r) = replacing_data (extent text (record { begin = r.begin; end = r.end })) (utf8_lossy r.text)

-- the members of an object are in the order of their keys
abbrev pub object_with : List ℕ → Extent → Level → WordsView → Data → Data → Data → Data → Data → Data
object_with file e level words fix frame hint key keys =
    object (member (codes "code") (string (code_word words.code))
    (member (codes "column") (number_data e.column)
    (member (codes "end_column") (number_data e.end_column)
    (member (codes "end_line") (number_data e.end_line)
    (member (codes "file") (string file)
    (member (codes "fix") fix
    (member (codes "frame") frame
    (member (codes "hint") hint
    (member (codes "key") key
    (member (codes "keys") keys
    (member (codes "level") (string (level_text level))
    (member (codes "line") (number_data e.line)
    (member (codes "message") (string words.message) no_members)))))))))))))

abbrev pub object_data : List ℕ → Extent → Level → WordsView → Option (List ℕ) → Data → Data
object_data file e level words hint fix =
    object_with file e level words fix (frame_data words.about.frame) (text_data hint) (text_data words.about.key) (text_data words.about.keys)

-- serde_json's text of it, with some hint or none, and the fix if it has one that is certain; the path is as given, with U+FFFD in place of what isn't UTF-8
pub record IsObject (path text : List ℕ) (f : FindingView) (line : List ℕ) : Type 0 where
  pub hint : Option (List ℕ)
  pub is : line ≡ compact_text (object_data (utf8_lossy path) (extent text f.span) f.level f.words hint (fix_data text (certain_fix text f)))
  pub no_feed : count_by (λ byte. byte == 10) line ≡ 0
