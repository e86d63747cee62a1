-- What is printed of findings.
use Rattle.std.specs.Prelude.{◌≡◌, ℕ, true, List, ◌++◌, map, All, length, codes, count_by, ◌==◌}
use Rattle.std.specs.List.{concat}
use Rattle.lint_words.specs.Lines.{IsLine}
use Rattle.lint.specs.Findings.{FindingView}
use Rattle.finding_forms.specs.declared.format.Format.{Format}
use Rattle.finding_forms.specs.declared.format.Format.TheVariants.{Json}
use Rattle.finding_forms.specs.Forms.{ArePrinted, is_one_line}

-- a line without a control character; JSON escapes those up to 31
abbrev pub IsLineIn : Format → List ℕ → Type 0
IsLineIn Json line = count_by (λ byte. byte == 10) line ≡ 0
IsLineIn _ line = IsLine line

-- a text of this many lines, of which a line feed ends each
pub record AreWholeLines (format : Format) (count : ℕ) (text : List ℕ) : Type 0 where
  pub lines : List (List ℕ)
  pub are_lines : All (IsLineIn format) lines
  pub as_many : length lines ≡ count
  pub text_is : text ≡ concat (map (λ line. line ++ codes "\n") lines)
  pub feeds : count_by (λ byte. byte == 10) text ≡ count

-- in each form but `full` what is printed of findings is a line for each of them, whatever is in the text and the path
abbrev pub FindingsAreWholeLines : Type 0
FindingsAreWholeLines =
    (format : Format) (path text : List ℕ) (findings : List FindingView) (out : List ℕ) → is_one_line format ≡ true
    → ArePrinted format path text findings out → AreWholeLines format (length findings) out
