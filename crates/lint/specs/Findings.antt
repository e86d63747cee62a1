-- Findings and their order.
use Rattle.std.specs.Prelude.{ℕ, List, nat_lt, Bool, true, false, not, ◌||◌, if◌then◌else◌, [], ◌++◌, codes, count_by, IsPermutation}
use Rattle.lint.specs.declared.finding.Level.{Level}
use Rattle.lint.specs.declared.finding.Level.TheVariants.{Error, Warning}
use Rattle.lint_words.specs.Pieces.{counted}
use Rattle.lint_words.specs.WordsOf.{WordsView}
use Rattle.lint.specs.declared.counts.Counts.{Counts}
use Rattle.lint.specs.declared.ignored.Ignored.{Ignored}
use Rattle.lint_words.specs.declared.code.Code.{Code}
use Rattle.lint_words.specs.declared.code.Code.TheVariants.{Unreached, Hidden, LineEnd, Escape, Menu, Unsought}
use Rattle.std.specs.Ordering.{nat_cmp}
use Rattle.std.specs.List.Sorted.{IsSortedByKey, IsStableByKey}
use Rattle.toml_places.specs.declared.spans.Span.{Span}

-- What contracts see of a finding.

pub record FindingView : Type 0 where
  pub span : Span
  pub level : Level
  pub words : WordsView

abbrev pub error_at : Span → WordsView → FindingView
error_at span words = record { span = span; level = Error; words = words }

abbrev pub warning_at : Span → WordsView → FindingView
warning_at span words = record { span = span; level = Warning; words = words }

-- How many findings there are of a level.

abbrev pub same_level : Level → Level → Bool
same_level Error Error = true
same_level Warning Warning = true
same_level _ _ = false

abbrev pub count_of : Level → List FindingView → ℕ
count_of level findings = count_by (λ f. same_level f.level level) findings

-- Which findings count and are shown.

abbrev pub ignores : Ignored → Code → Bool
ignores ignored Unreached = ignored.unreached
ignores ignored Hidden = ignored.hidden
ignores ignored LineEnd = ignored.line_end
ignores ignored Escape = ignored.escape
ignores ignored Menu = ignored.menu
ignores ignored Unsought = ignored.unsought
ignores _ _ = false

abbrev pub is_counted : Ignored → FindingView → Bool
is_counted ignored f = not (ignores ignored f.words.code)

abbrev pub is_error : FindingView → Bool
is_error f = same_level f.level Error

-- in words and a line feed, if there are findings
abbrev pub counted_text : Counts → List ℕ
counted_text counts = if nat_lt 0 counts.errors || nat_lt 0 counts.warnings then counted counts.errors counts.warnings ++ codes "\n" else []

-- The order of findings.

-- the same findings in the order of where their spans begin; those that begin at one place stay in theirs
pub record AreInOrder (judged ordered : List FindingView) : Type 0 where
  pub same : IsPermutation judged ordered
  pub places_ascend : IsSortedByKey (λ f. f.span.begin) nat_cmp ordered
  pub stable : IsStableByKey (λ f. f.span.begin) nat_cmp judged ordered
