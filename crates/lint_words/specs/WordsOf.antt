-- What contracts see of the words of a finding: all but the hint, which is a line.
use Rattle.std.specs.Prelude.{ℕ, List}
use Rattle.lint_words.specs.AboutOf.{AboutView}
use Rattle.lint_words.specs.declared.code.Code.{Code}

pub record WordsView : Type 0 where
  pub code : Code
  pub about : AboutView
  pub message : List ℕ

abbrev pub words_of : Code → AboutView → List ℕ → WordsView
words_of code about message = record { code = code; about = about; message = message }
