use Rattle.std.proofs.Common.{◌≡◌, ℕ, List, ◌++◌, drop}
use Rattle.std.specs.Str.Lossy.{utf8_lossy}
use Rattle.lint_words.specs.Lines.{line_of}
use Rattle.finding_forms.specs.Forms.{ArePrinted}
use Rattle.finding_forms.proofs.forms.printed.Given as goal

-- the texts so far, and any texts of the findings that are left, are texts of all
abbrev pub invariant-loop-finding : goal.invariant-loop-finding
invariant-loop-finding l =
    (bytes rest : List ℕ) → l.fn.path ≡ line_of bytes → l.fn.file ≡ utf8_lossy bytes
    → ArePrinted l.format bytes l.text (drop l.finding-index l.fn.findings) rest
    → ArePrinted l.format bytes l.text l.fn.findings (l.out.items ++ rest)
