-- Facts that hold between the turns of loops, and what functions that aren't exported say. No promise rests on them.
use Rattle.std.specs.Prelude.{◌≡◌, ℕ, List, ◌++◌, codes}
use Rattle.lint.specs.Findings.{FindingView}
use Rattle.finding_forms.specs.declared.format.Format.{Format}
use Rattle.finding_forms.specs.Forms.{IsPrinted}
use Rattle.finding_forms.specs.FullForm.{IsColouredLine}
use Rattle.finding_forms.specs.GithubForm.{IsCommand}
use Rattle.finding_forms.specs.JsonForm.{IsObject}
use Rattle.finding_forms.specs.LineForm.{IsFindingLine}

-- What is appended of a finding.

-- in the form `line`
abbrev pub AddsLine : List ℕ → List ℕ → FindingView → List ℕ → List ℕ → Type 0
AddsLine path text f old new =
    (line : List ℕ) × IsFindingLine path text f line × (new ≡ old ++ (line ++ codes "\n"))

-- in colour
abbrev pub AddsColouredLine : List ℕ → List ℕ → FindingView → List ℕ → List ℕ → Type 0
AddsColouredLine path text f old new =
    (line : List ℕ) × IsColouredLine path text f line × (new ≡ old ++ (line ++ codes "\n"))

-- in the form `json`
abbrev pub AddsObject : List ℕ → List ℕ → FindingView → List ℕ → List ℕ → Type 0
AddsObject path text f old new =
    (line : List ℕ) × IsObject path text f line × (new ≡ old ++ (line ++ codes "\n"))

-- in the form `github`
abbrev pub AddsCommand : List ℕ → List ℕ → FindingView → List ℕ → List ℕ → Type 0
AddsCommand path text f old new =
    (line : List ℕ) × IsCommand path text f line × (new ≡ old ++ (line ++ codes "\n"))

-- in any form
abbrev pub AddsPrinted : Format → List ℕ → List ℕ → FindingView → List ℕ → List ℕ → Type 0
AddsPrinted format path text f old new = (one : List ℕ) × IsPrinted format path text f one × (new ≡ old ++ one)
