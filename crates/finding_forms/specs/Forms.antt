-- Findings in a form, one after another.
use Rattle.std.specs.Prelude.{◌≡◌, ℕ, Bool, true, false, List, [], ◌∷◌, ◌++◌, codes}
use Rattle.lint.specs.Findings.{FindingView}
use Rattle.finding_forms.specs.declared.format.Format.{Format}
use Rattle.finding_forms.specs.declared.format.Format.TheVariants.{Full, Coloured, Line, Json, Github}
use Rattle.finding_forms.specs.LineForm.{IsFindingLine}
use Rattle.finding_forms.specs.FullForm.{IsFullFinding, IsColouredFinding}
use Rattle.finding_forms.specs.JsonForm.{IsObject}
use Rattle.finding_forms.specs.GithubForm.{IsCommand}

-- the text of one finding
abbrev pub IsPrinted : Format → List ℕ → List ℕ → FindingView → List ℕ → Type 0
IsPrinted Full path text f out = IsFullFinding path text f out
IsPrinted Coloured path text f out = IsColouredFinding path text f out
IsPrinted Line path text f out = (line : List ℕ) × IsFindingLine path text f line × (out ≡ line ++ codes "\n")
IsPrinted Json path text f out = (line : List ℕ) × IsObject path text f line × (out ≡ line ++ codes "\n")
IsPrinted Github path text f out = (line : List ℕ) × IsCommand path text f line × (out ≡ line ++ codes "\n")

-- the texts of findings, in their order
abbrev pub ArePrinted : Format → List ℕ → List ℕ → List FindingView → List ℕ → Type 0
ArePrinted format path text [] out = out ≡ []
ArePrinted format path text (f ∷ fs) out =
    (one : List ℕ) × (rest : List ℕ) × IsPrinted format path text f one × ArePrinted format path text fs rest × (out ≡ one ++ rest)

-- each form but `full`, in colour or not, writes one line for a finding
abbrev pub is_one_line : Format → Bool
is_one_line Full = false
is_one_line Coloured = false
is_one_line Line = true
is_one_line Json = true
is_one_line Github = true
