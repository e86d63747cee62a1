-- What the findings of a text mean, for a caller who is in the policy's groups and no others.
use Rattle.std.specs.Prelude.{◌≡◌, ◌≢◌, ◌↔◌, ℕ, true, List, [], ◌∷◌, ◌++◌, map, Result, Ok, Err, All, AllPairs, Contains, length, filter}
use Rattle.frame_records.specs.declared.frame.Frame.{Frame}
use Rattle.frame_records.specs.Bases.{BaseView}
use Rattle.frame_records.specs.Seek.{is_open}
use Rattle.base_text.specs.declared.fault.BaseFault.{BaseFault}
use Rattle.base_text.specs.declared.fault.BaseCause.TheVariants.{TooLong, NotToml}
use Rattle.base_text.specs.Drafts.{draft_fault}
use Rattle.base_text.specs.Frames.{top_fault}
use Rattle.base_text.specs.Whole.{IsTextBase, IsFaultOf, listed_parts}
use Rattle.base_text.specs.WholeFaults.{whole_cause}
use Rattle.checker.specs.declared.policy.Policy.{Policy}
use Rattle.checker.specs.Safe.{Safe}
use Rattle.finder.specs.Finds.{EntryIsFound, IsReached}
use Rattle.fault_scripts.specs.Faults.{AreFaults}
use Rattle.lint.specs.declared.finding.Level.TheVariants.{Error}
use Rattle.lint.specs.Findings.{FindingView, count_of, AreInOrder}
use Rattle.lint.specs.AllLooks.{all_looks}
use Rattle.lint.specs.Lint.{Subject, Length, Toml, Text, Whole, finding_of, text_tables, warning, none_reached, look_findings, IsSpanWithin, IsAudited, IsLint}
use Rattle.toml_places.specs.Places.{marks}

-- The text, and what base_read answers for it.

-- what base_read answers for a text, unless it is out of memory
abbrev pub IsReadAnswer : List ℕ → Result BaseView BaseFault → Type 0
IsReadAnswer text (Ok base) = IsTextBase text base
IsReadAnswer text (Err fault) = IsFaultOf (listed_parts text) fault

-- the fault that base_read answers for a subject that is the first
abbrev pub answer_of : Subject → BaseFault
answer_of Length = top_fault TooLong
answer_of (Toml span message) = top_fault NotToml
answer_of (Text fault) = draft_fault fault
answer_of (Whole fault) = top_fault (whole_cause fault)

-- the findings are those of the audit of this base
abbrev pub AreOfAudit : List ℕ → Policy → List FindingView → BaseView → Type 0
AreOfAudit text policy findings base = (judged : List FindingView) × IsAudited text policy base judged × AreInOrder judged findings

-- the findings are those of the text, of which the first in the order of judging is of this fault
pub record AreOfText (text : List ℕ) (findings : List FindingView) (fault : BaseFault) : Type 0 where
  pub first : Subject
  pub rest : List Subject
  pub is_answer : answer_of first ≡ fault
  pub in_order : AreInOrder (map (finding_of text) (first ∷ rest)) findings

abbrev pub AreByAnswer : List ℕ → Policy → List FindingView → Result BaseView BaseFault → Type 0
AreByAnswer text policy findings (Ok base) = AreOfAudit text policy findings base
AreByAnswer text policy findings (Err fault) = AreOfText text findings fault

-- no finding is of the text if and only if base_read gives a base; else the first is of the fault that it answers
abbrev pub FollowsBaseRead : List ℕ → Policy → List FindingView → Type 0
FollowsBaseRead text policy findings =
    (answer : Result BaseView BaseFault) → IsReadAnswer text answer → AreByAnswer text policy findings answer

abbrev pub LintFollowsBaseRead : Type 0
LintFollowsBaseRead =
    (text : List ℕ) (policy : Policy) (findings : List FindingView) → IsLint text policy findings → FollowsBaseRead text policy findings

-- No error.

-- the text means a base that the audit certifies: the base has no fault
abbrev pub IsCertified : List ℕ → Policy → Type 0
IsCertified text policy = (base : BaseView) × IsTextBase text base × AreFaults base policy []

-- the text means a base that is safe within the policy
abbrev pub MeansSafeBase : List ℕ → Policy → Type 0
MeansSafeBase text policy = (base : BaseView) × IsTextBase text base × Safe policy.groups base policy.ceiling policy.keyings

-- no finding is an error if and only if the audit certifies the text's base, and if and only if that base is safe
pub record LintDecidesSafety (text : List ℕ) (policy : Policy) (findings : List FindingView) : Type 0 where
  pub certified : (count_of Error findings ≡ 0) ↔ IsCertified text policy
  pub safe : (count_of Error findings ≡ 0) ↔ MeansSafeBase text policy

abbrev pub NoErrorIsSafe : Type 0
NoErrorIsSafe = (text : List ℕ) (policy : Policy) (findings : List FindingView) → IsLint text policy findings → LintDecidesSafety text policy findings

-- Warnings.

-- the entry frame is found, and the frame is open to a caller of the groups, but no walk from the entry frame reaches it
pub record IsCutOff (groups : List ℕ) (base : BaseView) (f : Frame) : Type 0 where
  pub entry : EntryIsFound groups base
  pub listed : Contains base.frames f
  pub opens : is_open groups f ≡ true
  pub unreached : IsReached groups base f.id → ⊥

-- Besides errors the findings are one warning for each of these frames, at its id; if the entry frame isn't found one for
-- all frames that are open to the caller, with their number; those of what frames show; and no other.
pub record WarnsOfCutOff (text : List ℕ) (policy : Policy) (base : BaseView) (findings : List FindingView) : Type 0 where
  pub errors : List FindingView
  pub frames : List Frame
  pub others : List FindingView
  pub are_errors : All (λ f. f.level ≡ Error) errors
  pub cut_off : (f : Frame) → Contains frames f ↔ IsCutOff policy.groups base f
  pub once : AllPairs (λ f g. f.id ≢ g.id) frames
  pub found : EntryIsFound policy.groups base → others ≡ []
  pub not_found : ¬ (EntryIsFound policy.groups base) → others ≡ none_reached text (marks text) (length (filter (is_open policy.groups) base.frames))
  pub in_order : AreInOrder (errors ++ map (λ f. warning text (marks text) (text_tables text) f.id) frames ++ others
      ++ look_findings text (marks text) (text_tables text) (all_looks policy.groups base.frames)) findings

abbrev pub WarnsOfUnreached : List ℕ → Policy → List FindingView → Type 0
WarnsOfUnreached text policy findings = (base : BaseView) → IsTextBase text base → WarnsOfCutOff text policy base findings

abbrev pub LintWarnsOfUnreached : Type 0
LintWarnsOfUnreached = (text : List ℕ) (policy : Policy) (findings : List FindingView) → IsLint text policy findings → WarnsOfUnreached text policy findings

-- Spans.

-- every finding's span begins and ends in the text
abbrev pub SpansLieIn : List ℕ → List FindingView → Type 0
SpansLieIn text findings = All (λ f. IsSpanWithin text f.span) findings

abbrev pub LintSpansLieIn : Type 0
LintSpansLieIn = (text : List ℕ) (policy : Policy) (findings : List FindingView) → IsLint text policy findings → SpansLieIn text findings
