-- What a call takes and leaves.
use Rattle.std.specs.Prelude.{◌≡◌, ◌⊎◌, ℕ, List, [], ◌≤◌, ◌∷◌, Option, Some, None, Result, Ok, ◌++◌, length, take, drop}
use Rattle.checker.specs.declared.bytes.InputFault.{InputFault}
use Rattle.checker.specs.declared.bytes.InputFault.TheVariants as input
use Rattle.audit_report.specs.declared.run_fault.RunFault.TheVariants as run
use Rattle.audit_report.specs.FaultLines.{fault_text}
use Rattle.pageaudit_c.specs.declared.status.CallStatus.{CallStatus}
use Rattle.pageaudit_c.specs.declared.status.CallStatus.TheVariants.{BadText, OutOfMemory, BadPolicy}
use Rattle.frame_records.specs.declared.groups.GroupFault.{GroupFault}
use Rattle.frame_records.specs.Bases.{IsPrice}
use Rattle.frame_records.specs.Groups.{groups_in}
use Rattle.checker.specs.declared.policy.Policy.{Policy}
use Rattle.pageaudit_c.specs.Status.{number_of}

-- The answer of a call: a status, and the text that the program prints.

-- memory was refused; there is no text
abbrev pub IsOutOfMemory : CallStatus → List ℕ → Type 0
IsOutOfMemory status text = (status ≡ OutOfMemory) × (text ≡ [])

-- this status and this text, or memory was refused
abbrev pub IsAnswer : CallStatus → List ℕ → CallStatus → List ℕ → Type 0
IsAnswer due printed status text = ((status ≡ due) × (text ≡ printed)) ⊎ IsOutOfMemory status text

-- the line of a fault in the only edition's texts, or the old one's
abbrev pub IsFaultAnswer : InputFault → CallStatus → List ℕ → Type 0
IsFaultAnswer (input.Base fault) status text = IsAnswer BadText (fault_text (run.Base fault)) status text
IsFaultAnswer (input.Cert fault) status text = IsAnswer BadText (fault_text (run.Cert fault)) status text
IsFaultAnswer input.Memory status text = IsOutOfMemory status text

-- the line of a fault in the new edition's texts
abbrev pub IsNewFaultAnswer : InputFault → CallStatus → List ℕ → Type 0
IsNewFaultAnswer (input.Base fault) status text = IsAnswer BadText (fault_text (run.NewBase fault)) status text
IsNewFaultAnswer (input.Cert fault) status text = IsAnswer BadText (fault_text (run.NewCert fault)) status text
IsNewFaultAnswer input.Memory status text = IsOutOfMemory status text

-- A policy as C passes it.

-- two numbers, and the groups as a text
pub record Asked : Type 0 where
  pub ceiling : ℕ
  pub keyings : ℕ
  pub groups : List ℕ

abbrev pub asked : ℕ → ℕ → List ℕ → Asked
asked ceiling keyings groups = record { ceiling = ceiling; keyings = keyings; groups = groups }

-- the groups of a text with commas between them; none of the empty text
abbrev pub groups_of : List ℕ → Result (List ℕ) GroupFault
groups_of [] = Ok []
groups_of (byte ∷ bytes) = groups_in 44 (byte ∷ bytes)

-- the policy has these numbers, which are in range, and the groups of the text
pub record IsPolicyOf (a : Asked) (policy : Policy) : Type 0 where
  pub price : IsPrice a.ceiling
  pub in_range : a.keyings ≤ 65535
  pub ceiling_is : policy.ceiling ≡ a.ceiling
  pub keyings_is : policy.keyings ≡ a.keyings
  pub groups_are : groups_of a.groups ≡ Ok policy.groups

-- the policy, or that there is none
abbrev pub IsPolicyRead : Asked → Option Policy → Type 0
IsPolicyRead a (Some policy) = IsPolicyOf a policy
IsPolicyRead a None = (policy : Policy) → IsPolicyOf a policy → ⊥

-- it holds for the policy that was passed, which is one
pub record HoldsForPolicy (Holds : Policy → Type 0) (a : Asked) : Type 0 where
  pub policy : Policy
  pub is : IsPolicyOf a policy
  pub holds : Holds policy

-- What a call leaves with its caller.

-- a caller's buffer before and after a call, and the length that was stored beside it
pub record Buffer : Type 0 where
  pub before : List ℕ
  pub after : List ℕ
  pub stored : ℕ

abbrev pub buffer : List ℕ → List ℕ → ℕ → Buffer
buffer before after stored = record { before = before; after = after; stored = stored }

-- a text over the front of a buffer, as far as it fits; what is after it stays
abbrev pub laid_over : {A : Type 0} → List A → List A → List A
laid_over text before = take (length before) text ++ drop (length text) before

-- the text was copied, and its whole length was stored
pub record IsCopied (text : List ℕ) (b : Buffer) : Type 0 where
  pub laid : b.after ≡ laid_over text b.before
  pub whole : b.stored ≡ length text

-- the answer for the policy, if there is one
abbrev pub IsAnswered : (Policy → CallStatus → List ℕ → Type 0) → Option Policy → CallStatus → List ℕ → Type 0
IsAnswered Answers (Some policy) status text = Answers policy status text
IsAnswered Answers None status text = (status ≡ BadPolicy) × (text ≡ [])

-- the answer for the policy that is passed
pub record IsAskedAnswer (Answers : Policy → CallStatus → List ℕ → Type 0) (a : Asked) (status : CallStatus) (text : List ℕ) : Type 0 where
  pub policy : Option Policy
  pub read : IsPolicyRead a policy
  pub answered : IsAnswered Answers policy status text

-- a call: the number of its status is returned, and its text was copied
pub record IsCall (Answers : Policy → CallStatus → List ℕ → Type 0) (a : Asked) (b : Buffer) (number : ℕ) : Type 0 where
  pub status : CallStatus
  pub text : List ℕ
  pub answer : IsAskedAnswer Answers a status text
  pub copied : IsCopied text b
  pub number_is : number ≡ number_of status
