-- Two texts, one verdict, and what Cleared says of the texts.
use Rattle.std.specs.Prelude.{◌≡◌, ◌≤◌, ℕ, List, Some, Result, Ok, Err}
use Rattle.frame_records.specs.Bases.{BaseView}
use Rattle.base_text.specs.declared.fault.BaseFault.{BaseFault}
use Rattle.base_text.specs.declared.fault.BaseCause.TheVariants as base_cause
use Rattle.base_text.specs.Whole.{IsTextBase, IsFirstFault}
use Rattle.cert_table.specs.Table.{CertView}
use Rattle.cert_text.specs.declared.fault.ReadFault.{ReadFault}
use Rattle.cert_text.specs.declared.fault.ReadFault.TheVariants as read
use Rattle.cert_text.specs.Grammar.{IsCertificateText}
use Rattle.cert_text.specs.Reading.{certificate_fault}
use Rattle.checker.specs.declared.policy.Policy.{Policy}
use Rattle.checker.specs.declared.verdict.Verdict.{Verdict}
use Rattle.checker.specs.declared.bytes.InputFault.{InputFault}
use Rattle.checker.specs.declared.bytes.InputFault.TheVariants as input
use Rattle.checker.specs.Safe.{Safe}
use Rattle.checker.specs.Verdict.{verdict}

-- the base text's first fault, which is never refused memory
pub record IsBaseRefused (text : List ℕ) (fault : BaseFault) : Type 0 where
  pub first : IsFirstFault text fault
  pub no_memory : fault.cause ≡ base_cause.Memory → ⊥

-- the certificate text's first line at fault, with its cause
abbrev pub IsCertRefused : List ℕ → ReadFault → Type 0
IsCertRefused text (read.Line number cause) = certificate_fault text ≡ Some (number, cause)
IsCertRefused text read.Failed = ⊥
IsCertRefused text read.Memory = ⊥

-- the texts are those of a base and of a certificate, and the verdict is theirs
pub record IsVerdictOf (base_text cert_text : List ℕ) (policy : Policy) (v : Verdict) : Type 0 where
  pub base : BaseView
  pub cert : CertView
  pub of_base : IsTextBase base_text base
  pub of_cert : IsCertificateText cert_text cert
  pub is : v ≡ verdict base policy cert

-- the base text comes first; a certificate's fault is reported only after a right base; memory may be refused
abbrev pub IsInputFault : List ℕ → List ℕ → InputFault → Type 0
IsInputFault base_text cert_text (input.Base fault) = IsBaseRefused base_text fault
IsInputFault base_text cert_text (input.Cert fault) = (base : BaseView) × IsTextBase base_text base × IsCertRefused cert_text fault
IsInputFault base_text cert_text input.Memory = Unit {0}

abbrev pub IsChecked : List ℕ → List ℕ → Policy → Result Verdict InputFault → Type 0
IsChecked base_text cert_text policy (Ok v) = IsVerdictOf base_text cert_text policy v
IsChecked base_text cert_text policy (Err fault) = IsInputFault base_text cert_text fault

-- what is read of each text alone
abbrev pub IsBaseInput : List ℕ → Result BaseView InputFault → Type 0
IsBaseInput text (Ok base) = IsTextBase text base
IsBaseInput text (Err (input.Base fault)) = IsBaseRefused text fault
IsBaseInput text (Err (input.Cert fault)) = ⊥
IsBaseInput text (Err input.Memory) = Unit {0}

abbrev pub IsCertInput : List ℕ → Result CertView InputFault → Type 0
IsCertInput text (Ok cert) = IsCertificateText text cert
IsCertInput text (Err (input.Base fault)) = ⊥
IsCertInput text (Err (input.Cert fault)) = IsCertRefused text fault
IsCertInput text (Err input.Memory) = Unit {0}

-- the headline: the texts are those of a base and of a certificate; by a caller of exactly the policy's groups, after every list
-- of keys from the entry page, the base is safe within the certificate's ceiling and keyings; and both are the policy's at most
pub record Headline (base_text cert_text : List ℕ) (policy : Policy) : Type 0 where
  pub base : BaseView
  pub cert : CertView
  pub of_base : IsTextBase base_text base
  pub of_cert : IsCertificateText cert_text cert
  pub safe : Safe policy.groups base cert.ceiling cert.keyings
  pub ceiling : cert.ceiling ≤ policy.ceiling
  pub keyings : cert.keyings ≤ policy.keyings
