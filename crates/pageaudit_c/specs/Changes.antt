-- The answer of the check of a change.
use Rattle.std.specs.Prelude.{◌⊎◌, ℕ, List}
use Rattle.frame_records.specs.Bases.{BaseView}
use Rattle.base_text.specs.Whole.{IsTextBase}
use Rattle.cert_table.specs.Table.{CertView}
use Rattle.cert_text.specs.Grammar.{IsCertificateText}
use Rattle.checker.specs.declared.policy.Policy.{Policy}
use Rattle.checker.specs.declared.bytes.InputFault.{InputFault}
use Rattle.checker.specs.Change.{change_verdict, IsSafeChange}
use Rattle.checker.specs.Headline.{IsInputFault}
use Rattle.audit_report.specs.Lines.{change_text}
use Rattle.pageaudit_c.specs.declared.status.CallStatus.{CallStatus}
use Rattle.audit_report.specs.Statuses.{status_of_change}
use Rattle.pageaudit_c.specs.Status.{of_judged}
use Rattle.pageaudit_c.specs.Calls.{IsAnswer, IsFaultAnswer, IsNewFaultAnswer}

-- the texts of an edition
pub record EditionTexts : Type 0 where
  pub base : List ℕ
  pub cert : List ℕ

abbrev pub edition_texts : List ℕ → List ℕ → EditionTexts
edition_texts base cert = record { base = base; cert = cert }

-- they are those of a base and a certificate
pub record IsEditionOfTexts (texts : EditionTexts) (base : BaseView) (cert : CertView) : Type 0 where
  pub of_base : IsTextBase texts.base base
  pub of_cert : IsCertificateText texts.cert cert

-- the line of the verdict on two editions
pub record IsVerdictAnswer (old_texts new_texts : EditionTexts) (policy : Policy) (status : CallStatus) (text : List ℕ) : Type 0 where
  pub old : BaseView
  pub old_cert : CertView
  pub new : BaseView
  pub new_cert : CertView
  pub of_old : IsEditionOfTexts old_texts old old_cert
  pub of_new : IsEditionOfTexts new_texts new new_cert
  pub answer : IsAnswer (of_judged (status_of_change (change_verdict policy old old_cert new new_cert))) (change_text (change_verdict policy old old_cert new new_cert)) status text

-- the line of the first fault in the old edition's texts
pub record IsOldFaultAnswer (old_texts : EditionTexts) (status : CallStatus) (text : List ℕ) : Type 0 where
  pub fault : InputFault
  pub is : IsInputFault old_texts.base old_texts.cert fault
  pub answer : IsFaultAnswer fault status text

-- the line of the first fault in the new edition's texts, after a whole old edition
pub record IsAfterOldAnswer (old_texts new_texts : EditionTexts) (status : CallStatus) (text : List ℕ) : Type 0 where
  pub old : BaseView
  pub old_cert : CertView
  pub of_old : IsEditionOfTexts old_texts old old_cert
  pub fault : InputFault
  pub is : IsInputFault new_texts.base new_texts.cert fault
  pub answer : IsNewFaultAnswer fault status text

-- the answer of the check of a change between two editions
abbrev pub IsChangeAnswer : EditionTexts → EditionTexts → Policy → CallStatus → List ℕ → Type 0
IsChangeAnswer old_texts new_texts policy status text =
    IsVerdictAnswer old_texts new_texts policy status text
    ⊎ (IsOldFaultAnswer old_texts status text ⊎ IsAfterOldAnswer old_texts new_texts status text)

-- the texts are those of two editions, and callers stay safe over the change
pub record IsSafeChangeOf (old_texts new_texts : EditionTexts) (policy : Policy) : Type 0 where
  pub old : BaseView
  pub old_cert : CertView
  pub new : BaseView
  pub new_cert : CertView
  pub of_old : IsEditionOfTexts old_texts old old_cert
  pub of_new : IsEditionOfTexts new_texts new new_cert
  pub safe : IsSafeChange policy old old_cert new new_cert
