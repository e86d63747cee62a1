-- The headline, of values, of texts and of files; and its other half.
use Rattle.std.specs.Prelude.{◌≡◌, ◌≤◌, ℕ, false, List}
use Rattle.std.specs.Io.KnownBytes.{Consumes, IsAtEnd}
use Rattle.frame_records.specs.Bases.{BaseView}
use Rattle.base_text.specs.Whole.{IsTextBase}
use Rattle.cert_table.specs.Table.{CertView}
use Rattle.cert_text.specs.Grammar.{IsCertificateText}
use Rattle.checker.specs.declared.policy.Policy.{Policy}
use Rattle.pageaudit.specs.Files.{Device}
use Rattle.promises.specs.Kept.{IsKeptFromEntry}

-- a base is kept by its certificate, within the policy
pub record IsKeptByPolicy (base : BaseView) (cert : CertView) (policy : Policy) : Type 0 where
  pub kept : IsKeptFromEntry policy.groups base cert.ceiling cert.keyings
  pub ceiling : cert.ceiling ≤ policy.ceiling
  pub keyings : cert.keyings ≤ policy.keyings

-- the texts are those of such a base and of its certificate
pub record HoldsOfTexts (base_text cert_text : List ℕ) (policy : Policy) : Type 0 where
  pub base : BaseView
  pub cert : CertView
  pub of_base : IsTextBase base_text base
  pub of_cert : IsCertificateText cert_text cert
  pub kept : IsKeptByPolicy base cert policy

-- a file gave this text, which is all that it had, and no read failed
pub record IsAllOf (d : Device) (text : List ℕ) : Type 0 where
  pub given : Consumes d.before.bytes d.after.bytes text
  pub all : IsAtEnd d.after.bytes
  pub unbroken : d.after.failed ≡ false

-- both files gave such texts
pub record HoldsOfBothFiles (base_file cert_file : Device) (policy : Policy) : Type 0 where
  pub base_text : List ℕ
  pub cert_text : List ℕ
  pub base_read : IsAllOf base_file base_text
  pub cert_read : IsAllOf cert_file cert_text
  pub holds : HoldsOfTexts base_text cert_text policy
