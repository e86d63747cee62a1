-- The edition that is served, and whether another may follow it.
use Rattle.std.specs.Prelude.{◌≡◌, ℕ, List, true, Option, Some, Ok, IfSome}
use Rattle.base_text.specs.Whole.{IsTextBase}
use Rattle.cert_text.specs.Grammar.{IsCertificateText}
use Rattle.cert_table.specs.Table.{CertView}
use Rattle.policy_text.specs.Policies.{policy_in}
use Rattle.editions.specs.declared.edition_file.EditionFile.TheVariants.{Base, Cert, Policy}
use Rattle.editions.specs.Folders.{FolderState, SeenFolder, file_at}
use Rattle.editions.specs.Chains.{EditionView}
use Rattle.edition_checks.specs.declared.served.Served.{Served}
use Rattle.edition_checks.specs.declared.candidate.Candidate.{Candidate}

-- nobody else changes the folder, and a call has changed nothing
pub record IsUnchanged (old new : SeenFolder) : Type 0 where
  pub held : new.held ≡ true
  pub same : new.state ≡ old.state

-- what holds of the folder before a call, if nobody else changes it
abbrev pub IfHeld : SeenFolder → (FolderState → Type 0) → Type 0
IfHeld seen P = seen.held ≡ true → IfSome seen.state P

-- the text of an edition's certificate is there, and is this certificate's
pub record IsCertOf (f : FolderState) (number : ℕ) (cert : CertView) : Type 0 where
  pub text : List ℕ
  pub there : file_at f number Cert ≡ Some text
  pub is : IsCertificateText text cert

-- the certificate has a text
pub record HasCertText (cert : CertView) : Type 0 where
  pub text : List ℕ
  pub is : IsCertificateText text cert

-- texts that were read as an edition's mean what was read of them
pub record IsReadEdition (s : Served) : Type 0 where
  pub of_base : IsTextBase s.base_text.items s.base
  pub of_cert : HasCertText s.cert
  pub of_policy : policy_in s.policy_text.items ≡ Ok s.policy

-- the texts of the edition of this number are there, and mean what was read of them
pub record IsServed (f : FolderState) (s : Served) : Type 0 where
  pub base_there : file_at f s.number Base ≡ Some s.base_text.items
  pub policy_there : file_at f s.number Policy ≡ Some s.policy_text.items
  pub of_base : IsTextBase s.base_text.items s.base
  pub of_cert : IsCertOf f s.number s.cert
  pub of_policy : policy_in s.policy_text.items ≡ Ok s.policy

abbrev pub served_view : Option ℕ → Served → EditionView
served_view follows s = record { base = s.base; cert = s.cert; policy = s.policy; follows = follows }

abbrev pub candidate_view : Option ℕ → Candidate → EditionView
candidate_view follows c = record { base = c.base; cert = c.cert; policy = c.policy; follows = follows }
