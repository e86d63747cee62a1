-- What is read of a folder that nobody else changes.
use Rattle.std.proofs.Common.{◌≡◌, ℕ, true, List, Option, Some, None, sym, ◌∙◌, subst}
use Rattle.std.specs.Prelude.{Ok, IfSome}
use Rattle.base_text.specs.Whole.{IsTextBase}
use Rattle.cert_table.specs.Table.{CertView}
use Rattle.cert_text.specs.Grammar.{IsCertificateText}
use Rattle.policy_text.specs.Policies.{policy_in}
use Rattle.editions.specs.declared.edition_file.EditionFile.{EditionFile}
use Rattle.editions.specs.declared.edition_file.EditionFile.TheVariants.{Base, Cert, Policy}
use Rattle.editions.specs.Folders.{FolderState, SeenFolder, IsLater, file_at}
use Rattle.edition_checks.specs.declared.served.Served.{Served}
use Rattle.edition_checks.specs.Served.{IsUnchanged, IsCertOf, IsServed}

pub unchanged : (old new : SeenFolder) → IsLater old new → old.held ≡ true → IsUnchanged old new
unchanged old new later held = record { held = later.held ∙ held; same = later.same held }

pub later_then : (a b c : SeenFolder) → IsLater a b → IsLater b c → IsLater a c
later_then a b c one two = record { held = two.held ∙ one.held; same = λ held. two.same (one.held ∙ held) ∙ one.same held }

-- what holds of a folder now held of it before
pub before : (o p : Option FolderState) (P : FolderState → Type 0) → p ≡ o → IfSome p P → IfSome o P
before o p P is h = subst (λ (q : Option FolderState). IfSome q P) is h

turned : (o : Option FolderState) (n : ℕ) (file : EditionFile) (text : List ℕ) → IfSome o (λ f. Some text ≡ file_at f n file) → IfSome o (λ f. file_at f n file ≡ Some text)
turned None n file text h = tt
turned (Some f) n file text h = sym h

pub file_there : (o p : Option FolderState) (n : ℕ) (file : EditionFile) (text : List ℕ) → p ≡ o → IfSome p (λ f. Some text ≡ file_at f n file) → IfSome o (λ f. file_at f n file ≡ Some text)
file_there o p n file text is h = turned o n file text (before o p (λ f. Some text ≡ file_at f n file) is h)

-- the text that is there is the certificate's
pub cert_there : (o : Option FolderState) (n : ℕ) (text : List ℕ) (cert : CertView) → IsCertificateText text cert → IfSome o (λ f. file_at f n Cert ≡ Some text) → IfSome o (λ f. IsCertOf f n cert)
cert_there None n text cert is h = tt
cert_there (Some f) n text cert is h = record { text = text; there = h; is = is }

pub served_there : (o : Option FolderState) (s : Served) → IsTextBase s.base_text.items s.base → policy_in s.policy_text.items ≡ Ok s.policy
    → IfSome o (λ f. file_at f s.number Base ≡ Some s.base_text.items) → IfSome o (λ f. IsCertOf f s.number s.cert) → IfSome o (λ f. file_at f s.number Policy ≡ Some s.policy_text.items)
    → IfSome o (λ f. IsServed f s)
served_there None s base policy a b c = tt
served_there (Some f) s base policy a b c = record { base_there = a; policy_there = c; of_base = base; of_cert = b; of_policy = policy }
