-- An edition that the check clears.
use Rattle.std.specs.Prelude.{◌≡◌, ℕ, List}
use Rattle.base_text.specs.Whole.{IsTextBase}
use Rattle.cert_text.specs.Grammar.{IsCertificateText}
use Rattle.checker.specs.declared.policy.Policy.{Policy}
use Rattle.checker.specs.declared.verdict.Verdict.TheVariants as verdicts
use Rattle.checker.specs.Verdict.{verdict}
use Rattle.edition_checks.specs.declared.candidate.Candidate.{Candidate}

-- the base is that of the text; the certificate is that of its own text; and by the policy the check clears it
pub record IsCandidate (text : List ℕ) (policy : Policy) (c : Candidate) : Type 0 where
  pub of_base : IsTextBase text c.base
  pub of_cert : IsCertificateText c.cert_text.items c.cert
  pub by : c.policy ≡ policy
  pub cleared : verdict c.base policy c.cert ≡ verdicts.Cleared
