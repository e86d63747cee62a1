-- Editions that were cleared, each against the one before it, by policies that may change.
use Rattle.std.specs.Prelude.{◌≡◌, ℕ, max, List, [], ◌∷◌, map, ◌≤◌, Option, Some, None, Ok}
use Rattle.std.specs.List.{AllByRecursion}
use Rattle.frame_records.specs.declared.limits.TheConstants.{MOST_PENCE}
use Rattle.frame_records.specs.Bases.{BaseView, AreApart}
use Rattle.base_text.specs.Whole.{IsTextBase}
use Rattle.cert_table.specs.declared.limits.TheConstants.{MOST_RANK}
use Rattle.cert_table.specs.Table.{CertView}
use Rattle.cert_text.specs.Grammar.{IsCertificateText}
use Rattle.checker.specs.declared.policy.Policy.{Policy}
use Rattle.checker.specs.declared.verdict.Verdict.TheVariants as verdicts
use Rattle.checker.specs.declared.change.ChangeVerdict.TheVariants as changes
use Rattle.checker.specs.Verdict.{verdict}
use Rattle.checker.specs.Change.{Edition, change_verdict, IsSafeOverChanges}
use Rattle.policy_text.specs.Policies.{policy_in, policy_with}
use Rattle.editions.specs.Folders.{EditionBytes}
use Rattle.editions.specs.NumberLines.{follows_in}

-- What the texts of an edition mean.

-- the base, its certificate, the policy by which it was cleared, and the number of the edition against which it was cleared
pub record EditionView : Type 0 where
  pub base : BaseView
  pub cert : CertView
  pub policy : Policy
  pub follows : Option ℕ

pub record IsEditionText (e : EditionBytes) (v : EditionView) : Type 0 where
  pub of_base : IsTextBase e.base v.base
  pub of_cert : IsCertificateText e.cert v.cert
  pub of_policy : policy_in e.policy ≡ Ok v.policy
  pub of_follows : follows_in e.follows ≡ Some v.follows

-- cleared by its own policy
abbrev pub IsClearedEdition : EditionView → Type 0
IsClearedEdition v = verdict v.base v.policy v.cert ≡ verdicts.Cleared

-- the greater ceiling and the greater keyings of two policies, for the callers of the second
abbrev pub wider_of : Policy → Policy → Policy
wider_of p q = policy_with (max p.ceiling q.ceiling) (max p.keyings q.keyings) q.groups

-- for the same callers, and the change from the old one is cleared by the wider policy
pub record IsClearedAgainst (old new : EditionView) : Type 0 where
  pub groups : new.policy.groups ≡ old.policy.groups
  pub change : change_verdict (wider_of old.policy new.policy) old.base old.cert new.base new.cert ≡ changes.Cleared

-- The years of a folder.

-- an edition with the keys that are pressed while it is served, and its policy
pub record ServedEdition : Type 0 where
  pub edition : Edition
  pub policy : Policy

abbrev pub edition_view : ServedEdition → EditionView
edition_view s = record { base = s.edition.base; cert = s.edition.cert; policy = s.policy; follows = None }

-- each was cleared against the one before it
abbrev pub AreChained : List ServedEdition → Type 0
AreChained [] = Unit {0}
AreChained (s ∷ []) = Unit {0}
AreChained (s ∷ t ∷ more) = IsClearedAgainst (edition_view s) (edition_view t) × AreChained (t ∷ more)

-- the widest policy of these callers
abbrev pub widest_of : List ℕ → Policy
widest_of groups = policy_with MOST_PENCE MOST_RANK groups

-- policies within the limits of their texts
abbrev pub IsPolicy : Policy → Type 0
IsPolicy p = (p.ceiling ≤ MOST_PENCE) × (p.keyings ≤ MOST_RANK)

-- A check that is cleared stays so by a wider policy of the same callers; and so does a change.
pub record WiderStaysCleared : Type 0 where
  pub check : (base : BaseView) (cert : CertView) (p q : Policy) → p.ceiling ≤ q.ceiling → p.keyings ≤ q.keyings → p.groups ≡ q.groups
      → verdict base p cert ≡ verdicts.Cleared → verdict base q cert ≡ verdicts.Cleared
  pub change : (old : BaseView) (old_cert : CertView) (new : BaseView) (new_cert : CertView) (p q : Policy) → p.ceiling ≤ q.ceiling → p.keyings ≤ q.keyings → p.groups ≡ q.groups
      → change_verdict p old old_cert new new_cert ≡ changes.Cleared → change_verdict q old old_cert new new_cert ≡ changes.Cleared

-- After any list of at least two editions, each cleared against the one before it: what is promised over changes holds from the first
-- one on, by the widest policy of the callers; each edition keeps the ceiling and the keyings of its own certificate. The premise of
-- the bases is what every base keeps.
abbrev pub ChainsAreSafe : Type 0
ChainsAreSafe =
    (first second : ServedEdition) (more : List ServedEdition)
    → AllByRecursion (λ s. AreApart s.edition.base) (first ∷ second ∷ more)
    → AllByRecursion (λ s. IsPolicy s.policy) (first ∷ second ∷ more)
    → AreChained (first ∷ second ∷ more)
    → IsSafeOverChanges (widest_of first.policy.groups) first.edition (second.edition ∷ map (λ s. s.edition) more)
