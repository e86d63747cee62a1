-- What is cleared stays so by a wider policy, and so chains by policies that change are safe.
use Rattle.std.proofs.Common.{◌≡◌, ◌≤◌, ℕ, List, [], ◌∷◌, map, refl, sym, ◌∙◌, arith}
use Rattle.std.proofs.Math.Nat.{max-le}
use Rattle.std.specs.List.{AllByRecursion}
use Rattle.frame_records.specs.Bases.{BaseView, AreApart}
use Rattle.cert_table.specs.Table.{CertView}
use Rattle.checker.specs.declared.policy.Policy.{Policy}
use Rattle.checker.specs.declared.verdict.Verdict.{Verdict}
use Rattle.checker.specs.declared.verdict.Verdict.TheVariants as verdicts
use Rattle.checker.specs.declared.change.ChangeVerdict.{ChangeVerdict}
use Rattle.checker.specs.declared.change.ChangeVerdict.TheVariants as changes
use Rattle.checker.specs.Good.{Good}
use Rattle.checker.specs.Verdict.{verdict}
use Rattle.checker.specs.Change.{change_verdict, unless_old, unless_new, keeps_covered, AreCleared, IsSafeOverChanges}
use Rattle.checker.proofs.Clears.{cleared_good, good_cleared}
use Rattle.checker.proofs.Editions.{safe_over_changes}
use Rattle.editions.specs.Chains.{ServedEdition, wider_of, widest_of, IsPolicy, AreChained, WiderStaysCleared}

-- the second policy is as wide as the first, for the same callers
pub record IsWider (p q : Policy) : Type 0 where
  pub ceiling : p.ceiling ≤ q.ceiling
  pub keyings : p.keyings ≤ q.keyings
  pub groups : p.groups ≡ q.groups

wider_good : (base : BaseView) (cert : CertView) (p q : Policy) → IsWider p q → Good base p cert → Good base q cert
wider_good base cert p q wider g = record {
  entry = g.entry;
  ceiling = omega (arith, g.ceiling, wider.ceiling);
  keyings = omega (arith, g.keyings, wider.keyings);
  groups = sym wider.groups ∙ g.groups;
  covered = g.covered;
  rows = g.rows;
}

pub wider_check : (base : BaseView) (cert : CertView) (p q : Policy) → IsWider p q → verdict base p cert ≡ verdicts.Cleared → verdict base q cert ≡ verdicts.Cleared
wider_check base cert p q wider h = good_cleared base q cert (wider_good base cert p q wider (cleared_good base p cert h))

all_cleared : (v w : Verdict) (later : ChangeVerdict) → unless_old v (unless_new w later) ≡ changes.Cleared → (v ≡ verdicts.Cleared) × (w ≡ verdicts.Cleared) × (later ≡ changes.Cleared)
all_cleared verdicts.Cleared verdicts.Cleared later e = (refl, refl, e)
all_cleared verdicts.Cleared (verdicts.Refused cause) later e = absurd cc
all_cleared (verdicts.Refused cause) w later e = absurd cc

all_clear : (v w : Verdict) (later : ChangeVerdict) → v ≡ verdicts.Cleared → w ≡ verdicts.Cleared → later ≡ changes.Cleared → unless_old v (unless_new w later) ≡ changes.Cleared
all_clear v w later a b c = rw (a, b) c

pub wider_change : (old : BaseView) (old_cert : CertView) (new : BaseView) (new_cert : CertView) (p q : Policy) → IsWider p q → change_verdict p old old_cert new new_cert ≡ changes.Cleared → change_verdict q old old_cert new new_cert ≡ changes.Cleared
wider_change old old_cert new new_cert p q wider h =
    let all = all_cleared (verdict old p old_cert) (verdict new p new_cert) (keeps_covered old old_cert new new_cert) h in
    all_clear (verdict old q old_cert) (verdict new q new_cert) (keeps_covered old old_cert new new_cert)
    (wider_check old old_cert p q wider all.0) (wider_check new new_cert p q wider all.1) all.2

pub wider_stays : WiderStaysCleared
wider_stays = record {
  check = λ base cert p q ceiling keyings groups h. wider_check base cert p q (record { ceiling = ceiling; keyings = keyings; groups = groups }) h;
  change = λ old old_cert new new_cert p q ceiling keyings groups h. wider_change old old_cert new new_cert p q (record { ceiling = ceiling; keyings = keyings; groups = groups }) h;
}

-- the widest policy is as wide as the wider of two
widest_wider : (p q : Policy) (groups : List ℕ) → IsPolicy p → IsPolicy q → q.groups ≡ groups → IsWider (wider_of p q) (widest_of groups)
widest_wider p q groups a b same = record { ceiling = max-le a.0 b.0; keyings = max-le a.1 b.1; groups = same }

chain_cleared : (groups : List ℕ) (s : ServedEdition) (more : List ServedEdition) → s.policy.groups ≡ groups → AllByRecursion (λ s. IsPolicy s.policy) (s ∷ more) → AreChained (s ∷ more) → AreCleared (widest_of groups) (s.edition ∷ map (λ s. s.edition) more)
chain_cleared groups s [] same policies chained = tt
chain_cleared groups s (t ∷ more) same policies chained =
    let again : t.policy.groups ≡ groups = chained.0.groups ∙ same in (
      wider_change s.edition.base s.edition.cert t.edition.base t.edition.cert (wider_of s.policy t.policy) (widest_of groups) (widest_wider s.policy t.policy groups policies.0 policies.1.0 again) chained.0.change,
      chain_cleared groups t more again policies.1 chained.1,
    )

apart_editions : (more : List ServedEdition) → AllByRecursion (λ s. AreApart s.edition.base) more → AllByRecursion (λ e. AreApart e.base) (map (λ s. s.edition) more)
apart_editions [] h = tt
apart_editions (s ∷ more) h = (h.0, apart_editions more h.1)

pub chains_safe : (first second : ServedEdition) (more : List ServedEdition) → AllByRecursion (λ s. AreApart s.edition.base) (first ∷ second ∷ more) → AllByRecursion (λ s. IsPolicy s.policy) (first ∷ second ∷ more) → AreChained (first ∷ second ∷ more)
    → IsSafeOverChanges (widest_of first.policy.groups) first.edition (second.edition ∷ map (λ s. s.edition) more)
chains_safe first second more apart policies chained =
    safe_over_changes (widest_of first.policy.groups) first.edition second.edition (map (λ s. s.edition) more)
    (apart_editions (first ∷ second ∷ more) apart)
    (chain_cleared first.policy.groups first (second ∷ more) refl policies chained)
