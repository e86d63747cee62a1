-- What a cleared change carries from one edition to the next.
use Rattle.std.proofs.Common.{◌≡◌, ℕ, ◌≤◌, ◌==◌, Bool, true, false, cond, List, [], ◌∷◌, ◌++◌, Option, Some, None, refl, sym, subst, arith}
use Rattle.std.specs.List.{AllByRecursion}
use Rattle.page_ids.specs.Ids.{Id}
use Rattle.frame_records.specs.Bases.{BaseView, AreApart}
use Rattle.session_machine.specs.declared.reply.Reply.{Reply}
use Rattle.session_machine.specs.declared.reply.Reply.TheVariants.{Shown, Again, NotOffered, Missing, Closed, Gone}
use Rattle.session_machine.specs.Sessions.{SessionState, At, Left}
use Rattle.session_machine.specs.Runs.{state_after, replies_to, IsFairReply}
use Rattle.cert_table.specs.declared.row.Row.{Row}
use Rattle.cert_table.specs.Table.{row_among, CertView}
use Rattle.checker.specs.declared.policy.Policy.{Policy}
use Rattle.checker.specs.declared.verdict.Verdict.{Verdict}
use Rattle.checker.specs.declared.verdict.Verdict.TheVariants as verdicts
use Rattle.checker.specs.declared.change.ChangeVerdict.{ChangeVerdict}
use Rattle.checker.specs.declared.change.ChangeVerdict.TheVariants.{Cleared, EntryMoved}
use Rattle.checker.specs.Good.{Good, is_row_of}
use Rattle.checker.specs.Safe.{Safe, HasRows}
use Rattle.checker.specs.Verdict.{verdict}
use Rattle.checker.specs.Change.{lost_id, unless_lost, unless_old, unless_new, keeps_covered, change_verdict, Edition, IsFoundFor, AreHeldFound, IsSafeFrom, AreCleared, HoldsOverChanges, IsSafeOverChanges, IsSafeChange, edition}
use Rattle.checker.proofs.Steps.{some_there, row_is, covered_found, rows_after, fair_replies, clean_replies, regains_at, safe}
use Rattle.checker.proofs.Clears.{cleared_good}

-- from each state whose frames have rows, a good certificate makes the base safe
module _ (base : BaseView) (policy : Policy) (cert : CertView) (apart : AreApart base) (good : Good base policy cert) where
  found_for : (id : Id) → is_row_of cert.rows id ≡ true → IsFoundFor cert.groups base cert.ceiling id
  found_for id h = let f = covered_found base policy cert apart good id h in record { price = f.price; found = f.found; fair = f.fair }

  all_found : (ids : List Id) → AllByRecursion (λ r. is_row_of cert.rows r ≡ true) ids → AllByRecursion (IsFoundFor cert.groups base cert.ceiling) ids
  all_found [] h = tt
  all_found (id ∷ ids) h = (found_for id h.0, all_found ids h.1)

  held_found : (state : SessionState) → HasRows cert.rows state → AreHeldFound cert.groups base cert.ceiling state
  held_found (At id remembered) h = (found_for id h.0, all_found remembered h.1)
  held_found (Left page) h = tt

  safe_from : (state : SessionState) → HasRows cert.rows state → IsSafeFrom cert.groups base cert.ceiling cert.keyings state
  safe_from state h = record {
    held = λ keys. held_found (state_after cert.groups base state keys) (rows_after base policy cert apart good state keys h);
    fair = λ keys. fair_replies base policy cert apart good state keys h;
    clean = λ keys. clean_replies base policy cert apart good state keys h;
    regains = λ keys. regains_at base policy cert apart good (state_after cert.groups base state keys) (rows_after base policy cert apart good state keys h);
  }

-- what a cleared change says
pub record IsClearedChange (policy : Policy) (old : BaseView) (old_cert : CertView) (new : BaseView) (new_cert : CertView) : Type 0 where
  pub old_good : Good old policy old_cert
  pub new_good : Good new policy new_cert
  pub kept : lost_id old_cert.rows new_cert.rows ≡ None

both_cleared : (v w : Verdict) (later : ChangeVerdict) → unless_old v (unless_new w later) ≡ Cleared → (v ≡ verdicts.Cleared) × (w ≡ verdicts.Cleared) × (later ≡ Cleared)
both_cleared verdicts.Cleared verdicts.Cleared later e = (refl, refl, e)
both_cleared verdicts.Cleared (verdicts.Refused cause) later e = absurd cc
both_cleared (verdicts.Refused cause) w later e = absurd cc

none_lost : (same : Bool) (lost : Option Id) → cond same (unless_lost lost) EntryMoved ≡ Cleared → lost ≡ None
none_lost true None e = refl
none_lost true (Some id) e = absurd cc
none_lost false lost e = absurd cc

pub cleared_change : (policy : Policy) (old : BaseView) (old_cert : CertView) (new : BaseView) (new_cert : CertView) → change_verdict policy old old_cert new new_cert ≡ Cleared → IsClearedChange policy old old_cert new new_cert
cleared_change policy old old_cert new new_cert e =
    let both = both_cleared (verdict old policy old_cert) (verdict new policy new_cert) (keeps_covered old old_cert new new_cert) e in
    record {
      old_good = cleared_good old policy old_cert both.0;
      new_good = cleared_good new policy new_cert both.1;
      kept = none_lost (old.entry == new.entry) (lost_id old_cert.rows new_cert.rows) both.2;
    }

-- if no id is lost, each id with an old row has a new one
row_kept : (covered : Bool) (lost : Option Id) (id : Id) → cond covered lost (Some id) ≡ None → (covered ≡ true) × (lost ≡ None)
row_kept true lost id e = (refl, e)
row_kept false lost id e = absurd cc

rows_kept : (old new : List Row) → lost_id old new ≡ None → AllByRecursion (λ r. is_row_of new r.id ≡ true) old
rows_kept [] new e = tt
rows_kept (row ∷ old) new e = let kept = row_kept (is_row_of new row.id) (lost_id old new) row.id e in (kept.0, rows_kept old new kept.1)

module _ (old new : List Row) (kept : lost_id old new ≡ None) where
  id_kept : (id : Id) → is_row_of old id ≡ true → is_row_of new id ≡ true
  id_kept id h =
      let there = some_there (row_among old id) h in
      let is = row_is (λ r. is_row_of new r.id ≡ true) old id there.0 (rows_kept old new kept) there.1 in
      subst (λ (i : Id). is_row_of new i ≡ true) is.1 is.0

  ids_kept : (ids : List Id) → AllByRecursion (λ r. is_row_of old r ≡ true) ids → AllByRecursion (λ r. is_row_of new r ≡ true) ids
  ids_kept [] h = tt
  ids_kept (id ∷ ids) h = (id_kept id h.0, ids_kept ids h.1)

  state_kept : (state : SessionState) → HasRows old state → HasRows new state
  state_kept (At id remembered) h = (id_kept id h.0, ids_kept remembered h.1)
  state_kept (Left page) h = tt

-- a reply that is fair below a ceiling is so below a higher one
fairer : (low high : ℕ) → low ≤ high → (reply : Reply) → IsFairReply low reply → IsFairReply high reply
fairer low high le (Shown id price) h = omega (arith, le, h)
fairer low high le (Again id) h = tt
fairer low high le NotOffered h = tt
fairer low high le (Missing id) h = h
fairer low high le (Closed id) h = h
fairer low high le (Gone page) h = tt

fair_then : (low high : ℕ) → low ≤ high → (replies more : List Reply) → AllByRecursion (IsFairReply low) replies → AllByRecursion (IsFairReply high) more → AllByRecursion (IsFairReply high) (replies ++ more)
fair_then low high le [] more h there = there
fair_then low high le (reply ∷ replies) more h there = (fairer low high le reply h.0, fair_then low high le replies more h.1 there)

module _ (policy : Policy) (e : Edition) (state : SessionState) (apart : AreApart e.base) (good : Good e.base policy e.cert) (rows : HasRows e.cert.rows state) where
  -- the same for the policy's groups, which are the certificate's
  safe_here : IsSafeFrom policy.groups e.base e.cert.ceiling e.cert.keyings state
  safe_here = subst (λ (groups : List ℕ). IsSafeFrom groups e.base e.cert.ceiling e.cert.keyings state) (sym good.groups) (safe_from e.base policy e.cert apart good state rows)

  rows_here : HasRows e.cert.rows (state_after policy.groups e.base state e.keys)
  rows_here = subst (λ (groups : List ℕ). HasRows e.cert.rows (state_after groups e.base state e.keys)) (sym good.groups) (rows_after e.base policy e.cert apart good state e.keys rows)

  fair_here : (more : List Reply) → AllByRecursion (IsFairReply policy.ceiling) more → AllByRecursion (IsFairReply policy.ceiling) (replies_to policy.groups e.base state e.keys ++ more)
  fair_here more there = fair_then e.cert.ceiling policy.ceiling good.ceiling (replies_to policy.groups e.base state e.keys) more (safe_here.fair e.keys) there

-- editions in turn, from a state whose frames have rows in the first
pub over_changes : (policy : Policy) (e : Edition) (more : List Edition) (state : SessionState) → AllByRecursion (λ e. AreApart e.base) (e ∷ more) → Good e.base policy e.cert → AreCleared policy (e ∷ more) → HasRows e.cert.rows state → HoldsOverChanges policy state e more
over_changes policy e [] state apart good cleared rows = record {
  each = (safe_here policy e state apart.0 good rows, tt);
  fair = fair_here policy e state apart.0 good rows [] tt;
  rows = rows_here policy e state apart.0 good rows;
}
over_changes policy e (f ∷ more) state apart good cleared rows =
    let change = cleared_change policy e.base e.cert f.base f.cert cleared.0 in
    let after = state_after policy.groups e.base state e.keys in
    let there = state_kept e.cert.rows f.cert.rows change.kept after (rows_here policy e state apart.0 good rows) in
    let rest = over_changes policy f more after apart.1 change.new_good cleared.1 there in
    record {
      each = (safe_here policy e state apart.0 good rows, rest.each);
      fair = fair_here policy e state apart.0 good rows _ rest.fair;
      rows = rest.rows;
    }

-- from every such state, of which the opening one is
pub safe_over_changes : (policy : Policy) (first second : Edition) (more : List Edition) → AllByRecursion (λ e. AreApart e.base) (first ∷ second ∷ more) → AreCleared policy (first ∷ second ∷ more) → IsSafeOverChanges policy first (second ∷ more)
safe_over_changes policy first second more apart cleared =
    let change = cleared_change policy first.base first.cert second.base second.cert cleared.0 in
    record {
      opened = (change.old_good.covered, tt);
      crossed = λ state rows. over_changes policy first (second ∷ more) state apart change.old_good cleared rows;
    }

-- one change, from every state whose frames have rows in the old edition
pub safe_change : (policy : Policy) (old : BaseView) (old_cert : CertView) (new : BaseView) (new_cert : CertView) → AreApart old → AreApart new → change_verdict policy old old_cert new new_cert ≡ Cleared → IsSafeChange policy old old_cert new new_cert
safe_change policy old old_cert new new_cert apart new_apart cleared =
    let change = cleared_change policy old old_cert new new_cert cleared in
    record {
      safe = subst (λ (groups : List ℕ). Safe groups old old_cert.ceiling old_cert.keyings) (sym change.old_good.groups) (safe old policy old_cert apart change.old_good);
      opened = (change.old_good.covered, tt);
      crossed = λ state keys more rows. over_changes policy (edition old old_cert keys) (edition new new_cert more ∷ []) state (apart, (new_apart, tt)) change.old_good (cleared, tt) rows;
    }
