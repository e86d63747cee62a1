-- What callers are promised.
use Rattle.std.proofs.Common.{◌≡◌, ◌≤◌, ℕ, sym, subst, ◌∙◌, arith, List, [], ◌∷◌}
use Rattle.std.specs.List.{AllByRecursion}
use Rattle.page_ids.specs.declared.key.Key.{Key}
use Rattle.frame_records.specs.Bases.{BaseView}
use Rattle.session_machine.specs.declared.reply.Reply.{Reply}
use Rattle.session_machine.specs.declared.reply.Reply.TheVariants.{Shown, Again, NotOffered, Missing, Closed, Gone}
use Rattle.session_machine.specs.Sessions.{SessionState, At, Left, opening}
use Rattle.session_machine.specs.Runs.{state_after, replies_to, IsFairReply, LeftOrRegains}
use Rattle.checker.specs.Safe.{Safe, HasRows}
use Rattle.checker.specs.Change.{edition}
use Rattle.checker.proofs.Steps.{safe, rows_after}
use Rattle.checker.proofs.Clears.{cleared_good}
use Rattle.checker.proofs.Editions.{cleared_change, over_changes}
use Rattle.editions.specs.Chains.{wider_of, IsClearedAgainst}
use Rattle.edition_checks.specs.declared.served.Served.{Served}
use Rattle.edition_checks.specs.Served.{served_view}
use Rattle.edition_checks.specs.NextEditions.{IsFit}
use Rattle.one_call.specs.Turns.{begun_call, keys_in_call}
use Rattle.one_call.specs.Parts.{Parts, First, Then, served_now, call_over}
use Rattle.one_call.specs.Safety.{first_keys, AreSafeReplies, IsSafeBeginning, AreSafeParts, AreClearedInTurn, PartsAreSafe}
use Rattle.one_call.proofs.Seen.{turns_are, are_sent, parts_are_seen}
use Rattle.std.specs.Prelude.{None}

fairer : (p q : ℕ) (reply : Reply) → p ≤ q → IsFairReply p reply → IsFairReply q reply
fairer p q (Shown id price) le h = omega (arith, le, h)
fairer p q (Again id) le h = tt
fairer p q NotOffered le h = tt
fairer p q (Missing id) le h = h
fairer p q (Closed id) le h = h
fairer p q (Gone page) le h = tt

all_fairer : (p q : ℕ) (replies : List Reply) → p ≤ q → AllByRecursion (IsFairReply p) replies → AllByRecursion (IsFairReply q) replies
all_fairer p q [] le h = tt
all_fairer p q (r ∷ rs) le h = (fairer p q r le h.0, all_fairer p q rs le h.1)

regains_sooner : (groups : List ℕ) (base : BaseView) (p q : ℕ) (state : SessionState) → p ≤ q → LeftOrRegains groups base p state → LeftOrRegains groups base q state
regains_sooner groups base p q (At id remembered) le h = record { keys = h.keys; few = omega (arith, le, h.few); forward = h.forward; entry = h.entry }
regains_sooner groups base p q (Left page) le h = tt

-- what holds after the bytes of each edition
record IsKeptOver (groups : List ℕ) (parts : Parts) : Type 0 where
  pub safe : AreSafeParts groups parts
  pub fit : IsFit (served_now parts)
  pub groups_same : (served_now parts).policy.groups ≡ groups
  pub rows : HasRows (served_now parts).cert.rows (call_over groups parts).session.state

-- The first edition.

pub begins_safe : (groups : List ℕ) (s : Served) (bytes : List ℕ) → s.policy.groups ≡ groups → IsFit s → IsSafeBeginning groups s bytes
begins_safe groups s bytes same fit =
    let good = cleared_good s.base s.policy s.cert fit.cleared in
    let keys = first_keys groups s.base bytes in
    let kept : Safe groups s.base s.cert.ceiling s.cert.keyings =
    subst (λ (g : List ℕ). Safe g s.base s.cert.ceiling s.cert.keyings) (sym good.groups ∙ same) (safe s.base s.policy s.cert fit.apart good) in
    record {
      price = kept.session.price;
      found = kept.session.found;
      replies = record {
        fair = (omega (arith, kept.session.fair_price, good.ceiling), all_fairer s.cert.ceiling s.policy.ceiling _ good.ceiling (kept.session.fair keys));
        clean = (kept.entry_clean, kept.clean keys);
      };
      regains = regains_sooner groups s.base s.cert.keyings s.policy.keyings (state_after groups s.base (opening s.base) keys) good.keyings (kept.session.regains keys);
    }

begins_kept : (groups : List ℕ) (s : Served) (bytes : List ℕ) → s.policy.groups ≡ groups → IsFit s → IsKeptOver groups (First s bytes)
begins_kept groups s bytes same fit =
    let good = cleared_good s.base s.policy s.cert fit.cleared in
    let c = begun_call groups s.base in
    let keys = first_keys groups s.base bytes in
    let after : HasRows s.cert.rows (state_after groups s.base (opening s.base) keys) =
    subst (λ (g : List ℕ). HasRows s.cert.rows (state_after g s.base (opening s.base) keys)) (sym good.groups ∙ same)
    (rows_after s.base s.policy s.cert fit.apart good (opening s.base) keys (good.covered, tt)) in
    record {
      safe = begins_safe groups s bytes same fit;
      fit = fit;
      groups_same = same;
      rows = subst (λ (state : SessionState). HasRows s.cert.rows state) (sym (turns_are s.base c bytes).state) after;
    }

-- Another edition.

-- a caller whose frames have rows in the old certificate has them in the new one
crosses : (old new : Served) (state : SessionState) → IsFit old → IsFit new → IsClearedAgainst (served_view None old) (served_view None new) → HasRows old.cert.rows state → HasRows new.cert.rows state
crosses old new state fit new_fit against rows =
    let policy = wider_of old.policy new.policy in
    let change = cleared_change policy old.base old.cert new.base new.cert against.change in
    (over_changes policy (edition old.base old.cert []) (edition new.base new.cert [] ∷ []) state (fit.apart, (new_fit.apart, tt)) change.old_good (against.change, tt) rows).rows

-- from a state whose frames have rows
record IsSafeStay (groups : List ℕ) (s : Served) (state : SessionState) (keys : List Key) : Type 0 where
  pub replies : AreSafeReplies s (replies_to groups s.base state keys)
  pub regains : LeftOrRegains groups s.base s.policy.keyings (state_after groups s.base state keys)
  pub rows : HasRows s.cert.rows (state_after groups s.base state keys)

stays_safe : (s : Served) (state : SessionState) (keys : List Key) → IsFit s → HasRows s.cert.rows state → IsSafeStay s.policy.groups s state keys
stays_safe s state keys fit rows =
    let good = cleared_good s.base s.policy s.cert fit.cleared in
    let over = over_changes s.policy (edition s.base s.cert keys) [] state (fit.apart, tt) good tt rows in
    let here = over.each.0 in
    record {
      replies = record { fair = all_fairer s.cert.ceiling s.policy.ceiling _ good.ceiling (here.fair keys); clean = here.clean keys };
      regains = regains_sooner s.policy.groups s.base s.cert.keyings s.policy.keyings (state_after s.policy.groups s.base state keys) good.keyings (here.regains keys);
      rows = over.rows;
    }

goes_on_kept : (groups : List ℕ) (before : Parts) (s : Served) (bytes : List ℕ) → IsKeptOver groups before → IsFit s → IsClearedAgainst (served_view None (served_now before)) (served_view None s)
    → IsKeptOver groups (Then before s bytes)
goes_on_kept groups before s bytes h fit against =
    let c = call_over groups before in
    let keys = keys_in_call s.base c bytes in
    let sent = are_sent groups before in
    let same : s.policy.groups ≡ groups = against.groups ∙ h.groups_same in
    let stay : IsSafeStay groups s c.session.state keys =
    subst (λ (g : List ℕ). IsSafeStay g s c.session.state keys) same (stays_safe s c.session.state keys fit (crosses (served_now before) s c.session.state h.fit fit against h.rows)) in
    record {
      safe = (
        h.safe,
        record {
          replies = subst (λ (g : List ℕ). AreSafeReplies s (replies_to g s.base c.session.state keys)) (sym sent.groups_same) stay.replies;
          regains = stay.regains;
        },
      );
      fit = fit;
      groups_same = same;
      rows = subst (λ (state : SessionState). HasRows s.cert.rows state) (sym (turns_are s.base c bytes).state)
          (subst (λ (g : List ℕ). HasRows s.cert.rows (state_after g s.base c.session.state keys)) (sym sent.groups_same) stay.rows);
    }

kept_over : (groups : List ℕ) (parts : Parts) → AreClearedInTurn groups parts → IsKeptOver groups parts
kept_over groups (First s bytes) h = begins_kept groups s bytes h.0 h.1
kept_over groups (Then before s bytes) h = goes_on_kept groups before s bytes (kept_over groups before h.0) h.1 h.2

pub parts_are_safe : PartsAreSafe
parts_are_safe groups parts h t = record { seen = parts_are_seen groups parts t; safe = (kept_over groups parts h).safe }
