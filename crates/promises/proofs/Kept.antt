-- Safe sessions are kept.
use Rattle.std.proofs.Common.{ℕ, List, refl, subst, inl, inr}
use Rattle.std.specs.List.{AllByRecursion}
use Rattle.page_ids.specs.Ids.{Id}
use Rattle.page_ids.specs.declared.key.Key.{Key}
use Rattle.page_ids.specs.declared.key.Key.TheVariants.{Route, Next, Prev, Reprint, Update}
use Rattle.frame_records.specs.Bases.{BaseView}
use Rattle.frame_records.proofs.OneBase.{all_at}
use Rattle.session_machine.specs.declared.reply.Reply.TheVariants.{Shown, Again, Missing, Closed}
use Rattle.session_machine.specs.Sessions.{SessionState, At, opening}
use Rattle.session_machine.specs.Runs.{state_after, replies_to, IsForward, IsFairReply, LeftOrRegains, Regains}
use Rattle.checker.specs.Safe.{IsCleanAt, IsCleanReply, Safe}
use Rattle.promises.specs.Kept.{IsShownClean, LeadsOn, LeadsBack, IsKept, IsKeptFromEntry}

pub clean_at : (base : BaseView) (id : Id) → IsCleanAt base id → IsShownClean base id
clean_at base id h = (h.frame, h.found, λ t i is within touches. h.clean i (t, is, (within, touches)))

leads_on : (key : Key) → IsForward key → LeadsOn key
leads_on (Route digit) h = inr (digit, refl)
leads_on Next h = inl refl
leads_on Prev h = absurd h
leads_on Reprint h = absurd h
leads_on Update h = absurd h

leads_back : (caller : List ℕ) (base : BaseView) (most : ℕ) (state : SessionState) → Regains caller base state most → LeadsBack caller base most state
leads_back caller base most state h = record {
  keys = h.keys;
  few = h.few;
  forward = λ key is. leads_on key (all_at IsForward h.keys key h.forward is);
  entry = h.entry;
}

-- what each list of keys from a state gives
module _ (caller : List ℕ) (base : BaseView) (ceiling most : ℕ) (from : SessionState)
    (fair : (keys : List Key) → AllByRecursion (IsFairReply ceiling) (replies_to caller base from keys))
    (clean : (keys : List Key) → AllByRecursion (IsCleanReply base) (replies_to caller base from keys))
    (regains : (keys : List Key) → LeftOrRegains caller base most (state_after caller base from keys)) where
  pub kept : IsKept caller base ceiling most from
  kept = record {
    never_missing = λ keys id is. all_at (IsFairReply ceiling) (replies_to caller base from keys) (Missing id) (fair keys) is;
    never_closed = λ keys id is. all_at (IsFairReply ceiling) (replies_to caller base from keys) (Closed id) (fair keys) is;
    fair = λ keys id price is. all_at (IsFairReply ceiling) (replies_to caller base from keys) (Shown id price) (fair keys) is;
    clean = λ keys id price is. clean_at base id (all_at (IsCleanReply base) (replies_to caller base from keys) (Shown id price) (clean keys) is);
    clean_again = λ keys id is. clean_at base id (all_at (IsCleanReply base) (replies_to caller base from keys) (Again id) (clean keys) is);
    back = λ keys id remembered e. leads_back caller base most (At id remembered) (subst (LeftOrRegains caller base most) e (regains keys));
  }

pub kept_from_entry : (caller : List ℕ) (base : BaseView) (ceiling most : ℕ) → Safe caller base ceiling most → IsKeptFromEntry caller base ceiling most
kept_from_entry caller base ceiling most h = record {
  price = h.session.price;
  found = h.session.found;
  fair = h.session.fair_price;
  clean = clean_at base _ h.entry_clean;
  kept = kept caller base ceiling most (opening base) h.session.fair h.clean h.session.regains;
}
