-- The result of a session, key by key. The caller is the list of the groups to which the caller belongs.
use Rattle.std.proofs.Common.{◌≡◌, ℕ, List, [], ◌∷◌, ◌++◌, refl, ◌∙◌, ap, subst}
use Rattle.page_ids.specs.Ids.{Id}
use Rattle.page_ids.specs.Ways.{way_key}
use Rattle.page_ids.specs.declared.key.Key.{Key}
use Rattle.page_ids.specs.declared.way.Way.{Way}
use Rattle.page_ids.specs.declared.way.Way.TheVariants.{Route, Next}
use Rattle.frame_records.specs.declared.base.Sought.TheVariants as sought
use Rattle.frame_records.specs.Bases.{BaseView}
use Rattle.frame_records.specs.Seek.{seek}
use Rattle.frame_records.specs.Ways.{destination, Leads}
use Rattle.session_machine.specs.declared.reply.Reply.{Reply}
use Rattle.session_machine.specs.declared.reply.Reply.TheVariants.{Shown}
use Rattle.session_machine.specs.Sessions.{SessionState, At, Outcome, key_step, remember, by_way}
use Rattle.session_machine.specs.Runs.{state_after, replies_to}
use Rattle.session_machine.proofs.Runs.{state_in_turn, replies_in_turn}
use Rattle.finder.specs.Finds.{KeysLead}
use Rattle.fault_scripts.specs.Shows.{final_reply}
use Rattle.fault_scripts.proofs.Discoveries.{leads_found}

-- a way's key does what its way does
pub way_is : (caller : List ℕ) (base : BaseView) (f : Id) (remembered : List Id) (w : Way)
    → key_step caller base (At f remembered) (way_key w) ≡ by_way f remembered (destination caller base f w)
way_is caller base f remembered (Route digit) = refl
way_is caller base f remembered Next = refl

-- a session of the keys ends at the frame, and its last reply shows the frame at its price
pub record RunsTo (caller : List ℕ) (base : BaseView) (from : SessionState) (before : Reply) (keys : List Key) (g : Id) : Type 0 where
  pub remembered : List Id
  pub price : ℕ
  pub found : seek caller base g ≡ sought.Found price
  pub state : state_after caller base from keys ≡ At g remembered
  pub last : final_reply before (replies_to caller base from keys) ≡ Shown g price

-- keys that lead from frame to frame
pub keys_lead_run : (caller : List ℕ) (base : BaseView) (f g : Id) (remembered : List Id) (price : ℕ) (keys : List Key)
    → KeysLead caller base f keys g → seek caller base f ≡ sought.Found price
    → RunsTo caller base (At f remembered) (Shown f price) keys g
keys_lead_run caller base f g remembered price [] same found = record {
  remembered = remembered;
  price = price;
  found = subst (λ (x : Id). seek caller base x ≡ sought.Found price) same found;
  state = ap (λ (x : Id). At x remembered) same;
  last = ap (λ (x : Id). Shown x price) same;
}
keys_lead_run caller base f g remembered price (key ∷ keys) way found =
    let l : Leads caller base f way.1 way.0 = way.3 in
    let step : key_step caller base (At f remembered) key ≡ (At way.0 (remember f remembered), Shown way.0 l.price) = ap (key_step caller base (At f remembered)) way.2 ∙ way_is caller base f remembered way.1 ∙ ap (by_way f remembered) l.found in
    let rest = keys_lead_run caller base way.0 g (remember f remembered) l.price keys way.4 (leads_found caller base f way.0 way.1 l) in
    record {
      remembered = rest.remembered;
      price = rest.price;
      found = rest.found;
      state = ap (λ (o : Outcome). state_after caller base o.0 keys) step ∙ rest.state;
      last = ap (λ (o : Outcome). final_reply o.1 (replies_to caller base o.0 keys)) step ∙ rest.last;
    }

-- the last of some replies and one more
last_and_one : (before : Reply) (replies : List Reply) (reply : Reply) → final_reply before (replies ++ reply ∷ []) ≡ reply
last_and_one before [] reply = refl
last_and_one before (next ∷ replies) reply = last_and_one next replies reply

-- one key more: where it leads, and what is answered to it
pub state_and_key : (caller : List ℕ) (base : BaseView) (from : SessionState) (keys : List Key) (key : Key)
    → state_after caller base from (keys ++ key ∷ []) ≡ (key_step caller base (state_after caller base from keys) key).0
state_and_key caller base from keys key = state_in_turn caller base from keys (key ∷ [])

pub last_and_key : (caller : List ℕ) (base : BaseView) (from : SessionState) (before : Reply) (keys : List Key) (key : Key) → final_reply before (replies_to caller base from (keys ++ key ∷ [])) ≡ (key_step caller base (state_after caller base from keys) key).1
last_and_key caller base from before keys key =
    ap (final_reply before) (replies_in_turn caller base from keys (key ∷ []))
    ∙ last_and_one before (replies_to caller base from keys) (key_step caller base (state_after caller base from keys) key).1
