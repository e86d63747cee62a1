-- A fault that is due is borne out by its script.
use Rattle.std.proofs.Common.{◌≡◌, inl, inr, ℕ, Bool, true, false, cond, List, [], ◌∷◌, Some, refl, sym, ◌∙◌, ap, subst}
use Rattle.std.specs.Prelude.{Contains}
use Rattle.std.proofs.lemmas.List.Elements.{Contains-push_cases}
use Rattle.page_ids.specs.Ids.{Id}
use Rattle.page_ids.specs.Ways.{way_key}
use Rattle.page_ids.specs.declared.key.Key.{Key}
use Rattle.frame_records.specs.declared.frame.Frame.{Frame}
use Rattle.frame_records.specs.declared.base.Sought.{Sought}
use Rattle.frame_records.specs.declared.base.Sought.TheVariants as sought
use Rattle.frame_records.specs.declared.ways.Destination.{Destination}
use Rattle.frame_records.specs.declared.ways.Destination.TheVariants as way
use Rattle.frame_records.specs.Bases.{BaseView, frame_at}
use Rattle.frame_records.specs.Seek.{seek, sought_of, is_open, entry_of, seek_entry}
use Rattle.session_machine.specs.declared.reply.Reply.{Reply}
use Rattle.session_machine.specs.declared.reply.Reply.TheVariants.{Shown, Missing, Closed}
use Rattle.session_machine.specs.Sessions.{SessionState, At, present, Outcome, key_step, by_way, opening, opening_reply}
use Rattle.checker.specs.declared.policy.Policy.{Policy}
use Rattle.finder.specs.Finds.{KeysLead}
use Rattle.base_faults.specs.declared.fault.Fault.{Fault}
use Rattle.base_faults.specs.declared.fault.FaultKind.{FaultKind}
use Rattle.base_faults.specs.declared.fault.FaultKind.TheVariants as kind
use Rattle.fault_scripts.specs.Faults.{PriceIsDue, TouchIsDue, KeyIsDue, NoReturnIsDue, IsDueAs, AreFaultsBy, plain_fault, price_fault, touch_fault, key_fault}
use Rattle.fault_scripts.specs.FaultLaws.{FaultsAreShown}
use Rattle.fault_scripts.specs.Shows.{last_state, ShowsPrice, ShowsTouch, ShowsKey, ShowsNoReturn, ShowsAs, Shows}
use Rattle.fault_scripts.proofs.Lists.{none_in}
use Rattle.fault_scripts.proofs.Sessions.{RunsTo, keys_lead_run, way_is, state_and_key, last_and_key}

-- a frame is found at its own price
own_price : (caller : List ℕ) (base : BaseView) (id : Id) (frame : Frame) (price : ℕ) → frame_at base id ≡ Some frame
    → seek caller base id ≡ sought.Found price → price ≡ frame.price
own_price caller base id frame price at found = by (is_open caller frame) (sym (ap (sought_of caller) at) ∙ found) where
  by : (b : Bool) → cond b (sought.Found frame.price) sought.Closed ≡ sought.Found price → price ≡ frame.price
  by true e = cc
  by false e = absurd cc

module _ (base : BaseView) (policy : Policy) (price : ℕ) (id : Id) (frame : Frame) (keys : List Key) (opened : seek_entry policy.groups base ≡ sought.Found price) (lead : KeysLead policy.groups base (entry_of base) keys id) (at : frame_at base id ≡ Some frame) where
  run : RunsTo policy.groups base (opening base) (opening_reply base price) keys id
  run = keys_lead_run policy.groups base (entry_of base) id [] price keys lead opened

  -- a session of the script ends at the frame
  ends_there : present (last_state policy.groups base keys) ≡ Some id
  ends_there = ap present run.state

  shows_price : (fault : Fault) → PriceIsDue policy id frame keys fault → ShowsPrice base policy fault
  shows_price fault due =
      let is : ShowsPrice base policy (price_fault id keys frame.price) = record {
        price = price;
        opened = opened;
        last = run.last ∙ ap (Shown id) (own_price policy.groups base id frame run.price at run.found);
        above = due.above;
      } in subst (ShowsPrice base policy) (sym due.is) is

  shows_touch : (fault : Fault) → TouchIsDue id frame keys fault → ShowsTouch policy.groups base fault
  shows_touch fault due =
      let is : ShowsTouch policy.groups base (touch_fault id keys due.start) = record {
        there = record { price = price; opened = opened; at = ends_there };
        frame = frame;
        start = due.start;
        of_frame = at;
        is_start = refl;
        least = due.least;
      } in subst (ShowsTouch policy.groups base) (sym due.is) is

  -- a way after whose key the caller is still there
  shows_key : (k : FaultKind) (what : Id → Destination) (reply : Id → Reply) (fault : Fault)
      → ((to : Id) → by_way id run.remembered (what to) ≡ (At id run.remembered, reply to))
      → KeyIsDue policy.groups base id keys fault k what → ShowsKey policy.groups base fault reply
  shows_key k what reply fault stays due =
      let key = way_key due.through in
      let here : key_step policy.groups base (last_state policy.groups base keys) key ≡ (At id run.remembered, reply due.to) =
      ap (λ (s : SessionState). key_step policy.groups base s key) run.state
      ∙ way_is policy.groups base id run.remembered due.through
      ∙ ap (by_way id run.remembered) due.comes_to
      ∙ stays due.to in
      let is : ShowsKey policy.groups base (key_fault k id keys key due.to) reply = record {
        there = record {
          price = price;
          opened = opened;
          at = ap present (state_and_key policy.groups base (opening base) keys key ∙ ap (λ (o : Outcome). o.0) here);
        };
        before = keys;
        key = key;
        to = due.to;
        is_key = refl;
        is_sought = refl;
        ends = refl;
        last = last_and_key policy.groups base (opening base) (opening_reply base price) keys key ∙ ap (λ (o : Outcome). o.1) here;
      } in subst (λ (x : Fault). ShowsKey policy.groups base x reply) (sym due.is) is

  shows_far : (fault : Fault) → NoReturnIsDue base policy id keys fault → ShowsNoReturn base policy fault
  shows_far fault due =
      let is : ShowsNoReturn base policy (plain_fault kind.NoReturn id keys) = record {
        there = record { price = price; opened = opened; at = ends_there };
        far = due.far;
      } in subst (ShowsNoReturn base policy) (sym due.is) is

  -- a fault of a frame to which its script leads
  shows_as : (k : FaultKind) (fault : Fault) → IsDueAs k base policy id frame keys fault → ShowsAs k base policy fault
  shows_as kind.EntryMissing fault due = absurd due
  shows_as kind.EntryClosed fault due = absurd due
  shows_as kind.Price fault due = shows_price fault due
  shows_as kind.Touches fault due = shows_touch fault due
  shows_as kind.Missing fault due = shows_key kind.Missing way.Missing Missing fault (λ to. refl) due
  shows_as kind.Closed fault due = shows_key kind.Closed way.Closed Closed fault (λ to. refl) due
  shows_as kind.NoReturn fault due = shows_far fault due

only_one : (x y : Fault) → Contains (x ∷ []) y → x ≡ y
only_one x y at =
    elim (Contains-push_cases [] x y at) [
      | inl none ↦ absurd (none_in y none)
      | inr same ↦ same
    ]

pub faults_shown : FaultsAreShown
faults_shown base policy faults fault are reported = by (seek_entry policy.groups base) refl are where
  -- if the entry frame isn't found that is shown by no keys
  entry : (plain : Fault) → Shows base policy plain → faults ≡ plain ∷ [] → Shows base policy fault
  entry plain shown is = subst (Shows base policy) (only_one plain fault (subst (λ (l : List Fault). Contains l fault) is reported)) shown

  by : (s : Sought) → seek_entry policy.groups base ≡ s → AreFaultsBy s base policy faults → Shows base policy fault
  by (sought.Found price) e along =
      let due = (along.due.just fault).0 reported in
      let lead = subst (λ (keys : List Key). KeysLead policy.groups base (entry_of base) keys due.discovered.id) (sym due.place.script) (along.finding.scripts.leads due.index due.discovered due.place.listed) in
      shows_as base policy price due.discovered.id due.frame due.keys e lead due.place.of_frame fault.kind fault due.due
  by sought.Closed e is = entry (plain_fault kind.EntryClosed (entry_of base) []) (record { frame = refl; script = refl; sought = e }) is
  by sought.Missing e is = entry (plain_fault kind.EntryMissing (entry_of base) []) (record { frame = refl; script = refl; sought = e }) is
