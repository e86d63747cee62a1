-- A base with a fault that is shown isn't safe.
use Rattle.std.proofs.Common.{◌≡◌, ◌≤◌, ◌⊎◌, inl, inr, ℕ, zero, suc, List, [], ◌∷◌, ◌++◌, Some, length, refl, sym, ◌∙◌, ap, subst, arith}
use Rattle.std.specs.List.{AllByRecursion}
use Rattle.std.proofs.lemmas.Option.{same_Some}
use Rattle.page_ids.specs.Ids.{Id}
use Rattle.page_ids.specs.declared.key.Key.{Key}
use Rattle.page_ids.specs.declared.key.Key.TheVariants as key
use Rattle.page_ids.specs.declared.way.Way.{Way}
use Rattle.page_ids.specs.declared.way.Way.TheVariants as ways
use Rattle.frame_records.specs.declared.frame.Frame.{Frame}
use Rattle.frame_records.specs.declared.base.Sought.{Sought}
use Rattle.frame_records.specs.declared.base.Sought.TheVariants as sought
use Rattle.frame_records.specs.declared.ways.Destination.{Destination}
use Rattle.frame_records.specs.declared.ways.Destination.TheVariants as way
use Rattle.frame_records.specs.Bases.{BaseView}
use Rattle.frame_records.specs.Seek.{entry_of, seek_entry}
use Rattle.frame_records.specs.Ways.{destination, Leads}
use Rattle.session_machine.specs.declared.reply.Reply.{Reply}
use Rattle.session_machine.specs.declared.reply.Reply.TheVariants.{Again, Missing, Closed}
use Rattle.session_machine.specs.Sessions.{SessionState, At, Left, present, key_step, remember, by_way, opening, opening_reply}
use Rattle.session_machine.specs.Runs.{state_after, replies_to, IsForward, Regains, LeftOrRegains, IsFairReply}
use Rattle.session_machine.proofs.Runs.{away_state}
use Rattle.terminal_codes.specs.Bodies.{IsClean}
use Rattle.checker.specs.declared.policy.Policy.{Policy}
use Rattle.checker.specs.Safe.{Safe, IsCleanAt, IsCleanReply}
use Rattle.finder.specs.Finds.{Walk}
use Rattle.base_faults.specs.declared.fault.Fault.{Fault}
use Rattle.base_faults.specs.declared.fault.FaultKind.{FaultKind}
use Rattle.base_faults.specs.declared.fault.FaultKind.TheVariants as kind
use Rattle.fault_scripts.specs.Shows.{final_reply, last_reply, last_state, ShowsEntry, ShowsPrice, ShowsTouch, ShowsKey, ShowsNoReturn, ShowsAs, Shows}
use Rattle.fault_scripts.proofs.Sessions.{last_and_key}

-- what holds of each reply, and of the one before, holds of the last
last_holds : (P : Reply → Type 0) (before : Reply) (replies : List Reply) → P before → AllByRecursion P replies
    → P (final_reply before replies)
last_holds P before [] first all = first
last_holds P before (next ∷ replies) first all = last_holds P next replies all.0 all.1

-- the present frame of a state
at_frame : (s : SessionState) (id : Id) → present s ≡ Some id → (remembered : List Id) × (s ≡ At id remembered)
at_frame (At other remembered) id e = (remembered, ap (λ (x : Id). At x remembered) (same_Some other id e))
at_frame (Left page) id e = absurd cc

price_once : (s : Sought) (price other : ℕ) → s ≡ sought.Found price → s ≡ sought.Found other → price ≡ other
price_once s price other a b = let both : sought.Found price ≡ sought.Found other = sym a ∙ b in cc

module _ (caller : List ℕ) (base : BaseView) where
  -- a step before a walk
  walk_before : (f h g : Id) (w : Way) (n : ℕ) → Leads caller base f w h → Walk caller base h g n
      → Walk caller base f g (suc n)
  walk_before f h g w zero l same =
      let on : Leads caller base f w g = subst (Leads caller base f w) same l in
      let here : Walk caller base f f zero = refl in
      (f, w, here, on)
  walk_before f h g w (suc n) l walk = (walk.0, walk.1, walk_before f h walk.0 w n l walk.2, walk.3)

  -- what a way's key does to the caller's state: it stays, leaves, or moves along the way
  abbrev Moves : Id → List Id → SessionState → Type 0
  Moves f remembered s = (s ≡ At f remembered) ⊎ (((page : ℕ) × (s ≡ Left page)) ⊎ ((h : Id) × (w : Way) × (more : List Id) × (s ≡ At h more) × Leads caller base f w h))

  moves_by : (f : Id) (remembered : List Id) (w : Way) (d : Destination) → destination caller base f w ≡ d
      → Moves f remembered (by_way f remembered d).0
  moves_by f remembered w way.NotOffered e = inl refl
  moves_by f remembered w (way.Found to price) e = inr (inr (to, w, remember f remembered, refl, record { price = price; found = e }))
  moves_by f remembered w (way.Closed to) e = inl refl
  moves_by f remembered w (way.Missing to) e = inl refl
  moves_by f remembered w (way.Outside page) e = inr (inl (page, refl))

  moves : (f : Id) (remembered : List Id) (k : Key) → IsForward k
      → Moves f remembered (key_step caller base (At f remembered) k).0
  moves f remembered (key.Route digit) forward = moves_by f remembered (ways.Route digit) (destination caller base f (ways.Route digit)) refl
  moves f remembered key.Next forward = moves_by f remembered ways.Next (destination caller base f ways.Next) refl
  moves f remembered key.Prev forward = absurd forward
  moves f remembered key.Reprint forward = absurd forward
  moves f remembered key.Update forward = absurd forward

  -- a walk of at most this many steps
  record WalksWithin (f g : Id) (most : ℕ) : Type 0 where
    pub steps : ℕ
    pub within_most : steps ≤ most
    pub walk : Walk caller base f g steps

  walked_from : (f g : Id) (keys : List Key) (s : SessionState) (remembered : List Id) → Moves f remembered s
      → ((h : Id) (more : List Id) → present (state_after caller base (At h more) keys) ≡ Some g → WalksWithin h g (length keys)) → present (state_after caller base s keys) ≡ Some g → WalksWithin f g (suc (length keys))
  walked_from f g keys s remembered (inl stays) rest ends =
      let w = rest f remembered (ap (λ (x : SessionState). present (state_after caller base x keys)) (sym stays) ∙ ends) in
      record { steps = w.steps; within_most = omega (arith, w.within_most); walk = w.walk }
  walked_from f g keys s remembered (inr (inl left)) rest ends =
      let away : present (Left left.0) ≡ Some g = sym (ap present (ap (λ (x : SessionState). state_after caller base x keys) left.1 ∙ away_state caller base left.0 keys)) ∙ ends in
      absurd cc
  walked_from f g keys s remembered (inr (inr moved)) rest ends =
      let w = rest moved.0 moved.2 (ap (λ (x : SessionState). present (state_after caller base x keys)) (sym moved.3) ∙ ends) in
      record { steps = suc w.steps; within_most = omega (arith, w.within_most); walk = walk_before f moved.0 g moved.1 w.steps moved.4 w.walk }

  -- keys that aren't `*` lead along a walk of no more steps
  walked : (f g : Id) (remembered : List Id) (keys : List Key) → AllByRecursion IsForward keys
      → present (state_after caller base (At f remembered) keys) ≡ Some g → WalksWithin f g (length keys)
  walked f g remembered [] forward ends = record { steps = 0; within_most = omega arith; walk = same_Some f g ends }
  walked f g remembered (k ∷ keys) forward ends =
      walked_from f g keys (key_step caller base (At f remembered) k).0 remembered (moves f remembered k forward.0) (λ h more e. walked h g more keys forward.1 e) ends

module _ (base : BaseView) (policy : Policy) (safe : Safe policy.groups base policy.ceiling policy.keyings) (fault : Fault) where
  -- a session of any keys ends with a fair reply
  last_fair : (keys : List Key) (price : ℕ) → seek_entry policy.groups base ≡ sought.Found price
      → IsFairReply policy.ceiling (last_reply policy.groups base keys price)
  last_fair keys price opened =
      let own : safe.session.price ≡ price = price_once (seek_entry policy.groups base) safe.session.price price safe.session.found opened in
      last_holds (IsFairReply policy.ceiling) (opening_reply base price) (replies_to policy.groups base (opening base) keys) (subst (λ (p : ℕ). p ≤ policy.ceiling) own safe.session.fair_price) (safe.session.fair keys)

  entry_unsafe : (what : Sought) → ((price : ℕ) → what ≡ sought.Found price → ⊥)
      → ShowsEntry policy.groups base fault what → ⊥
  entry_unsafe what other shown = other safe.session.price (sym shown.sought ∙ safe.session.found)

  price_unsafe : ShowsPrice base policy fault → ⊥
  price_unsafe shown =
      let fair : fault.price ≤ policy.ceiling = subst (IsFairReply policy.ceiling) shown.last (last_fair fault.script shown.price shown.opened) in
      omega (arith, fair, shown.above)

  key_unsafe : (reply : Id → Reply) → ((to : Id) → IsFairReply policy.ceiling (reply to) → ⊥)
      → ShowsKey policy.groups base fault reply → ⊥
  key_unsafe reply unfair shown = unfair shown.to (subst (IsFairReply policy.ceiling) shown.last (last_fair fault.script shown.there.price shown.there.opened))

  -- the frame at which a session ends is clean: `*00` answers it again
  clean_there : (keys : List Key) (id : Id) → present (last_state policy.groups base keys) ≡ Some id → IsCleanAt base id
  clean_there keys id there =
      let s = at_frame (last_state policy.groups base keys) id there in
      let again : (key_step policy.groups base (last_state policy.groups base keys) key.Reprint).1 ≡ Again id = ap (λ (x : SessionState). (key_step policy.groups base x key.Reprint).1) s.1 in
      let last : final_reply (opening_reply base safe.session.price) (replies_to policy.groups base (opening base) (keys ++ key.Reprint ∷ [])) ≡ Again id = last_and_key policy.groups base (opening base) (opening_reply base safe.session.price) keys key.Reprint ∙ again in
      subst (IsCleanReply base) last (last_holds (IsCleanReply base) (opening_reply base safe.session.price) (replies_to policy.groups base (opening base) (keys ++ key.Reprint ∷ [])) safe.entry_clean (safe.clean (keys ++ key.Reprint ∷ [])))

  touch_unsafe : ShowsTouch policy.groups base fault → ⊥
  touch_unsafe shown =
      let clean = clean_there fault.script fault.frame shown.there.at in
      let same : clean.frame ≡ shown.frame = same_Some clean.frame shown.frame (sym clean.found ∙ shown.of_frame) in
      subst (λ (frame : Frame). IsClean frame.lead frame.body) same clean.clean shown.start.offset shown.least.offset.touch

  far_unsafe : ShowsNoReturn base policy fault → ⊥
  far_unsafe shown =
      let s = at_frame (last_state policy.groups base fault.script) fault.frame shown.there.at in
      let home : Regains policy.groups base (At fault.frame s.0) policy.keyings = subst (LeftOrRegains policy.groups base policy.keyings) s.1 (safe.session.regains fault.script) in
      let w = walked policy.groups base fault.frame (entry_of base) s.0 home.keys home.forward home.entry in
      shown.far w.steps (omega (arith, w.within_most, home.few)) w.walk

  unsafe_as : (k : FaultKind) → ShowsAs k base policy fault → ⊥
  unsafe_as kind.EntryMissing shown = entry_unsafe sought.Missing (λ price e. cc) shown
  unsafe_as kind.EntryClosed shown = entry_unsafe sought.Closed (λ price e. cc) shown
  unsafe_as kind.Price shown = price_unsafe shown
  unsafe_as kind.Touches shown = touch_unsafe shown
  unsafe_as kind.Missing shown = key_unsafe Missing (λ to unfair. unfair) shown
  unsafe_as kind.Closed shown = key_unsafe Closed (λ to unfair. unfair) shown
  unsafe_as kind.NoReturn shown = far_unsafe shown

-- a shown fault and safety exclude one another
pub shown_is_unsafe : (base : BaseView) (policy : Policy) (fault : Fault) → Shows base policy fault
    → Safe policy.groups base policy.ceiling policy.keyings → ⊥
shown_is_unsafe base policy fault shown safe = unsafe_as base policy safe fault fault.kind shown
