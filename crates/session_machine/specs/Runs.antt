-- Lists of keys, what is safe about them, and changes of edition.
use Rattle.std.specs.Prelude.{ℕ, List, [], ◌∷◌, Result, Ok, Err, ◌≡◌, ◌≤◌, Some, length, ◌++◌}
use Rattle.page_ids.specs.declared.key.Key.{Key}
use Rattle.frame_records.specs.declared.base.Sought.{Sought}
use Rattle.frame_records.specs.declared.base.Sought.TheVariants as sought
use Rattle.frame_records.specs.Bases.{BaseView}
use Rattle.session_machine.specs.declared.reply.Reply.{Reply}
use Rattle.session_machine.specs.declared.session.OpenFault.{OpenFault}
use Rattle.session_machine.specs.declared.session.OpenFault.TheVariants.{EntryMissing, EntryClosed}
use Rattle.session_machine.specs.Sessions.{SessionState, key_step, opening, opening_reply, At, Left, present, remembered_of}
use Rattle.frame_records.specs.Seek.{seek_entry, entry_of, seek}
use Rattle.std.specs.List.{AllByRecursion}
use Rattle.page_ids.specs.declared.key.Key.TheVariants.{Route, Next}
use Rattle.frame_records.specs.declared.base.Sought.TheVariants.{Found}
use Rattle.session_machine.specs.declared.reply.Reply.TheVariants.{Shown, Again, NotOffered, Missing, Closed, Gone}
use Rattle.page_ids.specs.Ids.{Id}

-- Whole sessions: keys in turn, from any state. The caller is the list of the groups to which the caller belongs.

-- where the keys lead from a state
abbrev pub state_after : List ℕ → BaseView → SessionState → List Key → SessionState
state_after caller base state [] = state
state_after caller base state (key ∷ keys) = state_after caller base (key_step caller base state key).0 keys

-- what is answered to the keys, one reply each
abbrev pub replies_to : List ℕ → BaseView → SessionState → List Key → List Reply
replies_to caller base state [] = []
replies_to caller base state (key ∷ keys) = (key_step caller base state key).1 ∷ replies_to caller base (key_step caller base state key).0 keys

-- the replies of a session whose entry frame has the price: the opening one, then one for each key
abbrev pub replies_of : List ℕ → BaseView → List Key → ℕ → List Reply
replies_of caller base keys price = opening_reply base price ∷ replies_to caller base (opening base) keys

-- a whole session by the result of seeking the entry frame: its replies, or why it isn't opened
abbrev pub session_by : List ℕ → BaseView → List Key → Sought → Result (List Reply) OpenFault
session_by caller base keys (sought.Found price) = Ok (replies_of caller base keys price)
session_by caller base keys sought.Closed = Err EntryClosed
session_by caller base keys sought.Missing = Err EntryMissing

-- a whole session
abbrev pub session_of : List ℕ → BaseView → List Key → Result (List Reply) OpenFault
session_of caller base keys = session_by caller base keys (seek_entry caller base)

-- When a base is safe for a caller: nothing sought is missing or closed, prices stay low, and the entry can be regained.

-- a route or next key: what `*#` might do isn't counted, since it depends on what is remembered
abbrev pub IsForward : Key → Type 0
IsForward (Route digit) = Unit {0}
IsForward Next = Unit {0}
IsForward _ = ⊥

-- at most this many route and next keys lead to the entry frame
pub record Regains (caller : List ℕ) (base : BaseView) (state : SessionState) (most : ℕ) : Type 0 where
  pub keys : List Key
  pub few : length keys ≤ most
  pub forward : AllByRecursion IsForward keys
  pub entry : present (state_after caller base state keys) ≡ Some (entry_of base)

-- the caller left, or can regain the entry frame
abbrev pub LeftOrRegains : List ℕ → BaseView → ℕ → SessionState → Type 0
LeftOrRegains caller base most (At id remembered) = Regains caller base (At id remembered) most
LeftOrRegains caller base most (Left page) = Unit {0}

-- a fair reply is never Missing or Closed, and what is shown costs at most the ceiling
abbrev pub IsFairReply : ℕ → Reply → Type 0
IsFairReply ceiling (Shown id price) = price ≤ ceiling
IsFairReply ceiling (Again id) = Unit {0}
IsFairReply ceiling NotOffered = Unit {0}
IsFairReply ceiling (Missing id) = ⊥
IsFairReply ceiling (Closed id) = ⊥
IsFairReply ceiling (Gone page) = Unit {0}

-- a session can be opened, and after every list of keys each reply was fair, the opening one too, and the caller left or
-- regains the entry frame within the keyings
pub record SafeSession (caller : List ℕ) (base : BaseView) (ceiling keyings : ℕ) : Type 0 where
  pub price : ℕ
  pub found : seek_entry caller base ≡ Found price
  pub fair_price : price ≤ ceiling
  pub fair : (keys : List Key) → AllByRecursion (IsFairReply ceiling) (replies_to caller base (opening base) keys)
  pub regains : (keys : List Key) → LeftOrRegains caller base keyings (state_after caller base (opening base) keys)

-- Sessions during which the edition changes: each part is the keys that are pressed while one base is served. A change
-- comes between two keys, before the first or after the last; a part may be without keys.

-- a base, and the keys that are pressed while it is served
pub record Part : Type 0 where
  pub base : BaseView
  pub keys : List Key

-- where the parts lead from a state
abbrev pub state_over : List ℕ → SessionState → List Part → SessionState
state_over caller state [] = state
state_over caller state (part ∷ parts) = state_over caller (state_after caller part.base state part.keys) parts

-- what is answered to all their keys, one reply each
abbrev pub replies_over : List ℕ → SessionState → List Part → List Reply
replies_over caller state [] = []
replies_over caller state (part ∷ parts) = replies_to caller part.base state part.keys ++ replies_over caller (state_after caller part.base state part.keys) parts

-- Laws of sessions, of every caller, base and state.

-- two lists of keys in turn do what their concatenation does
pub record RunsInTurn : Type 0 where
  pub state : (caller : List ℕ) (base : BaseView) (from : SessionState) (keys more : List Key) → state_after caller base from (keys ++ more) ≡ state_after caller base (state_after caller base from keys) more
  pub replies : (caller : List ℕ) (base : BaseView) (from : SessionState) (keys more : List Key) → replies_to caller base from (keys ++ more) ≡ replies_to caller base from keys ++ replies_to caller base (state_after caller base from keys) more

-- parts in turn do what their concatenation does; and a change to the same base is none
pub record PartsInTurn : Type 0 where
  pub state : (caller : List ℕ) (from : SessionState) (parts more : List Part) → state_over caller from (parts ++ more) ≡ state_over caller (state_over caller from parts) more
  pub replies : (caller : List ℕ) (from : SessionState) (parts more : List Part) → replies_over caller from (parts ++ more) ≡ replies_over caller from parts ++ replies_over caller (state_over caller from parts) more
  pub same : (caller : List ℕ) (base : BaseView) (from : SessionState) (keys more : List Key) → state_over caller from (record { base = base; keys = keys } ∷ record { base = base; keys = more } ∷ []) ≡ state_after caller base from (keys ++ more)
  pub same_replies : (caller : List ℕ) (base : BaseView) (from : SessionState) (keys more : List Key) → replies_over caller from (record { base = base; keys = keys } ∷ record { base = base; keys = more } ∷ []) ≡ replies_to caller base from (keys ++ more)

-- at most three frames are remembered, after every list of keys
pub record RemembersFew : Type 0 where
  pub kept : (caller : List ℕ) (base : BaseView) (from : SessionState) (keys : List Key) → length (remembered_of from) ≤ 3 → length (remembered_of (state_after caller base from keys)) ≤ 3
  pub opened : (caller : List ℕ) (base : BaseView) (keys : List Key) → length (remembered_of (state_after caller base (opening base) keys)) ≤ 3

-- who has left stays away, and no key is offered there
pub record LeftStays : Type 0 where
  pub state : (caller : List ℕ) (base : BaseView) (page : ℕ) (keys : List Key) → state_after caller base (Left page) keys ≡ Left page
  pub replies : (caller : List ℕ) (base : BaseView) (page : ℕ) (keys : List Key) → AllByRecursion (λ reply. reply ≡ NotOffered) (replies_to caller base (Left page) keys)

-- what a key shows was sought and found with that price, and is the frame at which the caller now is; `Again` answers
-- the present frame, and nothing changes
pub record ShowsWhatIsFound : Type 0 where
  pub found : (caller : List ℕ) (base : BaseView) (state : SessionState) (key : Key) (id : Id) (price : ℕ) → (key_step caller base state key).1 ≡ Shown id price → seek caller base id ≡ Found price
  pub there : (caller : List ℕ) (base : BaseView) (state : SessionState) (key : Key) (id : Id) (price : ℕ) → (key_step caller base state key).1 ≡ Shown id price → present (key_step caller base state key).0 ≡ Some id
  pub again : (caller : List ℕ) (base : BaseView) (state : SessionState) (key : Key) (id : Id) → (key_step caller base state key).1 ≡ Again id → present state ≡ Some id
  pub again_same : (caller : List ℕ) (base : BaseView) (state : SessionState) (key : Key) (id : Id) → (key_step caller base state key).1 ≡ Again id → (key_step caller base state key).0 ≡ state
