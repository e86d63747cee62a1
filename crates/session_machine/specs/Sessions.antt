-- A session, and what a key does to it.
use Rattle.std.specs.Prelude.{ℕ, List, [], Option, Some, None, ◌≡◌, ◌≤◌, length, Result, Ok, Err, ◌∷◌, take}
use Rattle.page_ids.specs.Ids.{Id}
use Rattle.session_machine.specs.declared.session.Session.TheInside.{Inside}
use Rattle.session_machine.specs.declared.session.Whereabouts.{Whereabouts}
use Rattle.session_machine.specs.declared.session.Whereabouts.TheVariants as whereabouts
use Rattle.frame_records.specs.declared.base.Sought.TheVariants as sought
use Rattle.frame_records.specs.Bases.{BaseView}
use Rattle.frame_records.specs.Seek.{entry_of, seek_entry, seek}
use Rattle.session_machine.specs.declared.reply.Reply.{Reply}
use Rattle.session_machine.specs.declared.reply.Reply.TheVariants.{Shown, Again, NotOffered, Missing, Closed, Gone}
use Rattle.session_machine.specs.declared.session.OpenFault.{OpenFault}
use Rattle.session_machine.specs.declared.session.OpenFault.TheVariants.{EntryMissing, EntryClosed, Memory}
use Rattle.page_ids.specs.declared.key.Key.{Key}
use Rattle.page_ids.specs.declared.key.Key.TheVariants.{Route, Next, Prev, Reprint, Update}
use Rattle.page_ids.specs.declared.way.Way.{Way}
use Rattle.page_ids.specs.declared.way.Way.TheVariants as ways
use Rattle.frame_records.specs.declared.base.Sought.{Sought}
use Rattle.frame_records.specs.declared.ways.Destination.{Destination}
use Rattle.frame_records.specs.declared.ways.Destination.TheVariants as way
use Rattle.frame_records.specs.Ways.{destination}

-- What contracts see of a session.

-- the caller is at a frame, with the remembered frames, the latest first; or has left for an outside page
pub data SessionState : Type 0 where
  At : (id : Id) (remembered : List Id) → SessionState
  Left : (page : ℕ) → SessionState

-- the state, and the closed user groups to which the caller belongs
pub record SessionView : Type 0 where
  pub groups : List ℕ
  pub state : SessionState

-- the present frame; none if the caller left
abbrev pub present : SessionState → Option Id
present (At id remembered) = Some id
present (Left page) = None

-- the outside page for which the caller left
abbrev pub left_for : SessionState → Option ℕ
left_for (At id remembered) = None
left_for (Left page) = Some page

-- the remembered frames, the latest first; none if the caller left
abbrev pub remembered_of : SessionState → List Id
remembered_of (At id remembered) = remembered
remembered_of (Left page) = []

-- What the fields of a session mean.

-- at a frame the ring is what is remembered; in Left nothing is
abbrev pub state_of : Whereabouts → List Id → SessionState
state_of (whereabouts.At id) remembered = At id remembered
state_of (whereabouts.Left page) remembered = Left page

-- the caller's groups, and where the caller is
abbrev pub session_view : Inside → SessionView
session_view s = record { groups = s.groups; state = state_of s.whereabouts s.remembered.items }

-- the ring has room for three frames
pub record IsRing (s : Inside) : Type 0 where
  pub capacity : s.remembered.capacity ≡ 3
  pub within : length s.remembered.items ≤ 3

-- How a session begins.

-- the state in which a session begins: at the entry frame, nothing remembered
abbrev pub opening : BaseView → SessionState
opening base = At (entry_of base) []

-- the reply with which it begins
abbrev pub opening_reply : BaseView → ℕ → Reply
opening_reply base price = Shown (entry_of base) price

-- the entry frame is found, and the session and the reply are the opening ones, with the frame's price
pub record IsOpening (caller : List ℕ) (base : BaseView) (session : SessionView) (reply : Reply) : Type 0 where
  pub price : ℕ
  pub found : seek_entry caller base ≡ sought.Found price
  pub groups : session.groups ≡ caller
  pub state : session.state ≡ opening base
  pub shown : reply ≡ opening_reply base price

-- what a fault says of the entry frame; memory may be refused only where it is found
abbrev pub IsOpenFault : List ℕ → BaseView → OpenFault → Type 0
IsOpenFault caller base EntryMissing = seek_entry caller base ≡ sought.Missing
IsOpenFault caller base EntryClosed = seek_entry caller base ≡ sought.Closed
IsOpenFault caller base Memory = (price : ℕ) × (seek_entry caller base ≡ sought.Found price)

-- the session and its first reply, or why it isn't opened
abbrev pub IsOpened : List ℕ → BaseView → Result (SessionView × Reply) OpenFault → Type 0
IsOpened caller base (Ok (session, reply)) = IsOpening caller base session reply
IsOpened caller base (Err fault) = IsOpenFault caller base fault

-- What each key does: the rules of a session, one definition for each row or group of rows of the table of keys.
--
-- The caller is the list of the closed user groups to which the caller belongs. Seeking a frame results in found, with its
-- price, closed or missing; each definition by cases on that has it as its last argument.
--
-- A digit and `#` go a way of the present frame, and share the way's destination: a digit its route, to the page's frame
-- `a`; `#` to the following letter.
--
--   key     condition                                  reply             new state
--   way     not offered: no such route, no `next`      NotOffered        same
--   way     the frame is found                         Shown, its price  there; the frame left is the latest remembered
--   way     it is closed                               Closed            same
--   way     it is missing                              Missing           same
--   way     it is missing, a route's page is outside   Gone              left for the page
--   *#      nothing is remembered                      NotOffered        same
--   *#      the latest remembered is found             Shown, its price  there; it is taken from the remembered
--   *#      it is closed, missing                      Closed, Missing   same
--   *00     at a frame                                 Again             same, no charge
--   *09     the present frame is found                 Shown, its price  same
--   *09     it is closed, missing                      Closed, Missing   same
--   any     the caller left                            NotOffered        same

-- the new state, and the reply
abbrev pub Outcome : Type 0
Outcome = SessionState × Reply

-- the frame left becomes the latest remembered, and a fourth drops the oldest
abbrev pub remember : Id → List Id → List Id
remember id remembered = take 3 (id ∷ remembered)

-- a key that isn't offered: nothing changes
abbrev pub not_offered : SessionState → Outcome
not_offered state = (state, NotOffered)

-- a way, by its destination: the frame left is remembered if another is shown
abbrev pub by_way : Id → List Id → Destination → Outcome
by_way id remembered way.NotOffered = not_offered (At id remembered)
by_way id remembered (way.Found to price) = (At to (remember id remembered), Shown to price)
by_way id remembered (way.Closed to) = (At id remembered, Closed to)
by_way id remembered (way.Missing to) = (At id remembered, Missing to)
by_way id remembered (way.Outside page) = (Left page, Gone page)

-- `*#` with a remembered frame: the latest is taken if it is found, and nothing is added; it stays if it is refused
abbrev pub by_prev : Id → Id → List Id → Sought → Outcome
by_prev id latest older (sought.Found price) = (At latest older, Shown latest price)
by_prev id latest older sought.Closed = (At id (latest ∷ older), Closed latest)
by_prev id latest older sought.Missing = (At id (latest ∷ older), Missing latest)

-- `*09`: the present frame anew, charged again; whatever the result, the state stays
abbrev pub by_update : Id → List Id → Sought → Outcome
by_update id remembered (sought.Found price) = (At id remembered, Shown id price)
by_update id remembered sought.Closed = (At id remembered, Closed id)
by_update id remembered sought.Missing = (At id remembered, Missing id)

-- a way of the present frame; if the base has no such record none is offered
abbrev pub way_step : List ℕ → BaseView → Id → List Id → Way → Outcome
way_step caller base id remembered way = by_way id remembered (destination caller base id way)

-- `*#`: not offered if nothing is remembered
abbrev pub prev_step : List ℕ → BaseView → Id → List Id → Outcome
prev_step caller base id [] = not_offered (At id [])
prev_step caller base id (latest ∷ older) = by_prev id latest older (seek caller base latest)

-- `*00`: the present frame again, without a charge
abbrev pub reprint_step : Id → List Id → Outcome
reprint_step id remembered = (At id remembered, Again id)

-- `*09`
abbrev pub update_step : List ℕ → BaseView → Id → List Id → Outcome
update_step caller base id remembered = by_update id remembered (seek caller base id)

-- each key at a frame
abbrev pub key_at : List ℕ → BaseView → Id → List Id → Key → Outcome
key_at caller base id remembered (Route digit) = way_step caller base id remembered (ways.Route digit)
key_at caller base id remembered Next = way_step caller base id remembered ways.Next
key_at caller base id remembered Prev = prev_step caller base id remembered
key_at caller base id remembered Reprint = reprint_step id remembered
key_at caller base id remembered Update = update_step caller base id remembered

-- the whole table: in Left no key is offered
abbrev pub key_step : List ℕ → BaseView → SessionState → Key → Outcome
key_step caller base (At id remembered) key = key_at caller base id remembered key
key_step caller base (Left page) key = not_offered (Left page)
