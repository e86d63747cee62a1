-- What a caller is promised, said again of keys, replies and terminals alone, so that no definition between can lose a part of it.
use Rattle.std.specs.Prelude.{◌≡◌, ◌≤◌, ◌<◌, ◌⊎◌, ◌++◌, ℕ, true, List, [], ◌∷◌, Some, Contains, length, take, slice_index}
use Rattle.page_ids.specs.Ids.{Id}
use Rattle.page_ids.specs.declared.key.Key.{Key}
use Rattle.page_ids.specs.declared.key.Key.TheVariants.{Route, Next}
use Rattle.frame_records.specs.declared.base.Sought.TheVariants.{Found}
use Rattle.frame_records.specs.declared.frame.Frame.{Frame}
use Rattle.frame_records.specs.Bases.{BaseView, frame_at}
use Rattle.frame_records.specs.Seek.{entry_of, seek}
use Rattle.terminal_codes.specs.Bodies.{lead_codes}
use Rattle.terminal_codes.specs.Screen.{Screen, IsScreen, run}
use Rattle.terminal_codes.specs.Writes.{writes, has_service}
use Rattle.session_machine.specs.declared.reply.Reply.TheVariants.{Shown, Again, Missing, Closed}
use Rattle.session_machine.specs.Sessions.{SessionState, At, opening, present}
use Rattle.session_machine.specs.Runs.{state_after, replies_to}

-- whatever the terminal was before the lead, no byte of the body writes what counts as a cell of a service row
abbrev pub SparesServiceRows : Frame → Type 0
SparesServiceRows f =
    (t : Screen) (i : ℕ) → IsScreen t → i < length f.body
    → has_service (writes (run t (lead_codes f.lead ++ take i f.body)) (slice_index f.body i ∷ [])) ≡ true → ⊥

-- the base has the frame, and its body spares them
abbrev pub IsShownClean : BaseView → Id → Type 0
IsShownClean base id = (f : Frame) × (frame_at base id ≡ Some f) × SparesServiceRows f

-- a key that leads on: a route or next key
abbrev pub LeadsOn : Key → Type 0
LeadsOn key = (key ≡ Next) ⊎ ((digit : ℕ) × (key ≡ Route digit))

-- at most this many such keys lead from a state back to the entry frame
pub record LeadsBack (caller : List ℕ) (base : BaseView) (most : ℕ) (state : SessionState) : Type 0 where
  pub keys : List Key
  pub few : length keys ≤ most
  pub forward : (key : Key) → Contains keys key → LeadsOn key
  pub entry : present (state_after caller base state keys) ≡ Some (entry_of base)

-- while this base is served to a caller in exactly these groups, from a state on and after every list of keys: no frame that was
-- sought was missing or closed, each frame shown costs at most the ceiling and spares the service rows, also if it is reprinted,
-- and until the caller leaves, at most this many keys lead back to the entry frame
pub record IsKept (caller : List ℕ) (base : BaseView) (ceiling most : ℕ) (from : SessionState) : Type 0 where
  pub never_missing : (keys : List Key) (id : Id) → Contains (replies_to caller base from keys) (Missing id) → ⊥
  pub never_closed : (keys : List Key) (id : Id) → Contains (replies_to caller base from keys) (Closed id) → ⊥
  pub fair : (keys : List Key) (id : Id) (price : ℕ) → Contains (replies_to caller base from keys) (Shown id price) → price ≤ ceiling
  pub clean : (keys : List Key) (id : Id) (price : ℕ) → Contains (replies_to caller base from keys) (Shown id price) → IsShownClean base id
  pub clean_again : (keys : List Key) (id : Id) → Contains (replies_to caller base from keys) (Again id) → IsShownClean base id
  pub back : (keys : List Key) (id : Id) (remembered : List Id) → state_after caller base from keys ≡ At id remembered
      → LeadsBack caller base most (At id remembered)

-- the same from the entry page on, which is found at such a price and spares the service rows too
pub record IsKeptFromEntry (caller : List ℕ) (base : BaseView) (ceiling most : ℕ) : Type 0 where
  pub price : ℕ
  pub found : seek caller base (entry_of base) ≡ Found price
  pub fair : price ≤ ceiling
  pub clean : IsShownClean base (entry_of base)
  pub kept : IsKept caller base ceiling most (opening base)
