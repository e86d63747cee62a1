-- The laws of screens, of every base, caller and list of keys.
use Rattle.std.specs.Prelude.{◌≡◌, ℕ, Bool, false, true, List, [], ◌∷◌, ◌++◌, Ok, Some, get_or, if◌then◌else◌}
use Rattle.std.specs.List.{list_any}
use Rattle.page_ids.specs.Ids.{Id}
use Rattle.page_ids.specs.declared.key.Key.{Key}
use Rattle.frame_records.specs.declared.frame.Frame.{Frame}
use Rattle.frame_records.specs.declared.frame.Lead.TheVariants.{Clear}
use Rattle.frame_records.specs.Bases.{BaseView, AreApart}
use Rattle.terminal_codes.specs.Screen.{Screen, IsScreen}
use Rattle.terminal_codes.specs.Writes.{in_service_row, in_row_22, is_double_height}
use Rattle.session_machine.specs.Sessions.{opening, present}
use Rattle.session_machine.specs.Runs.{state_after}
use Rattle.finder.specs.declared.found.Discovered.{Discovered}
use Rattle.finder.specs.Finds.{FindsReached, script}
use Rattle.cert_table.specs.Table.{CertView}
use Rattle.checker.specs.declared.policy.Policy.{Policy}
use Rattle.checker.specs.declared.verdict.Verdict.TheVariants.{Cleared}
use Rattle.checker.specs.Verdict.{verdict}
use Rattle.frame_screens.specs.Frames.{frames_sent, keyed_frames, last_frame, place_of, way_by}
use Rattle.frame_screens.specs.Screens.{new_terminal, with_frames, records, is_clearing}

-- The headline, seen.

abbrev pub has_clearing : List Frame → Bool
has_clearing frames = list_any (λ f. is_clearing f.lead) frames

-- the cell at a position, or a blank past the end
abbrev pub cell : Screen → ℕ → ℕ
cell t p = get_or t.cells p 32

-- what was there before is still there in rows 0 and 23, blank if it was cleared; and no double height in row 22 that wasn't
-- there, so that nothing of row 22 shows in row 23
pub record KeepsServiceRows (before : Screen) (frames : List Frame) : Type 0 where
  pub rows : (p : ℕ) → in_service_row p ≡ true → cell (with_frames before frames) p ≡ (if has_clearing frames then 32 else cell before p)
  pub above : (p : ℕ) → in_row_22 p ≡ true → is_double_height (cell before p) ≡ false → is_double_height (cell (with_frames before frames) p) ≡ false

-- rows 0 and 23 are blank, and row 22 shows nothing in row 23
pub record HasBlankServiceRows (t : Screen) : Type 0 where
  pub rows : (p : ℕ) → in_service_row p ≡ true → cell t p ≡ 32
  pub above : (p : ℕ) → in_row_22 p ≡ true → is_double_height (cell t p) ≡ false

-- a cleared base after every list of keys: on any terminal, and so on a new one
pub record IsHeadlineSeen (caller : List ℕ) (base : BaseView) (keys : List Key) : Type 0 where
  pub any : (before : Screen) → IsScreen before → KeepsServiceRows before (records base (frames_sent caller base keys))
  pub new : HasBlankServiceRows (with_frames new_terminal (records base (frames_sent caller base keys)))

-- the premise is what every base keeps: no frame is on an outside page
abbrev pub HeadlineIsSeen : Type 0
HeadlineIsSeen =
    (base : BaseView) (policy : Policy) (cert : CertView) → AreApart base → verdict base policy cert ≡ Cleared
    → (keys : List Key) → IsHeadlineSeen cert.groups base keys

-- What a screen depends on.

-- two frames that are sent alike
pub record IsSentAlike (f g : Frame) : Type 0 where
  pub lead : f.lead ≡ g.lead
  pub body : f.body ≡ g.body

abbrev pub AreSentAlike : List Frame → List Frame → Type 0
AreSentAlike [] [] = Unit {0}
AreSentAlike (f ∷ fs) (g ∷ gs) = IsSentAlike f g × AreSentAlike fs gs
AreSentAlike _ _ = ⊥

-- the same cells, position and pending escape
pub record LooksSame (t u : Screen) : Type 0 where
  pub cells : t.cells ≡ u.cells
  pub at : t.at ≡ u.at
  pub pending : t.pending ≡ u.pending

pub record FramesDecide : Type 0 where
  -- leads and bodies alone decide the terminal
  pub sent : (t : Screen) (fs gs : List Frame) → AreSentAlike fs gs → with_frames t fs ≡ with_frames t gs
  -- a frame that clears, and those after it, look the same whatever was sent before
  pub cleared : (t u : Screen) (f : Frame) (fs : List Frame) → f.lead ≡ Clear → LooksSame (with_frames t (f ∷ fs)) (with_frames u (f ∷ fs))
  -- frames in turn
  pub in_turn : (t : Screen) (fs gs : List Frame) → with_frames t (fs ++ gs) ≡ with_frames (with_frames t fs) gs

-- Where a way ends.

-- the last frame of the way to a frame is that frame; if a key reaches it, it is also the present one after its keys, and a
-- session of these keys shows the way
pub record LeadsThere (caller : List ℕ) (base : BaseView) (found : List Discovered) : Type 0 where
  pub last : (id : Id) → last_frame (way_by caller base found id (place_of found id)) ≡ Some id
  pub present : (id : Id) (place : ℕ) → place_of found id ≡ Some place → present (state_after caller base (opening base) (script found place)) ≡ Some id
  pub keyed : (id : Id) (place : ℕ) → place_of found id ≡ Some place
      → keyed_frames caller base (script found place) ≡ Ok (way_by caller base found id (Some place))

abbrev pub WaysLeadThere : Type 0
WaysLeadThere = (caller : List ℕ) (base : BaseView) (found : List Discovered) → FindsReached caller base found → LeadsThere caller base found
