-- Terminals after frames that are reached.
use Rattle.std.proofs.Common.{◌≡◌, ◌∙◌, ◌<◌, inl, inr, ℕ, List, [], ◌∷◌, ◌++◌, Option, Some, None, refl, sym, ap, subst, length}
use Rattle.std.specs.Prelude.{slice_get, Box, option_and_then}
use Rattle.std.specs.declared.alloc.Global.{Global}
use Rattle.page_ids.specs.Ids.{Id}
use Rattle.frame_records.specs.declared.frame.Frame.{Frame}
use Rattle.frame_records.specs.declared.frame.Lead.TheVariants.{Clear}
use Rattle.frame_records.specs.Bases.{BaseView, frame_at}
use Rattle.terminal_codes.specs.Screen.{Screen, IsScreen, run}
use Rattle.terminal_codes.specs.Bodies.{lead_codes}
use Rattle.terminal_codes.proofs.Stores.{screen_of_run}
use Rattle.finder.specs.declared.found.Discovered.{Discovered}
use Rattle.finder.specs.Finds.{FindsReached}
use Rattle.finder.specs.Survey.{SurveyView, IsFrameAt}
use Rattle.finder.proofs.Lists.{at_push, at_within}
use Rattle.frame_screens.specs.Screens.{new_terminal, with_frame, with_frames, and_record, records, last_record}
use Rattle.frame_screens.specs.Laws.{LooksSame}
use Rattle.frame_screens.specs.Painted.{frames_to, IsAfter, IsKept, AreKept}
use Rattle.frame_screens.specs.Loops.{before_by, IsTerminalBefore}
use Rattle.frame_screens.proofs.Rows.{cleared, frames_alike, in_turn, new_is_screen}
use Rattle.frame_screens.proofs.Ways.{earlier_by, last_sent, way_begins}

and_more : (fs gs : List Frame) (o : Option Frame) → and_record (fs ++ gs) o ≡ and_record fs o ++ gs
and_more fs gs None = refl
and_more fs gs (Some f) = refl

records_append : (base : BaseView) (ids more : List Id) → records base (ids ++ more) ≡ records base ids ++ records base more
records_append base [] more = refl
records_append base (id ∷ ids) more =
    ap (λ (fs : List Frame). and_record fs (frame_at base id)) (records_append base ids more)
    ∙ and_more (records base ids) (records base more) (frame_at base id)

screen_of_sent : (t : Screen) (f : Frame) → IsScreen t → IsScreen (with_frame t f)
screen_of_sent t f v = screen_of_run (run t (lead_codes f.lead)) f.body (screen_of_run t (lead_codes f.lead) v)

screen_of_frames : (fs : List Frame) (t : Screen) → IsScreen t → IsScreen (with_frames t fs)
screen_of_frames [] t v = v
screen_of_frames (f ∷ fs) t v = screen_of_frames fs (with_frame t f) (screen_of_sent t f v)

before_is : (s : SurveyView) (o : Option ℕ) → earlier_by s.groups s.base s.found o ≡ before_by s o
before_is s None = refl
before_is s (Some parent) = refl

module _ (s : SurveyView) (finds : FindsReached s.groups s.base s.found) (place : ℕ) (d : Discovered) (at : slice_get s.found place ≡ Some d) (f : Frame) (is : IsFrameAt s place f) where
  abbrev before : List Frame
  before = records s.base (before_by s d.parent)

  -- the frames before, and then the one at the place
  sent : records s.base (frames_to s place) ≡ before ++ f ∷ []
  sent =
      let way = way_begins s.groups s.base s.found finds place d at ∙ ap (λ (ids : List Id). ids ++ d.id ∷ []) (before_is s d.parent) in
      ap (records s.base) way
      ∙ records_append s.base (before_by s d.parent) (d.id ∷ [])
      ∙ ap (λ (o : Option Frame). before ++ and_record [] o) (is d at)

  then_this : with_frame (with_frames new_terminal before) f ≡ with_frames new_terminal (records s.base (frames_to s place))
  then_this = sym (ap (with_frames new_terminal) sent ∙ in_turn new_terminal before (f ∷ []))

  pub after_before : (t : Screen) → IsTerminalBefore s place t → IsAfter s place (with_frame t f)
  after_before t b =
      let on = frames_alike t (with_frames new_terminal before) (f ∷ []) b.screen (screen_of_frames before new_terminal new_is_screen) (b.same d at) in
      record {
        screen = screen_of_sent t f b.screen;
        same = subst (LooksSame (with_frame t f)) then_this on;
      }

  pub after_clearing : f.lead ≡ Clear → IsAfter s place (with_frame new_terminal f)
  after_clearing clears =
      let on = cleared new_terminal (with_frames new_terminal before) f [] clears in
      record {
        screen = screen_of_sent new_terminal f new_is_screen;
        same = subst (LooksSame (with_frame new_terminal f)) then_this on;
      }

both_some : {A : Type 0} (o : Option A) (x y : A) → o ≡ Some x → o ≡ Some y → x ≡ y
both_some o x y a b = cc

-- the frame at a place is one
pub one_frame : (s : SurveyView) (place : ℕ) → place < length s.found → (f g : Frame) → IsFrameAt s place f → IsFrameAt s place g → f ≡ g
one_frame s place lt f g a b =
    let at = at_within s.found place lt in
    both_some (frame_at s.base at.0.id) f g (a at.0 at.1) (b at.0 at.1)

-- a terminal after the parent's frame
pub is_before : (s : SurveyView) (place : ℕ) (d : Discovered) (parent : ℕ) (t : Screen) → slice_get s.found place ≡ Some d → d.parent ≡ Some parent → IsAfter s parent t → IsTerminalBefore s place t
is_before s place d parent t at is after = record {
  screen = after.screen;
  same = λ e here.
      let up : Some parent ≡ e.parent = sym is ∙ ap (λ (x : Discovered). x.parent) (both_some (slice_get s.found place) d e at here) in
      subst (λ (o : Option ℕ). LooksSame t (with_frames new_terminal (records s.base (before_by s o)))) up after.same;
}

-- a new one before the entry frame
pub new_is_before : (s : SurveyView) (place : ℕ) (d : Discovered) → slice_get s.found place ≡ Some d → d.parent ≡ None → IsTerminalBefore s place new_terminal
new_is_before s place d at is = record {
  screen = new_is_screen;
  same = λ e here.
      let up : None ≡ e.parent = sym is ∙ ap (λ (x : Discovered). x.parent) (both_some (slice_get s.found place) d e at here) in
      subst (λ (o : Option ℕ). LooksSame new_terminal (with_frames new_terminal (records s.base (before_by s o)))) up
      record { cells = refl; at = refl; pending = refl };
}

-- one more terminal
pub last_kept : (s : SurveyView) (kept : List (Option (Box Screen Global))) (o : Option (Box Screen Global)) → AreKept s kept → IsKept s (length kept) o → AreKept s (kept ++ o ∷ [])
last_kept s kept o all is place p at =
    elim (at_push kept o place p at) [
      | inl early ↦ all place p early
      | inr last ↦ subst (λ (q : Option (Box Screen Global)). IsKept s place q) last.1 (subst (λ (n : ℕ). IsKept s n o) (sym last.0) is)
    ]

-- the frame at a place is sent last
pub last_frame : (s : SurveyView) → FindsReached s.groups s.base s.found → (place : ℕ) → place < length s.found → (f : Frame) → IsFrameAt s place f
    → last_record s.base (frames_to s place) ≡ Some f
last_frame s finds place lt f is =
    let at = at_within s.found place lt in
    ap (option_and_then (frame_at s.base)) (last_sent s.groups s.base s.found finds place at.0 at.1) ∙ is at.0 at.1
