-- What a run of show does.
use Rattle.std.specs.Prelude.{◌≡◌, ℕ, List, [], ◌∷◌, ◌++◌, Option, Some, None, Result, Ok, Err}
use Rattle.page_ids.specs.Ids.{Id, frame_text}
use Rattle.frame_records.specs.declared.frame.Frame.{Frame}
use Rattle.frame_records.specs.Bases.{BaseView, frame_at}
use Rattle.frame_records.specs.Seek.{entry_of}
use Rattle.frame_screens.specs.declared.keyed.NoScreen.{NoScreen}
use Rattle.frame_screens.specs.declared.keyed.NoScreen.TheVariants as none
use Rattle.frame_screens.specs.Frames.{IsWay, keyed_frames, ids_of, last_frame}
use Rattle.near_words.specs.Near.{nearest}
use Rattle.frame_screens.specs.Screens.{screen_codes}
use Rattle.screens.specs.declared.look.Look.{Look}
use Rattle.screens.specs.Looks.{looks}
use Rattle.screens.specs.declared.writing.Writing.TheVariants.{Plain}
use Rattle.screens.specs.Writing.{written}
use Rattle.screens.specs.Text.{text}
use Rattle.screens.specs.Ansi.{ansi}
use Rattle.screens.specs.Svg.{picture}
use Rattle.screen_forms.specs.Forms.{address}
use Rattle.audit_report.specs.declared.run_fault.RunFault.{RunFault}
use Rattle.pageaudit.specs.declared.show_run.Target.{Target}
use Rattle.pageaudit.specs.declared.show_run.Target.TheVariants as target
use Rattle.screen_forms.specs.declared.forms.Form.{Form}
use Rattle.screen_forms.specs.declared.forms.Form.TheVariants as form
use Rattle.pageaudit.specs.declared.show_run.ShowStatus.{ShowStatus}
use Rattle.pageaudit.specs.declared.show_run.ShowStatus.TheVariants.{Shown, EntryMissing, EntryClosed, Gone, NoFrame}
use Rattle.pageaudit.specs.declared.show_run.ShowAnswer.{ShowAnswer}
use Rattle.pageaudit.specs.declared.show_run.ShowAnswer.TheVariants as answer
use Rattle.pageaudit.specs.Files.{Device, IsUntouched, IsTextWritten, IsBaseRun}
use Rattle.pageaudit.specs.Status.{fault_number}

-- a picture of the last frame's screen
abbrev pub picture_of : Option Id → List (List Look) → List ℕ
picture_of None rows = []
picture_of (Some id) rows = picture id rows

-- an address, and a line end (10)
abbrev pub address_line : List ℕ → List ℕ
address_line screen = address screen ++ 10 ∷ []

-- the screen of frames, in a form
abbrev pub screen_text : Form → BaseView → List Id → List ℕ
screen_text form.Text base ids = written Plain (text (looks (screen_codes base ids)))
screen_text form.Ansi base ids = ansi (looks (screen_codes base ids))
screen_text form.Svg base ids = picture_of (last_frame ids) (looks (screen_codes base ids))
screen_text form.Cells base ids = screen_codes base ids
screen_text form.Link base ids = address_line (screen_codes base ids)

-- What is answered: a screen in a form, or why there is none.

-- the screen of these frames
abbrev pub IsScreenOf : Form → BaseView → List Id → ShowAnswer → Type 0
IsScreenOf f base ids (answer.Screen text) = text.items ≡ screen_text f base ids
IsScreenOf f base ids (answer.Nothing status) = ⊥

-- the entry frame alone, by its record; a closed one is shown
abbrev pub IsEntryAnswer : Form → BaseView → Option Frame → ShowAnswer → Type 0
IsEntryAnswer f base None shown = shown ≡ answer.Nothing (EntryMissing (entry_of base))
IsEntryAnswer f base (Some frame) shown = IsScreenOf f base (entry_of base ∷ []) shown

-- the frames on the way to a frame
pub record IsWayAnswer (caller : List ℕ) (f : Form) (base : BaseView) (id : Id) (shown : ShowAnswer) : Type 0 where
  pub frames : List Id
  pub way : IsWay caller base id frames
  pub screen : IsScreenOf f base frames shown

-- a frame, by its record; the nearest id if there is none
abbrev pub IsFrameAnswer : List ℕ → Form → BaseView → Id → Option Frame → ShowAnswer → Type 0
IsFrameAnswer caller f base id None shown = shown ≡ answer.Nothing (NoFrame (nearest frame_text (frame_text id) (ids_of base)))
IsFrameAnswer caller f base id (Some frame) shown = IsWayAnswer caller f base id shown

-- why there is no screen after keys
abbrev pub IsLostAnswer : BaseView → NoScreen → ShowAnswer → Type 0
IsLostAnswer base none.EntryMissing shown = shown ≡ answer.Nothing (EntryMissing (entry_of base))
IsLostAnswer base none.EntryClosed shown = shown ≡ answer.Nothing (EntryClosed (entry_of base))
IsLostAnswer base (none.Gone page) shown = shown ≡ answer.Nothing (Gone page)
IsLostAnswer base none.Memory shown = ⊥

-- the frames that a session's keys show, or how it ended
abbrev pub IsKeyedAnswer : Form → BaseView → Result (List Id) NoScreen → ShowAnswer → Type 0
IsKeyedAnswer f base (Ok frames) shown = IsScreenOf f base frames shown
IsKeyedAnswer f base (Err fault) shown = IsLostAnswer base fault shown

abbrev pub IsShown : List ℕ → Target → Form → BaseView → ShowAnswer → Type 0
IsShown caller target.Entry f base shown = IsEntryAnswer f base (frame_at base (entry_of base)) shown
IsShown caller (target.Frame id) f base shown = IsFrameAnswer caller f base id (frame_at base id) shown
IsShown caller (target.Keys keys) f base shown = IsKeyedAnswer f base (keyed_frames caller base keys) shown

-- What is written.

-- the screen was written; without one nothing was
abbrev pub IsAnswerWritten : Device → ShowAnswer → Result ShowStatus RunFault → Type 0
IsAnswerWritten out (answer.Screen text) run = IsTextWritten out text.items Shown run
IsAnswerWritten out (answer.Nothing status) run = (run ≡ Ok status) × IsUntouched out

pub record IsShowWritten (out : Device) (caller : List ℕ) (what : Target) (f : Form) (base : BaseView) (run : Result ShowStatus RunFault) : Type 0 where
  pub shown : ShowAnswer
  pub is : IsShown caller what f base shown
  pub written : IsAnswerWritten out shown run

abbrev pub IsShowRun : Device → Device → List ℕ → Target → Form → Result ShowStatus RunFault → Type 0
IsShowRun base_file out caller what f = IsBaseRun base_file (IsUntouched out) (IsShowWritten out caller what f)

-- the exit status: 1 if the session can't open or leaves the base, 2 if the base lacks the frame
abbrev pub show_number : Result ShowStatus RunFault → ℕ
show_number (Ok Shown) = 0
show_number (Ok (EntryMissing id)) = 1
show_number (Ok (EntryClosed id)) = 1
show_number (Ok (Gone page)) = 1
show_number (Ok (NoFrame near)) = 2
show_number (Err fault) = fault_number fault
