-- The answer of show.
use Rattle.std.specs.Prelude.{◌≡◌, ◌⊎◌, ℕ, Bool, false, if◌then◌else◌, List, [], ◌∷◌, map, Option, Some, None, Result, Ok, Err}
use Rattle.std.specs.List.{flat_map}
use Rattle.page_ids.specs.Ids.{Id, first_frame}
use Rattle.page_ids.specs.Texts.{page_in, id_in}
use Rattle.frame_records.specs.declared.frame.Frame.{Frame}
use Rattle.frame_records.specs.declared.groups.GroupFault.{GroupFault}
use Rattle.frame_records.specs.Bases.{BaseView, frame_at}
use Rattle.frame_records.specs.Seek.{entry_of}
use Rattle.base_text.specs.Whole.{IsTextBase}
use Rattle.frame_screens.specs.Frames.{IsWay}
use Rattle.frame_screens.specs.Screens.{screen_codes}
use Rattle.screens.specs.declared.look.Glyph.{Glyph}
use Rattle.screens.specs.declared.look.Glyph.TheVariants.{Char, Block}
use Rattle.screens.specs.declared.look.Height.{Height}
use Rattle.screens.specs.declared.look.Height.TheVariants.{Single, Upper, Lower}
use Rattle.screens.specs.declared.look.Look.{Look}
use Rattle.screens.specs.Table.{six, sextants_char, colour_number}
use Rattle.screens.specs.Looks.{looks}
use Rattle.pageaudit_c.specs.declared.showing.CellLook.{CellLook}
use Rattle.pageaudit_c.specs.declared.showing.ShownScreen.{ShownScreen}
use Rattle.pageaudit_c.specs.declared.status.CallStatus.{CallStatus}
use Rattle.pageaudit_c.specs.declared.status.CallStatus.TheVariants.{Clear, Faulty, BadPolicy, OutOfMemory}
use Rattle.pageaudit_c.specs.Audits.{IsBaseFault}
use Rattle.pageaudit_c.specs.Calls.{Buffer, IsCopied, laid_over}
use Rattle.pageaudit_c.specs.Status.{number_of}

-- How a cell looks, in numbers.

abbrev pub flag : Bool → ℕ
flag b = if b then 1 else 0

abbrev pub height_number : Height → ℕ
height_number Single = 0
height_number Upper = 1
height_number Lower = 2

abbrev pub code_point : Glyph → ℕ
code_point (Char c) = c
code_point (Block m) = sextants_char (six m.sextants)

abbrev pub is_apart : Glyph → Bool
is_apart (Char c) = false
is_apart (Block m) = m.separated

abbrev pub cell_look : Look → CellLook
cell_look a = record {
  character = code_point a.glyph;
  foreground = colour_number a.foreground;
  background = colour_number a.background;
  flash = flag a.flash;
  concealed = flag a.concealed;
  separated = flag (is_apart a.glyph);
  height = height_number a.height;
}

-- the looks of a screen's cells, one after another
abbrev pub cell_looks : List ℕ → List CellLook
cell_looks codes = flat_map (map cell_look) (looks codes)

-- What is shown.

-- the screen of a frame, over those on the way to it
pub record IsScreenOfFrame (caller : List ℕ) (base : BaseView) (id : Id) (codes : List ℕ) (cells : List CellLook) : Type 0 where
  pub frames : List Id
  pub way : IsWay caller base id frames
  pub codes_are : codes ≡ screen_codes base frames
  pub looks_are : cells ≡ cell_looks (screen_codes base frames)

-- a status without a text and without a screen
abbrev pub IsNoScreen : CallStatus → ShownScreen → Type 0
IsNoScreen status s = (s.status ≡ status) × (s.text.items ≡ []) × (s.codes.items ≡ []) × (s.looks.items ≡ [])

pub record IsFrameScreen (caller : List ℕ) (base : BaseView) (id : Id) (s : ShownScreen) : Type 0 where
  pub status_is : s.status ≡ Clear
  pub no_text : s.text.items ≡ []
  pub screen : IsScreenOfFrame caller base id s.codes.items s.looks.items

-- the frame `a` of a page, or the frame of an id; no text is both
abbrev pub of_page_or_id : Option ℕ → Option Id → Option Id
of_page_or_id (Some page) id = Some (first_frame page)
of_page_or_id None id = id

-- the frame that a word names; the entry frame without one
abbrev pub named : BaseView → List ℕ → Option Id
named base [] = Some (entry_of base)
named base (b ∷ bs) = of_page_or_id (page_in (b ∷ bs)) (id_in (b ∷ bs))

-- a frame, by its record
abbrev pub IsRecordShown : List ℕ → BaseView → Id → Option Frame → ShownScreen → Type 0
IsRecordShown caller base id (Some frame) s = IsFrameScreen caller base id s ⊎ IsNoScreen OutOfMemory s
IsRecordShown caller base id None s = IsNoScreen Faulty s

abbrev pub IsNamedShown : List ℕ → BaseView → Option Id → ShownScreen → Type 0
IsNamedShown caller base (Some id) s = IsRecordShown caller base id (frame_at base id) s
IsNamedShown caller base None s = IsNoScreen Faulty s

-- the text is that of a base
pub record IsBaseShown (base_text : List ℕ) (caller word : List ℕ) (s : ShownScreen) : Type 0 where
  pub base : BaseView
  pub of_base : IsTextBase base_text base
  pub shown : IsNamedShown caller base (named base word) s

-- the text is that of no base
pub record IsFaultShown (base_text : List ℕ) (s : ShownScreen) : Type 0 where
  pub fault : IsBaseFault base_text s.status s.text.items
  pub no_codes : s.codes.items ≡ []
  pub no_looks : s.looks.items ≡ []

abbrev pub IsShowAnswer : List ℕ → List ℕ → List ℕ → ShownScreen → Type 0
IsShowAnswer base_text word caller s = IsBaseShown base_text caller word s ⊎ (IsFaultShown base_text s ⊎ IsNoScreen OutOfMemory s)

-- for the groups that are passed, if they are a list
abbrev pub IsAskedShow : List ℕ → List ℕ → Result (List ℕ) GroupFault → ShownScreen → Type 0
IsAskedShow base_text word (Ok caller) s = IsShowAnswer base_text word caller s
IsAskedShow base_text word (Err fault) s = IsNoScreen BadPolicy s

-- a caller's two arrays before and after a call
pub record Arrays : Type 0 where
  pub codes : List ℕ
  pub codes_after : List ℕ
  pub looks : List CellLook
  pub looks_after : List CellLook

-- a call: what is shown was copied, and the number of its status is returned
pub record IsShowCall (base_text word : List ℕ) (caller : Result (List ℕ) GroupFault) (a : Arrays) (line : Buffer) (number : ℕ) : Type 0 where
  pub s : ShownScreen
  pub is : IsAskedShow base_text word caller s
  pub codes_are : a.codes_after ≡ laid_over s.codes.items a.codes
  pub looks_are : a.looks_after ≡ laid_over s.looks.items a.looks
  pub copied : IsCopied s.text.items line
  pub number_is : number ≡ number_of s.status
