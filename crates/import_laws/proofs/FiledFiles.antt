-- Each frame that a file gives has an id, a price within the limit, and codes that cells can hold.
use Rattle.std.proofs.Common.{◌≡◌, ◌<◌, ◌≤◌, ◌+◌, ◌==◌, ◌&&◌, ℕ, not, nat_lt, List, [], ◌∷◌, length, Option, Some, None, Result, Ok, Err, refl, sym, ap, subst, arith, inl, inr}
use Rattle.std.proofs.lemmas.Bool.{cases_Bool}
use Rattle.std.proofs.lemmas.List.Elements.{All-append, All-cons, All-nil, All-head, All-tail}
use Rattle.std.proofs.lemmas.List.Sorted.{All-permutation, length_permutation}
use Rattle.std.specs.List.{All, flat_map}
use Rattle.std.specs.Option.{is_some, ok_or}
use Rattle.page_ids.specs.Ids.{Id, IsFrameId}
use Rattle.screen_forms.specs.Addresses.{linked_screens}
use Rattle.screen_forms.specs.Laws.{IsSavedScreen}
use Rattle.screen_forms.specs.Sheets.{is_sheet, sheet_screens}
use Rattle.screen_forms.specs.declared.text_screens.TextScreen.{TextScreen}
use Rattle.screen_forms.specs.declared.text_screens.FaultyLine.{FaultyLine}
use Rattle.screen_files.specs.declared.filed.Filed.{Filed}
use Rattle.screen_files.specs.declared.filed.ScreenPlace.{ScreenPlace}
use Rattle.screen_files.specs.declared.filed.ScreenPlace.TheVariants.{Whole}
use Rattle.screen_files.specs.declared.capture.Shot.{Shot}
use Rattle.screen_files.specs.declared.capture.TheConstants.{MOST_SHOTS}
use Rattle.screen_files.specs.declared.file.FileKind.{FileKind}
use Rattle.screen_files.specs.declared.file.FileKind.TheVariants.{Cells, Stream}
use Rattle.screen_files.specs.declared.file.ScreenFault.{ScreenFault}
use Rattle.screen_files.specs.declared.file.TheConstants.{MOST_SCREEN}
use Rattle.screen_files.specs.declared.frame.ScreenFrame.{ScreenFrame}
use Rattle.screen_files.specs.Captures.{capture_screens}
use Rattle.screen_files.specs.Codes.{saved_codes}
use Rattle.screen_files.specs.Heads.{name_id, or_id, screen_head}
use Rattle.screen_files.specs.Settling.{stands_for, has_same_id, chosen, kept_from, settled_frames, SettledView, IsSettled}
use Rattle.screen_files.specs.Files.{ScreenList, frame_by, named_frame, no_screen, placed_if, saved_frame, found_one, filed_by, filed_shot, last_from, found_last, is_by_name, found_screens, found_within, found_capture, text_screen_id, filed_text_by, filed_text, nameless_line, named_texts, name_of_one, found_texts, is_link_text, found_sized, found_of, found_in}
use Rattle.screen_files.proofs.Saved.{files}
use Rattle.import_laws.specs.Imported.{IsFiledPrice, IsFiled}
use Rattle.import_laws.specs.Filed.{FilesAreFiled}
use Rattle.import_laws.proofs.HeadIds.{IsNamed, screen_head_is, or_is, name_is}
use Rattle.import_laws.proofs.TextIds.{IsText, AreTextsOr, sheets_are, links_are}

-- Frames.

abbrev IsScreenFrame : ScreenFrame → Type 0
IsScreenFrame f = IsFrameId f.id × IsFiledPrice f.price × IsSavedScreen f.codes

abbrev IsFrameOr : Result ScreenFrame ScreenFault → Type 0
IsFrameOr (Err fault) = Unit {0}
IsFrameOr (Ok f) = IsScreenFrame f

frame_by_is : (name : Option Id) (price : Option ℕ) (screen : List ℕ) → IsNamed name → IsFiledPrice price → IsSavedScreen screen → IsFrameOr (frame_by name price screen)
frame_by_is None price screen named few saved = tt
frame_by_is (Some id) price screen named few saved = (named, few, saved)

named_is : (path screen : List ℕ) → IsSavedScreen screen → IsFrameOr (named_frame path screen)
named_is path screen saved =
    let head = screen_head_is screen in
    frame_by_is (or_id (name_id path) (screen_head screen).id) (screen_head screen).price screen (or_is (name_id path) (screen_head screen).id (name_is path) head.id) head.price saved

saved_is : (path bytes : List ℕ) → All (λ b. b < 256) bytes → IsFrameOr (saved_frame path bytes)
saved_is path bytes are = by (saved_codes bytes) refl where
  by : (o : Option (List ℕ)) → saved_codes bytes ≡ o → IsFrameOr (placed_if path (ok_or o (no_screen (length bytes))))
  by None e = tt
  by (Some screen) e = named_is path screen (files.saved bytes screen are e)

-- Lists of frames.

abbrev IsListOr : Result ScreenList ScreenFault → Type 0
IsListOr (Err fault) = Unit {0}
IsListOr (Ok found) = All IsFiled found.filed

one_is : (file : ℕ) (place : ScreenPlace) (unnamed : List ℕ) (r : Result ScreenFrame ScreenFault) → IsFrameOr r → IsListOr (found_one file place unnamed r)
one_is file place unnamed (Err fault) is = tt
one_is file place unnamed (Ok f) is = All-cons IsFiled _ [] record { id = is.0; price = is.1; screen = is.2 } (All-nil IsFiled)

-- Captures.

abbrev IsShot : Shot → Type 0
IsShot s = IsSavedScreen s.codes

shot_by_is : (file : ℕ) (s : Shot) (name : Option Id) (price : Option ℕ) → IsShot s → IsNamed name → IsFiledPrice price → All IsFiled (filed_by file s name price)
shot_by_is file s None price saved named few = All-nil IsFiled
shot_by_is file s (Some id) price saved named few = All-cons IsFiled _ [] record { id = named; price = few; screen = saved } (All-nil IsFiled)

shots_are : (file : ℕ) (shots : List Shot) → All IsShot shots → All IsFiled (flat_map (filed_shot file) shots)
shots_are file [] all = All-nil IsFiled
shots_are file (s ∷ ss) all =
    let head = screen_head_is s.codes in
    All-append IsFiled (filed_shot file s) (flat_map (filed_shot file) ss)
    (shot_by_is file s (screen_head s.codes).id (screen_head s.codes).price (All-head IsShot s ss all) head.id head.price)
    (shots_are file ss (All-tail IsShot s ss all))

last_is : (s : Shot) (ss : List Shot) → All IsShot (s ∷ ss) → IsShot (last_from s ss)
last_is s [] all = All-head IsShot s [] all
last_is s (r ∷ rs) all = last_is r rs (All-tail IsShot s (r ∷ rs) all)

last_found : (path : List ℕ) (file : ℕ) (shots : List Shot) → All IsShot shots → IsListOr (found_last path file shots)
last_found path file [] all = tt
last_found path file (s ∷ ss) all = one_is file _ _ (named_frame path (last_from s ss).codes) (named_is path (last_from s ss).codes (last_is s ss all))

screens_are : (path : List ℕ) (file : ℕ) (shots : List Shot) → All IsShot shots → IsListOr (found_screens path file shots)
screens_are path file shots all = elim (cases_Bool (is_by_name shots)) [
  | inl named ↦ rw named (last_found path file shots all)
  | inr not ↦ rw not (shots_are file shots all)
]

within_is : (path : List ℕ) (file : ℕ) (shots : List Shot) → All IsShot shots → IsListOr (found_within path file shots)
within_is path file shots all = elim (cases_Bool (nat_lt MOST_SHOTS (length shots))) [
  | inl many ↦ rw many tt
  | inr few ↦ rw few (screens_are path file shots all)
]

capture_is : (path : List ℕ) (file : ℕ) (bytes : List ℕ) → IsListOr (found_capture path file bytes)
capture_is path file bytes = elim (cases_Bool (length bytes == 0)) [
  | inl none ↦ rw none tt
  | inr some ↦ rw some (within_is path file (capture_screens bytes) (files.sent bytes))
]

-- Texts.

text_by_is : (file : ℕ) (s : TextScreen) (name : Option Id) → IsText s → IsNamed name → All IsFiled (filed_text_by file s name)
text_by_is file s None is named = All-nil IsFiled
text_by_is file s (Some id) is named = All-cons IsFiled _ [] record { id = named; price = (screen_head_is s.codes).price; screen = is.1 } (All-nil IsFiled)

text_id_is : (name : Option Id) (s : TextScreen) → IsNamed name → IsText s → IsNamed (text_screen_id name s)
text_id_is name s named is =
    let shown = (screen_head s.codes).id in
    or_is s.beside (or_id name (or_id shown s.number)) is.0.0 (or_is name (or_id shown s.number) named (or_is shown s.number (screen_head_is s.codes).id is.0.1))

texts_are : (file : ℕ) (name : Option Id) (screens : List TextScreen) → IsNamed name → All IsText screens → All IsFiled (flat_map (filed_text file name) screens)
texts_are file name [] named all = All-nil IsFiled
texts_are file name (s ∷ ss) named all =
    let is = All-head IsText s ss all in
    All-append IsFiled (filed_text file name s) (flat_map (filed_text file name) ss)
    (text_by_is file s (text_screen_id name s) is (text_id_is name s named is)) (texts_are file name ss named (All-tail IsText s ss all))

named_texts_are : (file : ℕ) (name : Option Id) (screens : List TextScreen) (o : Option ℕ) → IsNamed name → All IsText screens → IsListOr (named_texts file name screens o)
named_texts_are file name screens (Some line) named all = tt
named_texts_are file name screens None named all = texts_are file name screens named all

name_of_one_is : (path : List ℕ) (screens : List TextScreen) → IsNamed (name_of_one path screens)
name_of_one_is path screens = elim (cases_Bool (length screens == 1)) [
  | inl one ↦ rw one (name_is path)
  | inr not ↦ rw not tt
]

found_texts_are : (path : List ℕ) (file : ℕ) (r : Result (List TextScreen) FaultyLine) → AreTextsOr r → IsListOr (found_texts path file r)
found_texts_are path file (Err fault) are = tt
found_texts_are path file (Ok screens) are =
    let name = name_of_one path screens in
    named_texts_are file name screens (nameless_line name screens) (name_of_one_is path screens) are

-- Files.

sized_is : (path : List ℕ) (file : ℕ) (bytes : List ℕ) → All (λ b. b < 256) bytes → IsListOr (found_sized path file bytes)
sized_is path file bytes are = elim (cases_Bool (not (is_some (saved_codes bytes)) && is_link_text bytes)) [
  | inl links ↦ rw links (found_texts_are path file (linked_screens bytes) (links_are bytes))
  | inr screen ↦ rw screen (one_is file Whole [] (saved_frame path bytes) (saved_is path bytes are))
]

found_of_is : (kind : FileKind) (path : List ℕ) (file : ℕ) (bytes : List ℕ) → All (λ b. b < 256) bytes → IsListOr (found_of kind path file bytes)
found_of_is Stream path file bytes are = capture_is path file bytes
found_of_is Cells path file bytes are = elim (cases_Bool (is_sheet bytes)) [
  | inl sheet ↦ rw sheet (found_texts_are path file (sheet_screens bytes) (sheets_are bytes are))
  | inr other ↦ rw other (sized_is path file bytes are)
]

found_is : (kind : FileKind) (path : List ℕ) (file : ℕ) (bytes : List ℕ) → All (λ b. b < 256) bytes → IsListOr (found_in kind path file bytes)
found_is kind path file bytes are = elim (cases_Bool (nat_lt MOST_SCREEN (length bytes))) [
  | inl long ↦ rw long tt
  | inr short ↦ rw short (found_of_is kind path file bytes are)
]

-- One frame of each id.

chosen_is : (kept f : Filed) → IsFiled kept → IsFiled f → IsFiled (chosen kept f)
chosen_is kept f k is = elim (cases_Bool (not (stands_for kept f) && stands_for f kept)) [
  | inl other ↦ rw other is
  | inr same ↦ rw same k
]

kept_are : (kept : Filed) (fs : List Filed) → IsFiled kept → All IsFiled fs → All IsFiled (kept_from kept fs)
unfolding kept_from
kept_are kept [] k all = All-cons IsFiled kept [] k (All-nil IsFiled)
kept_are kept (f ∷ fs) k all =
    let is = All-head IsFiled f fs all in
    let more = All-tail IsFiled f fs all in
    let chosen_more = kept_are (chosen kept f) fs (chosen_is kept f k is) more in
    let others = kept_are f fs is more in
    elim (cases_Bool (has_same_id kept f)) [
      | inl same ↦ rw same chosen_more
      | inr other ↦ rw other (All-cons IsFiled kept (kept_from f fs) k others)
    ]

settled_are : (sorted : List Filed) → All IsFiled sorted → All IsFiled (settled_frames sorted)
settled_are [] all = All-nil IsFiled
settled_are (f ∷ fs) all = kept_are f fs (All-head IsFiled f fs all) (All-tail IsFiled f fs all)

settled_is : (filed : List Filed) (settled : SettledView) → IsSettled filed settled → All IsFiled filed → All IsFiled settled.frames
settled_is filed settled is all =
    subst (All IsFiled) (sym is.frames) (settled_are is.sorted (All-permutation IsFiled filed is.sorted is.order.same all))

kept_few : (kept : Filed) (fs : List Filed) → length (kept_from kept fs) ≤ length fs + 1
unfolding kept_from
kept_few kept [] = omega arith
kept_few kept (f ∷ fs) =
    let same_id = kept_few (chosen kept f) fs in
    let others = kept_few f fs in
    elim (cases_Bool (has_same_id kept f)) [
      | inl same ↦ rw same (omega (arith, same_id))
      | inr other ↦ rw other (omega (arith, others))
    ]

settled_few : (sorted : List Filed) → length (settled_frames sorted) ≤ length sorted
settled_few [] = omega arith
settled_few (f ∷ fs) = omega (arith, kept_few f fs)

no_more : (filed : List Filed) (settled : SettledView) → IsSettled filed settled → length settled.frames ≤ length filed
no_more filed settled is =
    omega (arith, settled_few is.sorted, ap length is.frames, length_permutation filed is.sorted is.order.same)

pub filed : FilesAreFiled
filed = record {
  read = λ kind path file bytes found are is.
      settled_is is.filed found.frames is.settled (subst IsListOr is.are (found_is kind path file bytes are));
  settled = settled_is;
  no_more = no_more;
}
