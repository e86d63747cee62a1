-- Each screen of which the text of a base is made is shown by its frame.
use Rattle.std.proofs.Common.{◌≡◌, ℕ, zero, suc, ◌-◌, ◌<◌, ◌≤◌, Bool, List, [], ◌∷◌, ◌++◌, length, take, drop, replicate, get_or, decimal, codes, Option, Some, None, refl, sym, ap, ◌∙◌, arith, append_assoc, length-append, length-drop, take_at, drop_at}
use Rattle.std.specs.Prelude.{option_and_then}
use Rattle.std.proofs.lemmas.Bool.Decides.{nat_tests}
use Rattle.std.proofs.lemmas.Fmt.{length-decimal-le}
use Rattle.std.proofs.lemmas.List.{length-replicate, length-take-le}
use Rattle.std.proofs.lemmas.List.Elements.{All-get_or}
use Rattle.std.specs.declared.cmp.Ordering.TheVariants.{Equal}
use Rattle.page_ids.specs.Ids.{Id, id_cmp, frame_text, IsFrameId}
use Rattle.frame_records.specs.declared.frame.Frame.{Frame}
use Rattle.frame_records.specs.declared.limits.TheConstants.{MOST_PENCE}
use Rattle.frame_records.specs.Bases.{BaseView, frame_at}
use Rattle.frame_records.proofs.SortedFrames.{found_at}
use Rattle.terminal_codes.specs.Screen.{Screen}
use Rattle.frame_screens.specs.Frames.{last_frame}
use Rattle.frame_screens.specs.Screens.{new_terminal, with_frame, with_frames, and_record, records, at_end, price_text, top_row, top_by, blank_row, with_rows, last_record, screen_codes}
use Rattle.frame_screens.proofs.Rows.{in_turn}
use Rattle.screen_forms.specs.Laws.{IsSavedScreen}
use Rattle.screen_files.specs.declared.filed.Filed.{Filed}
use Rattle.screen_files.specs.Codes.{blank_codes}
use Rattle.screen_files.specs.Laws.{rows_alone}
use Rattle.screen_files.specs.Settling.{inner_codes}
use Rattle.screen_files.specs.Album.{leads_on}
use Rattle.screen_files.proofs.Shown.{frames_show}
use Rattle.import_laws.specs.Imported.{IsFiled, IsFiledPrice}
use Rattle.import_laws.specs.Bases.{price_or_0, screen_frame, screen_frames, screen_base}
use Rattle.import_laws.specs.Shown.{ImportsShowScreens}
use Rattle.import_laws.proofs.Cleans.{screen_clean}
use Rattle.import_laws.proofs.Means.{ascending, frames_long}

-- The frame of an id.

id_itself : (id : Id) → id_cmp id id ≡ Equal
id_itself id = grind (arith, nat_tests)

-- the frame at a place
frame_placed : (known : List Id) (frames : List Filed) (k : ℕ) (d : Filed) → k < length frames
    → (next : Bool) × ((e : Frame) → get_or (screen_frames known frames) k e ≡ screen_frame known (get_or frames k d).frame next)
frame_placed known [] k d lt = absurd (omega (arith, lt))
frame_placed known (f ∷ rest) zero d lt = (leads_on f.frame.id rest, λ e. refl)
frame_placed known (f ∷ rest) (suc k) d lt = frame_placed known rest k d (omega (arith, lt))

-- Frames that end with one.

last_of : (i j : Id) (js : List Id) → last_frame (i ∷ j ∷ js) ≡ last_frame (j ∷ js)
last_of i j js =
    let one : suc (suc (length js)) - 1 ≡ suc (length js) = omega arith in
    let other : suc (length js) - 1 ≡ length js = omega arith in
    rw (one, other) refl

some_same : {A : Type 0} (x y : A) → Some x ≡ Some y → x ≡ y
some_same x y e = cc

ends_with : (base : BaseView) (ids : List Id) (id : Id) (f : Frame) → last_frame ids ≡ Some id → frame_at base id ≡ Some f
    → (before : List Frame) × (records base ids ≡ before ++ f ∷ [])
ends_with base [] id f last found = absurd (none last) where
  none : None ≡ Some id → ⊥
  none e = cc
ends_with base (i ∷ []) id f last found =
    let same : i ≡ id = some_same i id last in
    ([], ap (λ (o : Option Frame). and_record [] o) (ap (frame_at base) same ∙ found))
ends_with base (i ∷ j ∷ js) id f last found =
    let more = ends_with base (j ∷ js) id f (sym (last_of i j js) ∙ last) found in
    by (frame_at base i) more.0 more.1 where
      by : (o : Option Frame) (before : List Frame) → records base (j ∷ js) ≡ before ++ f ∷ [] → (all : List Frame) × (and_record (records base (j ∷ js)) o ≡ all ++ f ∷ [])
      by None before same = (before, same)
      by (Some g) before same = (g ∷ before, ap (λ (fs : List Frame). g ∷ fs) same)

-- Rows 1 to 22 between the centre's rows.

filled_long : (columns : ℕ) (text : List ℕ) → length text ≤ columns → length (at_end columns text) ≡ columns
filled_long columns text short =
    omega (arith, short, length-append (replicate (columns - length text) 32) text, length-replicate {A = ℕ} (columns - length text) 32)

top_long : (f : Frame) → IsFrameId f.id → f.price ≤ MOST_PENCE → length (top_row f) ≡ 40
top_long f is few =
    let id_short : length (frame_text f.id) ≤ 35 = omega (arith, length-append (decimal f.id.page) (f.id.letter ∷ []), length-decimal-le 9 f.id.page (omega arith) (omega (arith, is.page)) (omega (arith, is.page))) in
    let price_short : length (price_text f.price) ≤ 5 = omega (arith, length-append (decimal f.price) (codes "p"), length-decimal-le 4 f.price (omega arith) (omega (arith, few)) (omega (arith, few))) in
    omega (arith, length-append (at_end 35 (frame_text f.id)) (at_end 5 (price_text f.price)), filled_long 35 (frame_text f.id) id_short, filled_long 5 (price_text f.price) price_short)

inner_of : (a x b : List ℕ) → length a ≡ 40 → length x ≡ 880 → inner_codes ((a ++ x) ++ b) ≡ x
inner_of a x b a_long x_long =
    ap (take 880) (ap (drop 40) (append_assoc a x b) ∙ drop_at a (x ++ b) 40 a_long) ∙ take_at x b 880 x_long

inner_long : (screen : List ℕ) → IsSavedScreen screen → length (inner_codes screen) ≡ 880
inner_long screen saved = length-take-le 880 (drop 40 screen) (omega (arith, length-drop 40 screen, saved.cells))

price_few : (price : Option ℕ) → IsFiledPrice price → price_or_0 price ≤ MOST_PENCE
price_few None is = omega arith
price_few (Some price) is = is

-- One screen.

module _ (base : BaseView) (g : Filed) (f : Frame) (is : IsFiled g) (found : frame_at base g.frame.id ≡ Some f) where
  abbrev screen : List ℕ
  screen = g.frame.codes

  -- what a terminal shows after frames that end with it
  shown_by : ((t : Screen) → (with_frame t f).cells ≡ rows_alone screen) → (t : Screen) (ids : List Id) → last_frame ids ≡ Some g.frame.id
      → (with_frames t (records base ids)).cells ≡ rows_alone screen
  shown_by shows t ids last =
      let ends = ends_with base ids g.frame.id f last found in
      ap (λ (u : Screen). u.cells) (ap (with_frames t) ends.1 ∙ in_turn t ends.0 (f ∷ [])) ∙ shows (with_frames t ends.0)

  exported_by : length (top_row f) ≡ 40 → ((ids : List Id) → last_frame ids ≡ Some g.frame.id → (with_frames new_terminal (records base ids)).cells ≡ rows_alone screen)
      → (ids : List Id) → last_frame ids ≡ Some g.frame.id → inner_codes (screen_codes base ids) ≡ inner_codes screen
  exported_by top shows ids last =
      let record_is : last_record base ids ≡ Some f = ap (option_and_then (frame_at base)) last ∙ found in
      let inner = inner_long screen is.screen in
      let cells : inner_codes (with_frames new_terminal (records base ids)).cells ≡ inner_codes screen =
      ap inner_codes (shows ids last) ∙ inner_of blank_codes (inner_codes screen) blank_codes (length-replicate {A = ℕ} 40 32) inner in
      ap (λ (o : Option Frame). inner_codes (with_rows (top_by o) (with_frames new_terminal (records base ids)).cells)) record_is
      ∙ ap (λ (xs : List ℕ). inner_codes ((top_row f ++ xs) ++ blank_row)) cells
      ∙ inner_of (top_row f) (inner_codes screen) blank_row top inner

pub seen : ImportsShowScreens
seen asked guessed f rest text filed made k d lt =
    let known = made.known in
    let base = screen_base asked known f rest in
    let frames = screen_frames known (f ∷ rest) in
    let g = get_or (f ∷ rest) k d in
    let is = All-get_or IsFiled (f ∷ rest) k d lt filed in
    let place = frame_placed known (f ∷ rest) k d lt in
    let frame = screen_frame known g.frame place.0 in
    let found = found_at frames g.frame.id k frame (ascending known (f ∷ rest) made.ascend) (omega (arith, frames_long known (f ∷ rest), lt)) (place.1 frame) (id_itself g.frame.id) in
    let shown = shown_by base g frame is found (λ t. frames_show t g.frame.codes is.screen) in
    let top = top_long frame is.id (price_few g.frame.price is.price) in
    record {
      frame = frame;
      found = found;
      clean = screen_clean g.frame.codes is.screen;
      shown = shown;
      exported = exported_by base g frame is found top (shown new_terminal);
    }
