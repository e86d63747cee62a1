-- What a file gives is a screen.
use Rattle.std.proofs.Common.{◌≡◌, ◌∙◌, ◌<◌, ◌≤◌, ◌==◌, ◌&&◌, ℕ, zero, suc, Bool, true, false, not, List, [], ◌∷◌, ◌++◌, Option, Some, None, refl, subst, drop, length, take, map, replicate, arith}
use Rattle.std.specs.Prelude.{option_map}
use Rattle.std.proofs.lemmas.Bool.Decides.{nat_tests}
use Rattle.std.proofs.lemmas.List.{length-append, length-drop, length-map, length-replicate, length-take-le}
use Rattle.std.proofs.lemmas.List.Elements.{All-append, All-cons, All-drop, All-map, All-nil, All-take}
use Rattle.std.specs.List.{All, list_any}
use Rattle.std.specs.Option.{is_some}
use Rattle.terminal_codes.specs.Screen.{IsScreen}
use Rattle.terminal_codes.specs.Writes.{IsCode}
use Rattle.terminal_codes.proofs.Codes.{cells_hold_codes}
use Rattle.terminal_codes.proofs.Stores.{screen_of_run}
use Rattle.screen_files.specs.declared.capture.Reel.{Reel}
use Rattle.screen_files.specs.declared.capture.Shot.{Shot}
use Rattle.screen_files.specs.Captures.{is_blank_screen, clears_screen, shot_at, shot_if_shown, shown_first, shown_since, unwound, offset_in, reel_after, cleared_by, cleared, wound, start_offset, shown_end, shown_screens, end_if_none, capture_screens}
use Rattle.screen_forms.specs.Laws.{IsSavedScreen}
use Rattle.screen_forms.proofs.PagesAre.{stored_is_code}
use Rattle.screen_files.specs.Codes.{row_code, blank_codes, codes_of_rows, has_all_rows, is_ep1, is_space_byte, between_blank, placed, rows_in, seven_bits}
use Rattle.screen_files.specs.Heads.{screen_head}
use Rattle.screen_files.specs.Laws.{FilesAreScreens}

abbrev IsByte : ℕ → Type 0
IsByte b = b < 256

-- Saved screens.

row_is_code : (s : Bool) (b : ℕ) → IsByte b → IsCode (row_code s b)
row_is_code s b lt = by (not s && b == 0) refl where
  by : (c : Bool) → (not s && b == 0) ≡ c → IsCode (row_code s b)
  by true e = rw e (omega arith, omega arith)
  by false e = rw e (stored_is_code b lt)

all_stored : (s : Bool) (cells : List ℕ) → All IsByte cells → All IsCode (map (row_code s) cells)
all_stored s cells bytes = All-map IsCode (row_code s) cells (λ k d lt. row_is_code s _ (bytes k d lt))

spaces_are_bytes : (n : ℕ) → All IsByte (replicate n 32)
spaces_are_bytes zero = All-nil IsByte
spaces_are_bytes (suc n) = All-cons IsByte 32 (replicate n 32) (omega arith) (spaces_are_bytes n)

abbrev IsOfCells : List ℕ → Type 0
IsOfCells cells = (length cells ≡ 960) × All IsByte cells

some_is : {A : Type 0} (x y : A) → (let o : Option A = Some x in o) ≡ Some y → x ≡ y
some_is x y e = cc

placed_whole : (rows : List ℕ) → length rows ≡ 960 → All IsByte rows → IsOfCells (placed rows)
placed_whole rows long are =
    let not_inner : (length rows == 880) ≡ false = grind (arith, nat_tests) in rw not_inner (long, are)

placed_inner : (rows : List ℕ) → (length rows == 880) ≡ true → All IsByte rows → IsOfCells (placed rows)
placed_inner rows inner are =
    let size : length rows ≡ 880 = grind (arith, nat_tests) in
    let blank = spaces_are_bytes 40 in
    let long : length (between_blank rows) ≡ 960 =
    omega (arith, size, length-append (blank_codes ++ rows) blank_codes, length-append blank_codes rows, length-replicate {A = ℕ} 40 32) in
    rw inner (long, All-append IsByte (blank_codes ++ rows) blank_codes (All-append IsByte blank_codes rows blank are) blank)

placed_by : (bytes rows : List ℕ) → All IsByte bytes → (all inner ep1 : Bool) → has_all_rows (length bytes) ≡ all
    → (length bytes == 880) ≡ inner → is_ep1 bytes ≡ ep1 → rows_in bytes ≡ Some rows → IsOfCells (placed rows)
placed_by bytes rows are true inner ep1 e f g is =
    let long : 960 ≤ length bytes = grind (arith, nat_tests, e) in
    let same : take 960 bytes ≡ rows = some_is (take 960 bytes) rows (rw e at is) in
    subst (λ (rs : List ℕ). IsOfCells (placed rs)) same (placed_whole (take 960 bytes) (length-take-le 960 bytes long) (All-take IsByte 960 bytes are))
placed_by bytes rows are false true ep1 e f g is =
    let same : bytes ≡ rows = some_is bytes rows (rw (e, f) at is) in
    subst (λ (rs : List ℕ). IsOfCells (placed rs)) same (placed_inner bytes f are)
placed_by bytes rows are false false true e f g is =
    let long : 968 ≤ length bytes = grind (arith, nat_tests, g) in
    let enough : 960 ≤ length (drop 6 bytes) = omega (arith, long, length-drop 6 bytes) in
    let same : take 960 (drop 6 bytes) ≡ rows = some_is (take 960 (drop 6 bytes)) rows (rw (e, f, g) at is) in
    subst (λ (rs : List ℕ). IsOfCells (placed rs)) same (placed_whole (take 960 (drop 6 bytes)) (length-take-le 960 (drop 6 bytes) enough) (All-take IsByte 960 (drop 6 bytes) (All-drop IsByte 6 bytes are)))
placed_by bytes rows are false false false e f g is = let none = rw (e, f, g) at is in absurd cc

saved_by : (bytes screen : List ℕ) → All IsByte bytes → (o : Option (List ℕ)) → rows_in bytes ≡ o
    → option_map codes_of_rows o ≡ Some screen → IsSavedScreen screen
saved_by bytes screen are None e is = absurd cc
saved_by bytes screen are (Some rows) e is =
    let of = placed_by bytes rows are (has_all_rows (length bytes)) (length bytes == 880) (is_ep1 bytes) refl refl refl e in
    let s = list_any is_space_byte rows in
    subst IsSavedScreen (some_is (codes_of_rows rows) screen is) record {
      cells = length-map (placed rows) (row_code s) ∙ of.0;
      codes = all_stored s (placed rows) of.1;
    }

-- Captures.

-- a terminal that has 960 codes, at a position among them
record IsReel (r : Reel) : Type 0 where
  screen : IsScreen r.terminal
  codes : All IsCode r.terminal.cells

abbrev IsSavedShot : Shot → Type 0
IsSavedShot s = IsSavedScreen s.codes

blanks : (n : ℕ) → All IsCode (replicate n 32)
blanks zero = All-nil IsCode
blanks (suc n) = All-cons IsCode 32 (replicate n 32) (omega arith, omega arith) (blanks n)

unwound_is : IsReel unwound
unwound_is = record {
  screen = record { cells = length-replicate {A = ℕ} 960 32; at = omega arith };
  codes = blanks 960;
}

after_is : (r : Reel) (offset b : ℕ) → IsReel r → IsReel (reel_after r offset b)
after_is r offset b is =
    let byte : IsByte (seven_bits b) = omega arith in
    let one : All IsByte (seven_bits b ∷ []) = All-cons IsByte (seven_bits b) [] byte (All-nil IsByte) in
    record {
      screen = screen_of_run r.terminal (seven_bits b ∷ []) is.screen;
      codes = cells_hold_codes r.terminal (seven_bits b ∷ []) one is.codes;
    }

saved_of : (r : Reel) → IsReel r → IsSavedScreen r.terminal.cells
saved_of r is = record { cells = is.screen.cells; codes = is.codes }

shot_saved : (byte : ℕ) (codes : List ℕ) → IsSavedScreen codes → All IsSavedShot (shot_at byte codes ∷ [])
shot_saved byte codes saved = All-cons IsSavedShot (shot_at byte codes) [] saved (All-nil IsSavedShot)

shown_saved : (byte : ℕ) (codes : List ℕ) → IsSavedScreen codes → All IsSavedShot (shot_if_shown byte codes)
shown_saved byte codes saved = by (is_blank_screen codes) refl where
  by : (b : Bool) → is_blank_screen codes ≡ b → All IsSavedShot (shot_if_shown byte codes)
  by true e = rw e (All-nil IsSavedShot)
  by false e = rw e (shot_saved byte codes saved)

first_saved : (codes : List ℕ) → IsSavedScreen codes → All IsSavedShot (shown_first codes)
first_saved codes saved = by (is_some (screen_head codes).id) refl where
  by : (b : Bool) → is_some (screen_head codes).id ≡ b → All IsSavedShot (shown_first codes)
  by true e = rw e (shot_saved 0 codes saved)
  by false e = rw e (All-nil IsSavedShot)

since_saved : (start : Option ℕ) (codes : List ℕ) → IsSavedScreen codes → All IsSavedShot (shown_since start codes)
since_saved None codes saved = first_saved codes saved
since_saved (Some byte) codes saved = shown_saved byte codes saved

cleared_by_saved : (r : Reel) (b : ℕ) → IsReel r → All IsSavedShot (cleared_by r b)
cleared_by_saved r b is = by (clears_screen b) refl where
  by : (c : Bool) → clears_screen b ≡ c → All IsSavedShot (cleared_by r b)
  by true e = rw e (since_saved r.start r.terminal.cells (saved_of r is))
  by false e = rw e (All-nil IsSavedShot)

cleared_saved : (size : ℕ) (r : Reel) (bytes : List ℕ) → IsReel r → All IsSavedShot (cleared size r bytes)
unfolding cleared
cleared_saved size r [] is = All-nil IsSavedShot
cleared_saved size r (b ∷ bs) is =
    let next = reel_after r (offset_in size (b ∷ bs)) b in
    All-append IsSavedShot (cleared_by r b) (cleared size next bs) (cleared_by_saved r b is) (cleared_saved size next bs (after_is r (offset_in size (b ∷ bs)) b is))

wound_is : (size : ℕ) (r : Reel) (bytes : List ℕ) → IsReel r → IsReel (wound size r bytes)
unfolding wound
wound_is size r [] is = is
wound_is size r (b ∷ bs) is =
    wound_is size (reel_after r (offset_in size (b ∷ bs)) b) bs (after_is r (offset_in size (b ∷ bs)) b is)

end_saved : (shots : List Shot) (r : Reel) → IsReel r → All IsSavedShot (end_if_none shots r)
end_saved [] r is = shot_saved (start_offset r.start) r.terminal.cells (saved_of r is)
end_saved (s ∷ ss) r is = All-nil IsSavedShot

sent_by : (bytes : List ℕ) → All IsSavedShot (capture_screens bytes)
sent_by bytes =
    let r = wound (length bytes) unwound bytes in
    let is = wound_is (length bytes) unwound bytes unwound_is in
    let all = cleared_saved (length bytes) unwound bytes unwound_is in
    let shown = All-append IsSavedShot (cleared (length bytes) unwound bytes) (shown_end r) all (shown_saved (start_offset r.start) r.terminal.cells (saved_of r is)) in
    All-append IsSavedShot (shown_screens bytes) (end_if_none (shown_screens bytes) r) shown (end_saved (shown_screens bytes) r is)

pub files : FilesAreScreens
files = record {
  saved = λ bytes screen are is. saved_by bytes screen are (rows_in bytes) refl is;
  sent = sent_by;
}
