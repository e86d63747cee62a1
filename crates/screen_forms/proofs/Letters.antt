-- The letters of an address are read as the screen that they hold.
use Rattle.std.proofs.Common.{◌≡◌, ◌∙◌, ◌<◌, ◌+◌, ◌*◌, ◌/◌, ◌%◌, ◌==◌, ℕ, zero, suc, Bool, true, false, List, [], ◌∷◌, ◌++◌, Option, Some, None, Ok, Err, refl, ap, subst, length, map, take, nat_lt, slice_index, arith}
use Rattle.std.proofs.lemmas.Bool.Decides.{nat_tests}
use Rattle.std.proofs.lemmas.List.{length-append, append-nil, take_at}
use Rattle.std.proofs.lemmas.Bool.{eqb-true}
use Rattle.std.proofs.lemmas.List.Elements.{All-head, All-map, All-tail}
use Rattle.std.specs.List.{All}
use Rattle.base64.specs.Engines.{url_safe_no_pad}
use Rattle.base64.specs.GeneralPurpose.{IsBytes, decode_of, decoded_of, encode_of}
use Rattle.base64.specs.Rfc4648.{encode_symbols}
use Rattle.base64.specs.declared.decode.DecodeError.{DecodeError}
use Rattle.std.specs.Result.{result_ok}
use Rattle.base64.proofs.RoundTrip.{length-encode_symbols}
use Rattle.base64.proofs.EngineFacts.{decode_of-encode_of}
use Rattle.base64.proofs.Tables.{all_below_at}
use Rattle.terminal_codes.specs.Writes.{IsCode}
use Rattle.screen_forms.specs.Bits.{low_bits, packed, stored_code, unpacked}
use Rattle.screen_forms.specs.Links.{blank_row_letters, cells_of, has_link_size, rows_codes, usual_letter, whole_screen}
use Rattle.screen_forms.specs.Laws.{IsSavedScreen, LinksAreScreens, LinksKeepScreens}
use Rattle.screen_forms.proofs.Packs.{are_packed, cells_are_small}

-- Codes.

stored_back : (c : ℕ) → IsCode c → stored_code (low_bits c) ≡ c
stored_back c is = by (nat_lt (c % 128) 32) refl where
  high : nat_lt (c % 128) 32 ≡ false → (b : Bool) → nat_lt (c % 128) 160 ≡ b → stored_code (low_bits c) ≡ c
  high low true e = rw (low, e) (grind (arith, nat_tests, low, is.0, is.1))
  high low false e = absurd (grind (arith, nat_tests, e))

  by : (b : Bool) → nat_lt (c % 128) 32 ≡ b → stored_code (low_bits c) ≡ c
  by true e = rw e (grind (arith, nat_tests, e, is.0, is.1))
  by false e = high e (nat_lt (c % 128) 160) refl

pub all_back : (codes : List ℕ) → All IsCode codes → map stored_code (map low_bits codes) ≡ codes
all_back [] are = refl
all_back (c ∷ cs) are =
    rw (stored_back c (All-head IsCode c cs are), all_back cs (All-tail IsCode c cs are)) refl

-- Letters.

abbrev symbols : List ℕ
symbols = url_safe_no_pad.encode_table

-- no letter is `+` or `/`
usual_at : (k : ℕ) → k < 64 → usual_letter (slice_index symbols k) ≡ slice_index symbols k
usual_at k lt =
    eqb-true (usual_letter (slice_index symbols k)) (slice_index symbols k)
    (all_below_at (λ k. usual_letter (slice_index symbols k) == slice_index symbols k) 64 k refl lt)

abbrev IsByte : ℕ → Type 0
IsByte b = b < 256

symbols_usual : (m : List ℕ) → All IsByte m → map usual_letter (encode_symbols symbols m) ≡ encode_symbols symbols m
unfolding encode_symbols
symbols_usual [] are = refl
symbols_usual (a ∷ []) are =
    let a_byte : a < 256 = All-head IsByte a [] are in
    rw (usual_at (a / 4) (omega (arith, a_byte)), usual_at (a % 4 * 16) (omega arith)) refl
symbols_usual (a ∷ b ∷ []) are =
    let a_byte : a < 256 = All-head IsByte a (b ∷ []) are in
    let b_byte : b < 256 = All-head IsByte b [] (All-tail IsByte a (b ∷ []) are) in
    rw (usual_at (a / 4) (omega (arith, a_byte)), usual_at (a % 4 * 16 + b / 16) (omega (arith, b_byte)), usual_at (b % 16 * 4) (omega arith)) refl
symbols_usual (a ∷ b ∷ c ∷ rest) are =
    let a_byte : a < 256 = All-head IsByte a (b ∷ c ∷ rest) are in
    let after_a : All IsByte (b ∷ c ∷ rest) = All-tail IsByte a (b ∷ c ∷ rest) are in
    let b_byte : b < 256 = All-head IsByte b (c ∷ rest) after_a in
    let after_b : All IsByte (c ∷ rest) = All-tail IsByte b (c ∷ rest) after_a in
    let c_byte : c < 256 = All-head IsByte c rest after_b in
    rw (
      usual_at (a / 4) (omega (arith, a_byte)),
      usual_at (a % 4 * 16 + b / 16) (omega (arith, b_byte)),
      usual_at (b % 16 * 4 + c / 64) (omega (arith, c_byte)),
      usual_at (c % 64) (omega arith),
      symbols_usual rest (All-tail IsByte c rest after_b),
    ) refl

-- the letters of bytes
encoded_is : (m : List ℕ) → encode_of url_safe_no_pad m ≡ encode_symbols symbols m
encoded_is m = append-nil (encode_symbols symbols m)

letters_usual : (m : List ℕ) → All IsByte m → map usual_letter (encode_of url_safe_no_pad m) ≡ encode_of url_safe_no_pad m
letters_usual m are = rw (encoded_is m) (symbols_usual m are)

bytes_at : (m : List ℕ) → All IsByte m → IsBytes m
bytes_at [] are i = omega arith
bytes_at (b ∷ bs) are zero = All-head IsByte b bs are
bytes_at (b ∷ bs) are (suc i) = bytes_at bs (All-tail IsByte b bs are) i

decoded_back : (m : List ℕ) → All IsByte m → decoded_of url_safe_no_pad (map usual_letter (encode_of url_safe_no_pad m)) ≡ Some m
unfolding decoded_of
decoded_back m are = rw (letters_usual m are, decode_of-encode_of url_safe_no_pad m refl (bytes_at m are)) refl

pub decoded_ok : (letters bytes : List ℕ) → decode_of url_safe_no_pad letters ≡ Ok bytes → decoded_of url_safe_no_pad letters ≡ Some bytes
unfolding decoded_of
decoded_ok letters bytes e = ap result_ok e

pub decoded_err : (letters : List ℕ) (fault : DecodeError) → decode_of url_safe_no_pad letters ≡ Err fault → decoded_of url_safe_no_pad letters ≡ None
unfolding decoded_of
decoded_err letters fault e = ap result_ok e

-- Screens.

whole_back : (screen : List ℕ) → length screen ≡ 960 → whole_screen screen ≡ Some screen
whole_back screen long = let is : (length screen == 960) ≡ true = grind (arith, nat_tests, long) in rw is refl

rows_back : (screen : List ℕ) → IsSavedScreen screen → rows_codes (encode_of url_safe_no_pad (packed screen)) ≡ Some screen
rows_back screen saved =
    let p = are_packed 120 screen (saved.cells ∙ refl) in
    rw (decoded_back (packed screen) p.bytes, p.back, all_back screen saved.codes) (whole_back screen saved.cells)

blank_long : length blank_row_letters ≡ 47
unfolding blank_row_letters
blank_long = refl

letters_long : (screen : List ℕ) → IsSavedScreen screen → length (encode_of url_safe_no_pad (packed screen)) ≡ 1120
letters_long screen saved =
    let p = are_packed 120 screen (saved.cells ∙ refl) in
    ap (λ l. length l) (encoded_is (packed screen)) ∙ length-encode_symbols symbols (packed screen) ∙ ap (λ n. (4 * n + 2) / 3) p.sized

pub back : LinksKeepScreens
back screen saved =
    let letters = encode_of url_safe_no_pad (packed screen) in
    let long = letters_long screen saved in
    let whole : length (letters ++ blank_row_letters) ≡ 1167 = omega (arith, long, blank_long, length-append letters blank_row_letters) in
    let first : take 1120 (letters ++ blank_row_letters) ≡ letters = take_at letters blank_row_letters 1120 long in
    rw (whole, first) (rows_back screen saved)

-- What is read is a screen.

some_is : {A : Type 0} (x y : A) → (let o : Option A = Some x in o) ≡ Some y → x ≡ y
some_is x y e = cc

cell_is_code : (c : ℕ) → c < 128 → IsCode (stored_code c)
cell_is_code c lt = by (nat_lt c 32) refl where
  high : nat_lt c 32 ≡ false → (b : Bool) → nat_lt c 160 ≡ b → IsCode (stored_code c)
  high not_low true e = rw (not_low, e) (grind (arith, nat_tests, not_low), grind (arith, nat_tests, lt))
  high not_low false e = absurd (grind (arith, nat_tests, e, lt))

  by : (b : Bool) → nat_lt c 32 ≡ b → IsCode (stored_code c)
  by true e = rw e (grind (arith, nat_tests), grind (arith, nat_tests, e))
  by false e = high e (nat_lt c 160) refl

cells_saved : (cells screen : List ℕ) → All IsCode cells → whole_screen cells ≡ Some screen → IsSavedScreen screen
cells_saved cells screen codes e = by (length cells == 960) refl where
  by : (b : Bool) → (length cells == 960) ≡ b → IsSavedScreen screen
  by true is =
      let same : cells ≡ screen = some_is cells screen (rw is at e) in
      subst IsSavedScreen same record { cells = grind (arith, nat_tests, is); codes = codes }
  by false is = let none = rw is at e in absurd cc

bytes_saved : (bytes screen : List ℕ) → whole_screen (map stored_code (unpacked bytes)) ≡ Some screen → IsSavedScreen screen
bytes_saved bytes screen e =
    cells_saved (map stored_code (unpacked bytes)) screen (All-map IsCode stored_code (unpacked bytes) (λ k d lt. cell_is_code _ (cells_are_small bytes k d lt))) e

decoded_saved : (bytes : Option (List ℕ)) (screen : List ℕ) → cells_of bytes ≡ Some screen → IsSavedScreen screen
decoded_saved None screen e = absurd cc
decoded_saved (Some bytes) screen e = bytes_saved bytes screen e

pub are : LinksAreScreens
are letters screen e = by (has_link_size (length letters)) refl where
  by : (b : Bool) → has_link_size (length letters) ≡ b → IsSavedScreen screen
  by true is = decoded_saved (decoded_of url_safe_no_pad (map usual_letter (take 1120 letters))) screen (rw is at e)
  by false is = let none = rw is at e in absurd cc
