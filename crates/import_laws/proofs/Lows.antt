-- The text of a base that is made of frames is ASCII.
use Rattle.std.proofs.Common.{◌≡◌, ℕ, zero, suc, ◌+◌, ◌*◌, ◌/◌, ◌%◌, ◌^◌, ◌<◌, ◌≤◌, Bool, true, false, ◌==◌, nat_lt, List, [], ◌∷◌, ◌++◌, length, map, take, drop, codes, decimal, Option, Some, None, IsAscii, IsUtf8, refl, ◌∙◌, inl, inr, arith, lt-ltb, ne_eqb}
use Rattle.std.proofs.lemmas.Bool.{cases_Bool, cases_eq, cases_lt, and_parts}
use Rattle.std.proofs.lemmas.Bool.Decides.{nat_tests}
use Rattle.std.proofs.lemmas.Fmt.{decimal_is_IsNumeral}
use Rattle.std.proofs.lemmas.List.Elements.{All-head, All-tail}
use Rattle.std.proofs.lemmas.List.Folds.{list_all-append}
use Rattle.std.proofs.lemmas.Str.{IsUtf8-from_ascii}
use Rattle.std.specs.List.{All, flat_map, list_all}
use Rattle.page_ids.specs.Ids.{Id, IsFrameId, frame_text}
use Rattle.page_ids.specs.Texts.{hex_digit}
use Rattle.terminal_codes.specs.Writes.{IsCode}
use Rattle.screens.specs.declared.look.Look.{Look}
use Rattle.screens.specs.Looks.{looks}
use Rattle.screens.specs.Text.{trimmed}
use Rattle.screen_forms.specs.Laws.{IsSavedScreen}
use Rattle.screen_files.specs.declared.filed.Filed.{Filed}
use Rattle.screen_files.specs.declared.frame.ScreenFrame.{ScreenFrame}
use Rattle.screen_files.specs.Rows.{rows_of}
use Rattle.screen_files.specs.Routes.{is_guessed, page_by, pair_text, routes_from, guessed_routes}
use Rattle.screen_files.specs.Texts.{quoted_code, row_text_line, comment_code, comment_by, row_comment, shown_keys_text, keys_label, keys_comment, price_text_line, next_line, guessed_label, routes_comment, routes_line, rows_text, id_line, frame_lines, entry_key_line}
use Rattle.screen_files.specs.Album.{frames_text, leads_on}
use Rattle.import_laws.specs.Imported.{IsFiledPrice, IsFiled}
use Rattle.import_laws.proofs.Blanks.{IsShown}
use Rattle.import_laws.proofs.RouteTables.{small_page}
use Rattle.import_laws.proofs.FrameLines.{IsIdByte, digit_bytes, id_bytes, shown_comment, keys_shown, rows_hold}
use Rattle.import_laws.proofs.RowLists.{HoldCodes}

abbrev is_low : ℕ → Bool
is_low c = nat_lt c 128

abbrev AreLow : List ℕ → Type 0
AreLow text = list_all is_low text ≡ true

both : (text more : List ℕ) → AreLow text → AreLow more → AreLow (text ++ more)
both text more a b = list_all-append is_low text more ∙ rw (a, b) refl

low_by : (P : ℕ → Type 0) → ((c : ℕ) → P c → c < 128) → (text : List ℕ) → All P text → AreLow text
low_by P low [] all = refl
low_by P low (c ∷ cs) all = rw (lt-ltb c 128 (low c (All-head P c cs all))) (low_by P low cs (All-tail P c cs all))

shown_low : (text : List ℕ) → All IsShown text → AreLow text
shown_low text all = low_by IsShown (λ c is. omega (arith, is.1)) text all

id_byte_low : (c : ℕ) → IsIdByte c → c < 128
id_byte_low c is = omega (arith, is.1)

decimal_low : (n : ℕ) → n < 2 ^ 64 → AreLow (decimal n)
decimal_low n small = low_by IsIdByte id_byte_low (decimal n) (digit_bytes (decimal n) (decimal_is_IsNumeral n small).0.1)

-- Rows.

hex_low : (d : ℕ) → d < 16 → is_low (hex_digit d) ≡ true
hex_low d small = grind (arith, nat_tests)

code_low : (c : ℕ) → IsCode c → AreLow (quoted_code c)
code_low c is =
    elim (cases_eq c 34) [
      | inl same ↦ rw same refl
      | inr other ↦ elim (cases_eq c 92) [
        | inl same ↦ rw same refl
        | inr apart ↦ elim (cases_lt c 0x7F) [
          | inl low ↦ rw (ne_eqb c 34 other, ne_eqb c 92 apart, lt-ltb c 0x7F low, lt-ltb c 128 (omega (arith, low))) refl
          | inr high ↦
              let not_low : nat_lt c 0x7F ≡ false = grind (arith, nat_tests) in
              rw (ne_eqb c 34 other, ne_eqb c 92 apart, not_low, hex_low (c / 16) (omega (arith, is.1)), hex_low (c % 16) (omega arith)) refl
        ]
      ]
    ]

codes_low : (row : List ℕ) → All IsCode row → AreLow (flat_map quoted_code row)
codes_low [] all = refl
codes_low (c ∷ cs) all = both (quoted_code c) (flat_map quoted_code cs) (code_low c (All-head IsCode c cs all)) (codes_low cs (All-tail IsCode c cs all))

rows_low : (rows : List (List ℕ)) → HoldCodes rows → AreLow (flat_map row_text_line rows)
rows_low [] all = refl
rows_low (row ∷ rows) all =
    both (row_text_line row) (flat_map row_text_line rows)
    (both (codes "    \"" ++ flat_map quoted_code row) (codes "\",\n") (codes_low row (All-head (All IsCode) row rows all)) refl)
    (rows_low rows (All-tail (All IsCode) row rows all))

rows_text_low : (screen : List ℕ) → IsSavedScreen screen → AreLow (rows_text screen)
rows_text_low screen saved =
    both (codes "rows = [\n" ++ flat_map row_text_line (rows_of screen)) (codes "]\n") (rows_low (rows_of screen) (rows_hold screen saved)) refl

-- Comments.

comment_low : (text : List ℕ) → AreLow text → AreLow (comment_by text)
comment_low [] low = refl
comment_low (c ∷ cs) low = both (codes "# " ++ (c ∷ cs)) (codes "\n") low refl

row_comment_low : (screen : List ℕ) (row : ℕ) → IsSavedScreen screen → AreLow (row_comment screen row)
row_comment_low screen row saved =
    comment_low (trimmed (map comment_code (take 40 (drop (40 * row) screen)))) (shown_low _ (shown_comment screen row saved))

-- Routes.

pair_low : (is_first : Bool) (digit to : ℕ) → digit < 10 → to < 2 ^ 64 → AreLow (pair_text is_first digit to)
pair_low true digit to small few = rw (lt-ltb (48 + digit) 128 (omega arith)) (decimal_low to few)
pair_low false digit to small few = rw (lt-ltb (48 + digit) 128 (omega arith)) (decimal_low to few)

routes_low : (known : List Id) (page : ℕ) (all : List (List Look)) (is_first : Bool) (n digit : ℕ) → digit + n ≤ 10 → AreLow (routes_from known page all is_first n digit)
unfolding routes_from
routes_low known page all is_first zero digit room = refl
routes_low known page all is_first (suc n) digit room =
    let after = routes_low known page all false n (digit + 1) (omega (arith, room)) in
    let same = routes_low known page all is_first n (digit + 1) (omega (arith, room)) in
    elim (cases_Bool (is_guessed known page all digit)) [
      | inl is ↦ rw is (both (pair_text is_first digit (page_by page digit)) (routes_from known page all false n (digit + 1))
          (pair_low is_first digit (page_by page digit) (omega (arith, room)) (omega (arith, small_page known page all digit is))) after)
      | inr not ↦ rw not same
    ]

keys_comment_low : (keys : List ℕ) → AreLow keys → AreLow (keys_comment keys)
unfolding keys_label
keys_comment_low keys low = elim (cases_Bool (length keys == 0)) [
  | inl none ↦ rw none refl
  | inr some ↦ rw some low
]

routes_comment_low : (routes keys : List ℕ) → AreLow keys → AreLow (routes_comment routes keys)
unfolding guessed_label
routes_comment_low routes keys low = elim (cases_Bool (length routes == 0)) [
  | inl none ↦ rw none (keys_comment_low keys low)
  | inr some ↦ rw some low
]

routes_line_low : (known : List Id) (f : ScreenFrame) → AreLow (routes_line known f)
routes_line_low known f =
    let all = looks f.codes in
    let routes = guessed_routes known f.id.page all in
    let keys = shown_keys_text all in
    both ((codes "routes = {" ++ routes) ++ codes " }") (routes_comment routes keys ++ codes "\n")
    (both (codes "routes = {" ++ routes) (codes " }") (routes_low known f.id.page all true 10 0 (omega arith)) refl)
    (both (routes_comment routes keys) (codes "\n") (routes_comment_low routes keys (shown_low keys (keys_shown all 10 0 (omega arith)))) refl)

-- Frames.

price_low : (price : Option ℕ) → IsFiledPrice price → AreLow (price_text_line price)
price_low None is = refl
price_low (Some price) is = both (codes "price = " ++ decimal price) (codes "\n") (decimal_low price (omega (arith, is))) refl

next_low : (next : Bool) → AreLow (next_line next)
next_low true = refl
next_low false = refl

id_low : (id : Id) → IsFrameId id → AreLow (id_line id)
id_low id is = both (codes "id = \"" ++ frame_text id) (codes "\"\n") (low_by IsIdByte id_byte_low (frame_text id) (id_bytes id is)) refl

frame_low : (known : List Id) (f : ScreenFrame) (next : Bool) → IsFrameId f.id → IsFiledPrice f.price → IsSavedScreen f.codes → AreLow (frame_lines known f next)
frame_low known f next id price saved =
    let head = codes "\n[[frame]]\n" ++ row_comment f.codes 0 in
    let with_id = head ++ id_line f.id in
    let with_price = with_id ++ price_text_line f.price in
    let with_next = with_price ++ next_line next in
    let with_routes = with_next ++ routes_line known f in
    both (with_routes ++ rows_text f.codes) (row_comment f.codes 23)
    (both with_routes (rows_text f.codes)
    (both with_next (routes_line known f)
    (both with_price (next_line next)
    (both with_id (price_text_line f.price)
    (both head (id_line f.id)
    (row_comment_low f.codes 0 saved)
    (id_low f.id id))
    (price_low f.price price))
    (next_low next))
    (routes_line_low known f))
    (rows_text_low f.codes saved))
    (row_comment_low f.codes 23 saved)

frames_low : (known : List Id) (frames : List Filed) → All IsFiled frames → AreLow (frames_text known frames)
unfolding frames_text
frames_low known [] filed = refl
frames_low known (f ∷ rest) filed =
    let is = All-head IsFiled f rest filed in
    both (frame_lines known f.frame (leads_on f.frame.id rest)) (frames_text known rest)
    (frame_low known f.frame (leads_on f.frame.id rest) is.id is.price is.screen) (frames_low known rest (All-tail IsFiled f rest filed))

ascii_of : (text : List ℕ) → AreLow text → IsAscii text
ascii_of [] low i = omega arith
ascii_of (c ∷ cs) low zero = grind (arith, nat_tests, (and_parts (is_low c) (list_all is_low cs) low).0)
ascii_of (c ∷ cs) low (suc i) = ascii_of cs (and_parts (is_low c) (list_all is_low cs) low).1 i

-- the text of a base is UTF-8
pub base_utf8 : (known : List Id) (page : ℕ) (frames : List Filed) → page < 2 ^ 64 → All IsFiled frames → IsUtf8 (entry_key_line page ++ frames_text known frames)
base_utf8 known page frames small filed =
    let entry = both (codes "entry = " ++ decimal page) (codes "\n") (decimal_low page small) refl in
    let text = entry_key_line page ++ frames_text known frames in
    IsUtf8-from_ascii text (ascii_of text (both (entry_key_line page) (frames_text known frames) entry (frames_low known frames filed)))
