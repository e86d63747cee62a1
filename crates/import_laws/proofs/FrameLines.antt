-- The lines of a frame are read as its expressions.
use Rattle.std.proofs.Common.{◌≡◌, ℕ, zero, suc, ◌+◌, ◌*◌, ◌^◌, ◌<◌, ◌≤◌, Bool, true, false, ◌&&◌, ◌==◌, nat_lt, pos, List, [], ◌∷◌, ◌++◌, map, take, drop, get_or, codes, decimal, Option, Some, None, refl, sym, ap, ◌∙◌, subst, inl, inr, arith, append_assoc, append-nil, lt-ltb}
use Rattle.std.proofs.lemmas.Bool.{cases_Bool, cases_lt, and_parts}
use Rattle.std.proofs.lemmas.Bool.Decides.{nat_tests}
use Rattle.std.proofs.lemmas.Fmt.{decimal_is_IsNumeral}
use Rattle.std.proofs.lemmas.List.Elements.{All-nil, All-cons, All-head, All-tail, All-append, All-map, All-weaker, All-take, All-drop}
use Rattle.std.proofs.lemmas.Str.{encode_ascii}
use Rattle.std.specs.List.{All, flat_map, list_all, range_with_len}
use Rattle.std.specs.Str.{encode_utf8_all}
use Rattle.std.specs.Str.Parse.{AllDigits}
use Rattle.page_ids.specs.Ids.{Id, IsFrameId, frame_text}
use Rattle.terminal_codes.specs.Writes.{IsCode}
use Rattle.screens.specs.declared.look.Look.{Look}
use Rattle.screens.specs.Looks.{looks}
use Rattle.screens.specs.Text.{before, trimmed}
use Rattle.screen_forms.specs.Laws.{IsSavedScreen}
use Rattle.screen_files.specs.Keys.{shows_key}
use Rattle.screen_files.specs.declared.frame.ScreenFrame.{ScreenFrame}
use Rattle.screen_files.specs.Rows.{screen_row, last_row, rows_of}
use Rattle.screen_files.specs.Texts.{quoted_code, comment_code, comment_by, row_comment, keys_from, shown_keys_text, keys_label, keys_comment, price_text_line, next_line, guessed_label, routes_with, routes_line, rows_text, id_line, frame_lines}
use Rattle.screen_files.specs.Routes.{guessed_routes}
use Rattle.toml_parser.specs.Lexical.{skip_blank}
use Rattle.toml_writer.specs.Text.{key_text}
use Rattle.toml.specs.Data.{Data, string, integer, boolean, array, table, Members, no_members}
use Rattle.toml.specs.Tables.{Expression, array_table}
use Rattle.toml.specs.Parse.{val}
use Rattle.toml.proofs.Blanks.{skip_newline}
use Rattle.toml.proofs.ReadLines.{line_turn, Turn as LineTurn}
use Rattle.import_laws.specs.Imported.{IsFiledPrice, row_items, route_members}
use Rattle.import_laws.proofs.RowTexts.{row_read}
use Rattle.import_laws.proofs.Blanks.{IsShown, skip_comment}
use Rattle.import_laws.proofs.Lines.{Reads, reads_blank, reads_one, reads_append}
use Rattle.import_laws.proofs.Pairs.{IsTail, IsValue, newline_tail, comment_tail, number_value, true_value, pair, reads_pair}
use Rattle.import_laws.proofs.RowLists.{HoldCodes, array_text, array_value}
use Rattle.import_laws.proofs.RouteTables.{routes_first, flat, dated, none_value, some_value, longer}

-- The header.

abbrev pub frame_header : Expression
frame_header = (([], codes "frame"), array_table)

header_turn : (rest : List ℕ) → LineTurn ([], codes "frame") array_table (codes "\n[[frame]]\n" ++ rest) rest
unfolding key_text
header_turn rest = line_turn true true ([], codes "frame") array_table (codes "\n[[frame]]\n") rest refl (omega arith)

header_reads : Reads (codes "\n[[frame]]\n") (frame_header ∷ [])
header_reads =
    reads_one (codes "\n[[frame]]\n") frame_header (λ rest. (header_turn rest).0) (λ rest. (header_turn rest).1)
    (λ rest. record { after = 10 ∷ rest; reads = (header_turn rest).2; skips = skip_newline rest; shorter = omega (arith, (header_turn rest).4) })

-- Comments.

trimmed_all : (P : ℕ → Type 0) (row : List ℕ) → All P row → All P (trimmed row)
trimmed_all P [] all = all
trimmed_all P (c ∷ cs) all = by (trimmed cs) (trimmed_all P cs (All-tail P c cs all)) where
  by : (rest : List ℕ) → All P rest → All P (before c rest)
  by (d ∷ ds) more = All-cons P c (d ∷ ds) (All-head P c cs all) more
  by [] more = elim (cases_Bool (c == 32)) [
    | inl space ↦ rw space more
    | inr other ↦ rw other (All-cons P c [] (All-head P c cs all) more)
  ]

shown_code : (c : ℕ) → IsCode c → IsShown (comment_code c)
shown_code c is = elim (cases_lt c 0x7F) [
  | inl low ↦ rw (lt-ltb c 0x7F low) (is.0, low)
  | inr high ↦ let not_low : nat_lt c 0x7F ≡ false = grind (arith, nat_tests) in rw not_low (omega arith, omega arith)
]

raw_codes : (screen : List ℕ) (row : ℕ) → IsSavedScreen screen → All IsCode (take 40 (drop (40 * row) screen))
raw_codes screen row saved = All-take IsCode 40 (drop (40 * row) screen) (All-drop IsCode (40 * row) screen saved.codes)

comment_reads : (text : List ℕ) → All IsShown text → Reads (comment_by text) []
comment_reads [] all = reads_blank [] (λ rest. refl)
comment_reads (c ∷ cs) all = reads_blank ((codes "# " ++ (c ∷ cs)) ++ codes "\n") blank where
  blank : (rest : List ℕ) → skip_blank (((codes "# " ++ (c ∷ cs)) ++ codes "\n") ++ rest) ≡ skip_blank rest
  blank rest =
      ap (λ (t : List ℕ). skip_blank (35 ∷ t)) (append_assoc (32 ∷ c ∷ cs) (10 ∷ []) rest)
      ∙ skip_comment (32 ∷ c ∷ cs) rest (All-cons IsShown 32 (c ∷ cs) (omega arith, omega arith) all)

pub shown_comment : (screen : List ℕ) (row : ℕ) → IsSavedScreen screen → All IsShown (trimmed (map comment_code (take 40 (drop (40 * row) screen))))
shown_comment screen row saved =
    let cells = take 40 (drop (40 * row) screen) in
    let shown = All-map IsShown comment_code cells (All-weaker IsCode (λ c. IsShown (comment_code c)) shown_code cells (raw_codes screen row saved)) in
    trimmed_all IsShown (map comment_code cells) shown

row_comment_reads : (screen : List ℕ) (row : ℕ) → IsSavedScreen screen → Reads (row_comment screen row) []
row_comment_reads screen row saved =
    comment_reads (trimmed (map comment_code (take 40 (drop (40 * row) screen)))) (shown_comment screen row saved)

-- Lines of a bare key.

pair_as : (text k value tail : List ℕ) (d : Data) → key_text k ≡ k → text ≡ k ++ (codes " = " ++ (value ++ tail)) → IsTail tail → IsValue value tail d
    → Reads text (pair k d ∷ [])
pair_as text k value tail d bare same ends is =
    subst (λ (t : List ℕ). Reads t (pair k d ∷ [])) (ap (λ (t : List ℕ). t ++ (codes " = " ++ (value ++ tail))) bare ∙ sym same) (reads_pair k value tail d ends is)

id_bare : key_text (codes "id") ≡ codes "id"
unfolding key_text
id_bare = refl

price_bare : key_text (codes "price") ≡ codes "price"
unfolding key_text
price_bare = refl

next_bare : key_text (codes "next") ≡ codes "next"
unfolding key_text
next_bare = refl

routes_bare : key_text (codes "routes") ≡ codes "routes"
unfolding key_text
routes_bare = refl

rows_bare : key_text (codes "rows") ≡ codes "rows"
unfolding key_text
rows_bare = refl

entry_bare : key_text (codes "entry") ≡ codes "entry"
unfolding key_text
entry_bare = refl

-- The id.

-- a digit or a letter
abbrev pub IsIdByte : ℕ → Type 0
IsIdByte c = (48 ≤ c) × (c ≤ 122) × ((c == 92) ≡ false)

pub digit_bytes : (ds : List ℕ) → AllDigits 10 ds → All IsIdByte ds
digit_bytes [] all = All-nil IsIdByte
digit_bytes (d ∷ ds) all =
    All-cons IsIdByte d ds (grind (arith, nat_tests), grind (arith, nat_tests), grind (arith, nat_tests)) (digit_bytes ds all.1)

pub id_bytes : (id : Id) → IsFrameId id → All IsIdByte (frame_text id)
id_bytes id is =
    let letter = is.letter in
    All-append IsIdByte (decimal id.page) (id.letter ∷ []) (digit_bytes (decimal id.page) (decimal_is_IsNumeral id.page (omega (arith, is.page))).0.1)
    (All-cons IsIdByte id.letter [] (omega (arith, letter.0), omega (arith, letter.1), grind (arith, nat_tests, letter.0)) (All-nil IsIdByte))

bytes_quoted : (text : List ℕ) → All IsIdByte text → flat_map quoted_code text ≡ text
bytes_quoted [] all = refl
bytes_quoted (c ∷ cs) all =
    let is = All-head IsIdByte c cs all in
    let quote : (c == 34) ≡ false = grind (arith, nat_tests, is.0) in
    let low : nat_lt c 0x7F ≡ true = grind (arith, nat_tests, is.1) in
    rw (quote, is.2, low) (ap (λ (t : List ℕ). c ∷ t) (bytes_quoted cs (All-tail IsIdByte c cs all)))

bytes_encoded : (text : List ℕ) → All IsIdByte text → encode_utf8_all text ≡ text
bytes_encoded [] all = refl
bytes_encoded (c ∷ cs) all =
    let is = All-head IsIdByte c cs all in
    rw (encode_ascii c (omega (arith, is.1))) (ap (λ (t : List ℕ). c ∷ t) (bytes_encoded cs (All-tail IsIdByte c cs all)))

bytes_codes : (text : List ℕ) → All IsIdByte text → All IsCode text
bytes_codes text all = All-weaker IsIdByte IsCode (λ c is. (omega (arith, is.0), omega (arith, is.1))) text all

quoted_value : (text tail : List ℕ) → All IsIdByte text → IsTail tail → IsValue (34 ∷ (text ++ 34 ∷ [])) tail (string text)
quoted_value text tail all ends = record { starts = λ rest. refl; reads = reads } where
  reads : (rest : List ℕ) → val 80 ((34 ∷ (text ++ 34 ∷ [])) ++ (tail ++ rest)) ≡ Some (string text, tail ++ rest)
  reads rest =
      let stop = (ends.value_ends rest).0.0 in
      ap (λ (t : List ℕ). val 80 (34 ∷ t)) (append_assoc text (34 ∷ []) (tail ++ rest) ∙ ap (λ (t : List ℕ). t ++ 34 ∷ (tail ++ rest)) (sym (bytes_quoted text all)))
      ∙ row_read 80 text (tail ++ rest) (bytes_codes text all) stop
      ∙ ap (λ (t : List ℕ). Some (string t, tail ++ rest)) (bytes_encoded text all)

id_reads : (id : Id) → IsFrameId id → Reads (id_line id) (pair (codes "id") (string (frame_text id)) ∷ [])
id_reads id is =
    pair_as (id_line id) (codes "id") (34 ∷ (frame_text id ++ 34 ∷ [])) (10 ∷ []) (string (frame_text id)) id_bare (simp append_assoc refl) newline_tail
    (quoted_value (frame_text id) (10 ∷ []) (id_bytes id is) newline_tail)

-- The price and `next`.

abbrev pub price_pairs : Option ℕ → List Expression
price_pairs None = []
price_pairs (Some price) = pair (codes "price") (integer (pos price)) ∷ []

price_reads : (price : Option ℕ) → IsFiledPrice price → Reads (price_text_line price) (price_pairs price)
price_reads None is = reads_blank [] (λ rest. refl)
price_reads (Some price) is =
    pair_as (price_text_line (Some price)) (codes "price") (decimal price) (10 ∷ []) (integer (pos price)) price_bare (simp append_assoc refl) newline_tail
    (number_value price (10 ∷ []) (omega (arith, is)) newline_tail)

abbrev pub next_pairs : Bool → List Expression
next_pairs true = pair (codes "next") (boolean true) ∷ []
next_pairs false = []

next_reads : (next : Bool) → Reads (next_line next) (next_pairs next)
next_reads true = pair_as (next_line true) (codes "next") (codes "true") (10 ∷ []) (boolean true) next_bare refl newline_tail (true_value (10 ∷ []) newline_tail)
next_reads false = reads_blank [] (λ rest. refl)

-- The routes.

is_shown : ℕ → Bool
is_shown c = nat_lt 31 c && nat_lt c 127

all_shown : (text : List ℕ) → list_all is_shown text ≡ true → All IsShown text
unfolding is_shown
all_shown [] is = All-nil IsShown
all_shown (c ∷ cs) is =
    let (here, more) = and_parts (is_shown c) (list_all is_shown cs) is in
    All-cons IsShown c cs (grind (arith, nat_tests), grind (arith, nat_tests)) (all_shown cs more)

pub keys_shown : (all : List (List Look)) (n digit : ℕ) → digit + n ≤ 10 → All IsShown (keys_from all n digit)
unfolding keys_from
keys_shown all zero digit room = All-nil IsShown
keys_shown all (suc n) digit room =
    let more = keys_shown all n (digit + 1) (omega (arith, room)) in
    elim (cases_Bool (shows_key all digit)) [
      | inl is ↦ rw is (All-cons IsShown 32 ((48 + digit) ∷ keys_from all n (digit + 1)) (omega arith, omega arith) (All-cons IsShown (48 + digit) (keys_from all n (digit + 1)) (omega arith, omega (arith, room)) more))
      | inr not ↦ rw not more
    ]

labelled_tail : (label keys : List ℕ) → list_all is_shown label ≡ true → All IsShown keys → IsTail (32 ∷ 35 ∷ ((label ++ keys) ++ 10 ∷ []))
labelled_tail label keys is all = comment_tail (label ++ keys) (All-append IsShown label keys (all_shown label is) all)

keys_tail : (keys : List ℕ) → All IsShown keys → IsTail (keys_comment keys ++ 10 ∷ [])
unfolding keys_label is_shown
keys_tail [] all = newline_tail
keys_tail (c ∷ cs) all = rw (longer c cs) (labelled_tail (codes " keys shown:") (c ∷ cs) refl all)

guessed_tail : (keys : List ℕ) → All IsShown keys → IsTail ((guessed_label ++ keys) ++ 10 ∷ [])
unfolding guessed_label is_shown
guessed_tail keys all = labelled_tail (codes " by its number; keys shown:") keys refl all

abbrev ReadsRoutes : List ℕ → List ℕ → Members → Type 0
ReadsRoutes routes keys ms = Reads (routes_with routes keys) (pair (codes "routes") (table ms) ∷ [])

none_reads : (keys : List ℕ) → All IsShown keys → ReadsRoutes [] keys no_members
none_reads keys all =
    let ends = keys_tail keys all in
    pair_as (routes_with [] keys) (codes "routes") (codes "{ }") (keys_comment keys ++ 10 ∷ []) (table no_members) routes_bare refl ends
    (none_value (keys_comment keys ++ 10 ∷ []))

routes_reads : (known : List Id) (f : ScreenFrame) → Reads (routes_line known f) (pair (codes "routes") (table (route_members known f.id.page (looks f.codes) 10 0)) ∷ [])
routes_reads known f =
    let page = f.id.page in
    let all = looks f.codes in
    let keys = shown_keys_text all in
    let routes = guessed_routes known page all in
    let shown = keys_shown all 10 0 (omega arith) in
    elim (routes_first known page all 10 0 (omega arith)) [
      | inl none ↦ rw (none.text, none.members) (none_reads keys shown)
      | inr some ↦
          let ends = guessed_tail keys shown in
          let tail = (guessed_label ++ keys) ++ 10 ∷ [] in
          let same : routes_with routes keys ≡ codes "routes" ++ (codes " = " ++ ((123 ∷ (routes ++ codes " }")) ++ tail)) = rw some.some refl in
          pair_as (routes_with routes keys) (codes "routes") (123 ∷ (routes ++ codes " }")) tail (table (route_members known page all 10 0)) routes_bare same ends
          (some_value (routes ++ codes " }") tail (route_members known page all 10 0) some.text (flat known page all 10 0) (dated known page all 10 0) ends)
    ]

-- The rows.

pub row_holds : (screen : List ℕ) → IsSavedScreen screen → (row : ℕ) → All IsCode (screen_row screen row)
row_holds screen saved row = trimmed_all IsCode (take 40 (drop (40 * row) screen)) (raw_codes screen row saved)

pub rows_hold : (screen : List ℕ) → IsSavedScreen screen → HoldCodes (rows_of screen)
rows_hold screen saved =
    let rows = range_with_len 1 (last_row screen 22) in
    All-map (All IsCode) (screen_row screen) rows (λ k d lt. row_holds screen saved (get_or rows k d))

rows_reads : (screen : List ℕ) → IsSavedScreen screen → Reads (rows_text screen) (pair (codes "rows") (array (row_items (rows_of screen))) ∷ [])
rows_reads screen saved =
    pair_as (rows_text screen) (codes "rows") (array_text (rows_of screen)) (10 ∷ []) (array (row_items (rows_of screen))) rows_bare (simp append_assoc refl) newline_tail
    (array_value (rows_of screen) (10 ∷ []) (rows_hold screen saved))

-- The frame.

-- what its lines read as, after the header
abbrev pub body_pairs : List Id → ScreenFrame → Bool → List Expression
body_pairs known f next =
    pair (codes "id") (string (frame_text f.id)) ∷ (price_pairs f.price ++ (next_pairs next
    ++ (pair (codes "routes") (table (route_members known f.id.page (looks f.codes) 10 0)) ∷ pair (codes "rows") (array (row_items (rows_of f.codes))) ∷ [])))

abbrev pub frame_pairs : List Id → ScreenFrame → Bool → List Expression
frame_pairs known f next = frame_header ∷ body_pairs known f next

in_turn : (h i r w : Expression) (ps ns : List Expression)
    → ((((((h ∷ [] ++ []) ++ i ∷ []) ++ ps) ++ ns) ++ r ∷ []) ++ w ∷ []) ++ [] ≡ h ∷ i ∷ (ps ++ (ns ++ r ∷ w ∷ []))
in_turn h i r w ps ns =
    append-nil (h ∷ i ∷ (((ps ++ ns) ++ r ∷ []) ++ w ∷ []))
    ∙ ap (λ (es : List Expression). h ∷ i ∷ es) (append_assoc (ps ++ ns) (r ∷ []) (w ∷ []) ∙ append_assoc ps ns (r ∷ w ∷ []))

pub frame_reads : (known : List Id) (f : ScreenFrame) (next : Bool) → IsFrameId f.id → IsFiledPrice f.price → IsSavedScreen f.codes
    → Reads (frame_lines known f next) (frame_pairs known f next)
frame_reads known f next id price saved =
    let head = codes "\n[[frame]]\n" ++ row_comment f.codes 0 in
    let with_id = head ++ id_line f.id in
    let with_price = with_id ++ price_text_line f.price in
    let with_next = with_price ++ next_line next in
    let with_routes = with_next ++ routes_line known f in
    let begun = reads_append (codes "\n[[frame]]\n") (row_comment f.codes 0) _ _ header_reads (row_comment_reads f.codes 0 saved) in
    let named = reads_append head (id_line f.id) _ _ begun (id_reads f.id id) in
    let priced = reads_append with_id (price_text_line f.price) _ _ named (price_reads f.price price) in
    let led = reads_append with_price (next_line next) _ _ priced (next_reads next) in
    let routed = reads_append with_next (routes_line known f) _ _ led (routes_reads known f) in
    let filled = reads_append with_routes (rows_text f.codes) _ _ routed (rows_reads f.codes saved) in
    let all = reads_append (with_routes ++ rows_text f.codes) (row_comment f.codes 23) _ _ filled (row_comment_reads f.codes 23 saved) in
    subst (Reads (frame_lines known f next))
    (in_turn frame_header (pair (codes "id") (string (frame_text f.id))) (pair (codes "routes") (table (route_members known f.id.page (looks f.codes) 10 0)))
    (pair (codes "rows") (array (row_items (rows_of f.codes)))) (price_pairs f.price) (next_pairs next)) all

-- the line of the entry page
pub entry_reads : (page : ℕ) → page < 2 ^ 63 → Reads ((codes "entry = " ++ decimal page) ++ codes "\n") (pair (codes "entry") (integer (pos page)) ∷ [])
entry_reads page small =
    pair_as ((codes "entry = " ++ decimal page) ++ codes "\n") (codes "entry") (decimal page) (10 ∷ []) (integer (pos page)) entry_bare (simp append_assoc refl) newline_tail
    (number_value page (10 ∷ []) small newline_tail)
