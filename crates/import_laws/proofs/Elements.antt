-- The members of a frame mean the frame.
use Rattle.std.proofs.Common.{◌≡◌, ℕ, zero, suc, ◌+◌, ◌*◌, ◌<◌, ◌≤◌, Bool, true, false, ◌&&◌, ◌==◌, nat_le, nat_lt, pos, List, [], ◌∷◌, length, take, drop, get_or, codes, Option, Some, None, Ok, refl, inl, inr, arith, nat_cmp, length-take}
use Rattle.std.proofs.lemmas.Bool.{cases_Bool, cases_eq}
use Rattle.std.proofs.lemmas.Bool.Decides.{nat_tests}
use Rattle.std.proofs.lemmas.List.{length-map}
use Rattle.std.proofs.lemmas.List.FromFn.{length-range_with_len}
use Rattle.std.proofs.lemmas.List.Elements.{All-head, All-tail, All-map}
use Rattle.std.proofs.lemmas.Str.{chars-encodes}
use Rattle.std.specs.Char.{IsScalar, is_ascii_digit}
use Rattle.std.specs.Cmp.Lexicographic.{slice_cmp}
use Rattle.std.specs.List.{All, range_with_len}
use Rattle.std.specs.Str.{all_scalars}
use Rattle.std.specs.declared.cmp.Ordering.TheVariants.{Less, Equal, Greater}
use Rattle.page_ids.specs.Ids.{Id, IsFrameId, frame_text}
use Rattle.page_ids.proofs.IdTexts.{id_again}
use Rattle.terminal_codes.specs.Writes.{IsCode}
use Rattle.frame_records.specs.declared.frame.Lead.TheVariants.{Clear}
use Rattle.frame_records.specs.declared.limits.TheConstants.{MOST_PENCE}
use Rattle.page_ids.specs.declared.limits.TheConstants.{MOST_PAGE}
use Rattle.base_text.specs.declared.keys.TableKind.TheVariants as kind
use Rattle.base_text.specs.Fields.{unknown_keys, digit_key, price_of, next_of, digits_of, ten_digits}
use Rattle.base_text.specs.Frames.{element_of, table_element}
use Rattle.base_text.specs.Rows.{is_row_code, are_row_codes, row_read, rows_read, body_of_rows, count}
use Rattle.base_text.proofs.RowTurns.{none_refused}
use Rattle.screens.specs.declared.look.Look.{Look}
use Rattle.screens.specs.Looks.{looks}
use Rattle.screens.specs.Text.{before, trimmed}
use Rattle.screen_forms.specs.Laws.{IsSavedScreen}
use Rattle.screen_files.specs.declared.frame.ScreenFrame.{ScreenFrame}
use Rattle.screen_files.specs.Routes.{is_guessed, page_by}
use Rattle.screen_files.specs.Rows.{screen_row, last_row, rows_of}
use Rattle.toml.specs.Data.{Data, string, integer, boolean, array, table, Items, item, Members, no_members, member, get_member}
use Rattle.import_laws.specs.Imported.{IsFiledPrice, row_item, row_items, route_members, with_price, with_next, frame_members}
use Rattle.import_laws.proofs.FrameLines.{row_holds}
use Rattle.import_laws.proofs.RouteTables.{small_page}
use Rattle.import_laws.specs.Bases.{price_or_0, route_page, route_pages, screen_frame}

-- What is at each key.

abbrev price_data : Option ℕ → Option Data
price_data None = None
price_data (Some price) = Some (integer (pos price))

abbrev next_data : Bool → Option Data
next_data true = Some (boolean true)
next_data false = None

pub record HasMembers (ms : Members) (id : Data) (price : Option ℕ) (next : Bool) (routes rows : Data) : Type 0 where
  pub at_id : get_member (codes "id") ms ≡ Some id
  pub at_price : get_member (codes "price") ms ≡ price_data price
  pub at_group : get_member (codes "group") ms ≡ None
  pub at_next : get_member (codes "next") ms ≡ next_data next
  pub at_routes : get_member (codes "routes") ms ≡ Some routes
  pub at_lead : get_member (codes "lead") ms ≡ None
  pub at_body : get_member (codes "body") ms ≡ None
  pub at_rows : get_member (codes "rows") ms ≡ Some rows
  pub known : unknown_keys kind.Frame ms ≡ []

abbrev members_by : Data → Option ℕ → Bool → Data → Data → Members
members_by id price next routes rows =
    member (codes "id") id (with_next next (with_price price (member (codes "routes") routes (member (codes "rows") rows no_members))))

has_members : (id : Data) (price : Option ℕ) (next : Bool) (routes rows : Data) → HasMembers (members_by id price next routes rows) id price next routes rows
has_members id None true routes rows = record { at_id = refl; at_price = refl; at_group = refl; at_next = refl; at_routes = refl; at_lead = refl; at_body = refl; at_rows = refl; known = refl }
has_members id None false routes rows = record { at_id = refl; at_price = refl; at_group = refl; at_next = refl; at_routes = refl; at_lead = refl; at_body = refl; at_rows = refl; known = refl }
has_members id (Some price) true routes rows = record { at_id = refl; at_price = refl; at_group = refl; at_next = refl; at_routes = refl; at_lead = refl; at_body = refl; at_rows = refl; known = refl }
has_members id (Some price) false routes rows = record { at_id = refl; at_price = refl; at_group = refl; at_next = refl; at_routes = refl; at_lead = refl; at_body = refl; at_rows = refl; known = refl }

-- What orders and prices a frame.

pub in_range : (most n : ℕ) → n ≤ most → (nat_le 0 n && nat_le n most) ≡ true
in_range most n within = grind (arith, nat_tests)

price_is : (price : Option ℕ) → IsFiledPrice price → price_of (price_data price) ≡ Ok (price_or_0 price)
price_is None is = refl
price_is (Some price) is = rw (in_range MOST_PENCE price is) refl

next_is : (next : Bool) → next_of (next_data next) ≡ Ok next
next_is true = refl
next_is false = refl

-- a table of such members is a frame
element_by : (ms : Members) (id : Id) (price : Option ℕ) (next : Bool) (rs : Members) (ds : Items) (pages : List (Option ℕ)) (rows : List (List ℕ))
    → IsFrameId id → IsFiledPrice price → HasMembers ms (string (frame_text id)) price next (table rs) (array ds)
    → unknown_keys kind.Routes rs ≡ [] → ten_digits rs ≡ record { value = pages; faults = [] }
    → rows_read 1 ds ≡ record { value = rows; faults = [] } → nat_lt 22 (count ds) ≡ false
    → table_element ms ≡ record {
      id = Some id;
      frame = Some (record { id = id; price = price_or_0 price; group = None; next = next; routes = pages; lead = Clear; body = body_of_rows rows });
      details = [];
    }
element_by ms id price next rs ds pages rows is few has known digits read short =
    rw (
      has.at_id,
      has.at_price,
      has.at_group,
      has.at_next,
      has.at_routes,
      has.at_lead,
      has.at_body,
      has.at_rows,
      has.known,
      id_again id is,
      price_is price few,
      next_is next,
      known,
      digits,
      read,
      short,
    ) refl

-- The routes.

module _ (known : List Id) (page : ℕ) (all : List (List Look)) where
  abbrev routes_of_digits : ℕ → ℕ → Members
  routes_of_digits n digit = route_members known page all n digit

  abbrev route_data : Option ℕ → Option Data
  route_data None = None
  route_data (Some to) = Some (integer (pos to))

  routes_known : (n digit : ℕ) → digit + n ≤ 10 → unknown_keys kind.Routes (routes_of_digits n digit) ≡ []
  unfolding route_members
  routes_known zero digit room = refl
  routes_known (suc n) digit room =
      let more = routes_known n (digit + 1) (omega (arith, room)) in
      let is_digit : is_ascii_digit (48 + digit) ≡ true = grind (arith, nat_tests, room) in
      elim (cases_Bool (is_guessed known page all digit)) [
        | inl is ↦ rw (is, is_digit) more
        | inr not ↦ rw not more
      ]

  keys_less : (a b : ℕ) → a < b → slice_cmp nat_cmp ((48 + a) ∷ []) ((48 + b) ∷ []) ≡ Less
  keys_less a b less = grind (arith, nat_tests)

  keys_greater : (a b : ℕ) → b < a → slice_cmp nat_cmp ((48 + a) ∷ []) ((48 + b) ∷ []) ≡ Greater
  keys_greater a b less = grind (arith, nat_tests)

  keys_equal : (a b : ℕ) → a ≡ b → slice_cmp nat_cmp ((48 + a) ∷ []) ((48 + b) ∷ []) ≡ Equal
  keys_equal a b same = grind (arith, nat_tests)

  none_before : (n digit from : ℕ) → digit < from → get_member (digit_key digit) (routes_of_digits n from) ≡ None
  unfolding route_members
  none_before zero digit from less = refl
  none_before (suc n) digit from less =
      let more = none_before n digit (from + 1) (omega (arith, less)) in
      elim (cases_Bool (is_guessed known page all from)) [
        | inl is ↦ rw (is, keys_less digit from less) more
        | inr not ↦ rw not more
      ]

  route_found : (n digit from : ℕ) → from ≤ digit → digit < from + n → get_member (digit_key digit) (routes_of_digits n from) ≡ route_data (route_page known page all digit)
  unfolding route_members
  route_found zero digit from low high = absurd (omega (arith, low, high))
  route_found (suc n) digit from low high = elim (cases_eq digit from) [
    | inl same ↦
        let none = none_before n digit (from + 1) (omega (arith, same)) in
        elim (cases_Bool (is_guessed known page all from)) [
          | inl is ↦ rw (is, keys_equal digit from same, same, is) refl
          | inr not ↦ rw (not, none, same, not) refl
        ]
    | inr other ↦
        let more = route_found n digit (from + 1) (omega (arith, low, other)) (omega (arith, high)) in
        elim (cases_Bool (is_guessed known page all from)) [
          | inl is ↦ rw (is, keys_greater digit from (omega (arith, low, other))) more
          | inr not ↦ rw not more
        ]
  ]

  digits_are : (n digit : ℕ) → digit + n ≤ 10 → digits_of n digit (routes_of_digits 10 0) ≡ record { value = route_pages known page all n digit; faults = [] }
  digits_are zero digit room = refl
  digits_are (suc n) digit room =
      let here = route_found 10 digit 0 (omega arith) (omega (arith, room)) in
      let more = digits_are n (digit + 1) (omega (arith, room)) in
      elim (cases_Bool (is_guessed known page all digit)) [
        | inl is ↦ rw (here, more, is, in_range MOST_PAGE (page_by page digit) (small_page known page all digit is)) refl
        | inr not ↦ rw (here, more, not) refl
      ]

  ten_are : ten_digits (routes_of_digits 10 0) ≡ record { value = route_pages known page all 10 0; faults = [] }
  unfolding ten_digits
  ten_are = digits_are 10 0 (omega arith)

-- The rows.

-- at most 40 codes of cells
abbrev pub IsRow : List ℕ → Type 0
IsRow row = (length row ≤ 40) × All IsCode row

row_scalars : (row : List ℕ) → All IsCode row → all_scalars row ≡ true
row_scalars [] all = refl
row_scalars (c ∷ cs) all =
    let is = All-head IsCode c cs all in
    let here : IsScalar c = grind (arith, nat_tests, is.1) in
    rw here (row_scalars cs (All-tail IsCode c cs all))

row_codes_pass : (row : List ℕ) → All IsCode row → are_row_codes row ≡ true
row_codes_pass [] all = refl
row_codes_pass (c ∷ cs) all =
    let is = All-head IsCode c cs all in
    let here : is_row_code c ≡ true = grind (arith, nat_tests, is.0, is.1) in
    rw here (row_codes_pass cs (All-tail IsCode c cs all))

row_is : (i : ℕ) (row : List ℕ) → IsRow row → row_read i (row_item row) ≡ record { value = Some row; faults = [] }
row_is i row is =
    let back = chars-encodes row (row_scalars row is.1) in
    let short : nat_lt 40 (length row) ≡ false = grind (arith, nat_tests, is.0) in
    let pass = row_codes_pass row is.1 in
    rw (back, short, pass, none_refused i 1 row pass) refl

rows_more : (i : ℕ) (d : Data) (ds : Items) (row : List ℕ) (rows : List (List ℕ)) → row_read i d ≡ record { value = Some row; faults = [] }
    → rows_read (i + 1) ds ≡ record { value = rows; faults = [] } → rows_read i (item d ds) ≡ record { value = row ∷ rows; faults = [] }
rows_more i d ds row rows one more = rw (one, more) refl

rows_are : (i : ℕ) (rows : List (List ℕ)) → All IsRow rows → rows_read i (row_items rows) ≡ record { value = rows; faults = [] }
rows_are i [] all = refl
rows_are i (row ∷ rows) all =
    rows_more i (row_item row) (row_items rows) row rows (row_is i row (All-head IsRow row rows all)) (rows_are (i + 1) rows (All-tail IsRow row rows all))

rows_counted : (rows : List (List ℕ)) → count (row_items rows) ≡ length rows
rows_counted [] = refl
rows_counted (row ∷ rows) = omega (arith, rows_counted rows)

-- Those of a screen.

before_longer : (c : ℕ) (text : List ℕ) → length (before c text) ≤ length text + 1
before_longer c (d ∷ ds) = omega arith
before_longer c [] = elim (cases_Bool (c == 32)) [ inl space ↦ rw space (omega arith) | inr other ↦ rw other (omega arith) ]

trimmed_shorter : (row : List ℕ) → length (trimmed row) ≤ length row
trimmed_shorter [] = omega arith
trimmed_shorter (c ∷ cs) = omega (arith, before_longer c (trimmed cs), trimmed_shorter cs)

pub screen_row_is : (screen : List ℕ) (row : ℕ) → IsSavedScreen screen → IsRow (screen_row screen row)
screen_row_is screen row saved =
    let cells = take 40 (drop (40 * row) screen) in
    (omega (arith, trimmed_shorter cells, length-take 40 (drop (40 * row) screen)), row_holds screen saved row)

pub screen_rows_are : (screen : List ℕ) → IsSavedScreen screen → All IsRow (rows_of screen)
screen_rows_are screen saved =
    let rows = range_with_len 1 (last_row screen 22) in
    All-map IsRow (screen_row screen) rows (λ k d lt. screen_row_is screen (get_or rows k d) saved)

pub last_within : (screen : List ℕ) (n : ℕ) → last_row screen n ≤ n
unfolding last_row
last_within screen zero = omega arith
last_within screen (suc n) = elim (cases_Bool (length (screen_row screen (suc n)) == 0)) [
  | inl blank ↦ rw blank (omega (arith, last_within screen n))
  | inr some ↦ rw some (omega arith)
]

pub few_rows : (screen : List ℕ) → length (rows_of screen) ≤ 22
few_rows screen =
    let n = last_row screen 22 in
    omega (arith, length-map (range_with_len 1 n) (screen_row screen), length-range_with_len 1 n, last_within screen 22)

-- The frame.

pub frame_is : (known : List Id) (f : ScreenFrame) (next : Bool) → IsFrameId f.id → IsFiledPrice f.price → IsSavedScreen f.codes
    → element_of (table (frame_members known f next)) ≡ record { id = Some f.id; frame = Some (screen_frame known f next); details = [] }
frame_is known f next id price saved =
    let rows = rows_of f.codes in
    let page = f.id.page in
    let all = looks f.codes in
    let short : nat_lt 22 (count (row_items rows)) ≡ false = grind (arith, nat_tests, rows_counted rows, few_rows f.codes) in
    element_by (frame_members known f next) f.id f.price next (route_members known page all 10 0) (row_items rows) (route_pages known page all 10 0) rows id price
    (has_members (string (frame_text f.id)) f.price next (table (route_members known page all 10 0)) (array (row_items rows)))
    (routes_known known page all 10 0 (omega arith)) (ten_are known page all) (rows_are 1 rows (screen_rows_are f.codes saved)) short
