-- Every span of a finding lies in the text.
use Rattle.std.proofs.Common.{◌≡◌, ℕ, zero, suc, ◌+◌, ◌-◌, Bool, true, false, cond, nat_lt, List, [], ◌∷◌, length, map, get_or, Option, Some, None, unwrap_or, option_map, option_and_then, le_refl, refl, sym, subst, arith}
use Rattle.std.specs.Prelude.{All, codes, is_some, not, ◌++◌, ◌==◌, ◌&&◌, slice_get, if◌then◌else◌}
use Rattle.std.specs.Bool.{then_some}
use Rattle.std.specs.Option.{option_or}
use Rattle.std.proofs.lemmas.List.Elements.{All-map, All-append}
use Rattle.std.proofs.lemmas.List.Sorted.{All-permutation}
use Rattle.std.proofs.lemmas.List.Sums.{prefix_len-le-length}
use Rattle.page_ids.specs.declared.key.Key.{Key}
use Rattle.page_ids.specs.declared.key.Key.TheVariants as key
use Rattle.abstract_paint.specs.declared.start.Start.{Start}
use Rattle.base_text.specs.declared.limits.TheConstants.{MOST_TEXT}
use Rattle.base_text.specs.declared.keys.Field.{Field}
use Rattle.base_text.specs.declared.keys.Field.TheVariants as field
use Rattle.base_text.specs.declared.keys.TableKind.{TableKind}
use Rattle.base_text.specs.declared.keys.TableKind.TheVariants as kind
use Rattle.base_text.specs.Fields.{field_name, digit_key}
use Rattle.base_text.specs.declared.detail.Detail.{Detail}
use Rattle.base_text.specs.declared.detail.Detail.TheVariants.{UnknownKey, Absent, WrongKind, WrongItem, Number, ItemNumber, Lead, BodyCode, MoreBodyCodes, TooManyRows, BodyAndRows, RowTooLong, RowCode, MoreRowCodes, BadFrame}
use Rattle.base_text.specs.declared.detail.TextFault.{TextFault}
use Rattle.base_text.specs.declared.whole_fault.WholeFault.{WholeFault}
use Rattle.base_text.specs.declared.whole_fault.WholeFault.TheVariants.{TooManyFrames, TooManyOutside, BodyTooLong, NextAfterZ, Duplicate, OutsideInside}
use Rattle.base_text.specs.Whole.{tree_of}
use Rattle.base_text.specs.Drafts.{draft_of}
use Rattle.checker.specs.declared.policy.Policy.{Policy}
use Rattle.frame_records.specs.Bases.{BaseView}
use Rattle.base_faults.specs.declared.fault.Fault.{Fault}
use Rattle.base_faults.specs.declared.fault.FaultKind.{FaultKind}
use Rattle.base_faults.specs.declared.fault.FaultKind.TheVariants as fault_kind
use Rattle.toml.specs.Data.{Members}
use Rattle.toml_places.specs.declared.spans.Span.{Span}
use Rattle.toml_places.specs.declared.spans.KeyPlace.{KeyPlace}
use Rattle.toml_places.specs.Strings.{TextPart}
use Rattle.toml_places.specs.Spans.{at_offset, key_piece, value_piece, pair_piece, frame_piece, key_span, value_span, pair_span, element_span, char_span}
use Rattle.toml_places.specs.Strings.{string_char}
use Rattle.toml_places.specs.Values.{element}
use Rattle.toml_places.specs.SpanReads.{Stand}
use Rattle.toml_places.specs.Places.{marks, first_at, first_spot, frame_key, PlacesAreWithin}
use Rattle.toml_places.proofs.SpanStands.{spans_stand}
use Rattle.toml_places.proofs.Within.{places_are_within}
use Rattle.lint.specs.Findings.{FindingView, warning_at}
use Rattle.lint.specs.Tables.{TableView, is_in_line, value_at, element_at, frame_element, header_span, frame_whole, whole, key_spot, table_at, id_span}
use Rattle.frame_records.specs.declared.limits.TheConstants.{MOST_LISTED}
use Rattle.lint.specs.Outside.{is_page, page_in_span, element_if, page_from, page_at, outside_element}
use Rattle.lint.specs.Spots.{span_of_key, span_of_pair, key_of, span_of_value, route_key, route_pair, item_of, char_of, later, unknown_at, digit_at, is_routes, listed_at, span_of_row, body_char, absent_at, detail_at, detail_span, has_rows, shown_at, whole_at, whole_span, pressed_at, byte_at, touched_at, kind_at, audit_span, row_span, entry_span, is_this_byte, is_one, feed_span, ended_span, line_end_at, single_span, single_at, byte_written, sight_span, named_span, kind_table, whole_table}
use Rattle.lint.specs.Lint.{Subject, Length, Toml, Text, Whole, finding_of, faulty, IsSpanWithin, AreSubjects, AreSubjectsIf, AreTreeSubjects, IsJudgedBy, text_tables, warning, warning_if, unreached_findings, look_at, look_words, look_finding, look_findings, fault_finding, ranks_of, finds_none, frame_ids, unreached, table_of, text_finding, whole_finding, IsAudited}
use Rattle.lint_words.specs.FaultWords.{none_reached_words}
use Rattle.lint_words.specs.declared.warning_words.LineEnd.{LineEnd}
use Rattle.lint_words.specs.declared.warning_words.LineEnd.TheVariants.{Feed, Return}
use Rattle.lint_words.specs.WordsOf.{WordsView}
use Rattle.lint.specs.declared.looks.Look.{Look}
use Rattle.lint.specs.declared.looks.Look.TheVariants.{Hidden, Escape, EndsLine, Shown, Offers, Unsought}
use Rattle.lint.specs.AllLooks.{all_looks}
use Rattle.page_ids.specs.Ids.{Id}
use Rattle.lint.specs.Laws.{LintSpansLieIn}
use Rattle.lint.proofs.Judged.{each_subject}

-- the span, if there is one, lies in the text
abbrev Lies : List ℕ → Option Span → Type 0
Lies text None = Unit {0}
Lies text (Some s) = IsSpanWithin text s

or_lies : (text : List ℕ) (a b : Option Span) → Lies text a → Lies text b → Lies text (option_or a b)
or_lies text None b x y = y
or_lies text (Some s) b x y = x

else_lies : (text : List ℕ) (a : Option Span) (s : Span) → Lies text a → IsSpanWithin text s → IsSpanWithin text (unwrap_or a s)
else_lies text None s x y = y
else_lies text (Some r) s x y = x

then_lies : {A : Type 0} (text : List ℕ) (o : Option A) (f : A → Option Span) → ((a : A) → Lies text (f a)) → Lies text (option_and_then f o)
then_lies text None f h = tt
then_lies text (Some a) f h = h a

map_lies : (text : List ℕ) (o : Option Span) (f : Span → Span) → ((s : Span) → IsSpanWithin text s → IsSpanWithin text (f s)) → Lies text o → Lies text (option_map f o)
map_lies text None f h x = tt
map_lies text (Some s) f h x = h s x

if_lies : (text : List ℕ) (b : Bool) (x y : Option Span) → Lies text x → Lies text y → Lies text (cond b x y)
if_lies text true x y one other = one
if_lies text false x y one other = other

later_lies : (text : List ℕ) (a b : Option Span) → Lies text a → Lies text b → Lies text (later a b)
later_lies text None b x y = y
later_lies text (Some s) None x y = x
later_lies text (Some s) (Some r) x y = if_lies text (nat_lt s.begin r.begin) (Some r) (Some s) y x

piece_lies : (piece : List ℕ → Option TextPart) → Stand piece → (text : List ℕ) (at : ℕ) → Lies text (at_offset piece at text)
piece_lies piece stand text at = on (at_offset piece at text) refl where
  on : (o : Option Span) → at_offset piece at text ≡ o → Lies text o
  on None e = tt
  on (Some s) e = let t = stand text at s e in record { ascends = t.2.ascends; within = t.2.within }

value_lies : (text : List ℕ) (spot : Option KeyPlace) → Lies text (value_at text spot)
value_lies text spot = then_lies text spot (λ s. value_span s text) (λ s. piece_lies (value_piece s.part) (spans_stand.values s.part) text s.at)

element_lies : (text : List ℕ) (spot : Option KeyPlace) (k : ℕ) → Lies text (element_at text spot k)
element_lies text spot k = then_lies text (value_at text spot) (λ v. element_span k v.begin text) (λ v. piece_lies (element k) (spans_stand.elements k) text v.begin)

-- a table whose items lie in its text
module _ (t : TableView) (items : (k : ℕ) → Lies t.text (t.item k)) where
  key_at_lies : (spot : Option KeyPlace) → Lies t.text (span_of_key t.text spot)
  key_at_lies spot = then_lies t.text spot (λ s. key_span s t.text) (λ s. piece_lies (key_piece s.part) (spans_stand.keys s.part) t.text s.at)

  pair_at_lies : (spot : Option KeyPlace) → Lies t.text (span_of_pair t.text spot)
  pair_at_lies spot = then_lies t.text spot (λ s. pair_span s t.text) (λ s. piece_lies (pair_piece s.part) (spans_stand.pairs s.part) t.text s.at)

  value_of_lies : (key : List ℕ) → Lies t.text (span_of_value t key)
  value_of_lies key = value_lies t.text (t.key key)

  route_key_lies : (key : List ℕ) → Lies t.text (route_key t key)
  route_key_lies key = or_lies t.text (span_of_key t.text (t.route key)) _ (key_at_lies (t.route key)) (value_of_lies (codes "routes"))

  route_pair_lies : (key : List ℕ) → Lies t.text (route_pair t key)
  route_pair_lies key = or_lies t.text (span_of_pair t.text (t.route key)) _ (pair_at_lies (t.route key)) (value_of_lies (codes "routes"))

  item_lies : (key : List ℕ) (k : ℕ) → Lies t.text (item_of t key k)
  item_lies key k = or_lies t.text (t.item k) _ (items k) (value_of_lies key)

  char_lies : (k : ℕ) (s : Span) → IsSpanWithin t.text s → IsSpanWithin t.text (char_of t k s)
  char_lies k s within = else_lies t.text (char_span k s.begin t.text) s (piece_lies (string_char k) (spans_stand.chars k) t.text s.begin) within

  unknown_lies : (k : TableKind) (key : List ℕ) → Lies t.text (unknown_at t k key)
  unknown_lies kind.Routes key = route_key_lies key
  unknown_lies kind.Top key = key_at_lies (t.key key)
  unknown_lies kind.Frame key = key_at_lies (t.key key)

  digit_lies : (digit : ℕ) → Lies t.text (digit_at t digit)
  digit_lies digit = if_lies t.text (nat_lt digit 10) (route_pair t (digit_key digit)) None (route_pair_lies (digit_key digit)) tt

  listed_lies : (f : Field) (n : ℕ) → Lies t.text (listed_at t f n)
  listed_lies f n = if_lies t.text (is_routes f) (digit_at t n) (item_of t (field_name f) (n - 1)) (digit_lies n) (item_lies (field_name f) (n - 1))

  row_lies : (n : ℕ) → Lies t.text (span_of_row t n)
  row_lies n = item_lies (codes "rows") (n - 1)

  body_char_lies : (k : ℕ) → Lies t.text (body_char t k)
  body_char_lies k = map_lies t.text (span_of_value t (codes "body")) (char_of t k) (char_lies k) (value_of_lies (codes "body"))

  absent_lies : (f : Field) → Lies t.text (absent_at t f)
  absent_lies field.Entry = tt
  absent_lies field.Outside = tt
  absent_lies field.Frame = tt
  absent_lies field.Id = tt
  absent_lies field.Price = tt
  absent_lies field.Group = tt
  absent_lies field.Next = tt
  absent_lies field.Routes = tt
  absent_lies field.Lead = tt
  absent_lies field.Body = value_of_lies (codes "id")
  absent_lies field.Rows = tt

  detail_at_lies : (d : Detail) → Lies t.text (detail_at t d)
  detail_at_lies (UnknownKey k key) = unknown_lies k key
  detail_at_lies (Absent f) = absent_lies f
  detail_at_lies (WrongKind f k) = value_of_lies (field_name f)
  detail_at_lies (WrongItem f n k) = listed_lies f n
  detail_at_lies (Number f z) = value_of_lies (field_name f)
  detail_at_lies (ItemNumber f n z) = listed_lies f n
  detail_at_lies (Lead text) = value_of_lies (codes "lead")
  detail_at_lies (BodyCode n c) = body_char_lies (n - 1)
  detail_at_lies (MoreBodyCodes n more) = body_char_lies (n - 1)
  detail_at_lies (TooManyRows n) = row_lies 23
  detail_at_lies BodyAndRows =
      later_lies t.text (key_of t (codes "body")) (key_of t (codes "rows")) (key_at_lies (t.key (codes "body"))) (key_at_lies (t.key (codes "rows")))
  detail_at_lies (RowTooLong n length) = row_lies n
  detail_at_lies (RowCode n i c) = map_lies t.text (span_of_row t n) (char_of t (i - 1)) (char_lies (i - 1)) (row_lies n)
  detail_at_lies (MoreRowCodes n i more) = map_lies t.text (span_of_row t n) (char_of t (i - 1)) (char_lies (i - 1)) (row_lies n)
  detail_at_lies (BadFrame text) = value_of_lies (codes "id")

  shown_lies : Lies t.text (shown_at t)
  shown_lies = value_of_lies (cond (has_rows t) (codes "rows") (codes "body"))

  whole_at_lies : (w : WholeFault) → Lies t.text (whole_at t w)
  whole_at_lies (TooManyFrames n) = value_of_lies (codes "id")
  whole_at_lies (TooManyOutside n) = item_lies (codes "outside") _
  whole_at_lies (BodyTooLong table id n) = shown_lies
  whole_at_lies (NextAfterZ table id) = pair_at_lies (t.key (codes "next"))
  whole_at_lies (Duplicate table first id) = value_of_lies (codes "id")
  whole_at_lies (OutsideInside page) = value_of_lies (codes "outside")

  pressed_lies : (k : Key) → Lies t.text (pressed_at t k)
  pressed_lies (key.Route digit) = digit_lies digit
  pressed_lies key.Next = pair_at_lies (t.key (codes "next"))
  pressed_lies key.Prev = tt
  pressed_lies key.Reprint = tt
  pressed_lies key.Update = tt

  byte_lies : (start : Option Start) → Lies t.text (byte_at t start)
  byte_lies None = value_of_lies (codes "body")
  byte_lies (Some start) = body_char_lies start.offset

  touched_lies : (start : Option Start) → Lies t.text (touched_at t start)
  touched_lies start = if_lies t.text (has_rows t) (span_of_row t 22) (byte_at t start) (row_lies 22) (byte_lies start)

  kind_lies : (fault : Fault) (k : FaultKind) → Lies t.text (kind_at t fault k)
  kind_lies fault fault_kind.EntryMissing = value_of_lies (codes "entry")
  kind_lies fault fault_kind.EntryClosed = value_of_lies (codes "group")
  kind_lies fault fault_kind.Price = value_of_lies (codes "price")
  kind_lies fault fault_kind.Touches = touched_lies fault.start
  kind_lies fault fault_kind.Missing = then_lies t.text fault.key (pressed_at t) pressed_lies
  kind_lies fault fault_kind.Closed = then_lies t.text fault.key (pressed_at t) pressed_lies
  kind_lies fault fault_kind.NoReturn = value_of_lies (codes "id")

module _ (text : List ℕ) where
  frame_lies : (k : ℕ) → IsSpanWithin text (frame_whole text (marks text) k)
  unfolding PlacesAreWithin
  frame_lies k =
      else_lies text (option_or (header_span text (marks text) k) (frame_element text (marks text) (Some k))) _
      (or_lies text (header_span text (marks text) k) _
      (then_lies text (first_at (marks text) (Some k) []) (λ at. at_offset frame_piece at text) (piece_lies frame_piece spans_stand.frames text))
      (element_lies text (first_spot (marks text) None (frame_key ∷ [])) k))
      (record { ascends = le_refl _; within = (places_are_within text k []).0 })

  id_lies : (k : ℕ) → IsSpanWithin text (id_span text (marks text) k)
  id_lies k =
      let spot = key_spot text (marks text) (Some k) (codes "id") in
      else_lies text (value_at text spot) (frame_whole text (marks text) k) (value_lies text spot) (frame_lies k)

  whole_lies : (frame : Option ℕ) → IsSpanWithin text (whole text (marks text) frame)
  whole_lies None = record { ascends = omega arith; within = prefix_len-le-length is_in_line text }
  whole_lies (Some k) = frame_lies k

  in_table : (frame : Option ℕ) (o : Option Span) → Lies text o → IsSpanWithin text (unwrap_or o (whole text (marks text) frame))
  in_table frame o lies = else_lies text o (whole text (marks text) frame) lies (whole_lies frame)

  items_lie : (frame : Option ℕ) (k : ℕ) → Lies text ((table_at text (marks text) frame).item k)
  items_lie frame k = element_lies text _ k

  detail_lies : (frame : Option ℕ) (d : Detail) → IsSpanWithin text (detail_span (table_at text (marks text) frame) d)
  detail_lies frame d = let t = table_at text (marks text) frame in in_table frame (detail_at t d) (detail_at_lies t (items_lie frame) d)

  page_lies : (page n k : ℕ) → Lies text (page_from (table_at text (marks text) None) page n k)
  unfolding page_from
  page_lies page zero k = tt
  page_lies page (suc n) k =
      let t = table_at text (marks text) None in
      or_lies text (element_if t page k) _ (on (t.item k) (items_lie None k)) (page_lies page n (k + 1)) where
        on : (o : Option Span) → Lies text o → Lies text (option_and_then (λ s. if is_page page (page_in_span text s) then Some s else None) o)
        on None lies = tt
        on (Some s) lies = if_lies text (is_page page (page_in_span text s)) (Some s) None lies tt

  element_of_lies : (w : WholeFault) → Lies text (outside_element (page_at (table_at text (marks text) None)) w)
  element_of_lies (TooManyFrames n) = tt
  element_of_lies (TooManyOutside n) = tt
  element_of_lies (BodyTooLong table id n) = tt
  element_of_lies (NextAfterZ table id) = tt
  element_of_lies (Duplicate table first id) = tt
  element_of_lies (OutsideInside page) = page_lies page MOST_LISTED 0

  whole_fault_lies : (frame : Option ℕ) (w : WholeFault)
      → IsSpanWithin text (whole_span (table_at text (marks text) frame) (outside_element (page_at (table_at text (marks text) None)) w) w)
  whole_fault_lies frame w =
      let t = table_at text (marks text) frame in
      let element = outside_element (page_at (table_at text (marks text) None)) w in
      in_table frame (option_or element (whole_at t w)) (or_lies text element _ (element_of_lies w) (whole_at_lies t (items_lie frame) w))

  audit_lies : (frame : Option ℕ) (fault : Fault) → IsSpanWithin text (audit_span (table_at text (marks text) frame) fault)
  audit_lies frame fault =
      let t = table_at text (marks text) frame in in_table frame (kind_at t fault fault.kind) (kind_lies t (items_lie frame) fault fault.kind)

  abbrev AllLie : List FindingView → Type 0
  AllLie findings = All (λ f. IsSpanWithin text f.span) findings

  each : {X : Type 0} (f : X → FindingView) → ((x : X) → IsSpanWithin text (f x).span) → (xs : List X) → AllLie (map f xs)
  each f lies xs = All-map (λ g. IsSpanWithin text g.span) f xs (λ k d lt. lies (get_or xs k d))

  -- a subject that is toml's has its span in the text
  abbrev HasSpan : Subject → Type 0
  HasSpan Length = Unit {0}
  HasSpan (Toml span message) = IsSpanWithin text span
  HasSpan (Text fault) = Unit {0}
  HasSpan (Whole fault) = Unit {0}

  subject_lies : (s : Subject) → HasSpan s → IsSpanWithin text (finding_of text s).span
  subject_lies Length h = record { ascends = le_refl 0; within = omega arith }
  subject_lies (Toml span message) h = h
  subject_lies (Text fault) h = detail_lies fault.frame fault.detail
  subject_lies (Whole fault) h = whole_fault_lies (whole_table fault) fault

  one_lies : (s : Subject) → HasSpan s → AllLie (map (finding_of text) (s ∷ []))
  one_lies s h = each (λ (u : Unit {0}). finding_of text s) (λ u. subject_lies s h) (tt ∷ [])

  faulty_lie : (faults : List TextFault) (ws : List WholeFault) → AllLie (map (finding_of text) (faulty faults ws))
  faulty_lie faults ws =
      let m = marks text in
      subst AllLie (each_subject text faults ws)
      (All-append (λ f. IsSpanWithin text f.span) (map (text_finding text m) faults) (map (whole_finding text m) ws)
      (each (text_finding text m) (λ t. detail_lies t.frame t.detail) faults)
      (each (whole_finding text m) (λ w. whole_fault_lies (whole_table w) w) ws))

  tree_lies : (tree : Option Members) (subjects : List Subject) → AreTreeSubjects text tree subjects → AllLie (map (finding_of text) subjects)
  tree_lies None subjects are = subst (λ ss. AllLie (map (finding_of text) ss)) (sym are.3) (one_lies (Toml are.0 are.1) are.2)
  tree_lies (Some ms) subjects are = subst (λ ss. AllLie (map (finding_of text) ss)) (sym are.2) (faulty_lie (draft_of ms).faults are.0)

  subjects_lie : (subjects : List Subject) → AreSubjects text subjects → AllLie (map (finding_of text) subjects)
  subjects_lie subjects are = on (nat_lt MOST_TEXT (length text)) are where
    on : (b : Bool) → AreSubjectsIf b text subjects → AllLie (map (finding_of text) subjects)
    on true is = subst (λ ss. AllLie (map (finding_of text) ss)) (sym is) (one_lies Length tt)
    on false is = tree_lies (tree_of text) subjects is

  row_span_lies : (frame : Option ℕ) (n : ℕ) → IsSpanWithin text (row_span (table_at text (marks text) frame) n)
  row_span_lies frame n =
      let t = table_at text (marks text) frame in in_table frame (span_of_row t n) (row_lies t (items_lie frame) n)

  entry_lies : IsSpanWithin text (entry_span (table_at text (marks text) None))
  entry_lies = let t = table_at text (marks text) None in in_table None (span_of_value t (codes "entry")) (value_of_lies t (items_lie None) (codes "entry"))

  some_lies : (b : Bool) (s : Span) → IsSpanWithin text s → Lies text (then_some b s)
  some_lies true s lies = lies
  some_lies false s lies = tt

  single_lies : (frame : Option ℕ) (n : ℕ) → Lies text (single_at (table_at text (marks text) frame) n)
  single_lies frame n =
      let t = table_at text (marks text) frame in on (t.item (n - 1)) (items_lie frame (n - 1)) where
        on : (o : Option Span) → Lies text o → Lies text (option_and_then (single_span text) o)
        on None lies = tt
        on (Some s) lies = some_lies (is_this_byte 0x27 (slice_get text s.begin)) s lies

  kept_lies : (keep : Span → Option Span) → ((s : Span) → IsSpanWithin text s → Lies text (keep s)) → (o : Option Span) → Lies text o → Lies text (option_and_then keep o)
  kept_lies keep keeps None lies = tt
  kept_lies keep keeps (Some s) lies = keeps s lies

  ended_lies : (end : LineEnd) (s : Span) → IsSpanWithin text s → Lies text (ended_span end text s)
  ended_lies Feed s lies = lies
  ended_lies Return s lies = some_lies (is_this_byte 0x0D (slice_get text (s.begin - 1))) s lies

  line_end_lies : (frame : Option ℕ) (end : LineEnd) (k : ℕ) → Lies text (line_end_at (table_at text (marks text) frame) end k)
  line_end_lies frame end k =
      let t = table_at text (marks text) frame in
      kept_lies (ended_span end text) (ended_lies end) (option_and_then (feed_span text) (body_char t k))
      (kept_lies (feed_span text) (λ s lies. some_lies (is_one s && is_this_byte 0x0A (slice_get text s.begin)) s lies) (body_char t k)
      (body_char_lies t (items_lie frame) k))

  written_lies : (frame at : Option ℕ) → Lies text (byte_written (table_at text (marks text) frame) at)
  written_lies frame None = value_of_lies (table_at text (marks text) frame) (items_lie frame) (codes "body")
  written_lies frame (Some k) = body_char_lies (table_at text (marks text) frame) (items_lie frame) k

  sight_lies : (frame : Option ℕ) (n : ℕ) (at : Option ℕ) → IsSpanWithin text (sight_span (table_at text (marks text) frame) n at)
  sight_lies frame n at =
      let t = table_at text (marks text) frame in
      in_table frame (if has_rows t then span_of_row t n else byte_written t at)
      (if_lies text (has_rows t) (span_of_row t n) (byte_written t at) (row_lies t (items_lie frame) n) (written_lies frame at))

  named_lies : (frame : Option ℕ) → IsSpanWithin text (named_span (table_at text (marks text) frame))
  named_lies frame =
      let t = table_at text (marks text) frame in in_table frame (span_of_value t (codes "id")) (value_of_lies t (items_lie frame) (codes "id"))

  one_lie : (f : FindingView) → IsSpanWithin text f.span → AllLie (f ∷ [])
  one_lie f lies = each (λ (u : Unit {0}). f) (λ u. lies) (tt ∷ [])

  none_lie : AllLie []
  none_lie = All-map (λ f. IsSpanWithin text f.span) (λ (f : FindingView). f) [] (λ k d lt. absurd (omega (arith, lt)))

  if_span_lies : (o : Option Span) (words : WordsView) → Lies text o → AllLie (warning_if o words)
  if_span_lies None words lies = none_lie
  if_span_lies (Some s) words lies = one_lie (warning_at s words) lies

  look_lies : (frame : Option ℕ) (look : Look) → Lies text (look_at (table_at text (marks text) frame) look)
  look_lies frame (Hidden row) =
      some_lies (has_rows (table_at text (marks text) frame)) _ (row_span_lies frame row)
  look_lies frame (Escape row) = single_lies frame row
  look_lies frame (EndsLine end k) = line_end_lies frame end k
  look_lies frame (Shown row at escaped) =
      some_lies (not (escaped && is_some (single_at (table_at text (marks text) frame) row))) _ (sight_lies frame row at)
  look_lies frame (Offers row at digit) = sight_lies frame row at
  look_lies frame (Unsought group) = named_lies frame

  looks_lie : (looks : List (Id × Look)) → AllLie (look_findings text (marks text) (text_tables text) looks)
  looks_lie [] = none_lie
  looks_lie (p ∷ ps) =
      let t = table_at text (marks text) (Some (table_of (text_tables text) p.0)) in
      All-append (λ f. IsSpanWithin text f.span) (look_finding text (marks text) (text_tables text) p) (look_findings text (marks text) (text_tables text) ps)
      (if_span_lies (look_at t p.1) (look_words t p.0 p.1) (look_lies (Some (table_of (text_tables text) p.0)) p.1)) (looks_lie ps)

  unreached_lie : (none : Bool) (ids : List Id) → AllLie (unreached_findings text (marks text) (text_tables text) none ids)
  unreached_lie true ids = on (length ids == 0) where
    on : (b : Bool) → AllLie (if b then [] else warning_at (entry_span (table_at text (marks text) None)) (none_reached_words (length ids)) ∷ [])
    on true = none_lie
    on false = one_lie (warning_at (entry_span (table_at text (marks text) None)) (none_reached_words (length ids))) entry_lies
  unreached_lie false ids = each (warning text (marks text) (text_tables text)) (λ id. id_lies (table_of (text_tables text) id)) ids

  audited_lie : (policy : Policy) (base : BaseView) (findings : List FindingView) → IsAudited text policy base findings → AllLie findings
  audited_lie policy base findings a =
      let m = marks text in
      let tables = text_tables text in
      let faults = fault_finding text m tables base policy (ranks_of a.found) in
      let none = finds_none a.found in
      let ids = frame_ids (unreached policy.groups (ranks_of a.found) base.frames) in
      let looks = all_looks policy.groups base.frames in
      subst AllLie (sym a.all)
      (All-append (λ f. IsSpanWithin text f.span) (map faults a.faults ++ unreached_findings text m tables none ids) (look_findings text m tables looks)
      (All-append (λ f. IsSpanWithin text f.span) (map faults a.faults) (unreached_findings text m tables none ids)
      (each faults (λ fault. audit_lies (kind_table (table_of tables fault.frame) fault.kind) fault) a.faults)
      (unreached_lie none ids)) (looks_lie looks))

  judged_lie : (policy : Policy) (judged : List FindingView) (subjects : List Subject) → AreSubjects text subjects
      → IsJudgedBy subjects text policy judged → AllLie judged
  judged_lie policy judged [] are by = audited_lie policy by.0 judged by.2
  judged_lie policy judged (s ∷ ss) are by = subst AllLie (sym by) (subjects_lie (s ∷ ss) are)

pub spans_lie : LintSpansLieIn
spans_lie text policy findings lint =
    All-permutation (λ f. IsSpanWithin text f.span) lint.0 findings lint.2.same (judged_lie text policy lint.0 lint.1.0 lint.1.1 lint.1.2)
