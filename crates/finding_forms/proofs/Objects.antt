-- JSON without a line feed.
use Rattle.std.proofs.Common.{◌≡◌, ℕ, ◌+◌, ◌<◌, ◌^◌, Bool, true, false, List, [], ◌∷◌, ◌++◌, codes, decimal, refl, arith, Option, Some, None}
use Rattle.std.specs.Char.{digit_value}
use Rattle.std.specs.Str.Parse.{AllDigits}
use Rattle.std.proofs.lemmas.Bool.Decides.{nat_tests}
use Rattle.std.proofs.lemmas.Fmt.{decimal_is_IsNumeral}
use Rattle.json.specs.Print.{escape_byte, escape, quoted}
use Rattle.serde_json.specs.Data.{Data, Members, string, member, no_members}
use Rattle.serde_json.specs.Written.{comma_if, compact_text, has_float, members_text}
use Rattle.page_ids.specs.Ids.{Id}
use Rattle.lint_words.specs.Codes.{code_word}
use Rattle.lint_words.specs.WordsOf.{WordsView}
use Rattle.lint.specs.declared.finding.Level.{Level}
use Rattle.toml_places.specs.declared.text_lines.Extent.{Extent}
use Rattle.finding_forms.specs.LineForm.{level_text}
use Rattle.finding_forms.specs.JsonForm.{text_data, frame_data, number_data, replacing_data, object_data}
use Rattle.finding_forms.proofs.Printed.{feeds, feeds-append}

feeds_escape : (b : ℕ) → feeds (escape_byte b) ≡ 0
unfolding escape_byte
feeds_escape b = grind (arith, nat_tests)

feeds_escapes : (bs : List ℕ) → feeds (escape bs) ≡ 0
feeds_escapes [] = refl
feeds_escapes (b ∷ bs) = rw (feeds-append (escape_byte b) (escape bs), feeds_escape b, feeds_escapes bs) refl

feeds_quoted : (bs : List ℕ) → feeds (quoted bs) ≡ 0
feeds_quoted bs =
    let ends : feeds (34 ∷ []) ≡ 0 = refl in
    let all : feeds (quoted bs) ≡ feeds (34 ∷ []) + feeds (escape bs ++ 34 ∷ []) = feeds-append (34 ∷ []) (escape bs ++ 34 ∷ []) in
    omega (arith, all, ends, feeds-append (escape bs) (34 ∷ []), feeds_escapes bs)

feeds_digit : (d : ℕ) → digit_value d < 10 → feeds (d ∷ []) ≡ 0
feeds_digit d h = grind (arith, nat_tests)

feeds_digits : (ds : List ℕ) → AllDigits 10 ds → feeds ds ≡ 0
feeds_digits [] h = refl
feeds_digits (d ∷ ds) h = rw (feeds-append (d ∷ []) ds, feeds_digit d h.0, feeds_digits ds h.1) refl

feeds_number : (n : ℕ) → n < 2 ^ 64 → feeds (decimal n) ≡ 0
feeds_number n fits = feeds_digits (decimal n) (decimal_is_IsNumeral n fits).0.1

feeds_text : (o : Option (List ℕ)) → feeds (compact_text (text_data o)) ≡ 0
feeds_text None = refl
feeds_text (Some text) = feeds_quoted text

feeds_frame : (o : Option Id) → feeds (compact_text (frame_data o)) ≡ 0
feeds_frame None = refl
feeds_frame (Some id) = feeds_quoted _

feeds_comma : (later : Bool) → feeds (comma_if later) ≡ 0
feeds_comma true = refl
feeds_comma false = refl

feeds_member : (later : Bool) (k : List ℕ) (d : Data) (ms : Members) → feeds (compact_text d) ≡ 0 → feeds (members_text true ms) ≡ 0
    → feeds (members_text later (member k d ms)) ≡ 0
feeds_member later k d ms one more =
    let value : feeds (compact_text d ++ members_text true ms) ≡ 0 = omega (arith, feeds-append (compact_text d) (members_text true ms), one, more) in
    let colon : feeds (58 ∷ (compact_text d ++ members_text true ms)) ≡ feeds (58 ∷ []) + feeds (compact_text d ++ members_text true ms) =
    feeds-append (58 ∷ []) (compact_text d ++ members_text true ms) in
    let no_colon : feeds (58 ∷ []) ≡ 0 = refl in
    let named : feeds (quoted k ++ 58 ∷ (compact_text d ++ members_text true ms)) ≡ 0 =
    omega (arith, feeds-append (quoted k) (58 ∷ (compact_text d ++ members_text true ms)), feeds_quoted k, colon, no_colon, value) in
    let all : feeds (members_text later (member k d ms)) ≡ feeds (comma_if later) + feeds (quoted k ++ 58 ∷ (compact_text d ++ members_text true ms)) =
    feeds-append (comma_if later) (quoted k ++ 58 ∷ (compact_text d ++ members_text true ms)) in
    omega (arith, all, feeds_comma later, named)

pub feeds_replacing : (e : Extent) (text : List ℕ) → e.line < 2 ^ 64 → e.column < 2 ^ 64 → e.end_line < 2 ^ 64 → e.end_column < 2 ^ 64
    → feeds (compact_text (replacing_data e text)) ≡ 0
feeds_replacing e text a b c d =
    let from_text : Members = member (codes "text") (string text) no_members in
    let from_line : Members = member (codes "line") (number_data e.line) from_text in
    let from_end_line : Members = member (codes "end_line") (number_data e.end_line) from_line in
    let from_end_column : Members = member (codes "end_column") (number_data e.end_column) from_end_line in
    let from_column : Members = member (codes "column") (number_data e.column) from_end_column in
    let text_none = feeds_member true (codes "text") (string text) no_members (feeds_quoted text) refl in
    let line_none = feeds_member true (codes "line") (number_data e.line) from_text (feeds_number e.line a) text_none in
    let end_line_none = feeds_member true (codes "end_line") (number_data e.end_line) from_line (feeds_number e.end_line c) line_none in
    let end_column_none = feeds_member true (codes "end_column") (number_data e.end_column) from_end_line (feeds_number e.end_column d) end_line_none in
    let column_none = feeds_member false (codes "column") (number_data e.column) from_end_column (feeds_number e.column b) end_column_none in
    let all : feeds (compact_text (replacing_data e text)) ≡ feeds (123 ∷ []) + feeds (members_text false from_column) =
    feeds-append (123 ∷ []) (members_text false from_column) in
    let brace : feeds (123 ∷ []) ≡ 0 = refl in
    omega (arith, all, brace, column_none)

pub feeds_object : (file : List ℕ) (e : Extent) (level : Level) (words : WordsView) (hint : Option (List ℕ)) (fix : Data)
    → e.line < 2 ^ 64 → e.column < 2 ^ 64 → e.end_line < 2 ^ 64 → e.end_column < 2 ^ 64 → feeds (compact_text fix) ≡ 0
    → feeds (compact_text (object_data file e level words hint fix)) ≡ 0
feeds_object file e level words hint fix a b c d no_fix =
    let from_message : Members = member (codes "message") (string words.message) no_members in
    let from_line : Members = member (codes "line") (number_data e.line) from_message in
    let from_level : Members = member (codes "level") (string (level_text level)) from_line in
    let from_keys : Members = member (codes "keys") (text_data words.about.keys) from_level in
    let from_key : Members = member (codes "key") (text_data words.about.key) from_keys in
    let from_hint : Members = member (codes "hint") (text_data hint) from_key in
    let from_frame : Members = member (codes "frame") (frame_data words.about.frame) from_hint in
    let from_fix : Members = member (codes "fix") fix from_frame in
    let from_file : Members = member (codes "file") (string file) from_fix in
    let from_end_line : Members = member (codes "end_line") (number_data e.end_line) from_file in
    let from_end_column : Members = member (codes "end_column") (number_data e.end_column) from_end_line in
    let from_column : Members = member (codes "column") (number_data e.column) from_end_column in
    let from_code : Members = member (codes "code") (string (code_word words.code)) from_column in
    let message_none = feeds_member true (codes "message") (string words.message) no_members (feeds_quoted words.message) refl in
    let line_none = feeds_member true (codes "line") (number_data e.line) from_message (feeds_number e.line a) message_none in
    let level_none = feeds_member true (codes "level") (string (level_text level)) from_line (feeds_quoted (level_text level)) line_none in
    let keys_none = feeds_member true (codes "keys") (text_data words.about.keys) from_level (feeds_text words.about.keys) level_none in
    let key_none = feeds_member true (codes "key") (text_data words.about.key) from_keys (feeds_text words.about.key) keys_none in
    let hint_none = feeds_member true (codes "hint") (text_data hint) from_key (feeds_text hint) key_none in
    let frame_none = feeds_member true (codes "frame") (frame_data words.about.frame) from_hint (feeds_frame words.about.frame) hint_none in
    let fix_none = feeds_member true (codes "fix") fix from_frame no_fix frame_none in
    let file_none = feeds_member true (codes "file") (string file) from_fix (feeds_quoted file) fix_none in
    let end_line_none = feeds_member true (codes "end_line") (number_data e.end_line) from_file (feeds_number e.end_line c) file_none in
    let end_column_none = feeds_member true (codes "end_column") (number_data e.end_column) from_end_line (feeds_number e.end_column d) end_line_none in
    let column_none = feeds_member true (codes "column") (number_data e.column) from_end_column (feeds_number e.column b) end_column_none in
    let code_none = feeds_member false (codes "code") (string (code_word words.code)) from_column (feeds_quoted (code_word words.code)) column_none in
    let all : feeds (compact_text (object_data file e level words hint fix)) ≡ feeds (123 ∷ []) + feeds (members_text false from_code) =
    feeds-append (123 ∷ []) (members_text false from_code) in
    let brace : feeds (123 ∷ []) ≡ 0 = refl in
    omega (arith, all, brace, code_none)

-- No number of an object is a float.

no_float_text : (text : Option (List ℕ)) → has_float (text_data text) ≡ false
no_float_text None = refl
no_float_text (Some text) = refl

no_float_frame : (frame : Option Id) → has_float (frame_data frame) ≡ false
no_float_frame None = refl
no_float_frame (Some id) = refl

pub no_float_object : (file : List ℕ) (e : Extent) (level : Level) (words : WordsView) (hint : Option (List ℕ)) (fix : Data)
    → has_float fix ≡ false → has_float (object_data file e level words hint fix) ≡ false
no_float_object file e level words hint fix none =
    rw (none, no_float_frame words.about.frame, no_float_text hint, no_float_text words.about.key, no_float_text words.about.keys) refl
