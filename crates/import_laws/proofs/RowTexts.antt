-- The quoted text of a row is read as the row.
use Rattle.std.proofs.Common.{◌≡◌, ℕ, zero, suc, ◌/◌, ◌%◌, ◌<◌, ◌≤◌, true, false, ◌&&◌, ◌==◌, nat_lt, List, [], ◌∷◌, ◌++◌, length, slice_index, Some, None, refl, sym, ◌∙◌, subst, inl, inr, arith, append_assoc, length-append, lt-ltb, le-leb, ne_eqb}
use Rattle.std.proofs.lemmas.Bool.{cases_eq, cases_lt}
use Rattle.std.proofs.lemmas.Bool.Decides.{nat_tests}
use Rattle.std.proofs.lemmas.List.Elements.{All-head, All-tail}
use Rattle.std.proofs.lemmas.Str.{encode_ascii}
use Rattle.std.specs.Char.{digit_value, is_digit, encode_utf8}
use Rattle.std.specs.List.{All, flat_map}
use Rattle.std.specs.Str.{encode_utf8_all}
use Rattle.std.specs.Str.Parse.{digits_value}
use Rattle.page_ids.specs.Texts.{hex_digit}
use Rattle.terminal_codes.specs.Writes.{IsCode}
use Rattle.screen_files.specs.Texts.{quoted_code}
use Rattle.toml_parser.specs.Lexical.{first}
use Rattle.toml_parser.specs.Strings.{is_plain, hex_escape, escape_char, escape, special, prepend, body, one_line, quoted}
use Rattle.toml_parser.proofs.StringsLemmas.{body_plain, body_special}
use Rattle.toml.specs.Data.{string}
use Rattle.toml.specs.Parse.{read_map, atom, val}
use Rattle.toml.proofs.Turns.{val_atom}
use Rattle.import_laws.specs.Imported.{row_item}

-- One code.

hex_value : (d : ℕ) → d < 16 → digit_value (hex_digit d) ≡ d
hex_value d h = grind (arith, nat_tests)

hex_is_digit : (d : ℕ) → d < 16 → is_digit (hex_digit d) 16 ≡ true
hex_is_digit d h = rw (hex_value d h, lt-ltb d 16 h)

-- `00` (48) and two digits
hex_read : (c : ℕ) (more : List ℕ) → c < 256 → hex_escape 4 (48 ∷ 48 ∷ hex_digit (c / 16) ∷ hex_digit (c % 16) ∷ more) ≡ Some (c, more)
unfolding hex_escape
hex_read c more h =
    let high : c / 16 < 16 = omega arith in
    let low : c % 16 < 16 = omega arith in
    let value : digits_value 16 (48 ∷ 48 ∷ hex_digit (c / 16) ∷ hex_digit (c % 16) ∷ []) ≡ c =
    rw (hex_value (c / 16) high, hex_value (c % 16) low) (omega arith) in
    rw (value, hex_is_digit (c / 16) high, hex_is_digit (c % 16) low, lt-ltb c 0xD800 (omega arith), le-leb 4 (length (48 ∷ 48 ∷ hex_digit (c / 16) ∷ hex_digit (c % 16) ∷ more)) (omega arith))

-- after the backslash: `u` is 117, `"` is 34, the backslash 92
u_read : (c : ℕ) (more : List ℕ) → c < 256
    → escape false (117 ∷ 48 ∷ 48 ∷ hex_digit (c / 16) ∷ hex_digit (c % 16) ∷ more) ≡ Some (encode_utf8 c, more)
unfolding escape escape_char
u_read c more h = rw (hex_read c more h)

quote_read : (more : List ℕ) → escape false (34 ∷ more) ≡ Some (encode_utf8 34, more)
unfolding escape escape_char
quote_read more = refl

backslash_read : (more : List ℕ) → escape false (92 ∷ more) ≡ Some (encode_utf8 92, more)
unfolding escape escape_char
backslash_read more = refl

escape_is : (tail bytes more : List ℕ) → escape false (tail ++ more) ≡ Some (bytes, more)
    → special 34 false (92 ∷ (tail ++ more)) ≡ Some (Some bytes, more)
unfolding special
escape_is tail bytes more e = rw e

escaped_step : (tail bytes more : List ℕ) (n : ℕ) → escape false (tail ++ more) ≡ Some (bytes, more)
    → body 34 false (suc n) (92 ∷ (tail ++ more)) ≡ prepend bytes (body 34 false n more)
escaped_step tail bytes more n e = body_special 34 false n (92 ∷ (tail ++ more)) refl ∙ rw (escape_is tail bytes more e)

plain_step : (c : ℕ) (more : List ℕ) (n : ℕ) → is_plain 34 false c ≡ true → c < 128
    → body 34 false (suc n) (c ∷ more) ≡ prepend (encode_utf8 c) (body 34 false n more)
plain_step c more n plain ascii = rw (encode_ascii c ascii) (body_plain 34 false n c more plain)

abbrev Steps : ℕ → List ℕ → ℕ → Type 0
Steps n more c = body 34 false (suc n) (quoted_code c ++ more) ≡ prepend (encode_utf8 c) (body 34 false n more)

code_step : (c n : ℕ) (more : List ℕ) → IsCode c → Steps n more c
code_step c n more is =
    elim (cases_eq c 34) [
      | inl same ↦ subst (Steps n more) (sym same) (escaped_step (34 ∷ []) (encode_utf8 34) more n (quote_read more))
      | inr other ↦ elim (cases_eq c 92) [
        | inl same ↦ subst (Steps n more) (sym same) (escaped_step (92 ∷ []) (encode_utf8 92) more n (backslash_read more))
        | inr apart ↦ elim (cases_lt c 0x7F) [
          | inl low ↦
              let plain : is_plain 34 false c ≡ true = grind (arith, nat_tests, is.0) in
              rw (ne_eqb c 34 other, ne_eqb c 92 apart, lt-ltb c 0x7F low) (plain_step c more n plain (omega (arith, low)))
          | inr high ↦
              let not_low : nat_lt c 0x7F ≡ false = grind (arith, nat_tests) in
              let small : c < 256 = omega (arith, is.1) in
              rw (ne_eqb c 34 other, ne_eqb c 92 apart, not_low)
              (escaped_step (117 ∷ 48 ∷ 48 ∷ hex_digit (c / 16) ∷ hex_digit (c % 16) ∷ []) (encode_utf8 c) more n (u_read c more small))
        ]
      ]
    ]

-- what a code's text begins with, and that it is not empty
abbrev Begins : List ℕ → ℕ → Type 0
Begins more c = ((first (quoted_code c ++ more) == 34) ≡ false) × (0 < length (quoted_code c))

code_begins : (c : ℕ) (more : List ℕ) → Begins more c
code_begins c more =
    elim (cases_eq c 34) [
      | inl same ↦ subst (Begins more) (sym same) (refl, omega arith)
      | inr other ↦ elim (cases_eq c 92) [
        | inl same ↦ subst (Begins more) (sym same) (refl, omega arith)
        | inr apart ↦ elim (cases_lt c 0x7F) [
          | inl low ↦ rw (ne_eqb c 34 other, ne_eqb c 92 apart, lt-ltb c 0x7F low) (ne_eqb c 34 other, omega arith)
          | inr high ↦
              let not_low : nat_lt c 0x7F ≡ false = grind (arith, nat_tests) in
              rw (ne_eqb c 34 other, ne_eqb c 92 apart, not_low) (refl, omega arith)
        ]
      ]
    ]

-- A row.

end_is : (rest : List ℕ) → special 34 false (34 ∷ rest) ≡ Some (None, rest)
unfolding special
end_is rest = refl

row_body : (row rest : List ℕ) (n : ℕ) → All IsCode row → length row < n
    → body 34 false n (flat_map quoted_code row ++ 34 ∷ rest) ≡ Some (encode_utf8_all row, rest)
row_body row rest zero all room = absurd (omega arith)
row_body [] rest (suc n) all room = body_special 34 false n (34 ∷ rest) refl ∙ rw (end_is rest)
row_body (c ∷ cs) rest (suc n) all room =
    let more = flat_map quoted_code cs ++ 34 ∷ rest in
    let front : flat_map quoted_code (c ∷ cs) ++ 34 ∷ rest ≡ quoted_code c ++ more = append_assoc (quoted_code c) (flat_map quoted_code cs) (34 ∷ rest) in
    let next = row_body cs rest n (All-tail IsCode c cs all) (omega (arith, room)) in
    rw front (code_step c n more (All-head IsCode c cs all) ∙ rw next refl)

row_fits : (row : List ℕ) → length row ≤ length (flat_map quoted_code row)
row_fits [] = omega arith
row_fits (c ∷ cs) = omega (arith, length-append (quoted_code c) (flat_map quoted_code cs), (code_begins c []).1, row_fits cs)

-- no quote begins what follows the first one, unless the row is empty
one_quote : (row rest : List ℕ) → (first rest == 34) ≡ false
    → let t = flat_map quoted_code row ++ 34 ∷ rest in (first t == 34 && slice_index t 1 == 34) ≡ false
one_quote [] rest other = rw other
one_quote (c ∷ cs) rest other =
    let more = flat_map quoted_code cs ++ 34 ∷ rest in
    let front : flat_map quoted_code (c ∷ cs) ++ 34 ∷ rest ≡ quoted_code c ++ more = append_assoc (quoted_code c) (flat_map quoted_code cs) (34 ∷ rest) in
    rw (front, (code_begins c more).0)

quoted_line : (t : List ℕ) → (first t == 34 && slice_index t 1 == 34) ≡ false → quoted (34 ∷ t) ≡ body 34 false (suc (length t)) t
unfolding quoted one_line
quoted_line t other = rw other

row_quoted : (row rest : List ℕ) → All IsCode row → (first rest == 34) ≡ false
    → quoted (34 ∷ (flat_map quoted_code row ++ 34 ∷ rest)) ≡ Some (encode_utf8_all row, rest)
row_quoted row rest all other =
    let t = flat_map quoted_code row ++ 34 ∷ rest in
    quoted_line t (one_quote row rest other)
    ∙ row_body row rest (suc (length t)) all (omega (arith, length-append (flat_map quoted_code row) (34 ∷ rest), row_fits row))

string_is : (t : List ℕ) → atom (34 ∷ t) ≡ read_map string (quoted (34 ∷ t))
unfolding atom
string_is t = refl

-- a row between quotes, before what is no quote
pub row_read : (depth : ℕ) (row rest : List ℕ) → All IsCode row → (first rest == 34) ≡ false
    → val depth (34 ∷ (flat_map quoted_code row ++ 34 ∷ rest)) ≡ Some (row_item row, rest)
row_read depth row rest all other =
    let t = flat_map quoted_code row ++ 34 ∷ rest in
    val_atom depth (34 ∷ t) refl refl ∙ string_is t ∙ rw (row_quoted row rest all other)
