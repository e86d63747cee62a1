-- Strings and keys, of which only the ends of what they are written with are wanted.
use Rattle.std.specs.Prelude.{ℕ, zero, suc, ◌+◌, ◌-◌, Bool, true, false, not, ◌&&◌, ◌||◌, ◌==◌, nat_lt, nat_le, if◌then◌else◌, List, length, take, drop, slice_index, Option, Some, None, is_some, option_map}
use Rattle.std.specs.List.{prefix_len, list_all}
use Rattle.std.specs.Char.{is_digit}
use Rattle.toml_parser.specs.Lexical.{Read, backslash, dot, equals, first, starts_newline, split_while, skip_ws, skip_lines, is_bare}
use Rattle.toml_parser.specs.Strings.{is_plain, simple_escape, hex_len, trim_newline, starts_string}
use Rattle.toml.specs.Parse.{after_byte}
use Rattle.toml_places.specs.Steps.{◌>>=◌}
use Rattle.toml_places.specs.declared.strings.Step.{Step}
use Rattle.toml_places.specs.declared.strings.Step.TheVariants.{End, Cut, Char}

-- In UTF-8 a character begins with any byte but 80 to BF.
abbrev pub starts_char : ℕ → Bool
starts_char byte = nat_lt byte 0x80 || nat_le 0xC0 byte

abbrev pub string_goes_on : ℕ → Bool
string_goes_on byte = not (starts_char byte)

-- after the first byte and those that go on with its character
unfoldable pub after_char : List ℕ → List ℕ
after_char text = drop (1 + prefix_len string_goes_on (drop 1 text)) text

-- after this many hex digits
unfoldable pub after_hex : ℕ → List ℕ → Option (List ℕ)
after_hex n text = if nat_le n (length text) && list_all (λ c. is_digit c 16) (take n text) then Some (drop n text) else None

-- after what follows a backslash and writes a character
unfoldable pub after_escape : List ℕ → Option (List ℕ)
after_escape text =
    if nat_lt 0 (hex_len (first text)) then after_hex (hex_len (first text)) (drop 1 text)
    else if is_some (simple_escape (first text)) then Some (drop 1 text) else None

-- After a backslash: at the end of a line of a multi-line string it cuts the white space up to the next text.
unfoldable pub escape : Bool → List ℕ → Read Step
escape multi text =
    if multi && starts_newline (skip_ws text) then Some (Cut, skip_lines text) else option_map (λ rest. (Char, rest)) (after_escape text)

-- At a delimiter of a multi-line string, three end it. One or two are text, also before the last three.
unfoldable pub at_delims : ℕ → List ℕ → Read Step
at_delims delim text =
    let count = prefix_len (λ c. c == delim) text in
    if count == 3 then Some (End, drop 3 text) else if nat_lt count 6 then Some (Char, drop 1 text) else None

-- What a string's content goes on with, and what follows it. A line end within it is a character, CR LF two.
unfoldable pub next_step : ℕ → Bool → List ℕ → Read Step
next_step delim multi text =
    if is_plain delim multi (first text) then Some (if starts_char (first text) then Char else Cut, after_char text)
    else if first text == delim then (if multi then at_delims delim text else Some (End, drop 1 text))
    else if first text == backslash then escape multi (drop 1 text)
    else if multi && starts_newline text then Some (Char, drop 1 text)
    else None

abbrev pub is_end : Step → Bool
is_end End = true
is_end Cut = false
is_end Char = false

abbrev pub is_char : Step → Bool
is_char End = false
is_char Cut = false
is_char Char = true

-- after the rest of a string, of fewer than n steps
abbrev pub after_step : (List ℕ → Option (List ℕ)) → Step → List ℕ → Option (List ℕ)
after_step more s rest = if is_end s then Some rest else more rest

unfoldable pub after_content : ℕ → Bool → ℕ → List ℕ → Option (List ℕ)
after_content delim multi zero text = None
after_content delim multi (suc n) text = next_step delim multi text >>= (λ s. after_step (after_content delim multi n) s.0 s.1)

-- a piece of a text: the text from it on, and the text after it
abbrev pub TextPart : Type 0
TextPart = List ℕ × List ℕ

-- the k-th character of the rest of a string, of fewer than n steps
abbrev pub char_step : (ℕ → List ℕ → Option TextPart) → ℕ → List ℕ → Step → List ℕ → Option TextPart
char_step more k text s rest =
    if is_end s then None
    else if is_char s && k == 0 then Some (text, rest)
    else more (k - (if is_char s then 1 else 0)) rest

unfoldable pub content_char : ℕ → Bool → ℕ → ℕ → List ℕ → Option TextPart
content_char delim multi zero k text = None
content_char delim multi (suc n) k text = next_step delim multi text >>= (λ s. char_step (content_char delim multi n) k text s.0 s.1)

-- the string begins with three delimiters
abbrev pub is_multi : List ℕ → Bool
is_multi text = slice_index text 1 == first text && slice_index text 2 == first text

-- from its content on
unfoldable pub content : List ℕ → List ℕ
content text = if is_multi text then trim_newline (drop 3 text) else drop 1 text

-- after a string
unfoldable pub after_string : List ℕ → Option (List ℕ)
after_string text = after_content (first text) (is_multi text) (length text) (content text)

-- its k-th character as it is written
unfoldable pub string_char : ℕ → List ℕ → Option TextPart
string_char k text = if starts_string text then content_char (first text) (is_multi text) (length text) k (content text) else None

-- after a part of a key
unfoldable pub after_part : List ℕ → Option (List ℕ)
after_part text =
    if starts_string text then after_content (first text) false (length text) (drop 1 text)
    else if is_bare (first text) then Some (split_while is_bare text).1
    else None

-- from the next part of a key on, after a part
unfoldable pub next_part : List ℕ → Option (List ℕ)
next_part text = option_map skip_ws (after_byte dot (skip_ws text))

-- from the k-th part of a key on
unfoldable pub part_from : ℕ → List ℕ → Option (List ℕ)
part_from zero text = Some text
part_from (suc k) text = after_part text >>= (λ rest. next_part rest >>= part_from k)

-- after a key of at most n parts
unfoldable pub after_key : ℕ → List ℕ → Option (List ℕ)
after_key zero text = None
after_key (suc n) text =
    after_part text >>= (λ rest. if first (skip_ws rest) == dot then after_key n (skip_ws (drop 1 (skip_ws rest))) else Some rest)

-- after a key and `=`: from the value on
unfoldable pub value_from : ℕ → List ℕ → Option (List ℕ)
value_from n text = after_key n text >>= (λ rest. option_map skip_ws (after_byte equals (skip_ws rest)))
