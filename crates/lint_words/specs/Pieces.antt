-- The pieces of a finding's words.
use Rattle.std.specs.Prelude.{ℕ, zero, suc, ◌+◌, ◌/◌, ◌%◌, Bool, ◌&&◌, ◌||◌, ◌==◌, nat_lt, nat_le, if◌then◌else◌, List, [], ◌∷◌, ◌++◌, length, codes, decimal, Option, Some, None}
use Rattle.std.specs.Char.{encode_utf8}
use Rattle.std.specs.Str.{chars}
use Rattle.page_ids.specs.Ids.{Id, frame_text}
use Rattle.page_ids.specs.Texts.{hex_digit}
use Rattle.page_ids.specs.Keys.{key_word, keys_text}
use Rattle.page_ids.specs.declared.key.Key.{Key}

-- a comma, if a multiple of three digits follows
abbrev pub comma_before : List ℕ → List ℕ
comma_before [] = []
comma_before (d ∷ ds) = if length (d ∷ ds) % 3 == 0 then codes "," else []

-- digits with a comma before each three of the last
abbrev pub with_commas : List ℕ → List ℕ
with_commas [] = []
with_commas (d ∷ ds) = d ∷ (comma_before ds ++ with_commas ds)

-- a number in decimal with commas, as 16,777,216
abbrev pub grouped : ℕ → List ℕ
grouped n = with_commas (decimal n)

-- the last four digits of a number in base 16
abbrev pub hex4 : ℕ → List ℕ
hex4 n = hex_digit (n / 4096 % 16) ∷ hex_digit (n / 256 % 16) ∷ hex_digit (n / 16 % 16) ∷ hex_digit (n % 16) ∷ []

-- the digits of a code point before the last four, without leading zeros
abbrev pub hex_front : ℕ → List ℕ
hex_front n =
    if nat_lt n 0x10000 then []
    else if nat_lt n 0x100000 then hex_digit (n / 65536 % 16) ∷ []
    else hex_digit (n / 1048576 % 16) ∷ hex_digit (n / 65536 % 16) ∷ []

-- a code point, as U+00A3
abbrev pub code_point_text : ℕ → List ℕ
code_point_text c = codes "U+" ++ (hex_front c ++ hex4 c)

-- a control character: 00 to 1F, 7F to 9F
abbrev pub is_control : ℕ → Bool
is_control c = nat_lt c 0x20 || (nat_le 0x7F c && nat_le c 0x9F)

-- a space, or one that doesn't break a line
abbrev pub is_blank : ℕ → Bool
is_blank c = c == 0x20 || c == 0xA0

-- a character and its code point
abbrev pub shown_text : ℕ → List ℕ
shown_text c = encode_utf8 c ++ (codes " (" ++ (code_point_text c ++ codes ")"))

-- the same, or the code point alone if the character can't be seen
abbrev pub char_text : ℕ → List ℕ
char_text c = if is_control c || is_blank c then code_point_text c else shown_text c

-- a character in quotes, as a basic string of TOML has it; 34 is the quotation mark, 92 the backslash
abbrev pub escaped : ℕ → List ℕ
escaped c = if is_control c then codes "\\u" ++ hex4 c else if c == 34 || c == 92 then 92 ∷ c ∷ [] else encode_utf8 c

-- a text up to this number of characters, and dots if it has more
abbrev pub escaped_up_to : ℕ → List ℕ → List ℕ
escaped_up_to most [] = []
escaped_up_to zero (c ∷ cs) = codes "..."
escaped_up_to (suc most) (c ∷ cs) = escaped c ++ escaped_up_to most cs

-- a text of the file in quotes, at most 40 characters of it
abbrev pub quoted : List ℕ → List ℕ
quoted text = codes "\"" ++ (escaped_up_to 40 (chars text) ++ codes "\"")

-- a frame by its id, or the frame at the line's place if its id doesn't read
abbrev pub frame_name : Option Id → List ℕ
frame_name None = codes "this frame"
frame_name (Some id) = codes "frame " ++ frame_text id

-- a number and a word, which is another for one
abbrev pub number_and_word : ℕ → List ℕ → List ℕ → List ℕ
number_and_word n one more = grouped n ++ (codes " " ++ (if n == 1 then one else more))

-- the keys that show a fault; there are none at the entry frame
abbrev pub shown_by : List Key → List ℕ
shown_by [] = codes " (at the entry page)"
shown_by (key ∷ keys) = codes " (keys " ++ (keys_text (key ∷ keys) ++ codes ")")

-- the key that is pressed
abbrev pub pressed_words : Option Key → List ℕ
pressed_words None = codes "a key"
pressed_words (Some key) = codes "key " ++ key_word key

-- the group to which a frame belongs
abbrev pub group_text : Option ℕ → List ℕ
group_text None = []
group_text (Some group) = codes "; it belongs to group " ++ decimal group

-- How many findings there are.

abbrev pub errors_text : ℕ → List ℕ
errors_text n = number_and_word n (codes "error") (codes "errors")

abbrev pub warnings_text : ℕ → List ℕ
warnings_text n = number_and_word n (codes "warning") (codes "warnings")

-- the errors, then the warnings; a count of 0 is left out
abbrev pub counted : ℕ → ℕ → List ℕ
counted errors warnings =
    if errors == 0 && warnings == 0 then []
    else if warnings == 0 then errors_text errors
    else if errors == 0 then warnings_text warnings
    else errors_text errors ++ (codes ", " ++ warnings_text warnings)
