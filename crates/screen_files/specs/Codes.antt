-- The 960 codes of a file.
use Rattle.std.specs.Prelude.{ℕ, Bool, false, true, not, List, ◌++◌, Option, Some, None, ◌%◌, ◌==◌, ◌&&◌, ◌||◌, drop, get_or, length, map, option_map, replicate, take, if◌then◌else◌}
use Rattle.std.specs.List.{list_any}
use Rattle.terminal_codes.specs.Screen.{Screen}
use Rattle.screen_forms.specs.Bits.{stored_code}

-- A saved screen.

-- 32 is a space
abbrev pub blank_codes : List ℕ
blank_codes = replicate 40 32

-- 24 rows; a 25th after them; 24 bytes more
abbrev pub has_all_rows : ℕ → Bool
has_all_rows size = size == 960 || size == 1000 || size == 1024

-- an EP1 file begins FE 01; its rows, 24 or 25, are between 6 bytes and 2
abbrev pub begins_ep1 : List ℕ → Bool
begins_ep1 bytes = get_or bytes 0 0 == 0xFE && get_or bytes 1 0 == 0x01

abbrev pub is_ep1 : List ℕ → Bool
is_ep1 bytes = (length bytes == 968 || length bytes == 1008) && begins_ep1 bytes

-- the bytes of the rows, by the size and the first bytes of the file: 24 rows, or of 880 bytes rows 1 to 22 alone
abbrev pub rows_in : List ℕ → Option (List ℕ)
rows_in bytes =
    if has_all_rows (length bytes) then Some (take 960 bytes)
    else if length bytes == 880 then Some bytes
    else if is_ep1 bytes then Some (take 960 (drop 6 bytes))
    else None

-- rows 1 to 22 between blank rows
abbrev pub between_blank : List ℕ → List ℕ
between_blank cells = (blank_codes ++ cells) ++ blank_codes

-- all 24 rows
abbrev pub placed : List ℕ → List ℕ
placed rows = if length rows == 880 then between_blank rows else rows

-- a byte of a space, 20 or A0
abbrev pub is_space_byte : ℕ → Bool
is_space_byte b = b == 0x20 || b == 0xA0

-- the code of a byte among rows that have spaces or none: if none, 00 is a space
abbrev pub row_code : Bool → ℕ → ℕ
row_code has_space b = if not has_space && b == 0 then 0x20 else stored_code b

abbrev pub codes_of_rows : List ℕ → List ℕ
codes_of_rows rows = map (row_code (list_any is_space_byte rows)) (placed rows)

-- the codes of a saved screen
abbrev pub saved_codes : List ℕ → Option (List ℕ)
saved_codes bytes = option_map codes_of_rows (rows_in bytes)

-- What a centre sent.

-- without the parity bit
abbrev pub seven_bits : ℕ → ℕ
seven_bits b = b % 128

-- a terminal as it is switched on: blank, at the first cell
abbrev pub switched_on : Screen
switched_on = record { cells = replicate 960 32; at = 0; pending = false; visible = true }
