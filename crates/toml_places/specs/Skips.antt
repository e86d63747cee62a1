-- The line and the column of an offset in a text.
use Rattle.std.specs.Prelude.{ℕ, ◌+◌, ◌*◌, ◌≡◌, ◌≤◌, Bool, ◌==◌, if◌then◌else◌, List, [], ◌∷◌, take, length, slice_get, Some}
use Rattle.std.specs.List.{count_by, list_any}
use Rattle.toml.specs.Tables.{Definition, key_value, std_table, array_table}
use Rattle.toml_places.specs.Strings.{starts_char}
use Rattle.toml_places.specs.declared.lines.Sort.{Sort}
use Rattle.toml_places.specs.declared.lines.Sort.TheVariants.{Pair, Table, ArrayTable}

abbrev pub is_feed : ℕ → Bool
is_feed byte = byte == 0x0A

-- what follows the last line feed
abbrev pub last_line : List ℕ → List ℕ
last_line [] = []
last_line (byte ∷ bytes) = if list_any is_feed (byte ∷ bytes) then last_line bytes else byte ∷ bytes

-- the line, from 1, of what follows these bytes
unfoldable pub line_after : List ℕ → ℕ
line_after before = count_by is_feed before + 1

-- its column, from 1, which counts characters
unfoldable pub column_after : List ℕ → ℕ
column_after before = count_by starts_char (last_line before) + 1

-- the line and the column of an offset
abbrev pub place_at : List ℕ → ℕ → ℕ × ℕ
place_at text offset = (line_after (take offset text), column_after (take offset text))

-- the places of the offsets 0, 512 and so on
abbrev pub ArePlaces : List ℕ → List (ℕ × ℕ) → Type 0
ArePlaces text places = (step : ℕ) → step * 512 ≤ length text → slice_get places step ≡ Some (place_at text (step * 512))

-- What an expression defines: a pair, a table or one of an array of tables.

abbrev pub sort_of : Definition → Sort
sort_of (key_value d) = Pair
sort_of std_table = Table
sort_of array_table = ArrayTable
