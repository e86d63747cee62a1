-- The rows of a frame that shows a screen.
use Rattle.std.specs.Prelude.{ℕ, zero, suc, List, ◌*◌, ◌==◌, length, map, take, drop, if◌then◌else◌}
use Rattle.std.specs.List.{range_with_len}
use Rattle.screens.specs.Text.{trimmed}

-- the row of a screen
abbrev pub screen_row : List ℕ → ℕ → List ℕ
screen_row codes row = trimmed (take 40 (drop (40 * row) codes))

-- the last of rows 1 to n that isn't blank, or 0
unfoldable pub last_row : List ℕ → ℕ → ℕ
last_row codes zero = 0
last_row codes (suc n) = if length (screen_row codes (suc n)) == 0 then last_row codes n else suc n

-- rows 1 to n
abbrev pub rows_to : List ℕ → ℕ → List (List ℕ)
rows_to codes n = map (screen_row codes) (range_with_len 1 n)

-- rows 1 to 22, up to the last that isn't blank
abbrev pub rows_of : List ℕ → List (List ℕ)
rows_of codes = rows_to codes (last_row codes 22)
