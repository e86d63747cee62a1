-- The lines of a list of editions.
use Rattle.std.specs.Prelude.{ℕ, ◌-◌, max, List, [], ◌∷◌, ◌++◌, codes, decimal, length, replicate, flat_map, Option, Some, None}
use Rattle.edition_lists.specs.declared.rows.EditionRow.{EditionRow}
use Rattle.edition_lists.specs.declared.serving.Serving.{Serving}
use Rattle.edition_lists.specs.declared.serving.Serving.TheVariants.{Earlier, Now, NotYet, Never}

-- a text at the right of a column
abbrev pub set_right : ℕ → List ℕ → List ℕ
set_right width text = replicate (width - length text) 32 ++ text

-- the width of the longest number
abbrev pub number_width : List ℕ → ℕ
number_width [] = 0
number_width (n ∷ numbers) = max (length (decimal n)) (number_width numbers)

-- a column of nine
abbrev pub serving_words : Serving → List ℕ
serving_words Earlier = codes "         "
serving_words Now = codes "  served "
serving_words NotYet = codes "  not yet"
serving_words Never = codes "  never  "

-- a new beginning follows none
abbrev pub follows_words : Option ℕ → List ℕ
follows_words None = codes "-"
follows_words (Some k) = decimal k

-- at the end of a line: what isn't there
abbrev pub lack_words : Option ℕ → List ℕ
lack_words None = codes "\n"
lack_words (Some k) = codes ", edition " ++ (decimal k ++ codes " isn't there\n")

-- what it follows, its frames, and what changed
abbrev pub row_rest : ℕ → EditionRow → List ℕ
row_rest width row =
    codes "  follows " ++ (set_right width (follows_words row.follows) ++ (codes "  " ++ (row.summary.items ++ lack_words row.lacks)))

-- the number, whether it is served, and the rest
abbrev pub edition_line : ℕ → EditionRow → List ℕ
edition_line width row = codes "edition " ++ (set_right width (decimal row.number) ++ (serving_words row.serving ++ row_rest width row))

-- a line for each row
abbrev pub rows_lines : ℕ → List EditionRow → List ℕ
rows_lines width rows = flat_map (edition_line width) rows

-- the lines, or that there is none; the columns are as wide as the longest of the numbers
abbrev pub list_text : List ℕ → List EditionRow → List ℕ
list_text numbers [] = codes "nothing is published\n"
list_text numbers (row ∷ rows) = rows_lines (number_width numbers) (row ∷ rows)
