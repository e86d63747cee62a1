-- What a line says, or the first thing that is wrong with it.
use Rattle.std.specs.Prelude.{ℕ, ◌-◌, List, [], ◌∷◌, length, take, drop, get_or, ◌==◌, if◌then◌else◌, Result, Ok, Err, codes, slice_get}
use Rattle.std.specs.Option.{ok_or}
use Rattle.std.specs.Str.{bytes_eq}
use Rattle.page_ids.specs.declared.number.NumberFault.{NumberFault}
use Rattle.page_ids.specs.declared.number.NumberFault.TheVariants.{NotNumeral, AboveLimit}
use Rattle.page_ids.specs.Texts.{number_in, id_in}
use Rattle.frame_records.specs.declared.groups.GroupFault.{GroupFault}
use Rattle.frame_records.specs.declared.groups.GroupFault.TheVariants as group
use Rattle.frame_records.specs.Groups.{groups_in}
use Rattle.page_ids.specs.Parts.{parts_of}
use Rattle.frame_records.specs.Steps.{◌>>=◌}
use Rattle.cert_table.specs.Table.{comes_after}
use Rattle.cert_table.specs.declared.limits.TheConstants.{MOST_RANK}
use Rattle.cert_table.specs.declared.row.Row.{Row}
use Rattle.abstract_paint.specs.declared.cursor.AbsCursor.{AbsCursor}
use Rattle.abstract_paint.specs.declared.cursor.Place.{Place}
use Rattle.abstract_paint.specs.declared.cursor.Place.TheVariants.{Any, Col, Spot}
use Rattle.abstract_paint.specs.declared.cursor.Pend.{Pend}
use Rattle.abstract_paint.specs.declared.cursor.Pend.TheVariants.{No, Yes, Maybe}
use Rattle.cert_text.specs.declared.fault.LineCause.{LineCause}
use Rattle.cert_text.specs.declared.fault.LineCause.TheVariants.{Word, Number, Range, Order, Cursor}

-- why a number is refused
abbrev pub number_cause : NumberFault → LineCause
number_cause NotNumeral = Number
number_cause AboveLimit = Range

abbrev pub number_or_cause : Result ℕ NumberFault → Result ℕ LineCause
number_or_cause (Ok n) = Ok n
number_or_cause (Err fault) = Err (number_cause fault)

-- the number of a part of a line, up to the limit
abbrev pub line_number : ℕ → List ℕ → Result ℕ LineCause
line_number most text = number_or_cause (number_in most text)

-- a word with its space, and then a number
abbrev pub number_after : List ℕ → ℕ → List ℕ → Result ℕ LineCause
number_after word most line =
    if bytes_eq (take (length word) line) word then line_number most (drop (length word) line) else Err Word

-- why a list of groups is refused
abbrev pub group_cause : GroupFault → LineCause
group_cause group.Number = Number
group_cause group.Range = Range
group_cause group.Order = Order

abbrev pub groups_or_cause : Result (List ℕ) GroupFault → Result (List ℕ) LineCause
groups_or_cause (Ok groups) = Ok groups
groups_or_cause (Err fault) = Err (group_cause fault)

-- the word of the groups with its space, and then numbers that are cut at each space (32)
abbrev pub groups_after : List ℕ → List ℕ → Result (List ℕ) LineCause
groups_after word line =
    if bytes_eq (take (length word) line) word
    then groups_or_cause (groups_in 32 (drop (length word) line))
    else Err Word

-- a place by its first letter
abbrev pub in_place : (ℕ → Place) → Result ℕ NumberFault → Result Place LineCause
in_place place (Ok n) = Ok (place n)
in_place place (Err _) = Err Cursor

-- `any`, or `c` (99) and a column, or `s` (115) and a spot
abbrev pub place_in : List ℕ → Result Place LineCause
place_in [] = Err Cursor
place_in (c ∷ cs) =
    if bytes_eq (c ∷ cs) (codes "any") then Ok Any
    else if c == 99 then in_place Col (number_in 39 cs)
    else if c == 115 then in_place Spot (number_in 959 cs)
    else Err Cursor

-- the pending state at the end of a cursor, by its last byte `+` (43) or `?` (63), and what is before it
abbrev pub pend_in : List ℕ → Pend
pend_in text =
    if get_or text (length text - 1) 0 == 43 then Yes
    else if get_or text (length text - 1) 0 == 63 then Maybe else No

abbrev pub without_pend : List ℕ → Pend → List ℕ
without_pend text No = text
without_pend text Yes = take (length text - 1) text
without_pend text Maybe = take (length text - 1) text

-- a place and its pending state
abbrev pub cursor_of : Pend → Result Place LineCause → Result AbsCursor LineCause
cursor_of pend (Ok place) = Ok (record { place = place; pend = pend })
cursor_of pend (Err e) = Err e

abbrev pub cursor_in : List ℕ → Result AbsCursor LineCause
cursor_in text = cursor_of (pend_in text) (place_in (without_pend text (pend_in text)))

-- the row that three parts make
unfoldable pub row_of : List ℕ → List ℕ → List ℕ → Result Row LineCause
row_of id rank cursor =
    ok_or (id_in id) Word >>= λ i. line_number MOST_RANK rank >>= λ r. cursor_in cursor >>= λ x.
    Ok (record { id = i; rank = r; cursor = x })

-- exactly two spaces
abbrev pub row_of_parts : List (List ℕ) → Result Row LineCause
row_of_parts [] = Err Word
row_of_parts (a ∷ []) = Err Word
row_of_parts (a ∷ b ∷ []) = Err Word
row_of_parts (a ∷ b ∷ c ∷ []) = row_of a b c
row_of_parts (a ∷ b ∷ c ∷ d ∷ more) = Err Word

-- the id is greater than that of the last row
abbrev pub in_order : List Row → Row → Result Row LineCause
in_order rows r = if comes_after (slice_get rows (length rows - 1)) r.id then Ok r else Err Order

-- a row's line, cut at its spaces (32), after these rows
unfoldable pub row_in : List Row → List ℕ → Result Row LineCause
row_in rows line = row_of_parts (parts_of 32 line) >>= in_order rows
