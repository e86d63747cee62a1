-- Keys of a base's text, items of their values, and integers out of their range.
use Rattle.std.specs.Prelude.{ℕ, ℤ, pos, negsuc, suc, nat_lt, if◌then◌else◌, List, ◌++◌, codes, decimal, Option}
use Rattle.page_ids.specs.Ids.{Id}
use Rattle.page_ids.specs.declared.limits.TheConstants.{MOST_PAGE}
use Rattle.frame_records.specs.declared.limits.TheConstants.{MOST_PENCE, MOST_GROUP}
use Rattle.base_text.specs.declared.keys.Field.{Field}
use Rattle.base_text.specs.declared.keys.Field.TheVariants as field
use Rattle.base_text.specs.Fields.{field_name}
use Rattle.lint_words.specs.Pieces.{grouped, frame_name}

-- the key of a field in quotes
abbrev pub key_text : Field → List ℕ
key_text f = codes "\"" ++ (field_name f ++ codes "\"")

-- a key of the top, or one of a frame with the frame's name
abbrev pub key_subject : Field → Option Id → List ℕ
key_subject field.Entry id = key_text field.Entry
key_subject field.Outside id = key_text field.Outside
key_subject field.Frame id = key_text field.Frame
key_subject f id = key_text f ++ (codes " of " ++ frame_name id)

-- an integer in decimal
abbrev pub integer_text : ℤ → List ℕ
integer_text (pos n) = decimal n
integer_text (negsuc n) = codes "-" ++ decimal (suc n)

-- the least and the greatest that a field allows
abbrev pub least_of : Field → ℕ
least_of field.Group = 1
least_of f = 0

abbrev pub most_of_field : Field → ℕ
most_of_field field.Price = MOST_PENCE
most_of_field field.Group = MOST_GROUP
most_of_field f = MOST_PAGE

-- what is needed in place of an integer that is too low, and of one that is too high
abbrev pub least_text : ℕ → List ℕ
least_text least = codes ", at least " ++ (decimal least ++ codes " is needed")

abbrev pub most_text : ℕ → List ℕ
most_text most = codes ", at most " ++ (decimal most ++ codes " is allowed")

abbrev pub limit_text : Field → ℤ → List ℕ
limit_text f (pos n) = if nat_lt n (least_of f) then least_text (least_of f) else most_text (most_of_field f)
limit_text f (negsuc n) = least_text (least_of f)

-- an item of `outside`, a route by its digit, or a row
abbrev pub item_text : Field → ℕ → Option Id → List ℕ
item_text field.Outside n id = codes "item " ++ (grouped n ++ (codes " of " ++ key_text field.Outside))
item_text field.Routes n id = codes "route " ++ (grouped n ++ (codes " of " ++ frame_name id))
item_text f n id = codes "row " ++ (grouped n ++ (codes " of " ++ frame_name id))

-- an integer, and what is allowed in its place
abbrev pub out_of_range_text : Field → ℤ → List ℕ
out_of_range_text f z = codes " is " ++ (integer_text z ++ limit_text f z)
