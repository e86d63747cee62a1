-- The id and the price of a screen, by its row 0 and the name of its file.
use Rattle.std.specs.Prelude.{ℕ, Bool, false, true, List, [], ◌∷◌, Option, Some, None, ◌+◌, ◌==◌, ◌&&◌, nat_lt, nat_le, map, take, if◌then◌else◌}
use Rattle.page_ids.specs.Ids.{Id}
use Rattle.page_ids.specs.Texts.{id_in}
use Rattle.screen_forms.specs.Words.{any_case_id}
use Rattle.page_ids.specs.Parts.{parts_of}
use Rattle.frame_records.specs.declared.limits.TheConstants.{MOST_PENCE}
use Rattle.screen_files.specs.declared.head.Head.{Head}

-- Words.

-- an attribute, 80 to 9F, is a space between words
abbrev pub spaced : ℕ → ℕ
spaced c = if nat_lt c 0x80 then c else 0x20

abbrev pub last_part : List (List ℕ) → List ℕ
last_part [] = []
last_part (w ∷ []) = w
last_part (w ∷ v ∷ ws) = last_part (v ∷ ws)

-- the words of a text between spaces (32); an empty one is no word
abbrev pub words_between : List ℕ → List (List ℕ)
words_between text = parts_of 32 text

-- the id of a word, or the one before
abbrev pub newer : Option Id → Option Id → Option Id
newer before None = before
newer before (Some id) = Some id

-- the last id among words
abbrev pub last_id : Option Id → List (List ℕ) → Option Id
last_id found [] = found
last_id found (w ∷ ws) = last_id (newer found (id_in w)) ws

-- The price.

-- `Np`, without leading zeros: it is spelled as an id of the letter `p` (112)
abbrev pub price_by : Option Id → Option ℕ
price_by None = None
price_by (Some id) = if id.letter == 112 && nat_le id.page MOST_PENCE then Some id.page else None

abbrev pub price_in : List ℕ → Option ℕ
price_in text = price_by (id_in text)

-- a price that ends a text, and where it begins; the text begins at this column
abbrev pub price_or : Option ℕ → ℕ → Option (ℕ × ℕ) → Option (ℕ × ℕ)
price_or (Some price) column after = Some (column, price)
price_or None column after = after

abbrev pub price_from : ℕ → List ℕ → Option (ℕ × ℕ)
price_from column [] = None
price_from column (c ∷ cs) = price_or (price_in (c ∷ cs)) column (price_from (column + 1) cs)

-- what is before a price has to end in a space or in an id
abbrev pub is_id : Option Id → Bool
is_id None = false
is_id (Some id) = true

abbrev pub is_word_end : List ℕ → Bool
is_word_end [] = true
is_word_end (c ∷ cs) = is_id (id_in (c ∷ cs))

abbrev pub may_end : List ℕ → Bool
may_end text = is_word_end (last_part (words_between text))

-- Row 0.

-- the id that a text shows
abbrev pub text_id : List ℕ → Option Id
text_id text = last_id None (words_between text)

abbrev pub unpriced : List ℕ → Head
unpriced text = record { id = text_id text; price = None }

-- the price is taken first
abbrev pub head_by : List ℕ → Option (ℕ × ℕ) → Head
head_by text None = unpriced text
head_by text (Some (column, price)) =
    if may_end (take column text) then record { id = text_id (take column text); price = Some price } else unpriced text

abbrev pub head_of : List ℕ → Head
head_of text = head_by text (price_from 0 text)

-- the head of a screen
abbrev pub screen_head : List ℕ → Head
screen_head codes = head_of (map spaced (take 40 codes))

-- The name of a file.

abbrev pub first_part : List (List ℕ) → List ℕ
first_part [] = []
first_part (w ∷ ws) = w

-- what follows the last `/` (47), up to the first dot (46)
abbrev pub name_stem : List ℕ → List ℕ
name_stem path = first_part (parts_of 46 (last_part (parts_of 47 path)))

-- what is before the first space (32), `-` (45) or `_` (95), and what is after the last
abbrev pub first_word : List ℕ → List ℕ
first_word text = first_part (parts_of 95 (first_part (parts_of 45 (first_part (parts_of 32 text)))))

abbrev pub last_word : List ℕ → List ℕ
last_word text = last_part (parts_of 95 (last_part (parts_of 45 (last_part (parts_of 32 text)))))

-- the id that ends a stem, unless one begins it
abbrev pub end_id : List ℕ → Option Id
end_id stem = if is_id (any_case_id (first_word stem)) then None else any_case_id (last_word stem)

abbrev pub or_id : Option Id → Option Id → Option Id
or_id None other = other
or_id (Some id) other = Some id

-- the id in the name of a file: all of the stem, else its end
abbrev pub name_id : List ℕ → Option Id
name_id path = or_id (any_case_id (name_stem path)) (end_id (name_stem path))
