-- Parts of a text, and where a price begins.
use Rattle.std.proofs.Common.{◌≡◌, ◌<◌, ◌+◌, ℕ, Bool, true, false, List, [], ◌∷◌, refl, cond, drop, length, arith}
use Rattle.std.proofs.lemmas.List.{drop_more}
use Rattle.std.specs.List.{onto_first, slice_split}
use Rattle.page_ids.specs.Parts.{parts_of}
use Rattle.screen_files.specs.Heads.{last_part, price_from, price_in, price_or}

-- a text has a part
has_part : (p : ℕ → Bool) (text : List ℕ) → 0 < length (slice_split p text)
has_part p [] = omega arith
has_part p (x ∷ xs) = by (p x) (slice_split p xs) where
  by : (b : Bool) (parts : List (List ℕ)) → 0 < length (cond b ([] ∷ parts) (onto_first x parts))
  by true parts = omega arith
  by false [] = omega arith
  by false (part ∷ parts) = omega arith

-- a part before others isn't the last
pub last_more : (part : List ℕ) (parts : List (List ℕ)) → 0 < length parts → last_part (part ∷ parts) ≡ last_part parts
last_more part [] some = absurd (omega (arith, some))
last_more part (w ∷ ws) some = refl

pub last_after : (separator : ℕ) (part text : List ℕ) → last_part (part ∷ parts_of separator text) ≡ last_part (parts_of separator text)
last_after separator part text = last_more part (parts_of separator text) (has_part _ text)

pub price_step : (column : ℕ) (text : List ℕ) → column < length text
    → price_from column (drop column text)
    ≡ price_or (price_in (drop column text)) column (price_from (column + 1) (drop (column + 1) text))
price_step column text inside = rw (drop_more text column 0 inside) refl
