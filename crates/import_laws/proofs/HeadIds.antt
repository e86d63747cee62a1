-- The ids and the prices that a file's name, a row 0 and a text's lines show are ids and prices.
use Rattle.std.proofs.Common.{◌≡◌, ℕ, ◌+◌, ◌-◌, ◌*◌, ◌≤◌, Bool, true, false, ◌&&◌, ◌==◌, nat_le, nat_lt, List, [], ◌∷◌, length, get_or, take, map, Option, Some, None, inl, inr, arith}
use Rattle.std.proofs.lemmas.Bool.{cases_Bool}
use Rattle.std.proofs.lemmas.Bool.Decides.{nat_tests}
use Rattle.std.specs.Str.Parse.{digits_value}
use Rattle.page_ids.specs.Ids.{Id, IsFrameId, IsLetter, IsPageNumber}
use Rattle.page_ids.specs.Texts.{is_numeral, page_in, letter_in, id_with, id_in}
use Rattle.page_ids.specs.declared.limits.TheConstants.{MOST_PAGE}
use Rattle.frame_records.specs.declared.limits.TheConstants.{MOST_PENCE}
use Rattle.screen_forms.specs.Words.{any_case_id, lower, number_id, subpage_letter, two_digits, is_digit_byte}
use Rattle.screen_files.specs.declared.head.Head.{Head}
use Rattle.screen_files.specs.Heads.{words_between, newer, last_id, price_by, price_in, price_or, price_from, is_id, may_end, text_id, head_by, screen_head, spaced, name_stem, first_word, last_word, end_id, or_id, name_id}
use Rattle.import_laws.specs.Imported.{IsFiledPrice}

-- an id, if there is one
abbrev pub IsNamed : Option Id → Type 0
IsNamed None = Unit {0}
IsNamed (Some id) = IsFrameId id

abbrev IsPageOr : Option ℕ → Type 0
IsPageOr None = Unit {0}
IsPageOr (Some page) = IsPageNumber page

abbrev IsLetterOr : Option ℕ → Type 0
IsLetterOr None = Unit {0}
IsLetterOr (Some letter) = IsLetter letter

with_is : (page letter : Option ℕ) → IsPageOr page → IsLetterOr letter → IsNamed (id_with page letter)
with_is None letter p l = tt
with_is (Some page) None p l = tt
with_is (Some page) (Some letter) p l = record { page = p; letter = l }

page_is : (text : List ℕ) → IsPageOr (page_in text)
page_is text = elim (cases_Bool (is_numeral text)) [
  | inl numeral ↦ elim (cases_Bool (nat_lt MOST_PAGE (digits_value 10 text))) [
    | inl over ↦ rw (numeral, over) tt
    | inr within ↦ rw (numeral, within) (no_more (digits_value 10 text) within)
  ]
  | inr not ↦ rw not tt
] where
  no_more : (n : ℕ) → nat_lt MOST_PAGE n ≡ false → n ≤ MOST_PAGE
  no_more n e = grind (arith, nat_tests)

letter_is : (c : ℕ) → IsLetterOr (letter_in c)
letter_is c = elim (cases_Bool (nat_le 97 c && nat_le c 122)) [
  | inl is ↦ rw is (grind (arith, nat_tests, is), grind (arith, nat_tests, is))
  | inr not ↦ rw not tt
]

id_in_is : (text : List ℕ) → IsNamed (id_in text)
id_in_is text = elim (cases_Bool (length text == 0)) [
  | inl none ↦ rw none tt
  | inr some ↦ rw some (with_is (page_in (take (length text - 1) text)) (letter_in (get_or text (length text - 1) 0)) (page_is (take (length text - 1) text)) (letter_is (get_or text (length text - 1) 0)))
]

pub any_case_is : (text : List ℕ) → IsNamed (any_case_id text)
any_case_is text = elim (cases_Bool (length text == 0)) [
  | inl none ↦ rw none tt
  | inr some ↦
      let letter = lower (get_or text (length text - 1) 0) in
      rw some (with_is (page_in (take (length text - 1) text)) (letter_in letter) (page_is (take (length text - 1) text)) (letter_is letter))
]

subpage_is : (n : ℕ) → IsLetterOr (subpage_letter n)
subpage_is n = elim (cases_Bool (n == 0)) [
  | inl none ↦ rw none (omega arith, omega arith)
  | inr some ↦ elim (cases_Bool (nat_le n 26)) [
    | inl few ↦ rw (some, few) (grind (arith, nat_tests, some), grind (arith, nat_tests, few))
    | inr many ↦ rw (some, many) tt
  ]
]

two_are : (a b : ℕ) → IsLetterOr (two_digits a b)
two_are a b = elim (cases_Bool (is_digit_byte a && is_digit_byte b)) [
  | inl are ↦ rw are (subpage_is ((a - 48) * 10 + (b - 48)))
  | inr not ↦ rw not tt
]

pub number_is : (text : List ℕ) → IsNamed (number_id text)
number_is text = elim (cases_Bool (length text == 3)) [
  | inl three ↦ rw three (with_is (page_in text) (Some 97) (page_is text) (omega arith, omega arith))
  | inr other ↦ elim (cases_Bool (length text == 5)) [
    | inl five ↦ rw (other, five) (with_is (page_in (take 3 text)) (two_digits (get_or text 3 0) (get_or text 4 0)) (page_is (take 3 text)) (two_are (get_or text 3 0) (get_or text 4 0)))
    | inr not ↦ rw (other, not) tt
  ]
]

-- Row 0.

newer_is : (before after : Option Id) → IsNamed before → IsNamed after → IsNamed (newer before after)
newer_is before None b a = b
newer_is before (Some id) b a = a

last_is : (found : Option Id) (ws : List (List ℕ)) → IsNamed found → IsNamed (last_id found ws)
last_is found [] is = is
last_is found (w ∷ ws) is = last_is (newer found (id_in w)) ws (newer_is found (id_in w) is (id_in_is w))

text_id_is : (text : List ℕ) → IsNamed (text_id text)
text_id_is text = last_is None (words_between text) tt

price_by_is : (o : Option Id) → IsFiledPrice (price_by o)
price_by_is None = tt
price_by_is (Some id) = elim (cases_Bool (id.letter == 112 && nat_le id.page MOST_PENCE)) [
  | inl is ↦ rw is (within id.page (id.letter == 112) is)
  | inr not ↦ rw not tt
] where
  within : (n : ℕ) (b : Bool) → (b && nat_le n MOST_PENCE) ≡ true → n ≤ MOST_PENCE
  within n true e = grind (arith, nat_tests)
  within n false e = absurd (clash e) where
    clash : false ≡ true → ⊥
    clash e = cc

-- a price at a column, if there is one
abbrev IsPriceAt : Option (ℕ × ℕ) → Type 0
IsPriceAt None = Unit {0}
IsPriceAt (Some at) = at.1 ≤ MOST_PENCE

price_or_is : (price : Option ℕ) (column : ℕ) (after : Option (ℕ × ℕ)) → IsFiledPrice price → IsPriceAt after → IsPriceAt (price_or price column after)
price_or_is (Some price) column after p a = p
price_or_is None column after p a = a

price_from_is : (column : ℕ) (text : List ℕ) → IsPriceAt (price_from column text)
price_from_is column [] = tt
price_from_is column (c ∷ cs) =
    price_or_is (price_in (c ∷ cs)) column (price_from (column + 1) cs) (price_by_is (id_in (c ∷ cs))) (price_from_is (column + 1) cs)

pub record IsHead (h : Head) : Type 0 where
  pub id : IsNamed h.id
  pub price : IsFiledPrice h.price

head_by_is : (text : List ℕ) (at : Option (ℕ × ℕ)) → IsPriceAt at → IsHead (head_by text at)
head_by_is text None is = record { id = text_id_is text; price = tt }
head_by_is text (Some (column, price)) is = elim (cases_Bool (may_end (take column text))) [
  | inl may ↦ rw may record { id = text_id_is (take column text); price = is }
  | inr not ↦ rw not record { id = text_id_is text; price = tt }
]

pub screen_head_is : (screen : List ℕ) → IsHead (screen_head screen)
screen_head_is screen = let text = map spaced (take 40 screen) in head_by_is text (price_from 0 text) (price_from_is 0 text)

-- The name of a file.

pub or_is : (a b : Option Id) → IsNamed a → IsNamed b → IsNamed (or_id a b)
or_is None b is other = other
or_is (Some id) b is other = is

end_is : (stem : List ℕ) → IsNamed (end_id stem)
end_is stem = elim (cases_Bool (is_id (any_case_id (first_word stem)))) [
  | inl first ↦ rw first tt
  | inr none ↦ rw none (any_case_is (last_word stem))
]

pub name_is : (path : List ℕ) → IsNamed (name_id path)
name_is path = or_is (any_case_id (name_stem path)) (end_id (name_stem path)) (any_case_is (name_stem path)) (end_is (name_stem path))
