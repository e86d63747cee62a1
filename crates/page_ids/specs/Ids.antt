-- Letters, pages and ids, and their texts.
use Rattle.std.specs.Prelude.{ℕ, ◌≤◌, ◌==◌, ◌&&◌, ◌+◌, Bool, List, [], ◌∷◌, ◌++◌, decimal}
use Rattle.std.specs.Ordering.{nat_cmp, ordering_then}
use Rattle.std.specs.declared.cmp.Ordering.{Ordering}
use Rattle.page_ids.specs.declared.limits.TheConstants.{MOST_PAGE}

-- What contracts see of a frame's id.

-- a page number and the byte of a letter
pub record Id : Type 0 where
  pub page : ℕ
  pub letter : ℕ

-- Page numbers, frame ids and their texts.

-- 0 to 999,999,999
abbrev pub IsPageNumber : ℕ → Type 0
IsPageNumber n = n ≤ MOST_PAGE

-- the bytes `a` to `z` are 97 to 122
abbrev pub IsLetter : ℕ → Type 0
IsLetter c = (97 ≤ c) × (c ≤ 122)

-- a page number in decimal, without leading zeros
abbrev pub page_text : ℕ → List ℕ
page_text n = decimal n

-- the page is a page number, the letter a letter
pub record IsFrameId (id : Id) : Type 0 where
  pub page : IsPageNumber id.page
  pub letter : IsLetter id.letter

-- the page number, then the letter
abbrev pub frame_text : Id → List ℕ
frame_text id = page_text id.page ++ id.letter ∷ []

-- ids are ordered by page number, then by letter
abbrev pub id_cmp : Id → Id → Ordering
id_cmp a b = ordering_then (nat_cmp a.page b.page) (nat_cmp a.letter b.letter)

-- the same id
abbrev pub id_eq : Id → Id → Bool
id_eq a b = (a.page == b.page) && (a.letter == b.letter)

-- the frame `a` of a page
abbrev pub first_frame : ℕ → Id
first_frame page = record { page = page; letter = 97 }

-- the next letter of the same page
abbrev pub following : Id → Id
following id = record { page = id.page; letter = id.letter + 1 }
