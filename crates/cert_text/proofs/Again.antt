-- What is spelled so is read.
use Rattle.std.proofs.Common.{◌≡◌, ℕ, zero, suc, ◌-◌, ◌<◌, ◌≤◌, true, false, eqb, leb, List, [], ◌∷◌, ◌++◌, length, get_or, Ok, refl, ap, ◌∙◌, arith, All}
use Rattle.std.specs.Prelude.{◌==◌, slice_get}
use Rattle.std.specs.List.{list_all, AllByRecursion}
use Rattle.std.specs.Char.{is_ascii_digit}
use Rattle.std.specs.Fmt.{decimal}
use Rattle.std.specs.Str.{bytes_eq}
use Rattle.std.proofs.lemmas.Bool.Decides.{nat_tests}
use Rattle.std.proofs.lemmas.Slice.Eq.{bytes_eq-Decides}
use Rattle.std.proofs.lemmas.Fmt.{decimal_nonempty}
use Rattle.std.proofs.lemmas.List.{append-nil}
use Rattle.std.proofs.lemmas.List.Elements.{All-from_recursion}
use Rattle.std.proofs.lemmas.List.Splits.{slice_split_at, slice_split_none}
use Rattle.std.proofs.Math.Seq.{take-append_seam, drop-append_seam}
use Rattle.page_ids.proofs.IdTexts.{last_at, take_at_end, less_one, id_again}
use Rattle.page_ids.specs.Ids.{Id, IsFrameId, frame_text}
use Rattle.cert_table.specs.declared.row.Row.{Row}
use Rattle.abstract_paint.specs.declared.cursor.AbsCursor.{AbsCursor}
use Rattle.abstract_paint.specs.declared.cursor.Place.{Place}
use Rattle.abstract_paint.specs.declared.cursor.Place.TheVariants.{Any, Col, Spot}
use Rattle.abstract_paint.specs.declared.cursor.Pend.{Pend}
use Rattle.abstract_paint.specs.declared.cursor.Pend.TheVariants.{No, Yes, Maybe}
use Rattle.abstract_paint.specs.Paint.{OnScreen}
use Rattle.cert_text.specs.Grammar.{place_text, pend_text, cursor_text, row_line, IsRow}
use Rattle.page_ids.specs.Parts.{parts_of}
use Rattle.cert_text.specs.Lines.{number_or_cause, line_number, number_after, place_in, pend_in, without_pend, cursor_in, row_of, row_in}
use Rattle.std.proofs.lemmas.Bool.{and_parts}
use Rattle.page_ids.proofs.Digits.{all_decimal}
use Rattle.page_ids.proofs.Numbers.{number_again, decimal_digits}
use Rattle.cert_table.specs.Table.{comes_after}

-- ---- numbers

pub line_number_again : (most n : ℕ) → most ≤ 4294967295 → n ≤ most → line_number most (decimal n) ≡ Ok n
line_number_again most n small le = ap number_or_cause (number_again most n small le)

pub bytes_same : (xs : List ℕ) → bytes_eq xs xs ≡ true
bytes_same xs = grind (arith, bytes_eq-Decides xs xs)

pub number_after_again : (word : List ℕ) (most n : ℕ) → most ≤ 4294967295 → n ≤ most
    → number_after word most (word ++ decimal n) ≡ Ok n
number_after_again word most n small le =
    rw (take-append_seam word (decimal n), drop-append_seam word (decimal n), bytes_same word)
    (line_number_again most n small le)

-- ---- the last byte of a text

-- ---- cursors

pub place_again : (p : Place) → OnScreen p → place_in (place_text p) ≡ Ok p
place_again Any is = refl
place_again (Col c) is = rw (number_again 39 c (omega arith) (omega (arith, is))) refl
place_again (Spot c) is = rw (number_again 959 c (omega arith) (omega (arith, is))) refl

-- the last byte of a place is no pending state
ends_number : (c : ℕ) (ds : List ℕ) (k : ℕ) → list_all is_ascii_digit ds ≡ true → k < length ds
    → is_ascii_digit (get_or (c ∷ ds) (suc k) 0) ≡ true
ends_number c [] k all lt = absurd (omega arith)
ends_number c (d ∷ ds) zero all lt = (and_parts (is_ascii_digit d) (list_all is_ascii_digit ds) all).0
ends_number c (d ∷ ds) (suc k) all lt =
    ends_number d ds k (and_parts (is_ascii_digit d) (list_all is_ascii_digit ds) all).1 (omega arith)

no_pend : (d : ℕ) → is_ascii_digit d ≡ true → (eqb d 43 ≡ false) × (eqb d 63 ≡ false)
no_pend d h = (grind (arith, nat_tests), grind (arith, nat_tests))

number_no_pend : (c n : ℕ) → n ≤ 999999999 → pend_in (c ∷ decimal n) ≡ No
number_no_pend c n small =
    let some = decimal_nonempty n (omega arith) in
    let place : length (c ∷ decimal n) - 1 ≡ suc (length (decimal n) - 1) = omega (arith, some) in
    let last : get_or (c ∷ decimal n) (length (c ∷ decimal n) - 1) 0
    ≡ get_or (c ∷ decimal n) (suc (length (decimal n) - 1)) 0 = ap (λ (k : ℕ). get_or (c ∷ decimal n) k 0) place in
    let digit =
    ends_number c (decimal n) (length (decimal n) - 1) (decimal_digits n) (omega (arith, some)) in
    let no = no_pend (get_or (c ∷ decimal n) (suc (length (decimal n) - 1)) 0) digit in
    rw (last, no.0, no.1) refl

place_no_pend : (p : Place) → OnScreen p → pend_in (place_text p) ≡ No
place_no_pend Any is = refl
place_no_pend (Col c) is = number_no_pend 99 c (omega (arith, is))
place_no_pend (Spot c) is = number_no_pend 115 c (omega (arith, is))

pub pend_again : (p : Place) (d : Pend) → OnScreen p
    → (pend_in (place_text p ++ pend_text d) ≡ d) × (without_pend (place_text p ++ pend_text d) d ≡ place_text p)
pend_again p No is = (rw (append-nil (place_text p)) (place_no_pend p is), append-nil (place_text p))
pend_again p Yes is = (
  rw (last_at (place_text p) 43 _ (less_one (place_text p) 43)) refl,
  take_at_end (place_text p) 43 _
      (less_one (place_text p) 43),
)
pend_again p Maybe is = (
  rw (last_at (place_text p) 63 _ (less_one (place_text p) 63)) refl,
  take_at_end (place_text p) 63 _
      (less_one (place_text p) 63),
)

pub cursor_again : (x : AbsCursor) → OnScreen x.place → cursor_in (cursor_text x) ≡ Ok x
cursor_again x is =
    let a = pend_again x.place x.pend is in
    rw (a.0, a.1, place_again x.place is) refl

-- ---- lines without spaces, and without line ends

abbrev pub AllAbove : ℕ → List ℕ → Type 0
AllAbove m bytes = AllByRecursion (λ b. m ≤ b) bytes

-- computed for a list that is given
pub above_all : (m : ℕ) (xs : List ℕ) → list_all (λ b. leb m b) xs ≡ true → AllAbove m xs
above_all m [] h = tt
above_all m (x ∷ xs) h =
    let b = and_parts (leb m x) (list_all (λ b. leb m b) xs) h in (above m x b.0, above_all m xs b.1) where
      above : (m x : ℕ) → leb m x ≡ true → m ≤ x
      above m x h = grind (arith, nat_tests)

pub above_append : (m : ℕ) (xs ys : List ℕ) → AllAbove m xs → AllAbove m ys → AllAbove m (xs ++ ys)
above_append m [] ys p q = q
above_append m (x ∷ xs) ys p q = (p.0, above_append m xs ys p.1 q)

pub above_less : (m n : ℕ) (xs : List ℕ) → n ≤ m → AllAbove m xs → AllAbove n xs
above_less m n [] le p = tt
above_less m n (x ∷ xs) le p = (omega (arith, p.0), above_less m n xs le p.1)

pub above_decimal : (n : ℕ) → AllAbove 33 (decimal n)
above_decimal n = above_all 33 (decimal n) (all_decimal (λ b. leb 33 b) (λ d lt. grind (arith, nat_tests)) n)

pub above_id : (i : Id) → IsFrameId i → AllAbove 33 (frame_text i)
above_id i is =
    let letter : 33 ≤ i.letter = omega (arith, is.letter.0) in above_append 33 (decimal i.page) (i.letter ∷ [])
    (above_decimal i.page) (letter, tt)

above_place : (p : Place) → OnScreen p → AllAbove 33 (place_text p)
above_place Any is = (omega arith, (omega arith, (omega arith, tt)))
above_place (Col c) is = (omega arith, above_decimal c)
above_place (Spot c) is = (omega arith, above_decimal c)

above_pend : (d : Pend) → AllAbove 33 (pend_text d)
above_pend No = tt
above_pend Yes = (omega arith, tt)
above_pend Maybe = (omega arith, tt)

pub above_cursor : (x : AbsCursor) → OnScreen x.place → AllAbove 33 (cursor_text x)
above_cursor x is = above_append 33 (place_text x.place) (pend_text x.pend) (above_place x.place is) (above_pend x.pend)

-- a line that is short enough, without line ends
pub record IsLine (line : List ℕ) : Type 0 where
  pub above : AllAbove 11 line
  pub short : length line ≤ 128

no_spaces_rec : (xs : List ℕ) → AllAbove 33 xs → AllByRecursion (λ b. (b == 32) ≡ false) xs
no_spaces_rec [] h = tt
no_spaces_rec (x ∷ xs) h = (other x h.0, no_spaces_rec xs h.1) where
  other : (x : ℕ) → 33 ≤ x → (x == 32) ≡ false
  other x h = grind (arith, nat_tests)

no_spaces : (xs : List ℕ) → AllAbove 33 xs → All (λ b. (b == 32) ≡ false) xs
no_spaces xs h = All-from_recursion (λ b. (b == 32) ≡ false) xs (no_spaces_rec xs h)

-- ---- rows

parts_again : (a b c : List ℕ) → AllAbove 33 a → AllAbove 33 b → AllAbove 33 c
    → parts_of 32 (a ++ (32 ∷ (b ++ (32 ∷ c)))) ≡ a ∷ b ∷ c ∷ []
parts_again a b c p q r =
    let first : parts_of 32 (a ++ (32 ∷ (b ++ (32 ∷ c)))) ≡ a ∷ parts_of 32 (b ++ (32 ∷ c)) =
    slice_split_at (λ x. x == 32) a 32 (b ++ (32 ∷ c)) (no_spaces a p) refl in
    let second : parts_of 32 (b ++ (32 ∷ c)) ≡ b ∷ parts_of 32 c =
    slice_split_at (λ x. x == 32) b 32 c (no_spaces b q) refl in
    let third : parts_of 32 c ≡ c ∷ [] = slice_split_none (λ x. x == 32) c (no_spaces c r) in
    first ∙ ap (λ (t : List (List ℕ)). a ∷ t) (second ∙ ap (λ (t : List (List ℕ)). b ∷ t) third)

row_of_again : (r : Row) → IsRow r → row_of (frame_text r.id) (decimal r.rank) (cursor_text r.cursor) ≡ Ok r
unfolding row_of
row_of_again r is =
    rw (id_again r.id is.id, line_number_again 65535 r.rank (omega arith) is.rank, cursor_again r.cursor is.place) refl

pub row_again : (rows : List Row) (r : Row) → IsRow r → comes_after (slice_get rows (length rows - 1)) r.id ≡ true
    → row_in rows (row_line r) ≡ Ok r
unfolding row_in
row_again rows r is after =
    rw (
      parts_again (frame_text r.id) (decimal r.rank) (cursor_text r.cursor) (above_id r.id is.id)
          (above_decimal r.rank) (above_cursor r.cursor is.place),
      row_of_again r is,
      after,
    ) refl
