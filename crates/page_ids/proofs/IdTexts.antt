-- Ids are read from just their own texts.
use Rattle.std.proofs.Common.{◌≡◌, ℕ, ◌+◌, ◌-◌, ◌<◌, ◌≤◌, Bool, true, false, cond, eqb, leb, ◌&&◌, List, [], ◌∷◌, ◌++◌, length, get_or, take, drop, Option, Some, None, Ok, refl, sym, ap, ◌∙◌, arith, drop-cons, length-drop, length-append}
use native.Mathlib.Numerals.{unary_clauses}
use Rattle.std.specs.Fmt.{decimal}
use Rattle.std.specs.Prelude.{Result, Err}
use Rattle.std.proofs.lemmas.Bool.Decides.{nat_tests}
use Rattle.std.proofs.lemmas.List.{take-append-drop, nil_from_length}
use Rattle.std.proofs.Math.Seq.{take-append_seam, get_or-append_seam}
use Rattle.page_ids.specs.Ids.{Id, IsFrameId, frame_text}
use Rattle.page_ids.specs.declared.number.NumberFault.{NumberFault}
use Rattle.page_ids.specs.Texts.{number_in, number_or_none, page_in, letter_in, id_with, id_in}
use Rattle.page_ids.proofs.Numbers.{number_found, number_again}

pub split_at_end : (text : List ℕ) (k : ℕ) → length text ≡ k + 1 → text ≡ take k text ++ get_or text k 0 ∷ []
split_at_end text k len =
    let at_place : drop k text ≡ get_or text k 0 ∷ drop (k + 1) text = simp unary_clauses (drop-cons text k 0 (omega arith)) in
    let nothing : drop (k + 1) text ≡ [] = nil_from_length (drop (k + 1) text) (omega (arith, length-drop (k + 1) text)) in
    sym (take-append-drop k text) ∙ ap (λ (r : List ℕ). take k text ++ r) (at_place ∙ ap (λ (r : List ℕ). get_or text k 0 ∷ r) nothing)

-- a text is all but its last byte, and that byte
pub split_end : (text : List ℕ) → 0 < length text → text ≡ take (length text - 1) text ++ get_or text (length text - 1) 0 ∷ []
split_end text some = split_at_end text (length text - 1) (omega arith)

number_of_page : (r : Result ℕ NumberFault) (n : ℕ) → number_or_none r ≡ Some n → r ≡ Ok n
number_of_page (Ok m) n e = let same : m ≡ n = cc in ap Ok same
number_of_page (Err d) n e = absurd cc

letter_by : (b : Bool) (c l : ℕ) → cond b (Some c) None ≡ Some l → (b ≡ true) × (c ≡ l)
letter_by true c l e = (refl, cc)
letter_by false c l e = absurd cc

letter_found : (c l : ℕ) → letter_in c ≡ Some l → (c ≡ l) × (97 ≤ l) × (l ≤ 122)
letter_found c l e =
    let h = letter_by (leb 97 c && leb c 122) c l e in
    let low : 97 ≤ c = grind (arith, nat_tests, h.0) in
    let high : c ≤ 122 = grind (arith, nat_tests, h.0) in
    (h.1, omega (arith, h.1, low), omega (arith, h.1, high))

with_found : (page letter : Option ℕ) (id : Id) → id_with page letter ≡ Some id → (page ≡ Some id.page) × (letter ≡ Some id.letter)
with_found (Some p) (Some l) id e =
    let same : record { page = p; letter = l } ≡ id = cc in
    (ap (λ (i : Id). Some i.page) same, ap (λ (i : Id). Some i.letter) same)
with_found (Some p) None id e = absurd cc
with_found None letter id e = absurd cc

unless_empty : (b : Bool) (o : Option Id) (id : Id) → cond b None o ≡ Some id → (b ≡ false) × (o ≡ Some id)
unless_empty true o id e = absurd cc
unless_empty false o id e = (refl, e)

pub id_found : (text : List ℕ) (id : Id) → id_in text ≡ Some id → IsFrameId id × (text ≡ frame_text id)
id_found text id e =
    let front = take (length text - 1) text in
    let last = get_or text (length text - 1) 0 in
    let a = unless_empty (eqb (length text) 0) (id_with (page_in front) (letter_in last)) id e in
    let b = with_found (page_in front) (letter_in last) id a.1 in
    let n = number_found 999999999 front id.page (omega arith) (number_of_page (number_in 999999999 front) id.page b.0) in
    let l = letter_found last id.letter b.1 in
    let some : 0 < length text = grind (arith, nat_tests, a.0) in
    (record { page = n.0; letter = (l.1, l.2) }, split_end text some ∙ ap (λ (d : List ℕ). d ++ last ∷ []) n.1 ∙ ap (λ (c : ℕ). decimal id.page ++ c ∷ []) l.0)

pub last_at : (xs : List ℕ) (c k : ℕ) → k ≡ length xs → get_or (xs ++ c ∷ []) k 0 ≡ c
last_at xs c k e = rw e (get_or-append_seam xs c [] 0)

pub take_at_end : (xs : List ℕ) (c k : ℕ) → k ≡ length xs → take k (xs ++ c ∷ []) ≡ xs
take_at_end xs c k e = rw e (take-append_seam xs (c ∷ []))

pub less_one : (xs : List ℕ) (c : ℕ) → length (xs ++ c ∷ []) - 1 ≡ length xs
less_one xs c = omega (arith, length-append xs (c ∷ []))

not_empty : (xs : List ℕ) (c : ℕ) → eqb (length (xs ++ c ∷ [])) 0 ≡ false
not_empty xs c = grind (arith, nat_tests, length-append xs (c ∷ []))

letter_again : (c : ℕ) → 97 ≤ c → c ≤ 122 → letter_in c ≡ Some c
letter_again c low high =
    let a : leb 97 c ≡ true = grind (arith, nat_tests) in
    let b : leb c 122 ≡ true = grind (arith, nat_tests) in
    rw (a, b) refl

pub id_again : (id : Id) → IsFrameId id → id_in (frame_text id) ≡ Some id
id_again id is =
    let len = less_one (decimal id.page) id.letter in
    rw (not_empty (decimal id.page) id.letter, last_at (decimal id.page) id.letter _ len, take_at_end (decimal id.page) id.letter _ len, number_again 999999999 id.page (omega arith) is.page, letter_again id.letter is.letter.0 is.letter.1) refl
