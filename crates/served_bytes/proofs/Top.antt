-- Row 0 is the id and the price.
use Rattle.std.proofs.Common.{◌≡◌, ℕ, zero, suc, ◌+◌, ◌-◌, ◌%◌, ◌<◌, ◌≤◌, ◌^◌, arith, refl, ap, sym, ◌∙◌, true, List, [], ◌∷◌, ◌++◌, Option, length, get_or, take, drop, nat_le, nat_lt, replicate, append_assoc, length-append}
use Rattle.std.specs.Prelude.{decimal}
use Rattle.std.specs.List.{AllByRecursion}
use Rattle.std.proofs.lemmas.List.{length-replicate, get_or_append_left}
use Rattle.std.proofs.lemmas.List.FromFn.{fill_by_all}
use Rattle.std.proofs.lemmas.Fmt.{decimal_by_steps, length-decimal-le}
use Rattle.std.proofs.lemmas.Bool.Decides.{nat_tests}
use Rattle.page_ids.specs.Ids.{IsFrameId}
use Rattle.frame_records.specs.declared.frame.Frame.{Frame}
use Rattle.frame_records.specs.Bases.{IsPrice}
use Rattle.frame_screens.specs.Screens.{new_terminal, with_frames, records, blank_row, at_end, top_row, top_by, with_rows, screen_codes}
use Rattle.served_bytes.specs.Rows.{plain_code, cell_in, text_row}
use Rattle.served_bytes.specs.Seen.{TopIsShown}
use Rattle.served_bytes.proofs.Centre.{IsPlain, IsPlainRow}

-- Characters.

plain_append : (xs ys : List ℕ) → AllByRecursion IsPlain xs → AllByRecursion IsPlain ys → AllByRecursion IsPlain (xs ++ ys)
plain_append [] ys h k = k
plain_append (x ∷ xs) ys h k = (h.0, plain_append xs ys h.1 k)

plain_blanks : (n : ℕ) → AllByRecursion IsPlain (replicate n 32)
plain_blanks zero = tt
plain_blanks (suc n) = ((omega arith, omega arith), plain_blanks n)

plain_decimal : (n : ℕ) → n < 2 ^ 64 → AllByRecursion IsPlain (decimal n)
plain_decimal = decimal_by_steps (λ m ds. AllByRecursion IsPlain ds) (λ m l. ((omega arith, omega arith), tt)) (λ m ds l h. plain_append ds ((48 + m % 10) ∷ []) h ((omega arith, omega arith), tt))

-- A text at the end of some columns.

end_row : (columns : ℕ) (text : List ℕ) → AllByRecursion IsPlain text → AllByRecursion IsPlain (at_end columns text)
end_row columns text h = plain_append (replicate (columns - length text) 32) text (plain_blanks (columns - length text)) h

end_long : (columns : ℕ) (text : List ℕ) → length text ≤ columns → length (at_end columns text) ≡ columns
end_long columns text fits = omega (arith, length-append (replicate (columns - length text) 32) text, length-replicate {A = ℕ} (columns - length text) 32)

number_fits : (k n code : ℕ) → length (decimal n) ≤ k → length (decimal n ++ code ∷ []) ≤ k + 1
number_fits k n code h = omega (arith, length-append (decimal n) (code ∷ []))

two_ends : (page letter price : ℕ) → page ≤ 999999999 → 97 ≤ letter → letter ≤ 122 → price ≤ 9999
    → IsPlainRow (at_end 35 (decimal page ++ letter ∷ []) ++ at_end 5 (decimal price ++ 112 ∷ []))
two_ends page letter price small from to cheap =
    let digits : length (decimal page) ≤ 9 = length-decimal-le 9 page (omega arith) (omega arith) (omega arith) in
    let pence : length (decimal price) ≤ 4 = length-decimal-le 4 price (omega arith) (omega arith) (omega arith) in
    let id = decimal page ++ letter ∷ [] in
    let cost = decimal price ++ 112 ∷ [] in
    let id_fits : length id ≤ 35 = omega (arith, number_fits 9 page letter digits) in
    let cost_fits : length cost ≤ 5 = omega (arith, number_fits 4 price 112 pence) in
    record {
      long = omega (arith, length-append (at_end 35 id) (at_end 5 cost), end_long 35 id id_fits, end_long 5 cost cost_fits);
      plain = plain_append (at_end 35 id) (at_end 5 cost) (end_row 35 id (plain_append (decimal page) (letter ∷ []) (plain_decimal page (omega arith)) ((omega arith, omega arith), tt)))
          (end_row 5 cost (plain_append (decimal price) (112 ∷ []) (plain_decimal price (omega arith)) ((omega arith, omega arith), tt)));
    }

top_is_plain : (f : Frame) → IsFrameId f.id → IsPrice f.price → IsPlainRow (top_row f)
top_is_plain f id price = two_ends f.id.page f.id.letter f.price id.page id.letter.0 id.letter.1 price

-- The front of a text.

plain_at : (xs : List ℕ) (k : ℕ) → AllByRecursion IsPlain xs → IsPlain (get_or xs k 32)
plain_at [] k h = (omega arith, omega arith)
plain_at (x ∷ xs) zero h = h.0
plain_at (x ∷ xs) (suc k) h = plain_at xs k h.1

itself : (b : ℕ) → IsPlain b → plain_code b ≡ b
itself b h =
    let low : nat_le 32 b ≡ true = grind (arith, nat_tests) in
    let high : nat_lt b 128 ≡ true = grind (arith, nat_tests) in
    rw (low, high) refl

-- a row that a text begins with
row_before : (row rest : List ℕ) → IsPlainRow row → text_row (row ++ rest) ≡ row
unfolding text_row
row_before row rest h = sym (fill_by_all (cell_in (row ++ rest)) row 40 32 h.long (λ k lt. at k (omega (arith, h.long, lt)))) where
  at : (k : ℕ) → k < length row → get_or row k 32 ≡ cell_in (row ++ rest) k
  at k lt =
      let same : get_or (row ++ rest) k 32 ≡ get_or row k 32 = get_or_append_left row rest 32 k lt in
      sym (ap plain_code same ∙ itself (get_or row k 32) (plain_at row k h.plain))

pub top_is_shown : TopIsShown
top_is_shown base id f found named priced =
    let cells = (with_frames new_terminal (records base (id ∷ []))).cells in
    let part = take 880 (drop 40 cells) in
    let codes_are : screen_codes base (id ∷ []) ≡ with_rows (top_row f) cells = ap (λ (o : Option Frame). with_rows (top_by o) cells) found in
    ap text_row (codes_are ∙ append_assoc (top_row f) part blank_row) ∙ row_before (top_row f) (part ++ blank_row) (top_is_plain f named priced)
