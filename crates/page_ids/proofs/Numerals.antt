-- What spells a number.
use Rattle.std.proofs.Common.{◌≡◌, ℕ, ◌<◌, ◌≤◌, ◌-◌, List, [], ◌∷◌, true, ◌&&◌, length, get_or, cond, ltb, eqb, arith}
use Rattle.std.specs.Char.{digit_value, is_ascii_digit}
use Rattle.std.specs.List.{list_all}
use Rattle.std.specs.Str.Parse.{AllDigits}
use Rattle.std.proofs.lemmas.Bool.{and_parts}
use Rattle.std.proofs.lemmas.Bool.Decides.{nat_tests}
use Rattle.page_ids.specs.Texts.{is_numeral}

-- the value of a decimal digit
pub digit_is : (c : ℕ) → 48 ≤ c → c ≤ 57 → digit_value c ≡ c - 48
digit_is c low high = grind (arith, nat_tests)

digit_small : (c : ℕ) → is_ascii_digit c ≡ true → digit_value c < 10
digit_small c h = grind (arith, nat_tests)

pub all_digits : (text : List ℕ) → list_all is_ascii_digit text ≡ true → AllDigits 10 text
all_digits [] h = tt
all_digits (c ∷ cs) h = let p = and_parts (is_ascii_digit c) (list_all is_ascii_digit cs) h in (digit_small c p.0, all_digits cs p.1)

-- what a number is made of
pub record IsNumber (text : List ℕ) : Type 0 where
  pub digits : AllDigits 10 text
  pub some : 0 < length text
  pub lead : get_or text 0 0 ≡ 48 → length text ≡ 1

lead_of : (c n : ℕ) → cond (eqb c 48) (eqb n 1) true ≡ true → c ≡ 48 → n ≡ 1
lead_of c n h e = grind (arith, nat_tests)

pub number_is : (text : List ℕ) → is_numeral text ≡ true → IsNumber text
number_is text h =
    let p = and_parts (ltb 0 (length text) && list_all is_ascii_digit text) (cond (eqb (get_or text 0 0) 48) (eqb (length text) 1) true) h in
    let q = and_parts (ltb 0 (length text)) (list_all is_ascii_digit text) p.0 in
    record { digits = all_digits text q.1; some = grind (arith, nat_tests, q.0); lead = lead_of (get_or text 0 0) (length text) p.1 }

pub digits_of : (text : List ℕ) → is_numeral text ≡ true → AllDigits 10 text
digits_of text h = (number_is text h).digits
