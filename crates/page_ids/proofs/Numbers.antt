-- Numbers are read from just their own texts.
use Rattle.std.proofs.Common.{◌≡◌, ℕ, zero, suc, ◌^◌, ◌<◌, ◌≤◌, true, false, cond, ltb, eqb, List, length, get_or, Ok, Err, refl, sym, ap, ◌∙◌, arith}
use Rattle.std.specs.List.{list_all}
use Rattle.std.specs.Char.{is_ascii_digit}
use Rattle.std.specs.Fmt.{decimal}
use Rattle.std.specs.Str.Parse.{AllDigits, digits_value}
use Rattle.std.proofs.lemmas.Bool.Decides.{nat_tests}
use Rattle.std.proofs.lemmas.Str.Parse.{IsNumeralModel, numerals_by_value, tells_digits}
use Rattle.std.proofs.lemmas.Fmt.{decimal-digits_value, digits_value-decimal, decimal_nonempty, first_decimal, decimal_digit}
use Rattle.page_ids.specs.declared.number.NumberFault.TheVariants.{NotNumeral, AboveLimit}
use Rattle.page_ids.specs.Texts.{is_numeral, number_in}
use Rattle.page_ids.proofs.Digits.{all_decimal}
use Rattle.page_ids.proofs.Numerals.{number_is}
use Rattle.page_ids.proofs.Truths.{ok_is, needs, lacks}

own : IsNumeralModel (AllDigits 10) (digits_value 10)
own = numerals_by_value _ tells_digits

pub number_found : (most : ℕ) (text : List ℕ) (n : ℕ) → most ≤ 4294967295 → number_in most text ≡ Ok n → (n ≤ most) × (text ≡ decimal n)
number_found most text n small e =
    let a = needs (is_numeral text) NotNumeral (cond (ltb most (digits_value 10 text)) (Err AboveLimit) (Ok (digits_value 10 text))) n e in
    let b = lacks (ltb most (digits_value 10 text)) AboveLimit (Ok (digits_value 10 text)) n a.1 in
    let value = ok_is (digits_value 10 text) n b.1 in
    let is = number_is text a.0 in
    let le : digits_value 10 text ≤ most = grind (arith, nat_tests, b.0) in
    (omega (arith, value, le), sym (decimal-digits_value own text is.digits is.some is.lead (omega arith)) ∙ ap decimal value)

-- a number's text has digits alone
pub decimal_digits : (n : ℕ) → list_all is_ascii_digit (decimal n) ≡ true
decimal_digits n = all_decimal is_ascii_digit (λ d lt. grind (arith, nat_tests)) n

zero_only : (n : ℕ) → n < 2 ^ 64 → get_or (decimal n) 0 0 ≡ 48 → length (decimal n) ≡ 1
zero_only zero big h = ap length (decimal_digit 0 (omega arith))
zero_only (suc n) big h = absurd (omega (arith, first_decimal (suc n) (omega arith) big))

lead_is : (c n : ℕ) → (c ≡ 48 → n ≡ 1) → cond (eqb c 48) (eqb n 1) true ≡ true
lead_is c n h = grind (arith, nat_tests)

numeral_again : (n : ℕ) → n ≤ 4294967295 → is_numeral (decimal n) ≡ true
numeral_again n small =
    let some : ltb 0 (length (decimal n)) ≡ true = grind (arith, nat_tests, decimal_nonempty n (omega arith)) in
    rw (some, decimal_digits n, lead_is (get_or (decimal n) 0 0) (length (decimal n)) (zero_only n (omega arith))) refl

pub number_again : (most n : ℕ) → most ≤ 4294967295 → n ≤ most → number_in most (decimal n) ≡ Ok n
number_again most n small le =
    let v : digits_value 10 (decimal n) ≡ n = digits_value-decimal own n (omega arith) in
    let no : ltb most n ≡ false = grind (arith, nat_tests) in
    rw (numeral_again n (omega arith), v, no) refl
