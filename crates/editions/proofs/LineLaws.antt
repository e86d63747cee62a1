-- A number is named by its own text alone.
use Rattle.std.proofs.Common.{◌≡◌, ℕ, ◌-◌, ◌<◌, ◌≤◌, Bool, true, false, cond, eqb, List, [], ◌∷◌, ◌++◌, length, get_or, take, Option, Some, None, Ok, refl, ap, ◌∙◌, subst, arith, length-append}
use Rattle.std.specs.Fmt.{decimal}
use Rattle.std.specs.Prelude.{Result, Err}
use Rattle.std.specs.Str.{bytes_eq}
use Rattle.std.proofs.lemmas.Bool.Decides.{nat_tests}
use Rattle.std.proofs.lemmas.Slice.Eq.{bytes_eq-Decides}
use Rattle.page_ids.specs.declared.number.NumberFault.{NumberFault}
use Rattle.page_ids.specs.Texts.{number_in, number_or_none}
use Rattle.page_ids.proofs.IdTexts.{split_end, last_at, take_at_end, less_one}
use Rattle.page_ids.proofs.Numbers.{number_found, number_again}
use Rattle.editions.specs.NumberLines.{number_line, line_in, number_of_line, current_in, follows_text, unless_dash, LinesAreNumbers}

unless_empty : (b : Bool) (o : Option (List ℕ)) (line : List ℕ) → cond b None o ≡ Some line → (b ≡ false) × (o ≡ Some line)
unless_empty true o line e = absurd cc
unless_empty false o line e = (refl, e)

if_ended : (b : Bool) (front line : List ℕ) → cond b (Some front) None ≡ Some line → (b ≡ true) × (front ≡ line)
if_ended true front line e = (refl, cc)
if_ended false front line e = absurd cc

-- a text that has a line is that line and a line end
line_found : (text line : List ℕ) → line_in text ≡ Some line → text ≡ line ++ 10 ∷ []
line_found text line e =
    let last = get_or text (length text - 1) 0 in
    let front = take (length text - 1) text in
    let a = unless_empty (eqb (length text) 0) _ line e in
    let b = if_ended (eqb last 10) front line a.1 in
    let some : 0 < length text = grind (arith, nat_tests, a.0) in
    let ends : last ≡ 10 = grind (arith, nat_tests, b.0) in
    split_end text some ∙ ap (λ (c : ℕ). front ++ c ∷ []) ends ∙ ap (λ (l : List ℕ). l ++ 10 ∷ []) b.1

not_empty : (line : List ℕ) (c : ℕ) → eqb (length (line ++ c ∷ [])) 0 ≡ false
not_empty line c = grind (arith, nat_tests, length-append line (c ∷ []))

line_again : (line : List ℕ) → line_in (line ++ 10 ∷ []) ≡ Some line
line_again line =
    let len = less_one line 10 in
    rw (not_empty line 10, last_at line 10 _ len, take_at_end line 10 _ len) refl

or_none : (r : Result ℕ NumberFault) (n : ℕ) → number_or_none r ≡ Some n → r ≡ Ok n
or_none (Ok m) n e = let same : m ≡ n = cc in ap Ok same
or_none (Err d) n e = absurd cc

of_line : (o : Option (List ℕ)) (n : ℕ) → number_of_line o ≡ Some n → (line : List ℕ) × (o ≡ Some line) × (number_in 999999999 line ≡ Ok n)
of_line None n e = absurd cc
of_line (Some line) n e = (line, refl, or_none (number_in 999999999 line) n e)

pub number_named : (text : List ℕ) (n : ℕ) → current_in text ≡ Some n → (n ≤ 999999999) × (text ≡ number_line n)
number_named text n e =
    let a = of_line (line_in text) n e in
    let b = number_found 999999999 a.0 n (omega arith) a.2 in
    (b.0, line_found text a.0 a.1 ∙ ap (λ (l : List ℕ). l ++ 10 ∷ []) b.1)

pub number_names : (n : ℕ) → n ≤ 999999999 → current_in (number_line n) ≡ Some n
number_names n le = rw (line_again (decimal n), number_again 999999999 n (omega arith) le) refl

dash_found : (text : List ℕ) (b : Bool) (follows : Option ℕ) → (b ≡ true → text ≡ follows_text None) → cond b (Some None) None ≡ Some follows → text ≡ follows_text follows
dash_found text true follows same e = let none : None ≡ follows = cc in subst (λ (f : Option ℕ). text ≡ follows_text f) none (same refl)
dash_found text false follows same e = absurd cc

some_found : (text : List ℕ) (o : Option ℕ) (follows : Option ℕ) → current_in text ≡ o → unless_dash text o ≡ Some follows → text ≡ follows_text follows
some_found text None follows is e = dash_found text (bytes_eq text (follows_text None)) follows (bytes_eq-Decides text (follows_text None)).0 e
some_found text (Some n) follows is e =
    let same : Some n ≡ follows = cc in
    subst (λ (f : Option ℕ). text ≡ follows_text f) same (number_named text n is).1

pub lines_numbers : LinesAreNumbers
lines_numbers = record {
  found = number_named;
  only = number_names;
  follows_found = λ text follows e. some_found text (current_in text) follows refl e;
  beginning = refl;
  following = λ n le. rw (number_names n le) refl;
}
