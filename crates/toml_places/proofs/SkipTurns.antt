-- The loops of the definitions, a turn at a time.
use Rattle.std.proofs.Common.{◌≡◌, ℕ, zero, suc, ◌-◌, ◌<◌, cond, true, false, ◌||◌, ◌==◌, List, [], ◌∷◌, length, drop, Option, Some, None, option_and_then, refl, arith}
use Rattle.std.proofs.lemmas.Bool.{false≢true}
use Rattle.std.proofs.lemmas.Bool.Decides.{nat_tests}
use Rattle.toml_parser.specs.Lexical.{first, is_word, skip_blank}
use Rattle.toml_parser.specs.Numbers.{word_len}
use Rattle.toml.specs.Parse.{after_element}
use Rattle.toml_places.specs.Values.{after_word, after_atom, after_member, after_members, after_value}

pub members_turn : (after : List ℕ → Option (List ℕ)) (closing m : ℕ) (text : List ℕ) → length text < m
    → after_members after closing m text
    ≡ cond (first (skip_blank text) == closing) (Some (drop 1 (skip_blank text)))
    (option_and_then (λ rest. option_and_then (after_members after closing (m - 1)) (after_element closing rest)) (after_member after closing (skip_blank text)))
unfolding after_members
members_turn after closing zero text room = absurd (omega arith)
members_turn after closing (suc m) text room = let less : suc m - 1 ≡ m = omega arith in rw less

pub value_atom : (depth : ℕ) (text : List ℕ) → (first text == 91) ≡ false → (first text == 123) ≡ false
    → after_value depth text ≡ after_atom text
unfolding after_value
value_atom zero text a b = refl
value_atom (suc depth) text a b = rw (a, b)

pub value_array : (depth : ℕ) (text : List ℕ) → 0 < depth → (first text == 91) ≡ true
    → after_value depth text ≡ after_members (after_value (depth - 1)) 93 (length text) (drop 1 text)
unfolding after_value
value_array zero text some a = absurd (omega arith)
value_array (suc depth) text some a =
    let less : suc depth - 1 ≡ depth = omega arith in
    rw (less, a)

pub value_table : (depth : ℕ) (text : List ℕ) → 0 < depth → (first text == 91) ≡ false → (first text == 123) ≡ true
    → after_value depth text ≡ after_members (after_value (depth - 1)) 125 (length text) (drop 1 text)
unfolding after_value
value_table zero text some a b = absurd (omega arith)
value_table (suc depth) text some a b =
    let less : suc depth - 1 ≡ depth = omega arith in
    rw (less, a, b)

-- at the end of the depth a bracket begins no value
pub value_deep : (text : List ℕ) → ((first text == 91) || (first text == 123)) ≡ true → after_value 0 text ≡ None
unfolding after_value after_atom after_word word_len
value_deep [] h = absurd (false≢true h)
value_deep (c ∷ cs) h =
    let not_quote : (c == 34) ≡ false = grind (arith, nat_tests) in
    let not_apostrophe : (c == 39) ≡ false = grind (arith, nat_tests) in
    let not_word : is_word c ≡ false = grind (arith, nat_tests) in
    let not_space : (c == 32) ≡ false = grind (arith, nat_tests) in
    rw (not_quote, not_apostrophe, not_word, not_space)
