-- Values, of which only the ends are wanted, and what arrays and inline tables hold.
use Rattle.std.specs.Prelude.{ℕ, zero, suc, ◌==◌, if◌then◌else◌, List, [], ◌∷◌, ◌++◌, length, drop, Option, Some, None, option_map}
use Rattle.std.specs.Option.{option_map_or}
use Rattle.toml_parser.specs.Lexical.{left_bracket, right_bracket, left_brace, right_brace, first, skip_blank}
use Rattle.toml_parser.specs.Strings.{Key, starts_string, recursion_limit}
use Rattle.toml_parser.specs.Numbers.{word_len}
use Rattle.toml.specs.Parse.{after_element, key_equals}
use Rattle.toml_places.specs.Steps.{◌>>=◌}
use Rattle.toml_places.specs.Strings.{TextPart, after_string, value_from}

-- after a boolean, a number or a date-time, of whatever value
unfoldable pub after_word : List ℕ → Option (List ℕ)
after_word text = if word_len text == 0 then None else Some (drop (word_len text) text)

-- after a string or a scalar
unfoldable pub after_atom : List ℕ → Option (List ℕ)
after_atom text = if starts_string text then after_string text else after_word text

module _ (after : List ℕ → Option (List ℕ)) where
  -- after an element of an array, or a pair of an inline table, whichever this bracket closes
  unfoldable pub after_member : ℕ → List ℕ → Option (List ℕ)
  after_member closing text = if closing == right_brace then value_from recursion_limit text >>= after else after text

  -- after the closing bracket, with fewer than n elements or pairs before it
  unfoldable pub after_members : ℕ → ℕ → List ℕ → Option (List ℕ)
  after_members closing zero text = None
  after_members closing (suc n) text =
      let start = skip_blank text in
      if first start == closing then Some (drop 1 start)
      else after_member closing start >>= (λ rest. after_element closing rest >>= after_members closing n)

-- After a value, with arrays and inline tables at most this deep. It is read as toml's grammar reads it, but no value is
-- kept, so a key that is defined twice isn't refused.
unfoldable pub after_value : ℕ → List ℕ → Option (List ℕ)
after_value zero text = after_atom text
after_value (suc depth) text =
    if first text == left_bracket then after_members (after_value depth) right_bracket (length text) (drop 1 text)
    else if first text == left_brace then after_members (after_value depth) right_brace (length text) (drop 1 text)
    else after_atom text

-- the next element of an array as it is written, and the text from the one after it on
unfoldable pub next_element : List ℕ → Option (TextPart × List ℕ)
next_element text =
    let start = skip_blank text in
    if first start == right_bracket then None
    else after_value recursion_limit start >>= (λ rest. option_map (λ next. ((start, rest), next)) (after_element right_bracket rest))

-- the k-th element from here on
unfoldable pub element_from : ℕ → List ℕ → Option TextPart
element_from zero text = option_map (λ e. e.0) (next_element text)
element_from (suc k) text = next_element text >>= (λ e. element_from k e.1)

-- the k-th element of an array
unfoldable pub element : ℕ → List ℕ → Option TextPart
element k text = if first text == left_bracket then element_from k (drop 1 text) else None

-- a pair of an inline table: all parts of its key, and the text from it on
pub record TablePair : Type 0 where
  pub path : List (List ℕ)
  pub start : List ℕ

-- from the next pair on, after a value
unfoldable pub pair_after : List ℕ → Option (List ℕ)
pair_after text = after_value recursion_limit text >>= after_element right_brace

abbrev pub pair_at : Key → List ℕ → List ℕ → Option (TablePair × List ℕ)
pair_at key start value = option_map (λ next. (record { path = key.0 ++ key.1 ∷ []; start = start }, next)) (pair_after value)

-- the next pair, and the text from the one after it on
unfoldable pub next_pair : List ℕ → Option (TablePair × List ℕ)
next_pair text =
    let start = skip_blank text in
    if first start == right_brace then None else key_equals start >>= (λ k. pair_at k.0 start k.1)

-- the pairs from here on, fewer than n
unfoldable pub pairs_from : ℕ → List ℕ → List TablePair
pairs_from zero text = []
pairs_from (suc n) text = option_map_or (λ p. p.0 ∷ pairs_from n p.1) (next_pair text) []

-- the pairs of an inline table
unfoldable pub pairs : List ℕ → List TablePair
pairs text = if first text == left_brace then pairs_from (length text) (drop 1 text) else []
