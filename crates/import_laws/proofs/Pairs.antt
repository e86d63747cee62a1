-- A line of a key and a value, with what follows the value up to the line's end.
use Rattle.std.proofs.Common.{◌≡◌, ℕ, ◌^◌, ◌<◌, true, false, ◌==◌, pos, List, [], ◌∷◌, ◌++◌, codes, decimal, Some, refl, ap, ◌∙◌, arith, append_assoc, length-append}
use Rattle.std.proofs.lemmas.Bool.Decides.{nat_tests}
use Rattle.std.specs.List.{All}
use Rattle.toml_parser.specs.Lexical.{first, skip_blank, skip_ws}
use Rattle.toml_parser.proofs.LexicalLemmas.{skip_ws_none, skip_ws_space}
use Rattle.toml_writer.specs.Text.{key_text}
use Rattle.toml_writer.proofs.Strings.{is_key_start-key_text}
use Rattle.toml.specs.Data.{Data, integer, boolean}
use Rattle.toml.specs.Tables.{Expression, key_value}
use Rattle.toml.specs.Parse.{val, expression, ends_line, line}
use Rattle.toml.proofs.Turns.{keyval_ok}
use Rattle.toml.proofs.Blanks.{starts_value, skip_newline, skip_space, skip_start}
use Rattle.toml.proofs.ReadValues.{EndsValue, value_start, read_value, key_equals-pair}
use Rattle.import_laws.proofs.Blanks.{IsShown, skip_comment}
use Rattle.import_laws.proofs.Lines.{Reads, Turn, reads_one}

-- what may follow a value up to the line's end, with it
pub record IsTail (tail : List ℕ) : Type 0 where
  pub value_ends : (rest : List ℕ) → EndsValue (tail ++ rest)
  pub line_ends : (rest : List ℕ) → ends_line (skip_ws (tail ++ rest)) ≡ true
  pub skips : (rest : List ℕ) → skip_blank (tail ++ rest) ≡ skip_blank rest

-- the line's end alone
newline_ends : (rest : List ℕ) → ends_line (skip_ws (10 ∷ rest)) ≡ true
newline_ends rest = rw (skip_ws_none (10 ∷ rest) refl) (grind (arith, nat_tests))

pub newline_tail : IsTail (10 ∷ [])
newline_tail = record {
  value_ends = λ rest. ((refl, refl), (refl, refl));
  line_ends = newline_ends;
  skips = skip_newline;
}

-- a space and a comment
comment_ends : (more : List ℕ) → ends_line (skip_ws (32 ∷ 35 ∷ more)) ≡ true
comment_ends more = rw (skip_ws_space (35 ∷ more), skip_ws_none (35 ∷ more) refl) (grind (arith, nat_tests))

pub comment_tail : (text : List ℕ) → All IsShown text → IsTail (32 ∷ 35 ∷ (text ++ 10 ∷ []))
comment_tail text all = record {
  value_ends = λ rest. ((refl, refl), (refl, refl));
  line_ends = λ rest. comment_ends ((text ++ 10 ∷ []) ++ rest);
  skips = λ rest. skip_space (35 ∷ ((text ++ 10 ∷ []) ++ rest))
      ∙ ap (λ (t : List ℕ). skip_blank (35 ∷ t)) (append_assoc text (10 ∷ []) rest) ∙ skip_comment text rest all;
}

-- the text of a value before what ends it
pub record IsValue (value tail : List ℕ) (d : Data) : Type 0 where
  pub starts : (rest : List ℕ) → starts_value (first (value ++ (tail ++ rest))) ≡ true
  pub reads : (rest : List ℕ) → val 80 (value ++ (tail ++ rest)) ≡ Some (d, tail ++ rest)

pub number_value : (n : ℕ) (tail : List ℕ) → n < 2 ^ 63 → IsTail tail → IsValue (decimal n) tail (integer (pos n))
number_value n tail small ends = record {
  starts = λ rest. (value_start true (integer (pos n)) (decimal n) (tail ++ rest) (refl, omega (arith, small)) refl).1;
  reads = λ rest. read_value true (integer (pos n)) 80 (decimal n) (tail ++ rest) (refl, omega (arith, small)) (omega arith) refl (ends.value_ends rest);
}

pub true_value : (tail : List ℕ) → IsTail tail → IsValue (codes "true") tail (boolean true)
true_value tail ends = record {
  starts = λ rest. refl;
  reads = λ rest. read_value true (boolean true) 80 (codes "true") (tail ++ rest) refl (omega arith) refl (ends.value_ends rest);
}

pair_line : (k at_value after : List ℕ) (d : Data) → starts_value (first at_value) ≡ true → val 80 at_value ≡ Some (d, after) → ends_line (skip_ws after) ≡ true
    → line (key_text k ++ (codes " = " ++ at_value)) ≡ Some ((([], k), key_value d), after)
unfolding line expression
pair_line k at_value after d start read ends =
    let s = key_text k ++ (codes " = " ++ at_value) in
    let pair = keyval_ok (val 80) s at_value after ([], k) d (key_equals-pair k at_value start) read in
    let key_first = is_key_start-key_text k (codes " = " ++ at_value) in
    let other : (first s == 91) ≡ false = grind (arith, nat_tests) in
    rw (other, pair, ends)

key_starts : (k rest : List ℕ) → starts_value (first (key_text k ++ rest)) ≡ true
key_starts k rest =
    let start = is_key_start-key_text k rest in
    grind (arith, nat_tests)

-- what a line of a key and a value reads as
abbrev pub pair : List ℕ → Data → Expression
pair k d = (([], k), key_value d)

module _ (k value tail : List ℕ) (d : Data) (ends : IsTail tail) (is : IsValue value tail d) where
  abbrev start : List ℕ → List ℕ
  start rest = key_text k ++ (codes " = " ++ (value ++ (tail ++ rest)))

  begins : (rest : List ℕ) → skip_blank ((key_text k ++ (codes " = " ++ (value ++ tail))) ++ rest) ≡ start rest
  begins rest =
      let same : (key_text k ++ (codes " = " ++ (value ++ tail))) ++ rest ≡ start rest = simp append_assoc refl in
      ap skip_blank same ∙ skip_start (start rest) (key_starts k (codes " = " ++ (value ++ (tail ++ rest))))

  turn : (rest : List ℕ) → Turn (start rest) rest (pair k d)
  turn rest = record {
    after = tail ++ rest;
    reads = pair_line k (value ++ (tail ++ rest)) (tail ++ rest) d (is.starts rest) (is.reads rest) (ends.line_ends rest);
    skips = ends.skips rest;
    shorter = omega (arith, length-append (key_text k) (codes " = " ++ (value ++ (tail ++ rest))), length-append value (tail ++ rest));
  }

  pub reads_pair : Reads (key_text k ++ (codes " = " ++ (value ++ tail))) (pair k d ∷ [])
  reads_pair = reads_one (key_text k ++ (codes " = " ++ (value ++ tail))) (pair k d) start begins turn
