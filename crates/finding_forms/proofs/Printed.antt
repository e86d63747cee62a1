-- Lines that are printed of findings.
use Rattle.std.proofs.Common.{◌≡◌, ℕ, suc, ◌+◌, ◌<◌, ◌^◌, true, not, ◌==◌, if◌then◌else◌, List, [], ◌∷◌, ◌++◌, codes, decimal, chars, length, refl, ap, ◌∙◌, arith, Option, Some, None, IfSome, Result, Ok, Err, IfOk, OnOk}
use Rattle.std.proofs.lemmas.Bool.{and_from, and_parts}
use Rattle.std.specs.Prelude.{count_by}
use Rattle.std.specs.List.{list_all}
use Rattle.std.specs.Char.{is_control, digit_value}
use Rattle.std.specs.Str.Parse.{AllDigits}
use Rattle.std.proofs.Math.Utf8.{encode, encodes}
use Rattle.std.proofs.lemmas.Bool.Decides.{nat_tests}
use Rattle.std.proofs.lemmas.Fmt.{decimal_is_IsNumeral}
use Rattle.std.proofs.lemmas.List.Elements.{All-nil, All-cons}
use Rattle.std.proofs.lemmas.List.Sums.{sum_by-append}
use Rattle.std.proofs.lemmas.Str.{encodes-chars}
use Rattle.lint_words.specs.declared.code.Code.{Code}
use Rattle.lint_words.specs.declared.code.Code.TheVariants as code
use Rattle.lint_words.specs.Lines.{IsLine}
use Rattle.lint_words.specs.WordsOf.{WordsView}
use Rattle.lint_words.proofs.LineParts.{is_plain, IsLine-append, IsLine-plain}
use Rattle.lint.specs.declared.finding.Level.{Level}
use Rattle.lint.specs.declared.finding.Level.TheVariants as level
use Rattle.lint.specs.Findings.{FindingView}
use Rattle.finding_forms.specs.declared.format.Format.{Format}
use Rattle.finding_forms.specs.declared.format.Format.TheVariants as format
use Rattle.finding_forms.specs.LineForm.{level_text, line_place, code_text, line_hint, words_text, line_text}
use Rattle.finding_forms.specs.Forms.{IsPrinted, ArePrinted, is_one_line}
use Rattle.finding_forms.specs.Laws.{IsLineIn, AreWholeLines}

-- Parts of a line.

digit_plain : (d : ℕ) → digit_value d < 10 → is_plain d ≡ true
digit_plain d h = grind (arith, nat_tests)

digits_plain : (ds : List ℕ) → AllDigits 10 ds → list_all is_plain ds ≡ true
digits_plain [] h = refl
digits_plain (d ∷ ds) h = and_from (is_plain d) (list_all is_plain ds) (digit_plain d h.0) (digits_plain ds h.1)

pub IsLine-decimal : (n : ℕ) → n < 2 ^ 64 → IsLine (decimal n)
IsLine-decimal n fits = IsLine-plain (decimal n) (digits_plain (decimal n) (decimal_is_IsNumeral n fits).0.1)

pub IsLine-place : (path : List ℕ) (line column : ℕ) → IsLine path → line < 2 ^ 64 → column < 2 ^ 64
    → IsLine (line_place path (line, column))
IsLine-place path line column is a b =
    let colon = IsLine-plain (codes ":") refl in
    let of_line = IsLine-append (decimal line) (codes ":") (IsLine-decimal line a) colon in
    let of_column = IsLine-append (decimal column) (codes ":") (IsLine-decimal column b) colon in
    let with_path = IsLine-append path (codes ":") is colon in
    let with_line = IsLine-append (path ++ codes ":") (decimal line ++ codes ":") with_path of_line in
    IsLine-append (path ++ codes ":" ++ (decimal line ++ codes ":")) (decimal column ++ codes ":") with_line of_column

pub code_plain : (c : Code) → list_all is_plain (code_text c) ≡ true
code_plain code.TooLong = refl
code_plain code.NotToml = refl
code_plain code.UnknownKey = refl
code_plain code.Absent = refl
code_plain code.WrongKind = refl
code_plain code.Range = refl
code_plain code.BodyAndRows = refl
code_plain code.RowTooLong = refl
code_plain code.RowCode = refl
code_plain code.BadFrame = refl
code_plain code.TooMany = refl
code_plain code.BodyTooLong = refl
code_plain code.NextAfterZ = refl
code_plain code.Duplicate = refl
code_plain code.OutsideInside = refl
code_plain code.EntryMissing = refl
code_plain code.EntryClosed = refl
code_plain code.Price = refl
code_plain code.Touches = refl
code_plain code.Missing = refl
code_plain code.Closed = refl
code_plain code.NoReturn = refl
code_plain code.Unreached = refl
code_plain code.Hidden = refl
code_plain code.LineEnd = refl
code_plain code.Escape = refl
code_plain code.Menu = refl
code_plain code.Unsought = refl

IsLine-hint : (hint : Option (List ℕ)) → IfSome hint IsLine → IsLine (line_hint hint)
IsLine-hint None is = IsLine-plain [] refl
IsLine-hint (Some hint) is = IsLine-append (codes "; ") hint (IsLine-plain (codes "; ") refl) is

pub IsLine-words : (w : WordsView) (hint : Option (List ℕ)) → IsLine w.message → IfSome hint IsLine
    → IsLine (words_text w hint)
IsLine-words w hint message is =
    let tail = IsLine-append w.message (line_hint hint) message (IsLine-hint hint is) in
    let with_colon = IsLine-append (codes ": ") (w.message ++ line_hint hint) (IsLine-plain (codes ": ") refl) tail in
    IsLine-append (code_text w.code) (codes ": " ++ (w.message ++ line_hint hint)) (IsLine-plain (code_text w.code) (code_plain w.code)) with_colon

pub level_plain : (l : Level) → list_all is_plain (level_text l) ≡ true
level_plain level.Error = refl
level_plain level.Warning = refl

pub IsLine-line : (path : List ℕ) (place : ℕ × ℕ) (l : Level) (w : WordsView) (hint : Option (List ℕ))
    → IsLine (line_place path place) → IsLine (words_text w hint) → IsLine (line_text path place l w hint)
IsLine-line path place l w hint at words =
    let after_level = IsLine-append (codes ": ") (words_text w hint) (IsLine-plain (codes ": ") refl) words in
    let with_level = IsLine-append (level_text l) (codes ": " ++ words_text w hint) (IsLine-plain (level_text l) (level_plain l)) after_level in
    let with_space = IsLine-append (codes " ") (level_text l ++ (codes ": " ++ words_text w hint)) (IsLine-plain (codes " ") refl) with_level in
    IsLine-append (line_place path place) (codes " " ++ (level_text l ++ (codes ": " ++ words_text w hint))) at with_space

-- Line feeds.

abbrev pub feeds : List ℕ → ℕ
feeds bytes = count_by (λ byte. byte == 10) bytes

pub feeds-append : (xs ys : List ℕ) → feeds (xs ++ ys) ≡ feeds xs + feeds ys
feeds-append xs ys = sum_by-append (λ byte. if byte == 10 then 1 else 0) xs ys

feeds_char : (c : ℕ) → not (is_control c) ≡ true → feeds (encode c) ≡ 0
unfolding encode
feeds_char c p = grind (arith, nat_tests)

feeds_chars : (cs : List ℕ) → list_all (λ c. not (is_control c)) cs ≡ true → feeds (encodes cs) ≡ 0
feeds_chars [] p = refl
feeds_chars (c ∷ cs) p =
    let one = feeds_char c (and_parts (not (is_control c)) (list_all (λ c. not (is_control c)) cs) p).0 in
    let more = feeds_chars cs (and_parts (not (is_control c)) (list_all (λ c. not (is_control c)) cs) p).1 in
    rw (feeds-append (encode c) (encodes cs), one, more) refl

feeds_line : (line : List ℕ) → IsLine line → feeds line ≡ 0
feeds_line line is = rw (encodes-chars line is.utf8) at (feeds_chars (chars line) is.printable)

-- The lines of all findings.

feeds_line_in : (f : Format) (line : List ℕ) → IsLineIn f line → feeds line ≡ 0
feeds_line_in format.Full line is = feeds_line line is
feeds_line_in format.Coloured line is = feeds_line line is
feeds_line_in format.Line line is = feeds_line line is
feeds_line_in format.Json line is = is
feeds_line_in format.Github line is = feeds_line line is

record IsOneLine (f : Format) (one : List ℕ) : Type 0 where
  line : List ℕ
  is_line : IsLineIn f line
  is : one ≡ line ++ codes "\n"

one_line : (f : Format) (path text : List ℕ) (v : FindingView) (one : List ℕ) → is_one_line f ≡ true → IsPrinted f path text v one → IsOneLine f one
one_line format.Full path text v one p is = absurd cc
one_line format.Coloured path text v one p is = absurd cc
one_line format.Line path text v one p (line, is, made) = record { line = line; is_line = is.is_line; is = made }
one_line format.Json path text v one p (line, is, made) = record { line = line; is_line = is.no_feed; is = made }
one_line format.Github path text v one p (line, is, made) = record { line = line; is_line = is.is_line; is = made }

pub whole : (format : Format) (path text : List ℕ) (findings : List FindingView) (out : List ℕ) → is_one_line format ≡ true
    → ArePrinted format path text findings out → AreWholeLines format (length findings) out
whole format path text [] out p is = record {
  lines = [];
  are_lines = All-nil (IsLineIn format);
  as_many = refl;
  text_is = is;
  feeds = rw is refl;
}
whole format path text (f ∷ fs) out p (one, rest, is, are, joined) =
    let more = whole format path text fs rest p are in
    let this = one_line format path text f one p is in
    let both : out ≡ this.line ++ codes "\n" ++ rest = joined ∙ ap (λ x. x ++ rest) this.is in
    record {
      lines = this.line ∷ more.lines;
      are_lines = All-cons (IsLineIn format) this.line more.lines this.is_line more.are_lines;
      as_many = ap suc more.as_many;
      text_is = both ∙ ap (λ x. this.line ++ codes "\n" ++ x) more.text_is;
      feeds =
          let all : feeds out ≡ feeds (this.line ++ codes "\n" ++ rest) = ap feeds both in
          let nl : feeds (codes "\n") ≡ 1 = refl in
          omega (arith, all, feeds-append (this.line ++ codes "\n") rest, feeds-append this.line (codes "\n"), feeds_line_in format this.line this.is_line, nl, more.feeds);
    }

-- What a call gives if it isn't out of memory.

pub if_ok : {A E : Type 0} {P Q : A → Type 0} (r : Result A E) → IfOk r P → ((a : A) → P a → Q a) → IfOk r Q
if_ok (Ok a) p f = f a p
if_ok (Err e) p f = tt

pub always : {A E P : Type 0} (r : Result A E) → P → OnOk r P
always (Ok a) p = p
always (Err e) p = tt

pub on : {A E P Q : Type 0} (r : Result A E) → OnOk r P → (P → Q) → OnOk r Q
on (Ok a) p f = f p
on (Err e) p f = tt

pub both_on : {A E P Q R : Type 0} (r : Result A E) → OnOk r P → OnOk r Q → (P → Q → R) → OnOk r R
both_on (Ok a) p q f = f p q
both_on (Err e) p q f = tt
