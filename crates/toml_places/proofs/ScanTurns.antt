-- A scan, a byte at a time.
use Rattle.std.proofs.Common.{◌≡◌, ℕ, ◌+◌, ◌<◌, ◌≤◌, Bool, true, false, cond, ◌||◌, List, [], ◌∷◌, ◌++◌, length, length-take, take, get_or, refl, ap, ◌∙◌, inl, inr, arith, add-one, zero-add}
use Rattle.std.proofs.Math.Seq.{take-suc}
use Rattle.std.proofs.lemmas.Bool.{cases_Bool}
use Rattle.std.specs.List.{count_by, list_any}
use Rattle.std.proofs.lemmas.List.Folds.{list_any-append}
use Rattle.std.proofs.lemmas.List.Sums.{count_by-le-length, sum_by-append}
use Rattle.toml_places.specs.Skips.{is_feed, last_line, line_after, column_after, place_at}
use Rattle.toml_places.specs.Strings.{starts_char}

count_by-one : (p : ℕ → Bool) (xs : List ℕ) (x : ℕ) → count_by p (xs ++ x ∷ []) ≡ count_by p xs + cond (p x) 1 0
count_by-one p xs x = sum_by-append (λ y. cond (p y) 1 0) xs (x ∷ []) ∙ ap (λ n. count_by p xs + n) (zero-add (cond (p x) 1 0))

or-false : (b : Bool) → (b || false) ≡ b
or-false true = refl
or-false false = refl

or-true : (b c : Bool) → c ≡ true → (b || c) ≡ true
or-true true c h = refl
or-true false c h = h

last_line-feed : (xs : List ℕ) (x : ℕ) → is_feed x ≡ true → last_line (xs ++ x ∷ []) ≡ []
last_line-feed [] x h = rw h refl
last_line-feed (y ∷ ys) x h =
    let last : list_any is_feed (x ∷ []) ≡ true = rw h refl in
    let some : list_any is_feed (ys ++ x ∷ []) ≡ true = list_any-append is_feed ys (x ∷ []) ∙ or-true (list_any is_feed ys) (list_any is_feed (x ∷ [])) last in
    rw (or-true (is_feed y) (list_any is_feed (ys ++ x ∷ [])) some) (last_line-feed ys x h)

last_line-more : (xs : List ℕ) (x : ℕ) → is_feed x ≡ false → last_line (xs ++ x ∷ []) ≡ last_line xs ++ x ∷ []
last_line-more [] x h = rw h refl
last_line-more (y ∷ ys) x h =
    let last : list_any is_feed (x ∷ []) ≡ false = rw h refl in
    let same : list_any is_feed (ys ++ x ∷ []) ≡ list_any is_feed ys =
    list_any-append is_feed ys (x ∷ []) ∙ ap (λ b. list_any is_feed ys || b) last ∙ or-false (list_any is_feed ys) in
    rw same (
    elim (cases_Bool (is_feed y || list_any is_feed ys)) [
      | inl here ↦ rw here (last_line-more ys x h)
      | inr other ↦ rw other refl
    ])

length-last_line : (xs : List ℕ) → length (last_line xs) ≤ length xs
length-last_line [] = omega arith
length-last_line (y ∷ ys) =
    let rest = length-last_line ys in
    elim (cases_Bool (is_feed y || list_any is_feed ys)) [
      | inl here ↦ rw here (omega arith)
      | inr other ↦ rw other (omega arith)
    ]

take_one : (text : List ℕ) (i : ℕ) → i < length text → take (i + 1) text ≡ take i text ++ get_or text i 0 ∷ []
take_one text i h = rw add-one (take-suc text i 0 h)

-- the numbers of line and column are at most one more than that of the bytes
pub line_within : (before : List ℕ) → line_after before ≤ length before + 1
unfolding line_after
line_within before = omega (arith, count_by-le-length is_feed before)

pub column_within : (before : List ℕ) → column_after before ≤ length before + 1
unfolding column_after
column_within before = omega (arith, count_by-le-length starts_char (last_line before), length-last_line before)

module _ (text : List ℕ) (i : ℕ) (room : i < length text) where
  pub line_feed : is_feed (get_or text i 0) ≡ true → line_after (take (i + 1) text) ≡ line_after (take i text) + 1
  unfolding line_after
  line_feed h = rw (take_one text i room, count_by-one is_feed (take i text) (get_or text i 0), h) refl

  pub column_feed : is_feed (get_or text i 0) ≡ true → column_after (take (i + 1) text) ≡ 1
  unfolding column_after
  column_feed h = rw (take_one text i room, last_line-feed (take i text) (get_or text i 0) h) refl

  pub line_other : is_feed (get_or text i 0) ≡ false → line_after (take (i + 1) text) ≡ line_after (take i text)
  unfolding line_after
  line_other h = rw (take_one text i room, count_by-one is_feed (take i text) (get_or text i 0), h) (omega arith)

  column_more : is_feed (get_or text i 0) ≡ false → column_after (take (i + 1) text) ≡ column_after (take i text) + cond (starts_char (get_or text i 0)) 1 0
  unfolding column_after
  column_more h = rw (take_one text i room, last_line-more (take i text) (get_or text i 0) h, count_by-one starts_char (last_line (take i text)) (get_or text i 0)) (omega arith)

  pub column_char : is_feed (get_or text i 0) ≡ false → starts_char (get_or text i 0) ≡ true → column_after (take (i + 1) text) ≡ column_after (take i text) + 1
  column_char h char = column_more h ∙ rw char refl

  pub column_same : is_feed (get_or text i 0) ≡ false → starts_char (get_or text i 0) ≡ false → column_after (take (i + 1) text) ≡ column_after (take i text)
  column_same h char = column_more h ∙ rw char (omega arith)

pub place_begins : (text : List ℕ) → (1, 1) ≡ place_at text 0
unfolding line_after column_after
place_begins text = refl

pub column_at : (text : List ℕ) (offset : ℕ) → column_after (take offset text) ≤ length text + 1
column_at text offset = omega (arith, column_within (take offset text), length-take offset text)
