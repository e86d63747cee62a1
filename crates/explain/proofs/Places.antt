-- Places in a list of names.
use Rattle.std.proofs.Common.{◌≡◌, ℕ, ◌+◌, ◌<◌, List, [], ◌∷◌, length, get_or, arith, subst, Bool, true, false, nat_lt, refl, sym, ap, ◌∙◌}
use Rattle.std.proofs.lemmas.Bool.{and_parts, false≢true}
use Rattle.std.proofs.lemmas.Bool.Decides.{nat_tests}
use Rattle.std.specs.Borrow.{Bor}
use Rattle.std.proofs.lemmas.List.{get_or-map}
use Rattle.explain.specs.Words.{IsSame, IsAmong}
use Rattle.explain.specs.Loops.{texts_of}
use Rattle.explain.specs.declared.line.WordKind.{WordKind}
use Rattle.explain.specs.declared.line.WordKind.TheVariants.{Code, Capital, Any}
use Rattle.explain.specs.Lines.{is_code, is_capital, is_word_at, is_word, HasWord}

-- the text at a place is that of the text there
pub text_at : (names : List (Bor (List ℕ))) (place : ℕ) (d : Bor (List ℕ)) → place < length names → get_or (texts_of names) place [] ≡ (get_or names place d).now
text_at names place d below = get_or-map (λ text. text.now) names place d [] below

-- the word isn't the name at a place, if the text there isn't
pub not_at : (names : List (Bor (List ℕ))) (word : List ℕ) (place : ℕ) (d : Bor (List ℕ)) → place < length names →
    (IsSame (get_or names place d).now word → false ≡ true) → ¬ (IsSame (get_or (texts_of names) place []) word)
not_at names word place d below here same =
    let e : false ≡ true = here (subst (λ name. IsSame name word) (text_at names place d below) same) in grind arith

-- none below a place, and none there
pub none_more : (names : List (List ℕ)) (word : List ℕ) (place : ℕ) → ((j : ℕ) → j < place → ¬ (IsSame (get_or names j []) word)) →
    ¬ (IsSame (get_or names place []) word) → (j : ℕ) → j < place + 1 → ¬ (IsSame (get_or names j []) word)
none_more names word place before here j below = grind (arith, before, here)

-- a word among names is among names that are the same
pub is_among_same : (names others : List (List ℕ)) (word : List ℕ) → names ≡ others → IsAmong names word → IsAmong others word
is_among_same names others word same among = subst (λ (xs : List (List ℕ)). IsAmong xs word) same among

-- none below a place, and none there, of anything
pub none_yet : (P : ℕ → Type 0) (n : ℕ) → ((j : ℕ) → j < n → ¬ (P j)) → ¬ (P n) → (j : ℕ) → j < n + 1 → ¬ (P j)
none_yet P n before here j below = on (nat_lt j n) refl where
  on : (b : Bool) → nat_lt j n ≡ b → ¬ (P j)
  on true e = let lower : j < n = grind (arith, nat_tests, e) in before j lower
  on false e = let same : j ≡ n = grind (arith, nat_tests, e, below) in λ p. here (subst P same p)

-- the text at a place isn't a word there, if the name isn't
pub not_word : (names : List (Bor (List ℕ))) (sought : WordKind) (line : List ℕ) (at place : ℕ) (d : Bor (List ℕ)) → place < length names
    → is_word sought line at (get_or names place d).now ≡ false → ¬ (is_word sought line at (get_or (texts_of names) place []) ≡ true)
not_word names sought line at place d below differs e =
    false≢true (sym differs ∙ (ap (is_word sought line at) (sym (text_at names place d below)) ∙ e))

-- a code and a word with a capital letter are words
any_word : (sought : WordKind) (line : List ℕ) (at : ℕ) (name : List ℕ) → is_word sought line at name ≡ true → is_word Any line at name ≡ true
any_word Any line at name e = e
any_word Code line at [] e = absurd (false≢true e)
any_word Code line at (a ∷ []) e = absurd (false≢true e)
any_word Code line at (a ∷ b ∷ rest) e = (and_parts (is_code (a ∷ b ∷ rest)) (is_word_at line at (a ∷ b ∷ rest)) e).1
any_word Capital line at [] e = absurd (false≢true e)
any_word Capital line at (a ∷ []) e = absurd (false≢true e)
any_word Capital line at (a ∷ b ∷ rest) e = (and_parts (is_capital (a ∷ b ∷ rest)) (is_word_at line at (a ∷ b ∷ rest)) e).1

-- the same of other names and another line, which are the same
pub has_word : (sought : WordKind) (names others : List (List ℕ)) (bytes line : List ℕ) → names ≡ others → bytes ≡ line
    → HasWord sought names bytes → HasWord Any others line
has_word sought names others bytes line same is h =
    subst (λ (ns : List (List ℕ)). HasWord Any ns line) same
    (subst (λ (bs : List ℕ). HasWord Any names bs) is (h.0, h.1, (h.2.0, h.2.1, any_word sought bytes h.0 (get_or names h.2.0 []) h.2.2)))
