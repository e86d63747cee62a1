-- Characters in markup are harmless, and mean themselves.
use Rattle.std.proofs.Common.{◌≡◌, ℕ, ◌<◌, ◌≤◌, arith, refl, sym, ap, ◌∙◌, Bool, true, false, not, ◌&&◌, ◌||◌, List, [], ◌∷◌, ◌++◌, ◌==◌, nat_lt, None}
use Rattle.std.specs.List.{list_all}
use Rattle.std.specs.Char.{encode_utf8}
use Rattle.std.proofs.lemmas.Bool.{and_parts, cond_both, not-true}
use Rattle.std.proofs.lemmas.Bool.Decides.{nat_tests}
use Rattle.std.proofs.lemmas.List.Folds.{list_all-append}
use Rattle.std.proofs.lemmas.Str.{encode_ascii}
use Rattle.screens.specs.declared.writing.Writing.TheVariants.{Plain, Markup}
use Rattle.screens.specs.Writing.{reference, written}
use Rattle.screens.specs.Laws.{decoding, decoded, is_harmless, IsSafe}

pub all_append : (p : ℕ → Bool) (xs ys : List ℕ) → list_all p xs ≡ true → list_all p ys ≡ true → list_all p (xs ++ ys) ≡ true
all_append p xs ys h k = list_all-append p xs ys ∙ rw (h, k) refl

-- a test that all bytes from 128 on pass
abbrev PassesHigh : (ℕ → Bool) → Type 0
PassesHigh p = (b : ℕ) → 128 ≤ b → p b ≡ true

pair_all : (p : ℕ → Bool) (a b : ℕ) → p a ≡ true → p b ≡ true → list_all p (a ∷ b ∷ []) ≡ true
pair_all p a b h k = rw (h, k) refl

triple_all : (p : ℕ → Bool) (a b c : ℕ) → p a ≡ true → p b ≡ true → p c ≡ true → list_all p (a ∷ b ∷ c ∷ []) ≡ true
triple_all p a b c h k l = rw (h, k, l) refl

four_all : (p : ℕ → Bool) (a b c d : ℕ) → p a ≡ true → p b ≡ true → p c ≡ true → p d ≡ true → list_all p (a ∷ b ∷ c ∷ d ∷ []) ≡ true
four_all p a b c d h k l m = rw (h, k, l, m) refl

one_all : (p : ℕ → Bool) (a : ℕ) → p a ≡ true → list_all p (a ∷ []) ≡ true
one_all p a h = rw h refl

-- the bytes of a character pass if it passes itself and all high bytes do
encode_all : (p : ℕ → Bool) (c : ℕ) → PassesHigh p → p c ≡ true → list_all p (encode_utf8 c) ≡ true
unfolding encode_utf8
encode_all p c high own =
    cond_both (nat_lt c 128) _ _ (λ (bs : List ℕ). list_all p bs ≡ true) (λ e. one_all p c own)
    (λ e. cond_both (nat_lt c 2048) _ _ (λ (bs : List ℕ). list_all p bs ≡ true) (λ f. pair_all p _ _ (high _ (omega arith)) (high _ (omega arith)))
    (λ f. cond_both (nat_lt c 65536) _ _ (λ (bs : List ℕ). list_all p bs ≡ true) (λ g. triple_all p _ _ _ (high _ (omega arith)) (high _ (omega arith)) (high _ (omega arith)))
    (λ g. four_all p _ _ _ _ (high _ (omega arith)) (high _ (omega arith)) (high _ (omega arith)) (high _ (omega arith)))))

-- neither `<` nor `>`
abbrev pub is_inner : ℕ → Bool
is_inner b = not (b == 0x3C || b == 0x3E)

harmless_high : PassesHigh is_harmless
harmless_high b h =
    let a : (b == 0x3C) ≡ false = grind (arith, nat_tests) in
    let c : (b == 0x3E) ≡ false = grind (arith, nat_tests) in
    let d : (b == 0x22) ≡ false = grind (arith, nat_tests) in
    let e : (b == 0x27) ≡ false = grind (arith, nat_tests) in
    rw (a, c, d, e) refl

abbrev Harmless : List ℕ → Type 0
Harmless bs = list_all is_harmless bs ≡ true

harmless_reference : (c : ℕ) → Harmless (reference c)
harmless_reference c =
    cond_both (c == 0x3C) _ _ Harmless (λ e. refl)
    (λ a. cond_both (c == 0x3E) _ _ Harmless (λ e. refl)
    (λ b. cond_both (c == 0x26) _ _ Harmless (λ e. refl)
    (λ d. cond_both (c == 0x22) _ _ Harmless (λ e. refl)
    (λ f. cond_both (c == 0x27) _ _ Harmless (λ e. refl)
    (λ g. encode_all is_harmless c harmless_high (rw (a, b, f, g) refl))))))

pub harmless : (cs : List ℕ) → Harmless (written Markup cs)
harmless [] = refl
harmless (c ∷ cs) = all_append is_harmless (reference c) (written Markup cs) (harmless_reference c) (harmless cs)

-- Decoding.

abbrev is_text : ℕ → Bool
is_text b = not (b == 0x26)

text_high : PassesHigh is_text
text_high b h = let e : (b == 0x26) ≡ false = grind (arith, nat_tests) in rw e refl

pub first_of : (a b : Bool) → (not a && b) ≡ true → a ≡ false
first_of a b h = not-true a (and_parts (not a) b h).0

pub rest_of : (a b : Bool) → (not a && b) ≡ true → b ≡ true
rest_of a b h = (and_parts (not a) b h).1

skips : (bs rest : List ℕ) → list_all is_text bs ≡ true → decoding None (bs ++ rest) ≡ bs ++ decoding None rest
skips [] rest h = refl
skips (b ∷ bs) rest h =
    let here : (b == 0x26) ≡ false = first_of (b == 0x26) (list_all is_text bs) h in
    let later : list_all is_text bs ≡ true = rest_of (b == 0x26) (list_all is_text bs) h in
    rw here (ap (λ (x : List ℕ). b ∷ x) (skips bs rest later))

-- a reference is read as its character
abbrev ReadsAs : ℕ → List ℕ → List ℕ → Type 0
ReadsAs c rest bs = decoding None (bs ++ rest) ≡ encode_utf8 c ++ decoding None rest

is_ascii : (c : ℕ) (rest : List ℕ) → c < 128 → c ∷ decoding None rest ≡ encode_utf8 c ++ decoding None rest
is_ascii c rest lt = ap (λ (bs : List ℕ). bs ++ decoding None rest) (sym (encode_ascii c lt))

named : (c k : ℕ) (rest : List ℕ) → k < 128 → (c == k) ≡ true → k ∷ decoding None rest ≡ encode_utf8 c ++ decoding None rest
named c k rest lt e =
    let same : k ≡ c = grind (arith, nat_tests) in
    is_ascii k rest lt ∙ ap (λ (n : ℕ). encode_utf8 n ++ decoding None rest) same

reads_reference : (c : ℕ) (rest : List ℕ) → ReadsAs c rest (reference c)
reads_reference c rest =
    cond_both (c == 0x3C) _ _ (ReadsAs c rest) (λ e. named c 0x3C rest (omega arith) e)
    (λ a. cond_both (c == 0x3E) _ _ (ReadsAs c rest) (λ e. named c 0x3E rest (omega arith) e)
    (λ b. cond_both (c == 0x26) _ _ (ReadsAs c rest) (λ e. named c 0x26 rest (omega arith) e)
    (λ d. cond_both (c == 0x22) _ _ (ReadsAs c rest) (λ e. named c 0x22 rest (omega arith) e)
    (λ f. cond_both (c == 0x27) _ _ (ReadsAs c rest) (λ e. named c 0x27 rest (omega arith) e)
    (λ g. skips (encode_utf8 c) rest (encode_all is_text c text_high (rw d refl)))))))

decodes : (cs : List ℕ) → decoded (written Markup cs) ≡ written Plain cs
decodes [] = refl
decodes (c ∷ cs) = reads_reference c (written Markup cs) ∙ ap (λ (bs : List ℕ). encode_utf8 c ++ bs) (decodes cs)

pub characters_are_safe : (cs : List ℕ) → IsSafe cs
characters_are_safe cs = record { harmless = harmless cs; decodes = decodes cs }
