-- Texts of keys are read in one way.
use Rattle.std.proofs.Common.{◌≡◌, ℕ, ◌+◌, ◌-◌, ◌<◌, ◌≤◌, ◌&&◌, Bool, true, false, List, [], ◌∷◌, ◌++◌, length, take, drop, Option, Some, None, Result, Ok, Err, refl, sym, ap, ◌∙◌, arith, subst, cond, ltb, eqb, append_assoc, length-append, length-drop, ◌⊎◌, inl, inr}
use Rattle.std.proofs.lemmas.Bool.Decides.{nat_tests}
use Rattle.std.proofs.lemmas.List.{take_all, append_cancel_left, take-append-drop, append-nil, length-take-le}
use Rattle.std.proofs.Math.Seq.{take-add, take-append_seam}
use Rattle.page_ids.specs.declared.fault.IdFault.{IdFault}
use Rattle.page_ids.specs.declared.fault.IdFault.TheVariants.{BadPage, BadFrame, BadKey, Memory}
use Rattle.page_ids.specs.declared.key.Key.{Key}
use Rattle.page_ids.specs.declared.key.Key.TheVariants.{Route, Next, Prev, Reprint, Update}
use Rattle.page_ids.specs.Keys.{key_word, keys_text, IsKey, AreKeys, IsUnreadableAt, AreKeysRead}
use Rattle.page_ids.specs.Loops.{key_read_at, key_past_star, key_past_zero}

digit_word : (d : ℕ) (rest : List ℕ) → d < 10 → key_read_at ((48 + d) ∷ rest) ≡ Some (Route d)
digit_word d rest small =
    let hash : eqb (48 + d) 35 ≡ false = grind (arith, nat_tests) in
    let star : eqb (48 + d) 42 ≡ false = grind (arith, nat_tests) in
    let low : ltb 47 (48 + d) ≡ true = grind (arith, nat_tests) in
    let high : ltb (48 + d) 58 ≡ true = grind (arith, nat_tests) in
    let value : 48 + d - 48 ≡ d = omega arith in
    rw (hash, star, low, high, value) refl

-- a key is read from its word, whatever follows
pub word_read : (key : Key) (rest : List ℕ) → IsKey key → key_read_at (key_word key ++ rest) ≡ Some key
word_read (Route d) rest is = digit_word d rest is
word_read Next rest is = refl
word_read Prev rest is = refl
word_read Reprint rest is = refl
word_read Update rest is = refl

cancel : (xs ys zs : List ℕ) → xs ++ ys ≡ xs ++ zs → ys ≡ zs
cancel xs ys zs e = append_cancel_left xs ys zs e

pub no_prefix : (a b : Key) (rest more : List ℕ) → IsKey a → IsKey b → key_word a ++ rest ≡ key_word b ++ more → (a ≡ b) × (rest ≡ more)
no_prefix a b rest more is_a is_b e =
    let read : Some a ≡ Some b = sym (word_read a rest is_a) ∙ ap key_read_at e ∙ word_read b more is_b in
    let same : a ≡ b = cc in
    (same, cancel (key_word b) rest more (ap (λ (k : Key). key_word k ++ rest) (sym same) ∙ e))

some_word : (key : Key) (rest : List ℕ) → [] ≡ key_word key ++ rest → ⊥
some_word (Route d) rest h = cc
some_word Next rest h = cc
some_word Prev rest h = cc
some_word Reprint rest h = cc
some_word Update rest h = cc

-- a text of keys that begins with the text of keys goes on with keys
pub goes_on : (keys all : List Key) (rest : List ℕ) → AreKeys keys → AreKeys all → keys_text all ≡ keys_text keys ++ rest → (more : List Key) × AreKeys more × (all ≡ keys ++ more) × (rest ≡ keys_text more)
goes_on [] all rest are are_all h = (all, are_all, refl, sym h)
goes_on (key ∷ keys) [] rest are are_all h = absurd (some_word key (keys_text keys ++ rest) (h ∙ append_assoc (key_word key) (keys_text keys) rest))
goes_on (key ∷ keys) (k ∷ all) rest are are_all h =
    let s = no_prefix k key (keys_text all) (keys_text keys ++ rest) are_all.0 are.0 (h ∙ append_assoc (key_word key) (keys_text keys) rest) in
    let g = goes_on keys all rest are.1 are_all.1 s.1 in
    let first = s.0 in
    let others = g.2 in
    (g.0, g.1, cc, g.3)

pub one_list : (keys others : List Key) → AreKeys keys → AreKeys others → keys_text keys ≡ keys_text others → keys ≡ others
one_list [] [] are are_o h = refl
one_list [] (k ∷ others) are are_o h = absurd (some_word k (keys_text others) h)
one_list (key ∷ keys) [] are are_o h = absurd (some_word key (keys_text keys) (sym h))
one_list (key ∷ keys) (k ∷ others) are are_o h =
    let s = no_prefix key k (keys_text keys) (keys_text others) are.0 are_o.0 h in
    let first = s.0 in
    let same = one_list keys others are.1 are_o.1 s.1 in
    cc

-- which way a test went
pub chosen : {A : Type 0} (b : Bool) (x y z : A) → cond b x y ≡ z → ((b ≡ true) × (x ≡ z)) ⊎ ((b ≡ false) × (y ≡ z))
chosen true x y z e = inl (refl, e)
chosen false x y z e = inr (refl, e)

is : (a b : ℕ) → eqb a b ≡ true → a ≡ b
is a b h = grind (arith, nat_tests)

-- the bytes begin with the key's word
abbrev Begins : List ℕ → Key → Type 0
Begins bytes key = IsKey key × (more : List ℕ) × (bytes ≡ key_word key ++ more)

abbrev some_key : Key → Option Key
some_key key = Some key

same_key : (a b : Key) → some_key a ≡ some_key b → a ≡ b
same_key a b e = cc

past_zero : (bytes : List ℕ) (key : Key) → key_past_zero bytes ≡ Some key → Begins (42 ∷ 48 ∷ bytes) key
past_zero [] key e = absurd cc
past_zero (c ∷ cs) key e =
    elim (chosen (eqb c 48) (some_key Reprint) (cond (eqb c 57) (some_key Update) None) (Some key) e) [
      | inl h ↦ let byte = is c 48 h.0 in subst (Begins (42 ∷ 48 ∷ c ∷ cs)) (same_key Reprint key h.1) (tt, cs, cc)
      | inr h ↦ elim (chosen (eqb c 57) (some_key Update) None (Some key) h.1) [
        | inl k ↦ let byte = is c 57 k.0 in subst (Begins (42 ∷ 48 ∷ c ∷ cs)) (same_key Update key k.1) (tt, cs, cc)
        | inr k ↦ let none = k.1 in absurd cc
      ]
    ]

past_star : (bytes : List ℕ) (key : Key) → key_past_star bytes ≡ Some key → Begins (42 ∷ bytes) key
past_star [] key e = absurd cc
past_star (b ∷ bs) key e =
    elim (chosen (eqb b 35) (some_key Prev) (cond (eqb b 48) (key_past_zero bs) None) (Some key) e) [
      | inl h ↦ let byte = is b 35 h.0 in subst (Begins (42 ∷ b ∷ bs)) (same_key Prev key h.1) (tt, bs, cc)
      | inr h ↦ elim (chosen (eqb b 48) (key_past_zero bs) None (Some key) h.1) [
        | inl k ↦ let byte = is b 48 k.0 in subst (λ (x : ℕ). Begins (42 ∷ x ∷ bs) key) (sym byte) (past_zero bs key k.1)
        | inr k ↦ let none = k.1 in absurd cc
      ]
    ]

digit_begins : (a : ℕ) (more : List ℕ) → (ltb 47 a && ltb a 58) ≡ true → Begins (a ∷ more) (Route (a - 48))
digit_begins a more h =
    let low : 48 ≤ a = grind (arith, nat_tests) in
    let high : a < 58 = grind (arith, nat_tests) in
    let byte : a ≡ 48 + (a - 48) = omega arith in
    (omega arith, more, ap (λ (x : ℕ). x ∷ more) byte)

-- what is read as a key begins with its word
pub word_found : (bytes : List ℕ) (key : Key) → key_read_at bytes ≡ Some key → Begins bytes key
word_found [] key e = absurd cc
word_found (a ∷ more) key e =
    elim (chosen (eqb a 35) (some_key Next) (cond (eqb a 42) (key_past_star more) (cond (ltb 47 a && ltb a 58) (some_key (Route (a - 48))) None)) (Some key) e) [
      | inl h ↦ let byte = is a 35 h.0 in subst (Begins (a ∷ more)) (same_key Next key h.1) (tt, more, cc)
      | inr h ↦ elim (chosen (eqb a 42) (key_past_star more) (cond (ltb 47 a && ltb a 58) (some_key (Route (a - 48))) None) (Some key) h.1) [
        | inl k ↦ let byte = is a 42 k.0 in subst (λ (x : ℕ). Begins (x ∷ more) key) (sym byte) (past_star more key k.1)
        | inr k ↦ elim (chosen (ltb 47 a && ltb a 58) (some_key (Route (a - 48))) None (Some key) k.1) [
          | inl d ↦ subst (Begins (a ∷ more)) (same_key (Route (a - 48)) key d.1) (digit_begins a more d.0)
          | inr d ↦ let none = d.1 in absurd cc
        ]
      ]
    ]

text_more : (keys : List Key) (key : Key) → keys_text (keys ++ key ∷ []) ≡ keys_text keys ++ key_word key
text_more [] key = append-nil (key_word key)
text_more (k ∷ keys) key = ap (λ (t : List ℕ). key_word k ++ t) (text_more keys key) ∙ sym (append_assoc (key_word k) (keys_text keys) (key_word key))

are_more : (keys : List Key) (key : Key) → AreKeys keys → IsKey key → AreKeys (keys ++ key ∷ [])
are_more [] key are is_key = (is_key, tt)
are_more (k ∷ keys) key are is_key = (are.0, are_more keys key are.1 is_key)

-- the keys so far, and what they spell
pub record HasRead (text : List ℕ) (at : ℕ) (keys : List Key) : Type 0 where
  pub within : at ≤ length text
  pub are : AreKeys keys
  pub spelled : take at text ≡ keys_text keys

pub next_word : (text : List ℕ) (at : ℕ) (keys : List Key) (key : Key) → HasRead text at keys → key_read_at (drop at text) ≡ Some key → HasRead text (at + length (key_word key)) (keys ++ key ∷ [])
next_word text at keys key h e =
    let w = word_found (drop at text) key e in
    let len : length (drop at text) ≡ length (key_word key) + length w.1 = ap length w.2 ∙ length-append (key_word key) w.1 in
    let word : take (length (key_word key)) (drop at text) ≡ key_word key = ap (take (length (key_word key))) w.2 ∙ take-append_seam (key_word key) w.1 in
    let front : take at text ≡ keys_text keys = h.spelled in
    let le : at ≤ length text = h.within in
    record {
      within = omega (arith, len, length-drop at text, le);
      are = are_more keys key h.are w.0;
      spelled = take-add at (length (key_word key)) text ∙ ap (λ (t : List ℕ). t ++ take (length (key_word key)) (drop at text)) front ∙ ap (λ (t : List ℕ). keys_text keys ++ t) word ∙ sym (text_more keys key);
    }

no_more : (text : List ℕ) (at m : ℕ) (more : List Key) → at < m → m ≤ length text → AreKeys more → key_read_at (drop at text) ≡ None → take (m - at) (drop at text) ≡ keys_text more → ⊥
no_more text at m [] lt le are none e =
    let zero : length (take (m - at) (drop at text)) ≡ 0 = ap length e in
    let room : m - at ≤ length (drop at text) = omega (arith, length-drop at text) in
    omega (arith, zero, length-take-le (m - at) (drop at text) room)
no_more text at m (k ∷ more) lt le are none e =
    let rest : List ℕ = drop (m - at) (drop at text) in
    let whole : drop at text ≡ key_word k ++ (keys_text more ++ rest) = sym (take-append-drop (m - at) (drop at text)) ∙ ap (λ (t : List ℕ). t ++ rest) e ∙ append_assoc (key_word k) (keys_text more) rest in
    let some : Some k ≡ None = sym (word_read k (keys_text more ++ rest) are.0) ∙ sym (ap key_read_at whole) ∙ none in
    cc

longer : (text : List ℕ) (at m : ℕ) (keys all : List Key) → at < m → m ≤ length text → HasRead text at keys → key_read_at (drop at text) ≡ None → AreKeys all → take m text ≡ keys_text all → ⊥
longer text at m keys all lt le h none are e =
    let sum : at + (m - at) ≡ m = omega arith in
    let front : take at text ≡ keys_text keys = h.spelled in
    let split : take m text ≡ take at text ++ take (m - at) (drop at text) = ap (λ (n : ℕ). take n text) (sym sum) ∙ take-add at (m - at) text in
    let g = goes_on keys all (take (m - at) (drop at text)) h.are are (sym e ∙ split ∙ ap (λ (t : List ℕ). t ++ take (m - at) (drop at text)) front) in
    no_more text at m g.0 lt le g.1 none g.3

pub unreadable : (text : List ℕ) (at : ℕ) (keys : List Key) → at < length text → HasRead text at keys → key_read_at (drop at text) ≡ None → IsUnreadableAt text at
unreadable text at keys lt h none = record {
  within = lt;
  readable = (keys, h.are, h.spelled);
  longest = λ m le r. let no : at < m → ⊥ = λ large. longer text at m keys r.0 large le h none r.1 r.2 in omega arith;
}

-- the text of keys is read as these, unless memory is refused
pub read_again : (keys : List Key) (read : Result (List Key) IdFault) → AreKeys keys → AreKeysRead (keys_text keys) read → (read ≡ Ok keys) ⊎ (read ≡ Err Memory)
read_again keys (Ok others) are h = let same = one_list others keys h.0 are (sym h.1) in inl (ap (λ (k : List Key). Ok k) same)
read_again keys (Err BadPage) are h = absurd h
read_again keys (Err BadFrame) are h = absurd h
read_again keys (Err (BadKey n)) are h =
    let all : take (length (keys_text keys)) (keys_text keys) ≡ keys_text keys = take_all (length (keys_text keys)) (keys_text keys) (omega arith) in
    let most = h.longest (length (keys_text keys)) (omega arith) (keys, are, all) in
    let within = h.within in
    absurd (omega arith)
read_again keys (Err Memory) are h = inr refl
