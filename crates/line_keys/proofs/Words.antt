-- The words of keys on a line.
use Rattle.std.proofs.Common.{◌≡◌, ℕ, ◌+◌, ◌-◌, ◌%◌, ◌<◌, arith, refl, ap, ◌∙◌, Bool, true, false, List, [], ◌∷◌, ◌++◌, ◌||◌, nat_lt, nat_le}
use Rattle.std.specs.Prelude.{◌==◌, not}
use Rattle.std.proofs.lemmas.Bool.Decides.{nat_tests}
use Rattle.page_ids.specs.declared.key.Key.{Key}
use Rattle.page_ids.specs.declared.key.Key.TheVariants.{Route, Next, Prev, Reprint, Update}
use Rattle.page_ids.specs.Keys.{IsKey, AreKeys, key_word, keys_text}
use Rattle.line_keys.specs.declared.heard.Heard.{Heard}
use Rattle.line_keys.specs.declared.heard.Heard.TheVariants.{Nothing, Changed, Pressed, Page, End}
use Rattle.line_keys.specs.declared.telnet.Telnet.TheVariants.{Plain}
use Rattle.line_keys.specs.Stream.{is_typed}
use Rattle.line_keys.specs.Heard.{typed, HearingView, quiet, with_command, heard_if, hear, hearing_after, and_key, keys_heard}
use Rattle.line_keys.specs.Laws.{WordsAreHeard}

-- a digit as the first byte
typed_digit : (d : ℕ) → d < 10 → typed [] (48 + d) ≡ ([], Pressed (Route d))
typed_digit d lt =
    let not_hash : (48 + d == 35 || 48 + d == 95) ≡ false = grind (arith, nat_tests) in
    let not_star : (48 + d == 42) ≡ false = grind (arith, nat_tests) in
    let from : nat_le 48 (48 + d) ≡ true = grind (arith, nat_tests) in
    let to : nat_lt (48 + d) 58 ≡ true = grind (arith, nat_tests) in
    let same : 48 + d - 48 ≡ d = omega arith in
    rw (not_hash, not_star, from, to) (ap (λ (n : ℕ). (let t : List ℕ × Heard = ([], Pressed (Route n)) in t)) same)

hear_digit : (d : ℕ) → d < 10 → hear quiet (48 + d) ≡ (quiet, Pressed (Route d))
hear_digit d lt =
    let not_mark : (48 + d == 255) ≡ false = grind (arith, nat_tests) in
    let own : is_typed Plain (48 + d) ≡ true = ap not not_mark in
    let low : (48 + d) % 128 ≡ 48 + d = omega arith in
    ap (λ (is : Bool). heard_if is quiet (48 + d)) own
    ∙ (ap (λ (n : ℕ). with_command quiet (typed [] n)) low ∙ ap (with_command quiet) (typed_digit d lt))

-- one word
word_heard : (key : Key) (rest : List ℕ) → IsKey key → keys_heard quiet (key_word key ++ rest) ≡ key ∷ keys_heard quiet rest
word_heard (Route d) rest lt = ap (λ (o : HearingView × Heard). and_key o.1 (keys_heard o.0 rest)) (hear_digit d lt)
word_heard Next rest k = refl
word_heard Prev rest k = refl
word_heard Reprint rest k = refl
word_heard Update rest k = refl

word_ended : (key : Key) (rest : List ℕ) → IsKey key → hearing_after quiet (key_word key ++ rest) ≡ hearing_after quiet rest
word_ended (Route d) rest lt = ap (λ (o : HearingView × Heard). hearing_after o.0 rest) (hear_digit d lt)
word_ended Next rest k = refl
word_ended Prev rest k = refl
word_ended Reprint rest k = refl
word_ended Update rest k = refl

words : (keys : List Key) → AreKeys keys → keys_heard quiet (keys_text keys) ≡ keys
words [] all = refl
words (key ∷ keys) all = word_heard key (keys_text keys) all.0 ∙ ap (λ (ks : List Key). key ∷ ks) (words keys all.1)

ended : (keys : List Key) → AreKeys keys → hearing_after quiet (keys_text keys) ≡ quiet
ended [] all = refl
ended (key ∷ keys) all = word_ended key (keys_text keys) all.0 ∙ ended keys all.1

-- Bytes in turn.

and_append : (o : Heard) (xs ys : List Key) → and_key o (xs ++ ys) ≡ and_key o xs ++ ys
and_append (Pressed key) xs ys = refl
and_append Nothing xs ys = refl
and_append Changed xs ys = refl
and_append Page xs ys = refl
and_append End xs ys = refl

pub keys_in_turn : (h : HearingView) (xs ys : List ℕ) → keys_heard h (xs ++ ys) ≡ keys_heard h xs ++ keys_heard (hearing_after h xs) ys
keys_in_turn h [] ys = refl
keys_in_turn h (b ∷ bs) ys =
    let o = hear h b in
    ap (and_key o.1) (keys_in_turn o.0 bs ys) ∙ and_append o.1 (keys_heard o.0 bs) (keys_heard (hearing_after o.0 bs) ys)

pub after_in_turn : (h : HearingView) (xs ys : List ℕ) → hearing_after h (xs ++ ys) ≡ hearing_after (hearing_after h xs) ys
after_in_turn h [] ys = refl
after_in_turn h (b ∷ bs) ys = after_in_turn (hear h b).0 bs ys

pub words_are_heard : WordsAreHeard
words_are_heard = record { words = words; ended = ended; keys_in_turn = keys_in_turn; after_in_turn = after_in_turn }
