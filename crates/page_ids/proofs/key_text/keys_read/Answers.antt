use Rattle.std.proofs.Common.{◌≡◌, ◌-◌, ◌+◌, ◌++◌, List, [], ◌∷◌, ℕ, length, drop, take, arith, Some, None, sym, ◌∙◌, ap, subst, length-drop}
use Rattle.std.proofs.lemmas.List.{take_all}
use Rattle.std.proofs.lemmas.Grind.{common_steps}
use Rattle.page_ids.specs.declared.key.Key.{Key}
use Rattle.page_ids.specs.Keys.{key_word, IsUnreadableAt}
use Rattle.page_ids.specs.Loops.{key_read_at}
use Rattle.page_ids.proofs.KeyTexts.{HasRead, unreadable, next_word}
use Rattle.page_ids.proofs.key_text.keys_read.Goals as goal

-- the slice from a place on is what is left
rest : (bytes : List ℕ) (at : ℕ) → take (length bytes - at) (drop at bytes) ≡ drop at bytes
rest bytes at = take_all (length bytes - at) (drop at bytes) (omega (arith, length-drop at bytes))

pub returns-in_default : goal.returns-in_default
returns-in_default c =
    let bytes = c.as_bytes-bytes.result.now in
    let none : key_read_at (drop c.loop-at.at bytes) ≡ None = ap key_read_at (sym (rest bytes c.loop-at.at)) ∙ sym c.key_at.ensures ∙ c.in_default.is in
    subst (λ (text : List ℕ). IsUnreadableAt text c.loop-at.at) c.as_bytes-bytes.ensures.value
    (unreadable bytes c.loop-at.at c.loop-at.keys.items c.loop-at-test.true c.loop-at.invariant none)

pub loop-at-preserved : goal.loop-at-preserved
loop-at-preserved c =
    let bytes = c.as_bytes-bytes.result.now in
    let key = c.in-Some.key in
    let some : key_read_at (drop c.loop-at.at bytes) ≡ Some key = ap key_read_at (sym (rest bytes c.loop-at.at)) ∙ sym c.in-Some.ensures in
    let next = next_word bytes c.loop-at.at c.loop-at.keys.items key c.loop-at.invariant some in
    let len : c.word_len-at.result ≡ length (key_word key) = c.word_len-at.ensures in
    let pushed : c.push.new.self.items ≡ c.loop-at.keys.items ++ key ∷ [] = grind (arith, common_steps) in
    subst (λ (keys : List Key). HasRead bytes (c.loop-at.at + c.word_len-at.result) keys) (sym pushed)
    (subst (λ (n : ℕ). HasRead bytes (c.loop-at.at + n) (c.loop-at.keys.items ++ key ∷ [])) (sym len) next)
