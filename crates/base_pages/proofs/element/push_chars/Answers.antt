use Rattle.std.proofs.Common.{◌≡◌, ◌∙◌, ◌++◌, ◌∷◌, [], ℕ, List, ap, append-nil, append_assoc, chars, length, arith}
use Rattle.std.specs.Str.Iter.{chars_rest}
use Rattle.std.proofs.lemmas.Str.{IsUtf8-past_char, chars_past_char, chars-nil}
use Rattle.screens.specs.declared.writing.Writing.TheVariants.{Markup}
use Rattle.screens.specs.Writing.{written, reference}
use Rattle.base_pages.proofs.element.push_chars.Goals as goal

empty : (bs : List ℕ) → length bs ≡ 0 → chars bs ≡ []
empty [] e = chars-nil
empty (b ∷ bs) e = absurd (omega (arith, e))

more : (out now whole rest : List ℕ) (c : ℕ) → now ≡ out ++ reference c → out ++ written Markup (c ∷ rest) ≡ whole → now ++ written Markup rest ≡ whole
more out now whole rest c is held =
    ap (λ (xs : List ℕ). xs ++ written Markup rest) is ∙ append_assoc out (reference c) (written Markup rest) ∙ held

pub loop-c-preserved : goal.loop-c-preserved
loop-c-preserved c =
    let held = c.loop-c.invariant in
    let parts = c.in-Some.ensures.steps.0 in
    let step = chars_past_char _ _ c.in-Some.c held.utf8 parts in
    record {
      utf8 = IsUtf8-past_char _ _ c.in-Some.c held.utf8 parts;
      so_far = more _ _ _ (chars (chars_rest c.next.new.self)) c.in-Some.c c.in_ok-push_char.ensures (rw step at held.so_far);
    }

pub returns : goal.returns
returns c =
    let held = c.loop-c.invariant in
    let done = empty _ c.in-None.ensures.steps.0.0 in
    rw (done, append-nil) at held.so_far
