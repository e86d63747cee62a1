use Rattle.std.proofs.Common.{append-nil}
use Rattle.std.proofs.lemmas.Str.{IsUtf8-past_char, chars_past_char}
use Rattle.base_text.proofs.CodePoints.{empty}
use Rattle.lint_words.proofs.Quotes.{one_more}
use Rattle.lint_words.proofs.pieces.push_beginning.Goals as goal

pub returns-then-left-eq0 : goal.returns-then-left-eq0
returns-then-left-eq0 c =
    let held = c.loop-c.invariant in
    let step = chars_past_char _ _ c.in-Some.c held.utf8 c.in-Some.ensures.steps.0 in
    let all = rw (step, c.if-left-eq0.true) at held.so_far in
    rw all at c.push_dots.ensures

pub loop-c-preserved : goal.loop-c-preserved
loop-c-preserved c =
    let held = c.loop-c.invariant in
    let parts = c.in-Some.ensures.steps.0 in
    let step = chars_past_char _ _ c.in-Some.c held.utf8 parts in
    record {
      utf8 = IsUtf8-past_char _ _ c.in-Some.c held.utf8 parts;
      so_far = one_more _ _ _ _ _ c.in-Some.c c.if-left-eq0.false c.in_ok-push_escaped.ensures (rw step at held.so_far);
    }

pub returns : goal.returns
returns c =
    let held = c.loop-c.invariant in
    let done = empty _ c.in-None.ensures.steps.0.0 in
    rw (done, append-nil) at held.so_far
