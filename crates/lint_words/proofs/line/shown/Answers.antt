use Rattle.std.proofs.Common.{append-nil, subst, sym, chars}
use Rattle.std.specs.Str.Iter.{chars_rest}
use Rattle.std.proofs.lemmas.Str.{IsUtf8-past_char, chars_past_char, scalars-chars}
use Rattle.base_text.proofs.CodePoints.{empty}
use Rattle.lint_words.proofs.Showing.{one_more, IsLine-shown}
use Rattle.lint_words.specs.Lines.{IsLine}
use Rattle.lint_words.proofs.line.shown.Goals as goal

pub loop-c-preserved : goal.loop-c-preserved
loop-c-preserved c =
    let held = c.loop-c.invariant in
    let parts = c.in-Some.ensures.steps.0 in
    let step = chars_past_char _ _ c.in-Some.c held.utf8 parts in
    record {
      utf8 = IsUtf8-past_char _ _ c.in-Some.c held.utf8 parts;
      so_far = one_more _ _ _ (chars (chars_rest c.next.new.self)) c.in-Some.c c.in_ok-push_shown.ensures (rw step at held.so_far);
    }

pub returns : goal.returns
returns c =
    let held = c.loop-c.invariant in
    let done = empty _ c.in-None.ensures.steps.0.0 in
    let shown = rw (done, append-nil) at held.so_far in
    record {
      shown = shown;
      line = subst IsLine (sym shown) (IsLine-shown (chars c.args.text.now) (scalars-chars c.args.text.now c.utf8.text));
    }
