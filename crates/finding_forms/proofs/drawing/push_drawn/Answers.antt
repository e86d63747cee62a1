use Rattle.std.proofs.Common.{append-nil, chars}
use Rattle.std.specs.Str.Iter.{chars_rest}
use Rattle.std.proofs.lemmas.Str.{IsUtf8-past_char, chars_past_char}
use Rattle.finding_forms.specs.FullForm.{drawn_char}
use Rattle.finding_forms.proofs.Marks.{empty, one_written}
use Rattle.finding_forms.proofs.drawing.push_drawn.Goals as goal

pub chars-preserved : goal.chars-preserved
chars-preserved c =
    let held = c.chars.invariant in
    let parts = c.in-Some.ensures.steps.0 in
    let step = chars_past_char _ _ c.in-Some.c held.utf8 parts in
    record {
      utf8 = IsUtf8-past_char _ _ c.in-Some.c held.utf8 parts;
      so_far = one_written (drawn_char c.args.drawing) _ _ _ (chars (chars_rest c.next.new.self)) c.in-Some.c c.in_ok-push_drawn_char.ensures (rw step at held.so_far);
    }

pub returns : goal.returns
returns c =
    let held = c.chars.invariant in
    let done = empty _ c.in-None.ensures.steps.0.0 in
    rw (done, append-nil) at held.so_far
