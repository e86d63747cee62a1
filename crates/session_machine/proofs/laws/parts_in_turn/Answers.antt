use Rattle.std.proofs.Common.{List, ◌++◌, sym, ap, ◌∙◌}
use Rattle.std.proofs.lemmas.List.{append-nil}
use Rattle.session_machine.specs.declared.reply.Reply.{Reply}
use Rattle.session_machine.specs.Runs.{state_after, replies_to}
use Rattle.session_machine.proofs.Runs.{state_in_turn, replies_in_turn, parts_state, parts_replies}
use Rattle.session_machine.proofs.laws.parts_in_turn.Goals as goal

pub returns : goal.returns
returns c = record {
  state = λ caller from parts more. parts_state caller parts from more;
  replies = λ caller from parts more. parts_replies caller parts from more;
  same = λ caller base from keys more. sym (state_in_turn caller base from keys more);
  same_replies = λ caller base from keys more.
      ap (λ (rest : List Reply). replies_to caller base from keys ++ rest) (append-nil (replies_to caller base (state_after caller base from keys) more))
      ∙ sym (replies_in_turn caller base from keys more);
}
