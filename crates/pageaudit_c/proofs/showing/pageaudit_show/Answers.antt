use Rattle.std.proofs.Common.{rules}
use Rattle.pageaudit_c.proofs.showing.pageaudit_show.Goals as goal

-- each buffer has what is shown of its kind
pub returns : goal.returns
returns c = record {
  s = c.show_answer-answer.result;
  is = c.show_answer-answer.ensures;
  codes_are = search rules;
  looks_are = search rules;
  copied = record { laid = search rules; whole = search rules };
  number_is = c.number.ensures.value;
}
