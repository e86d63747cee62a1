use Rattle.std.proofs.Common.{◌∙◌, List, ap, rules, subst}
use Rattle.page_ids.specs.Ids.{Id}
use Rattle.frame_records.specs.Bases.{BaseView}
use Rattle.base_faults.specs.declared.fault.Fault.{Fault}
use Rattle.fault_scripts.specs.Outcomes.{IsOutcome}
use Rattle.base_pages.specs.Loops.{numbers_of, numbered_faults}
use Rattle.base_pages.proofs.pages.prepare.Goals as goal

pub returns : goal.returns
returns c = record {
  of_base = search rules;
  of_groups = search rules;
  finding = search rules;
  audited = subst (λ (b : BaseView). IsOutcome b c.args.policy.now c.in_ok-outcome.outcome) c.in_ok-survey.ensures.base c.in_ok-outcome.ensures.is;
  said = search rules;
  index = λ (id : Id). c.in_ok-index.ensures id ∙ ap (λ (fs : List Fault). numbers_of (numbered_faults 0 fs) id) c.faults_in-faults.ensures;
}
