use Rattle.finder.proofs.Scripted.{scripts_lead}
use Rattle.finder.proofs.laws.scripts_lead.Goals as goal

pub returns : goal.returns
returns c = scripts_lead
