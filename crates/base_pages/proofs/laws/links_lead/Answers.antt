use Rattle.base_pages.proofs.Links.{links_lead}
use Rattle.base_pages.proofs.laws.links_lead.Goals as goal

pub returns : goal.returns
returns c = links_lead
