use Rattle.base_pages.proofs.Certified.{certified_ways_lead}
use Rattle.base_pages.proofs.laws.certified_ways_lead.Goals as goal

pub returns : goal.returns
returns c = certified_ways_lead
