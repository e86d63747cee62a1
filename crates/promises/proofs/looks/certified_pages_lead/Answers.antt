use Rattle.fault_scripts.specs.declared.outcome.Outcome.TheVariants.{Certified}
use Rattle.promises.proofs.looks.certified_pages_lead.Goals as goal

pub returns : goal.returns
returns c = λ source base policy part found cert sentences well finds outcome. c.certified_ways_lead.ensures source base policy part found (Certified cert) sentences well finds outcome
