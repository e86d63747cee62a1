use Rattle.finder.proofs.Targeted.{targeted, missed}
use Rattle.finder.proofs.notes.Notes.target_of.Goals as goal

pub returns-in-Some-target_by_id : goal.returns-in-Some-target_by_id
returns-in-Some-target_by_id c = targeted _ _ _ _ c.in-Some.id c.in-Some.ensures c.in-Some-target_by_id.target c.args.self.now.valid.ascending c.in-Some-target_by_id.ensures

pub returns-in-None : goal.returns-in-None
returns-in-None c = missed _ _ _ _ c.in-Some.id c.in-Some.ensures c.missing.result c.in-None.ensures c.missing.ensures.aim c.missing.ensures.nowhere
