use Rattle.std.proofs.Common.{rules}
use Rattle.std.proofs.lemmas.List.{take_rest}
use Rattle.page_ids.specs.Ids.{Id}
use Rattle.frame_screens.proofs.Since.{since_at, since_none}
use Rattle.frame_screens.proofs.sending.since_clear.Goals as goal

pub returns-in-Some : goal.returns-in-Some
returns-in-Some c =
    let none : Id = record { page = 0; letter = 0 } in
    let last = since_at c.args.base.now c.args.frames.now c.in-Some.place none (search rules) (search rules) (search rules) in
    rw (last, take_rest)

pub returns-in-None : goal.returns-in-None
returns-in-None c = rw (since_none c.args.base.now c.args.frames.now (search rules))
