use Rattle.std.proofs.Common.{sym, ◌∙◌}
use Rattle.edition_checks.proofs.PutLaws.{new_by}
use Rattle.edition_checks.proofs.FolderReads.{unchanged}
use Rattle.edition_checks.proofs.putting.new_number.Goals as goal

pub returns-clause-new : goal.returns-clause-new
returns-clause-new g c =
    let seen = g.S.EditionFolder.seen in
    new_by (seen c.args.store.now).state (seen c.numbers.new.self).state c.in_ok-numbers.numbers.items c.as_slice.result.now c.ok_or.result
    (unchanged (seen c.args.store.now) (seen c.numbers.new.self) c.in_ok-numbers.ensures.later c.requires).same
    c.as_slice.ensures.value c.in_ok-numbers.ensures.read (sym c.next_number.ensures ∙ c.ok_or.ensures.ok_part)
