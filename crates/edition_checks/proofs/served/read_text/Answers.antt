use Rattle.edition_checks.proofs.FolderReads.{unchanged, file_there}
use Rattle.edition_checks.proofs.served.read_text.Goals as goal

pub returns-in-Some-clause-there : goal.returns-in-Some-clause-there
returns-in-Some-clause-there g c held =
    let seen = g.F.EditionFolder.seen in
    file_there (seen c.args.folder.now).state (seen c.read_file.new.self).state c.args.number c.args.file c.in-Some.text.items
    (unchanged (seen c.args.folder.now) (seen c.read_file.new.self) c.read_file.ensures.later held).same
    (rw c.in-Some.is at c.in_ok-text.ensures.read)
