use Rattle.std.proofs.Common.{rules}
use Rattle.screen_files.proofs.Trims.{trimmed_at, trimmed_none}
use Rattle.screen_files.proofs.rows.trimmed.Goals as goal

pub returns-in-Some : goal.returns-in-Some
returns-in-Some c = rw (trimmed_at c.args.row.now c.in-Some.last (search rules) (search rules) (search rules)) (search rules)

pub returns-in-None : goal.returns-in-None
returns-in-None c = rw (trimmed_none c.args.row.now (search rules)) (search rules)
