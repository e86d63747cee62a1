use Rattle.std.proofs.Common.{refl}
use Rattle.frame_records.proofs.GroupTexts.{texts_found, texts_only}
use Rattle.frame_records.proofs.groups.Groups.read.Goals as goal

pub returns-in-Ok-clause-found : goal.returns-in-Ok-clause-found
returns-in-Ok-clause-found c = texts_found 44 c.args.text.now c.in-Ok.groups cc

pub returns-in-Err-clause-only : goal.returns-in-Err-clause-only
returns-in-Err-clause-only c = λ groups is. let found = texts_only 44 c.args.text.now groups refl is in absurd cc
