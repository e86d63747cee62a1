-- What the check of an edition that was read says of it.
use Rattle.std.proofs.Common.{sym, Ok, Err, IfErr, Result}
use Rattle.editions.specs.Folders.{SeenFolder}
use Rattle.edition_checks.specs.declared.served.Served.{Served}
use Rattle.one_call.specs.declared.fault.CallFault.{CallFault}
use Rattle.one_call.specs.declared.fault.CallFault.TheVariants.{Unpublished, Unnamed, Folder, Edition, Refused, Line, Memory}
use Rattle.one_call.specs.Opened.{IsCurrentRead}
use Rattle.one_call.specs.Loops.{IsEditionJudged, IsOpenRefused}

pub judged_fault : (folder : SeenFolder) (s : Served) (r : Result Served CallFault) → IsCurrentRead folder s → IsEditionJudged s r → IfErr r (IsOpenRefused folder)
judged_fault folder s (Ok t) is h = tt
judged_fault folder s (Err (Refused number cause)) is h = record { served = s; is = is; is_number = sym h.0; refused = h.1 }
judged_fault folder s (Err (Line fault)) is h = absurd h
judged_fault folder s (Err (Edition number fault)) is h = absurd h
judged_fault folder s (Err Unpublished) is h = absurd h
judged_fault folder s (Err Unnamed) is h = absurd h
judged_fault folder s (Err Folder) is h = absurd h
judged_fault folder s (Err Memory) is h = absurd h
