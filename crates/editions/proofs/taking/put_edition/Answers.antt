use Rattle.std.specs.Prelude.{Err}
use Rattle.editions.specs.Moments.{publish_steps}
use Rattle.editions.proofs.TakenSteps.{put_stopped, put_done, taken_sound}
use Rattle.editions.proofs.taking.put_edition.Goals as goal

-- it is done, or it stopped at the second step
pub returns-in-Ok : goal.returns-in-Ok
returns-in-Ok g c =
    let seen = g.S.EditionFolder.seen in
    let taken = put_done c.args.number c.args.edition.now (seen c.args.store.now) (seen c.write_edition.new.self) (seen c.set_current.new.self) c.set_current.result c.in-Ok.ensures c.set_current.ensures in
    record { taken = taken; sound = taken_sound (publish_steps c.args.number c.args.edition.now) (seen c.args.store.now) (seen c.set_current.new.self) c.set_current.result taken }

-- it stopped at the first
pub returns-in-Err : goal.returns-in-Err
returns-in-Err g c =
    let seen = g.S.EditionFolder.seen in
    let taken = put_stopped c.args.number c.args.edition.now (seen c.args.store.now) (seen c.write_edition.new.self) c.in-Err.fault c.in-Err.ensures in
    record { taken = taken; sound = taken_sound (publish_steps c.args.number c.args.edition.now) (seen c.args.store.now) (seen c.write_edition.new.self) (Err c.in-Err.fault) taken }
