use Rattle.std.proofs.Common.{rules}
use Rattle.std.proofs.KnownBytes.{Appends-trans}
use Rattle.devices.proofs.Parts.{first_and_more}
use Rattle.devices.proofs.writing.write_all.Goals as goal

pub loop-wrote-preserved : goal.loop-wrote-preserved
loop-wrote-preserved g c =
    let held = c.loop-wrote.invariant in
    let more = Appends-trans _ _ _ _ _ held.taken c.in-Ok.ensures.bytes in
    record {
      unbroken = search rules;
      unflushed = search rules;
      within = search rules;
      taken = rw (first_and_more c.args.bytes.now c.loop-wrote.wrote c.in-Ok.count held.within) at more;
    }
