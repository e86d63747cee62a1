use Rattle.std.proofs.Common.{◌≡◌, replicate, false, rules}
use Rattle.finder.proofs.Noted.{none_noted}
use Rattle.finder.proofs.notes.Notes.of.Goals as goal

pub loop-node-init : goal.loop-node-init
loop-node-init c =
    let blanks : c.in_ok-notes.notes.items ≡ replicate c.next_power_of_two-slots.result (record { page = 0; node = 0; letter = 0; is_open = false }) = search rules in
    record { noted = rw blanks (none_noted c.args.groups.now c.args.base.now.frames c.next_power_of_two-slots.result); ids = c.in_ok-ids.ensures.items }
