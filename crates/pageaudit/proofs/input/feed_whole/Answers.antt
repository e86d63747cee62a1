use Rattle.std.proofs.Common.{◌≤◌, ◌*◌, length, arith}
use Rattle.cert_text.proofs.Bounded.{bounded}
use Rattle.pageaudit.proofs.Within.{fault_after}
use Rattle.pageaudit.proofs.input.feed_whole.Goals as goal

-- a text that reaches the limit has a bad line before it: a text without one has at most 65,542 lines of 129 bytes
pub returns : goal.returns
returns g c =
    let fed = c.loop-room.invariant.fed in
    let most : length fed.text ≤ 65542 * 129 = bounded fed.text c.loop-room.reader.reading fed.taken.so_far in
    let all = fed.counted in
    let none = c.loop-room-test.false in
    absurd (omega (arith, most, all, none))

pub returns-in-Err : goal.returns-in-Err
returns-in-Err g c = fault_after g.S.Source.seen _ _ _ _ c.take_piece.new.reader c.loop-room.room c.loop-room.invariant.fed c.loop-room-test.true c.in-Err.fault c.in-Err.ensures
