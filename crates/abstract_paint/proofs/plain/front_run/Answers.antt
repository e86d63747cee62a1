use Rattle.std.proofs.Common.{◌+◌, ◌-◌, ◌≤◌, length, take, drop, ap, arith}
use Rattle.std.proofs.lemmas.List.{length-drop}
use Rattle.std.proofs.lemmas.List.Sums.{prefix_len-le-length}
use Rattle.abstract_paint.specs.Plain.{is_plain}
use Rattle.abstract_paint.proofs.ChunkRuns.{tail_is}
use Rattle.abstract_paint.proofs.plain.front_run.Goals as goal

pub overflow_add-result : goal.overflow_add-result
overflow_add-result c =
    let bytes = c.args.bytes.now in
    let rest = take (length bytes - 8) (drop 8 bytes) in
    let within : 8 + c.plain_run.result ≤ length bytes = omega (arith, c.plain_run.ensures, prefix_len-le-length is_plain rest, ap length (tail_is 8 bytes), length-drop 8 bytes) in
    record { fits = omega arith }
