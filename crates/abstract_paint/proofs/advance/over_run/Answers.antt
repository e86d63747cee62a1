use Rattle.std.proofs.Common.{ℕ, ◌<◌, ◌≤◌, arith, sym, subst}
use Rattle.std.proofs.lemmas.List.Sums.{prefix_len-le-length}
use Rattle.abstract_paint.specs.declared.cursor.AbsCursor.{AbsCursor}
use Rattle.abstract_paint.specs.declared.advance.Advance.TheVariants.{Touches, Goes}
use Rattle.abstract_paint.specs.declared.cursor.Place.TheVariants.{Spot}
use Rattle.abstract_paint.specs.Paint.{calm}
use Rattle.abstract_paint.specs.Plain.{is_plain, plain_len, room}
use Rattle.abstract_paint.specs.Loops.{IsAdvance}
use Rattle.abstract_paint.proofs.OverRuns.{goes_over, stops_at, front_run, front_begins}
use Rattle.abstract_paint.proofs.advance.over_run.Goals as goal

pub returns-then-run-room : goal.returns-then-run-room
returns-then-run-room c =
    let rest = c.args.rest.now in
    let run = c.front_run-run.result in
    let plain : run ≤ plain_len rest = omega (arith, c.front_run-run.ensures, front_run c.min-most.result rest) in
    let over : room c.args.at < run = omega (arith, c.room-room.ensures.room) in
    subst (λ (k : ℕ). IsAdvance (calm (Spot c.args.at)) rest (Touches k)) (sym c.room-room.ensures.room) (stops_at rest c.args.at run plain over)

pub returns : goal.returns
returns c =
    let rest = c.args.rest.now in
    let run = c.front_run-run.result in
    let most : 0 < c.min-most.result = omega (arith, prefix_len-le-length is_plain rest) in
    let some : 0 < run = omega (arith, c.front_run-run.ensures, front_begins c.min-most.result rest most c.requires.plain) in
    let plain : run ≤ plain_len rest = omega (arith, c.front_run-run.ensures, front_run c.min-most.result rest) in
    let fits : run ≤ room c.args.at = omega (arith, c.room-room.ensures.room) in
    subst (λ (y : AbsCursor). IsAdvance (calm (Spot c.args.at)) rest (Goes y run)) (sym c.calm.ensures) (goes_over rest c.args.at run c.requires.on_screen some plain fits)
