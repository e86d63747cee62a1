use Rattle.std.proofs.Common.{◌≡◌, ◌≤◌, ℕ, length, subst, arith}
use Rattle.page_ids.specs.Ids.{Id}
use Rattle.page_ids.specs.declared.way.Way.{Way}
use Rattle.page_ids.specs.Ways.{way_at}
use Rattle.checker.specs.Loops.{IsWayCheck, AreWayChecks}
use Rattle.checker.proofs.Counted.{first_few, way_few}
use Rattle.checker.proofs.WaysInTurn.{next_way}
use Rattle.checker.proofs.ways.over_ways.Goals as goal

pub loop-place-preserved : goal.loop-place-preserved
loop-place-preserved g c =
    let compared = g.C.Cover.compared in
    let base = c.args.base.now in
    let rows = c.args.cert.now.rows in
    let f = c.args.frame.now in
    let n = c.loop-place.place in
    let is = subst (λ (way : Way). IsWayCheck compared base rows c.args.rank f way c.over_way-check.result) c.at.ensures c.over_way-check.ensures in
    let few : (id : Id) → compared rows id ≤ 65535 = λ id. omega (arith, g.met.C.Cover.few rows id c.requires.few, g.met.C.Cover.most_is_small (length rows) c.requires.few) in
    let before = first_few compared base rows 65535 c.requires.valid few f n in
    let this = way_few compared base rows 65535 c.requires.valid few f (way_at n) in
    next_way compared base rows c.args.rank f n c.loop-place.seen c.with_check-seen.result c.over_way-check.result c.loop-place.invariant is c.with_check-seen.ensures.lost c.with_check-seen.ensures.down (c.with_check-seen.ensures.asked (omega (arith, c.loop-place-test.true, c.loop-place.invariant.took, is.took, before, this)))

pub returns : goal.returns
returns g c =
    let all : c.loop-place.place ≡ 11 = omega (arith, c.loop-place-test.false, c.loop-place.auto.place-end) in
    subst (λ (n : ℕ). AreWayChecks g.C.Cover.compared c.args.base.now c.args.cert.now.rows c.args.rank c.args.frame.now n c.loop-place.seen) all c.loop-place.invariant
