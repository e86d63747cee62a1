use Rattle.std.proofs.Common.{◌≡◌, ◌+◌, ◌-◌, ◌/◌, List, length, arith, ◌∙◌, subst, Some}
use Rattle.std.specs.Prelude.{slice_get}
use Rattle.std.specs.declared.cmp.Ordering.{Ordering}
use Rattle.std.specs.declared.cmp.Ordering.TheVariants.{Less, Equal, Greater}
use Rattle.frame_records.proofs.BinarySearch.{none_between, compared_more, halved, few_asked, less_to, greater_from, no_equal}
use Rattle.frame_records.specs.Bases.{comparisons}
use Rattle.frame_records.proofs.probe.search.Goals as goal

pub loop-low-preserved-in-Less : goal.loop-low-preserved-in-Less
loop-low-preserved-in-Less g c =
    let i = c.loop-low.invariant in
    let xs = g.P.Probe.orderings c.args.probe.now in
    let m = c.loop-low.low + (c.loop-low.high - c.loop-low.low) / 2 in
    let at : slice_get xs m ≡ Some Less = subst (λ (ys : List Ordering). slice_get ys m ≡ Some Less) i.same c.in-Less.ensures.answer in
    let lt = c.loop-low-test.true in
    let cost = halved (c.loop-low.high - c.loop-low.low) (c.loop-low.high - (m + 1)) (g.P.Probe.count c.loop-low.probe) (omega arith) i.cost in
    let few = few_asked (c.loop-low.high - c.loop-low.low) (g.P.Probe.count c.loop-low.probe) (omega arith) i.cost in
    record {
      same = c.ask.ensures.same ∙ i.same;
      within = omega arith;
      high = i.high;
      below = λ k h. less_to xs m k c.requires.searchable at h;
      above = i.above;
      cost = rw c.ask.ensures.counted cost;
      room = omega (arith, c.ask.ensures.counted, i.room);
      exact = rw c.ask.ensures.counted (compared_more xs c.loop-low.low c.loop-low.high (g.P.Probe.count c.loop-low.probe) (comparisons xs) Less lt i.room at i.exact);
      most = omega (arith, c.ask.ensures.counted, few);
      first = λ e. absurd (omega (arith, c.ask.ensures.counted, e));
    }

pub loop-low-preserved : goal.loop-low-preserved
loop-low-preserved g c =
    let i = c.loop-low.invariant in
    let xs = g.P.Probe.orderings c.args.probe.now in
    let m = c.loop-low.low + (c.loop-low.high - c.loop-low.low) / 2 in
    let at : slice_get xs m ≡ Some Greater = subst (λ (ys : List Ordering). slice_get ys m ≡ Some Greater) i.same c.in-Greater.ensures.answer in
    let lt = c.loop-low-test.true in
    let cost = halved (c.loop-low.high - c.loop-low.low) (m - c.loop-low.low) (g.P.Probe.count c.loop-low.probe) (omega arith) i.cost in
    let few = few_asked (c.loop-low.high - c.loop-low.low) (g.P.Probe.count c.loop-low.probe) (omega arith) i.cost in
    record {
      same = c.ask.ensures.same ∙ i.same;
      within = omega arith;
      high = omega (arith, i.high);
      below = i.below;
      above = λ k h. greater_from xs m k c.requires.searchable at h;
      cost = rw c.ask.ensures.counted cost;
      room = omega (arith, c.ask.ensures.counted, i.room);
      exact = rw c.ask.ensures.counted (compared_more xs c.loop-low.low c.loop-low.high (g.P.Probe.count c.loop-low.probe) (comparisons xs) Greater lt i.room at i.exact);
      most = omega (arith, c.ask.ensures.counted, few);
      first = λ e. absurd (omega (arith, c.ask.ensures.counted, e));
    }

pub returns-in-Equal-clause-exact : goal.returns-in-Equal-clause-exact
returns-in-Equal-clause-exact g c =
    let i = c.loop-low.invariant in
    let xs = g.P.Probe.orderings c.args.probe.now in
    let m = c.loop-low.low + (c.loop-low.high - c.loop-low.low) / 2 in
    let at : slice_get xs m ≡ Some Equal = subst (λ (ys : List Ordering). slice_get ys m ≡ Some Equal) i.same c.in-Equal.ensures.answer in
    omega (arith, c.ask.ensures.counted, compared_more xs c.loop-low.low c.loop-low.high (g.P.Probe.count c.loop-low.probe) (comparisons xs) Equal c.loop-low-test.true i.room at i.exact)

pub returns-clause-exact : goal.returns-clause-exact
returns-clause-exact g c =
    let i = c.loop-low.invariant in
    let xs = g.P.Probe.orderings c.args.probe.now in
    omega (arith, i.exact, none_between (length xs - g.P.Probe.count c.loop-low.probe) xs c.loop-low.low c.loop-low.high c.loop-low-test.false)

pub returns-clause-none : goal.returns-clause-none
returns-clause-none g c =
    let i = c.loop-low.invariant in
    let met = c.loop-low-test.false in
    no_equal (g.P.Probe.orderings c.args.probe.now) c.loop-low.low i.below (λ k ge lt. i.above k (omega arith) lt)
