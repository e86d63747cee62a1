use Rattle.std.proofs.Common.{◌+◌, ◌-◌, ◌≡◌, ℕ, ◌<◌, ◌≤◌, ◌*◌, ◌^◌, length, get_or}
use Rattle.std.specs.declared.cmp.Ordering.TheVariants.{Less, Greater}
use Rattle.frame_records.specs.Bases.{compared_between, comparisons}
use Rattle.frame_records.proofs.probe.search.Given as goal

abbrev pub invariant-loop-low : goal.invariant-loop-low
invariant-loop-low g l =
    let xs = g.P.Probe.orderings l.fn.probe in
    let count = g.P.Probe.count l.probe in
    record {
      same : g.P.Probe.orderings l.probe ≡ xs;
      within : l.low ≤ l.high;
      high : l.high ≤ length xs;
      below : (i : ℕ) → i < l.low → get_or xs i Less ≡ Less;
      above : (i : ℕ) → l.high ≤ i → i < length xs → get_or xs i Less ≡ Greater;
      cost : (l.high - l.low) * 2 ^ count ≤ 65535;
      room : count + (l.high - l.low) ≤ length xs;
      exact : count + compared_between (length xs - count) xs l.low l.high ≡ comparisons xs;
      most : count ≤ 16;
      first : count ≡ 0 → l.high - l.low ≡ length xs;
    }

abbrev pub decreases-loop-low : goal.decreases-loop-low
decreases-loop-low g l = l.high - l.low
