use Rattle.std.proofs.Common.{◌-◌, ◌<◌, ◌∙◌, sym, subst, length, List, arith}
use Rattle.finder.specs.declared.found.Discovered.{Discovered}
use Rattle.finder.specs.Finds.{keys_back}
use Rattle.finder.proofs.Scripted.{back_turn, back_end}
use Rattle.audit_report.proofs.script.fill_back.Goals as goal

pub returns-in_default-clause-items : goal.returns-in_default-clause-items
returns-in_default-clause-items c =
    let found = c.args.found.now in
    back_end found (length found - c.loop-turn.turn) c.loop-turn.index (keys_back found (length found) c.args.start) c.loop-turn.keys.items c.loop-turn.invariant.items (sym c.parent_of.ensures ∙ c.in_default.is)

pub loop-turn-preserved : goal.loop-turn-preserved
loop-turn-preserved c =
    let found = c.args.found.now in
    let held = c.loop-turn.invariant in
    let within = subst (λ (fs : List Discovered). c.loop-turn.turn < length fs) c.as_slice-turn-end.ensures c.loop-turn-test.true in
    record {
      items = back_turn found c.loop-turn.turn (length found) (keys_back found (length found) c.args.start) c.loop-turn.keys.items c.push_reserved.new.self.items c.loop-turn.index (c.in-Some.parent, c.in-Some.key) within held.items (sym c.parent_of.ensures ∙ c.in-Some.is) c.push_reserved.ensures.items;
      few = omega (arith, c.push_reserved.ensures.len, held.few);
      within = omega (arith, within);
      capacity = c.push_reserved.ensures.capacity ∙ held.capacity;
    }
