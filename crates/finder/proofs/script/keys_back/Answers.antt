use Rattle.std.proofs.Common.{◌-◌, ◌<◌, ◌∙◌, sym, subst, length, List}
use Rattle.finder.proofs.Words.{Discovered, keys_back}
use Rattle.finder.proofs.Scripted.{back_turn, back_end}
use Rattle.finder.proofs.script.keys_back.Goals as goal

-- without a parent nothing is left
pub returns-in_default : goal.returns-in_default
returns-in_default c =
    let found = c.args.found.now in
    back_end found (length found - c.loop-turn.turn) c.loop-turn.index (keys_back found (length found) c.args.start) c.loop-turn.keys.items c.loop-turn.invariant (sym c.parent_of.ensures ∙ c.in_default.is)

pub loop-turn-preserved : goal.loop-turn-preserved
loop-turn-preserved c =
    let found = c.args.found.now in
    back_turn found c.loop-turn.turn (length found) (keys_back found (length found) c.args.start) c.loop-turn.keys.items c.push.new.self.items c.loop-turn.index (c.in-Some.parent, c.in-Some.key) (subst (λ (fs : List Discovered). c.loop-turn.turn < length fs) c.as_slice-turn-end.ensures c.loop-turn-test.true) c.loop-turn.invariant (sym c.parent_of.ensures ∙ c.in-Some.is) c.in_ok-push.ensures.items
