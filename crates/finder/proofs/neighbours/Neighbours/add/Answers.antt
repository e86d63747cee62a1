use Rattle.std.proofs.Common.{sym, ◌∙◌, subst, arith}
use Rattle.finder.specs.Loops.{AreJoined}
use Rattle.finder.proofs.Neighbouring.{passed, added}
use Rattle.finder.proofs.neighbours.Neighbours.add.Goals as goal

pub returns-in_default : goal.returns-in_default
returns-in_default c = passed _ _ _ _ c.requires.is_way c.requires.added (λ g goes. absurd (c.in_default.ensures.lost g goes))

pub returns-then-repeats : goal.returns-then-repeats
returns-then-repeats c =
    let before = c.repeats.ensures c.if-repeats.true in
    passed _ _ _ _ c.requires.is_way c.requires.added (λ g goes. subst (AreJoined c.args.graph.now c.args.self.now.lists.items c.args.from) (sym c.in-Some.ensures.leads.target ∙ goes.target) (c.requires.added.whole c.args.from _ c.in-Some.node (omega (arith, before.0)) before.1))

pub returns : goal.returns
returns c = added _ _ _ _ c.requires.is_way c.requires.added c.in-Some.node _ _ c.index_mut.result.now c.push.new.self c.in-Some.ensures.leads c.turned-at.ensures c.index_mut.ensures.value c.in_ok-push.ensures.ok
