use Rattle.std.proofs.Common.{rules, ◌+◌, None, arith, sym, ◌∙◌, refl}
use Rattle.std.proofs.lemmas.Grind.{get_or-set_at}
use Rattle.finder.proofs.Lists.{push_at}
use Rattle.finder.proofs.Searching.{none_of, is_near, fits, inside, marked, kept}
use Rattle.finder.proofs.ranks.Ranking.mark.Goals as goal

pub is_ranked-requires : goal.is_ranked-requires
is_ranked-requires c = inside _ _ _ _ _ c.args.node c.requires.search c.requires.waits c.requires.leads

pub returns-then-is_ranked-clause-marked : goal.returns-then-is_ranked-clause-marked
returns-then-is_ranked-clause-marked c = is_near _ _ _ _ _ c.args.node c.requires.search c.requires.waits c.requires.leads (sym c.if-is_ranked.true ∙ c.is_ranked.ensures)

pub overflow_add-rank : goal.overflow_add-rank
overflow_add-rank c = let few = fits _ _ _ _ _ c.args.node c.requires.search c.requires.waits c.requires.leads in search rules

pub returns-clause-search : goal.returns-clause-search
returns-clause-search c = rw c.in_ok-push.ensures.items (marked _ _ _ _ _ c.args.node c.requires.search c.requires.waits c.requires.leads (none_of _ (sym c.if-is_ranked.false ∙ c.is_ranked.ensures)))

pub returns-clause-waits : goal.returns-clause-waits
returns-clause-waits c = rw c.in_ok-push.ensures.items (push_at c.args.self.now.queue.items _ c.args.done c.args.to c.requires.waits)

pub returns-clause-marked : goal.returns-clause-marked
returns-clause-marked c = (c.args.to.rank + 1, get_or-set_at c.args.self.now.ranks.items _ c.args.node _ None refl (inside _ _ _ _ _ c.args.node c.requires.search c.requires.waits c.requires.leads), omega arith)

pub returns-clause-kept : goal.returns-clause-kept
returns-clause-kept c = λ f n h. (h.0, kept _ _ _ f h.0 (none_of _ (sym c.if-is_ranked.false ∙ c.is_ranked.ensures)) h.1, h.2)
