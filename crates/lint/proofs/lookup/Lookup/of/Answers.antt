use Rattle.std.proofs.Common.{◌≡◌, ◌∙◌, sym, ap, drop, ◌+◌, ◌∷◌, [], arith}
use Rattle.std.specs.Option.{option_or}
use Rattle.std.proofs.lemmas.List.{drop_more, drop_all}
use Rattle.indexmap.specs.IndexMap.{get}
use Rattle.page_ids.specs.Ids.{id_eq}
use Rattle.lint.specs.Lookups.{value_of}
use Rattle.lint.proofs.NumberTurns.{one_more}
use Rattle.lint.proofs.lookup.Lookup.of.Goals as goal

pub loop-id-preserved : goal.loop-id-preserved
loop-id-preserved g c = λ id.
    let pairs = c.args.pairs.now in
    let i = c.loop-id.id-index in
    let p = c.loop-id-item.result in
    let more : drop i pairs ≡ p ∷ drop (i + 1) pairs = drop_more pairs i p (omega arith) ∙ ap (λ x. x ∷ drop (i + 1) pairs) (sym c.loop-id-item.is) in
    let known = c.loop-id.invariant id ∙ ap (λ ps. option_or (value_of ps id) (get id_eq c.loop-id.map id)) more in
    known ∙ one_more (value_of (drop (i + 1) pairs) id) _ (id_eq p.0 id) p.1 (get id_eq c.loop-id.map id) (c.in_ok-insert.ensures.updates.0 id)

pub returns : goal.returns
returns g c = λ id.
    let none : drop c.loop-id.id-index c.args.pairs.now ≡ [] = drop_all c.loop-id.id-index c.args.pairs.now c.loop-id-test.false in
    sym (c.loop-id.invariant id ∙ ap (λ ps. option_or (value_of ps id) (get id_eq c.loop-id.map id)) none)
