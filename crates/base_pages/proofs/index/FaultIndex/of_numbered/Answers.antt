use Rattle.std.proofs.Common.{◌≡◌, ◌∙◌, ◌++◌, ◌∷◌, [], ◌+◌, sym, ap, drop, append_assoc, append-nil, arith}
use Rattle.std.proofs.lemmas.List.{drop_more, drop_all}
use Rattle.base_pages.specs.Loops.{kept_of, numbers_of, number_by}
use Rattle.base_pages.proofs.index.FaultIndex.of_numbered.Goals as goal

pub loop-fault-init : goal.loop-fault-init
loop-fault-init c = λ id. ap (λ xs. xs ++ numbers_of c.args.list.now id) (c.empty-index.ensures id)

pub loop-fault-preserved : goal.loop-fault-preserved
loop-fault-preserved c = λ id.
    let list = c.args.list.now in
    let i = c.loop-fault.fault-index in
    let fault = c.fault-item.result in
    let rest = drop (i + 1) list in
    let old = kept_of c.loop-fault.index id in
    let more : drop i list ≡ fault ∷ rest = drop_more list i fault (omega arith) ∙ ap (λ x. x ∷ rest) (sym c.fault-item.is) in
    ap (λ xs. xs ++ numbers_of rest id) (c.in_ok-add.ensures id)
    ∙ (append_assoc old (number_by fault id) (numbers_of rest id) ∙ (ap (λ xs. old ++ numbers_of xs id) (sym more) ∙ c.loop-fault.invariant id))

pub returns : goal.returns
returns c = λ id.
    let none : drop c.loop-fault.fault-index c.args.list.now ≡ [] = drop_all c.loop-fault.fault-index c.args.list.now c.loop-fault-test.false in
    let now = kept_of c.loop-fault.index id in
    sym (append-nil now) ∙ (ap (λ xs. now ++ numbers_of xs id) (sym none) ∙ c.loop-fault.invariant id)
