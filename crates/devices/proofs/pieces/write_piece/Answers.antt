use Rattle.std.proofs.Common.{◌∙◌, ◌+◌, sym, ap, subst, length}
use Rattle.devices.specs.Devices.{IsOnItsWay, TookAll}
use Rattle.devices.specs.Loops.{TookPart}
use Rattle.devices.proofs.OnTheWay.{taken_on, broke_on}
use Rattle.devices.proofs.pieces.write_piece.Goals as goal

pub returns-in-Err-clause-part : goal.returns-in-Err-clause-part
returns-in-Err-clause-part g c = λ start text rest way.
    broke_on _ _ _ _ _ _ way rest _ (subst (λ xs. TookPart (g.S.Sink.seen c.args.sink.now) (g.S.Sink.seen c.write_all.new.sink) xs c.in-Err.fault.wrote) c.as_slice.ensures.value c.in-Err.ensures.part)

pub returns-clause-taken : goal.returns-clause-taken
returns-clause-taken g c = λ start text way.
    let took = subst (λ xs. TookAll (g.S.Sink.seen c.args.sink.now) (g.S.Sink.seen c.write_all.new.sink) xs) c.as_slice.ensures.value c.in-Ok.ensures.whole in
    let count = ap (λ m. c.args.wrote + m) (c.len-2.ensures ∙ sym c.as_slice.ensures.len ∙ ap length c.as_slice.ensures.value) in
    subst (λ xs. IsOnItsWay start (g.S.Sink.seen c.write_all.new.sink) xs (c.args.wrote + c.len-2.result) text) (sym c.clear.ensures.items)
    (taken_on _ _ _ _ _ _ way took _ count)
