use Rattle.std.proofs.Common.{◌∙◌, ◌++◌, ap, sym}
use Rattle.std.proofs.lemmas.List.{append-nil}
use Rattle.screen_forms.proofs.Packs.{packed_none}
use Rattle.screen_forms.proofs.bits.packed.Goals as goal

pub returns : goal.returns
returns c =
    let written = c.loop-left.bytes.items in
    let none = packed_none c.loop-left.left.now c.loop-left-test.false in
    sym (append-nil written) ∙ ap (λ l. written ++ l) (sym none) ∙ c.loop-left.invariant
