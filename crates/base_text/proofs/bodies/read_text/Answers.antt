use Rattle.std.proofs.Common.{chars, sym, ◌∙◌, refl}
use Rattle.base_text.proofs.CodePoints.{good_body}
use Rattle.base_text.proofs.bodies.read_text.Goals as goal

pub returns-in-Some : goal.returns-in-Some
returns-in-Some c =
    let read = sym c.in-Some.is ∙ c.in_ok-body.ensures in
    (read, rw (good_body (chars c.args.text.now) c.in-Some.body (sym read)) refl)
