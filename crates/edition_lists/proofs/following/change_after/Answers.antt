use Rattle.std.proofs.Common.{◌≡◌, Option, subst, arith}
use Rattle.std.proofs.lemmas.Bool.Decides.{nat_tests}
use Rattle.edition_lists.specs.declared.kept.KeptEdition.{KeptEdition}
use Rattle.edition_lists.specs.Loops.{IsKeptBefore}
use Rattle.edition_lists.proofs.KeptReads.{after_in}
use Rattle.edition_lists.proofs.following.change_after.Goals as goal

pub returns-in-Some-clause-after : goal.returns-in-Some-clause-after
returns-in-Some-clause-after g c none =
    let seen = g.F.EditionFolder.seen c.args.folder.now in
    let named : c.in-Some.old.served.number ≡ c.args.number = grind (arith, nat_tests, c.if-old-number.true) in
    after_in seen.state c.in-Some.old c.args.edition.now c.args.number c.requires.before named
    (subst (λ (o : Option KeptEdition). IsKeptBefore seen o) c.in-Some.is c.requires.kept) (c.refused_change.ensures none)

pub returns-in-Ok-clause-after : goal.returns-in-Ok-clause-after
returns-in-Ok-clause-after g c none =
    after_in (g.F.EditionFolder.seen c.args.folder.now).state c.in-Ok.old c.args.edition.now c.args.number c.requires.before
    c.in-Ok.ensures.number c.in-Ok.ensures.kept (c.refused_change-in-Ok.ensures none)
