use Rattle.std.proofs.Common.{◌≡◌, Some, ◌∙◌}
use Rattle.editions.specs.declared.edition_file.EditionFile.TheVariants.{Policy}
use Rattle.editions.specs.Folders.{FolderState, file_at}
use Rattle.edition_checks.specs.declared.served.Served.{Served}
use Rattle.edition_checks.specs.Served.{IsCertOf}
use Rattle.edition_checks.proofs.FolderReads.{later_then, before, served_there}
use Rattle.edition_checks.proofs.served.read_edition.Goals as goal

pub returns-clause-served : goal.returns-clause-served
returns-clause-served g c held =
    let seen = g.F.EditionFolder.seen in
    let read_base = c.in_ok-base_text in
    let cert = c.in_ok-cert.cert in
    let read_policy = c.in_ok-policy_text in
    let s : Served = record { number = c.args.number; base_text = read_base.base_text; policy_text = read_policy.policy_text; base = read_base.base; cert = cert; policy = read_policy.policy } in
    let first = c.in_ok-base_text.ensures.later in
    let second = later_then (seen c.args.folder.now) (seen c.read_base.new.folder) (seen c.read_cert.new.folder) first c.in_ok-cert.ensures.later in
    served_there (seen c.args.folder.now).state s c.in_ok-base_text.ensures.is c.in_ok-policy_text.ensures.is (c.in_ok-base_text.ensures.there held)
    (before (seen c.args.folder.now).state (seen c.read_base.new.folder).state (λ (f : FolderState). IsCertOf f c.args.number cert) (first.same held) (c.in_ok-cert.ensures.there (first.held ∙ held)))
    (before (seen c.args.folder.now).state (seen c.read_cert.new.folder).state (λ (f : FolderState). file_at f c.args.number Policy ≡ Some read_policy.policy_text.items) (second.same held) (c.in_ok-policy_text.ensures.there (second.held ∙ held)))
