use Rattle.std.proofs.Common.{sym, ◌∙◌}
use Rattle.editions.specs.Folders.{edition_bytes}
use Rattle.edition_checks.proofs.PutLaws.{leaves_same, put_is, put_leaves}
use Rattle.edition_checks.proofs.putting.put_candidate.Goals as goal

pub returns-in_err-number-clause-sound : goal.returns-in_err-number-clause-sound
returns-in_err-number-clause-sound g c =
    let seen = g.S.EditionFolder.seen in
    let same = c.in_err-number.ensures.unchanged in
    leaves_same (seen c.args.store.now) (seen c.new_number.new.store) (same.held ∙ sym c.requires.held) same.same

pub returns-in_default-clause-sound : goal.returns-in_default-clause-sound
returns-in_default-clause-sound g c =
    let seen = g.S.EditionFolder.seen in
    let same = c.in_ok-number.ensures.unchanged in
    leaves_same (seen c.args.store.now) (seen c.new_number.new.store) (same.held ∙ sym c.requires.held) same.same

pub returns-clause-put : goal.returns-clause-put
returns-clause-put g c =
    let seen = g.S.EditionFolder.seen in
    put_is (seen c.args.store.now) (seen c.new_number.new.store) (seen c.put_edition.new.store) c.in_ok-number.number
    (edition_bytes c.args.base_text.items c.args.candidate.cert_text.items c.args.policy_text.items c.args.follows) c.in-Ok.edition
    c.in-Ok.ensures c.in_ok-number.ensures.unchanged.same c.in_ok-put_edition.ensures.taken.1 c.in_ok-number.ensures.new

pub returns-clause-sound : goal.returns-clause-sound
returns-clause-sound g c =
    let seen = g.S.EditionFolder.seen in
    let same = c.in_ok-number.ensures.unchanged in
    put_leaves (seen c.args.store.now) (seen c.new_number.new.store) (seen c.put_edition.new.store) c.in_ok-number.number
    c.args.base_text.items c.args.policy_text.items c.args.candidate c.args.follows c.in-Ok.edition c.put_edition.result
    c.in-Ok.ensures (same.held ∙ sym c.requires.held) same.same c.requires.checked c.in_ok-number.ensures.new c.requires.follow
    c.put_edition.ensures.taken c.put_edition.ensures.sound
