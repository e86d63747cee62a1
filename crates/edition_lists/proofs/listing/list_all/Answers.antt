use Rattle.std.proofs.Common.{◌∙◌, refl, get_or}
use Rattle.edition_lists.proofs.InTurn.{listed_more}
use Rattle.edition_lists.proofs.listing.list_all.Goals as goal

pub loop-number-preserved : goal.loop-number-preserved
loop-number-preserved g c =
    let seen = g.S.EditionFolder.seen in
    let numbers = c.args.numbers.now in
    let i = c.loop-number.number-index in
    let before = c.loop-number.invariant in
    let ensures = c.in_ok-edition.ensures in
    record {
      held = ensures.unchanged.held;
      same = ensures.unchanged.same ∙ before.same;
      so_far = listed_more (seen c.args.store.now).state (seen c.loop-number.store).state numbers c.args.served i 0 (get_or numbers i 0) c.loop-number.rows.items
          c.list_next.new.rows.items c.in_ok-edition.edition before.same c.loop-number-test.true refl before.so_far ensures.kept ensures.number ensures.row;
    }
