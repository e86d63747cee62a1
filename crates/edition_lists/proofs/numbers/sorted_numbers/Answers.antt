use Rattle.std.proofs.lemmas.List.Sorted.{IsNonDecreasingBy-from_sort}
use Rattle.edition_lists.proofs.KeptReads.{numbers_there}
use Rattle.edition_lists.proofs.numbers.sorted_numbers.Goals as goal

pub returns-clause-all : goal.returns-clause-all
returns-clause-all g c =
    let seen = g.S.EditionFolder.seen in
    let sorted = c.sort_unstable.new.self.items in
    let ensures = c.sort_unstable.ensures in
    numbers_there (seen c.args.store.now).state (seen c.numbers.new.self).state c.in_ok-numbers.numbers.items sorted (c.in_ok-numbers.ensures.later.same c.requires) c.in_ok-numbers.ensures.read
    ensures.permutation (IsNonDecreasingBy-from_sort (λ n. n) sorted ensures.sorted)
