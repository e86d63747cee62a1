use Rattle.std.proofs.Common.{◌≡◌, ◌++◌, drop}
use Rattle.base_pages.specs.Loops.{numbered_sentences}
use Rattle.base_pages.proofs.sentences.push_each.Given as goal

abbrev pub invariant-loop-number : goal.invariant-loop-number
invariant-loop-number l = l.out.items ++ numbered_sentences l.sentences (drop l.number-index l.numbers) ≡ l.fn.out.items ++ numbered_sentences l.sentences l.numbers
