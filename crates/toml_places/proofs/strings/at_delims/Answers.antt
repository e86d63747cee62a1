use Rattle.std.proofs.Common.{◌≡◌, ◌==◌, arith}
use Rattle.std.proofs.lemmas.Grind.{common_steps}
use Rattle.std.proofs.lemmas.Bool.Decides.{nat_tests}
use Rattle.std.proofs.lemmas.List.Sums.{prefix_len_passes}
use Rattle.std.specs.List.{prefix_len}
use Rattle.toml_places.proofs.strings.at_delims.Goals as goal

pub skip-requires-clause-there : goal.skip-requires-clause-there
skip-requires-clause-there c =
    let count : prefix_len (λ x. x == c.args.delim) c.args.text.now ≡ 3 = rw (← c.as_bytes.ensures.value, ← c.delims_len-count.ensures) (omega arith) in
    let passes = prefix_len_passes (λ x. x == c.args.delim) c.args.text.now 2 0 (omega (arith, count)) in
    grind (arith, nat_tests, common_steps)
