use Rattle.std.proofs.Common.{◌≡◌, ◌++◌, drop}
use Rattle.std.specs.List.{flat_map}
use Rattle.finding_forms.specs.GithubForm.{escaped_byte, github_escaped}
use Rattle.finding_forms.proofs.github_form.push_escaped.Given as goal

abbrev pub invariant-loop-byte : goal.invariant-loop-byte
invariant-loop-byte l =
    l.out.items ++ flat_map (escaped_byte l.slot) (drop l.byte-index l.line) ≡ l.initial.out.items ++ github_escaped l.slot l.line
