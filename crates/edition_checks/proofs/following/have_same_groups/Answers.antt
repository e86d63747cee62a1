use Rattle.std.proofs.Common.{sym, ◌∙◌}
use Rattle.std.proofs.lemmas.Slice.Eq.{bytes_eq-Decides}
use Rattle.edition_checks.proofs.following.have_same_groups.Goals as goal

pub returns : goal.returns
returns c h = (bytes_eq-Decides c.args.policy.now.groups c.args.served.now.policy.groups).0 (sym c.are_same.ensures ∙ h)
