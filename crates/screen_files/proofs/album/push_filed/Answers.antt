use Rattle.std.proofs.Common.{◌≡◌, ◌++◌, OnOk, subst}
use Rattle.screen_files.specs.Texts.{frame_lines}
use Rattle.screen_files.proofs.album.push_filed.Goals as goal

-- whether `#` leads on is its definition's
pub returns : goal.returns
returns c = subst (λ next. OnOk c.push_frame.result (c.push_frame.new.out.items ≡ c.args.out.now.items ++ frame_lines c.args.known.now c.args.filed.now.frame next)) c.leads_on.ensures c.push_frame.ensures
