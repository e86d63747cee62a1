use Rattle.std.proofs.Common.{◌∙◌, ◌++◌, [], ◌∷◌, ap, codes}
use Rattle.audit_report.specs.Lines.{with_id}
use Rattle.audit_report.specs.Listing.{with_or, price_and_group_members, script_member}
use Rattle.audit_report.proofs.Appended.{appended}
use Rattle.audit_report.proofs.list_lines.push_frame_object.Goals as goal

-- the parts are appended one after another
pub returns-clause-items : goal.returns-clause-items
returns-clause-items c =
    let out = c.args.out.now.items in
    let f = c.args.frame.now in
    let words = codes "\",\"reached\":true,\"rank\":" in
    let a = with_id (codes "{\"frame\":\"") f.id in
    let b = with_or (codes "null") words c.args.rank in
    let m = price_and_group_members f in
    let s = script_member c.args.keys.now in
    let to_rank = c.push_or.ensures.items ∙ ap (λ r. c.push_id.new.out.items ++ with_or (codes "null") words r) c.rank_number.ensures in
    let two = appended out a b c.push_id.new.out.items c.push_or.new.out.items c.push_id.ensures.items to_rank in
    let three = appended out (a ++ b) m c.push_or.new.out.items c.push_members.new.out.items two c.push_members.ensures.items in
    let four = appended out (a ++ b ++ m) s c.push_members.new.out.items c.push_script_member.new.out.items three c.push_script_member.ensures.items in
    appended out (a ++ b ++ m ++ s) (10 ∷ []) c.push_script_member.new.out.items c.push_bytes.new.out.items four c.push_bytes.ensures.items
