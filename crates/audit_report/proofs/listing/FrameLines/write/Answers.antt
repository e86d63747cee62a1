use Rattle.std.proofs.Common.{◌++◌, List, ℕ, length, subst}
use Rattle.std.specs.Prelude.{IfErr}
use Rattle.devices.specs.Devices.{WrotePart}
use Rattle.frame_records.specs.declared.frame.Frame.{Frame}
use Rattle.frame_records.specs.Bases.{BaseView}
use Rattle.audit_report.specs.Views.{LinesView}
use Rattle.audit_report.specs.Listing.{reached_lines, unreached_lines, all_lines}
use Rattle.audit_report.proofs.listing.FrameLines.write.Goals as goal

pub returns-in-Ok-clause-part : goal.returns-in-Ok-clause-part
returns-in-Ok-clause-part g c =
    let lines = c.self.inside in
    let found = lines.survey.found in
    let start = g.S.Sink.seen c.args.sink.now in
    let Part = λ (text : List ℕ). IfErr c.write_rest.result (λ fault. WrotePart start (g.S.Sink.seen c.write_rest.new.sink) text fault.wrote) in
    let written = c.write_rest.ensures.part start (reached_lines lines.form lines.survey.base found (length found)) found c.self.invariant.knows c.in-Ok.ensures.taken in
    let of_frames = subst (λ (fs : List Frame). Part (reached_lines lines.form lines.survey.base found (length found) ++ unreached_lines lines.form found fs)) c.frames.ensures.all written in
    let of_base = subst (λ (b : BaseView). Part (reached_lines lines.form b found (length found) ++ unreached_lines lines.form found lines.base.now.frames)) c.self.invariant.same of_frames in
    subst (λ (v : LinesView). Part (all_lines v.form v.base v.found)) c.self.view_is of_base

pub returns-clause-part : goal.returns-clause-part
returns-clause-part g c =
    let lines = c.self.inside in
    let found = lines.survey.found in
    let Part = λ (text : List ℕ). WrotePart (g.S.Sink.seen c.args.sink.now) (g.S.Sink.seen c.write_reached.new.sink) text c.in-Err.fault.wrote in
    let of_base = subst (λ (b : BaseView). Part (reached_lines lines.form b found (length found) ++ unreached_lines lines.form found lines.base.now.frames)) c.self.invariant.same (c.in-Err.ensures.part (unreached_lines lines.form found lines.base.now.frames)) in
    subst (λ (v : LinesView). Part (all_lines v.form v.base v.found)) c.self.view_is of_base
