use Rattle.std.proofs.Common.{ap}
use Rattle.toml_places.specs.declared.text_lines.Extent.{Extent}
use Rattle.finding_forms.proofs.line_form.begin_of.Goals as goal

pub returns : goal.returns
returns c = ap (λ (e : Extent). (e.line, e.column)) c.extent-extent.ensures
