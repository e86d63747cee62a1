use Rattle.std.proofs.Common.{◌∙◌, ap}
use Rattle.toml_places.specs.declared.spans.Span.{Span}
use Rattle.lint.specs.Tables.{offset_or, frame_whole}
use Rattle.lint.proofs.tables.TextTables.id_place.Goals as goal

pub returns-in-Some : goal.returns-in-Some
returns-in-Some c ms knows = ap (λ o. offset_or o (frame_whole c.args.self.now.text.now ms c.args.frame).begin) (c.in-Some.ensures.spot ms knows.keeps)

pub returns-in-None : goal.returns-in-None
returns-in-None c ms knows =
    ap (λ (s : Span). s.begin) (c.frame_whole.ensures ms knows)
    ∙ ap (λ o. offset_or o (frame_whole c.args.self.now.text.now ms c.args.frame).begin) (c.in-None.ensures.spot ms knows.keeps)
