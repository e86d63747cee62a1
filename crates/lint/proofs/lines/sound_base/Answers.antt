use Rattle.std.proofs.Common.{◌∙◌, IsSome, ap, refl, rules}
use Rattle.toml.specs.Parse.{parse_document}
use Rattle.lint.specs.Lint.{tables_of}
use Rattle.lint.specs.FrameLines.{frame_lines_of}
use Rattle.lint.proofs.Judged.{parsed, text_base}
use Rattle.lint.proofs.Written.{faulty_whole, known_tables}
use Rattle.lint.proofs.lines.sound_base.Goals as goal

pub returns-in-Ok : goal.returns-in-Ok
returns-in-Ok c =
    let text = c.args.text.now in
    let o = c.args.outside.items in
    let fs = c.args.frames.items in
    let tables = c.as_slice-in-Ok.ensures.value ∙ (c.in_ok-tables.ensures ∙ (ap tables_of c.as_slice.ensures.value ∙ known_tables text c.args.entry o fs c.requires)) in
    let some : IsSome (parse_document text) = rw (parsed text c.requires.0 c.requires.2) refl in (
      text_base text c.args.entry o fs c.requires c.in-Ok.base (search rules),
      c.in_ok-lines-in-Ok.ensures some ∙ ap (frame_lines_of text) tables,
    )

pub returns : goal.returns
returns c =
    let whole = c.in-Err.field-0.items in
    faulty_whole c.args.text.now c.args.entry c.args.outside.items c.args.frames.items whole c.requires (search rules) (search rules)
