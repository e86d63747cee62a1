use Rattle.std.proofs.Common.{◌≡◌, ◌+◌, ◌<◌, true, false, take, length, length-take, get_or, sym, ap, ◌∙◌, arith}
use Rattle.std.proofs.lemmas.Grind.{common_steps}
use Rattle.toml_places.specs.Skips.{is_feed}
use Rattle.toml_places.specs.Strings.{starts_char}
use Rattle.toml_places.proofs.ScanTurns.{line_within, column_within, line_feed, column_feed, line_other, column_char, column_same}
use Rattle.toml_places.proofs.text_lines.place_from.Goals.{then-byte-eq10, else-byte-eq10+then-starts_char, else-byte-eq10+else-starts_char}
use Rattle.toml_places.proofs.text_lines.place_from.Goals as goal

pub overflow_add-line : goal.overflow_add-line
overflow_add-line c =
    let before = take c.loop-i.i c.args.text.now in
    let bound = line_within before in
    let line = c.loop-i.invariant.0 in
    omega (arith, length-take c.loop-i.i c.args.text.now)

pub overflow_add-column : goal.overflow_add-column
overflow_add-column c =
    let before = take c.loop-i.i c.args.text.now in
    let bound = column_within before in
    let column = c.loop-i.invariant.1 in
    omega (arith, length-take c.loop-i.i c.args.text.now)

pub loop-i-preserved : goal.loop-i-preserved
loop-i-preserved c =
    let text = c.args.text.now in
    let i = c.loop-i.i in
    let line = c.loop-i.invariant.0 in
    let column = c.loop-i.invariant.1 in
    let room : i < length text = omega arith in
    elim c.if-byte-eq10.branch [
      | then-byte-eq10 w ↦
          let feed : is_feed (get_or text i 0) ≡ true = grind (arith, common_steps) in
          (w.line-is ∙ ap (λ n. n + 1) line ∙ sym (line_feed text i room feed), w.column-is ∙ sym (column_feed text i room feed))
      | else-byte-eq10+then-starts_char w ↦
          let other : is_feed (get_or text i 0) ≡ false = grind (arith, common_steps) in
          let char : starts_char (get_or text i 0) ≡ true = grind (arith, common_steps) in
          (w.line-is ∙ line ∙ sym (line_other text i room other), w.column-is ∙ ap (λ n. n + 1) column ∙ sym (column_char text i room other char))
      | else-byte-eq10+else-starts_char w ↦
          let other : is_feed (get_or text i 0) ≡ false = grind (arith, common_steps) in
          let char : starts_char (get_or text i 0) ≡ false = grind (arith, common_steps) in
          (w.line-is ∙ line ∙ sym (line_other text i room other), w.column-is ∙ column ∙ sym (column_same text i room other char))
    ]
