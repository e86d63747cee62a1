use Rattle.std.proofs.Common.{◌≡◌, ◌≤◌, ◌+◌, length, List, Ok, sym, ap, ◌∙◌, arith}
use Rattle.cert_table.specs.declared.row.Row.{Row}
use Rattle.cert_text.specs.Lines.{row_in}
use Rattle.cert_text.specs.Reading.{Said}
use Rattle.cert_text.proofs.Sound.{row_sound}
use Rattle.cert_text.proofs.so_far.SoFar.take_row.Goals as goal

pub invariant_of-self-2 : goal.invariant_of-self-2
invariant_of-self-2 c =
    let room : length c.self.inside.rows.items + 1 ≤ c.self.inside.count =
    omega (
      arith,
      c.requires,
      ap (λ (s : Said). length s.rows) c.self.view_is,
      ap
          (λ (s : Said). s.count) c.self.view_is,
    ) in
    let read : row_in c.self.inside.rows.items c.args.line.now ≡ Ok c.in_ok-row.row =
    ap (λ (x : List Row). row_in x c.args.line.now) (sym c.deref.ensures.value) ∙ sym c.in_ok-row.ensures.value in
    row_sound _ c.args.line.now c.in_ok-row.row _ c.self.invariant room read c.in_ok-push.ensures.items
