use Rattle.std.proofs.Common.{◌≤◌, ◌+◌, ◌*◌, ◌/◌, length, ◌∙◌, arith}
use Rattle.std.proofs.lemmas.Option.{slice_get_within, get_or_from_slice_get}
use Rattle.std.proofs.Math.Nat.{div-mul-le_self}
use Rattle.toml_places.proofs.ScanTurns.{column_at}
use Rattle.toml_places.proofs.text_lines.TextLines.place.Goals as goal

pub index-requires : goal.index-requires
index-requires c =
    let end = c.min-end.result in
    let below : end / 512 * 512 ≤ length c.self.inside.text.now = omega (arith, div-mul-le_self end 512, c.min-end.ensures) in
    omega (arith, c.self.inside.places.ok, slice_get_within c.self.inside.places.items (end / 512) _ (c.self.invariant (end / 512) below))

pub place_from-requires-clause-place : goal.place_from-requires-clause-place
place_from-requires-clause-place c =
    let end = c.min-end.result in
    let below : end / 512 * 512 ≤ length c.self.inside.text.now = omega (arith, div-mul-le_self end 512, c.min-end.ensures) in
    c.index.ensures ∙ get_or_from_slice_get c.self.inside.places.items (end / 512) _ c.index.result.now (c.self.invariant (end / 512) below)

pub returns-clause-small : goal.returns-clause-small
returns-clause-small c =
    let at : c.place_from.result.1 ≤ length c.self.inside.text.now + 1 = rw c.place_from.ensures (column_at c.self.inside.text.now c.min-end.result) in
    omega (arith, c.self.told.1)
