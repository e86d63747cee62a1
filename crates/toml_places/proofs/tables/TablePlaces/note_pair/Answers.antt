use Rattle.std.proofs.Common.{◌≡◌, length, slice_get, refl}
use Rattle.std.proofs.lemmas.List.{length-map}
use Rattle.std.specs.Option.{option_copied}
use Rattle.toml_parser.specs.Reading.{path_view}
use Rattle.toml_places.specs.Places.{inline_mark}
use Rattle.toml_places.proofs.Firsts.{table_keeps, ok_then}
use Rattle.toml_places.proofs.tables.TablePlaces.note_pair.Goals as goal

pub returns : goal.returns
returns c =
    let m = inline_mark c.args.at (path_view c.args.path.now) in
    let len : length (path_view c.args.path.now) ≡ length c.args.path.now = length-map c.args.path.now _ in
    let one : option_copied c.part-one.result ≡ slice_get (path_view c.args.path.now) 0 = c.part-one.ensures in
    let two : option_copied c.part-two.result ≡ slice_get (path_view c.args.path.now) 1 = c.part-two.ensures in
    ok_then c.note.result _ _ c.note.ensures λ noted ms h.
    table_keeps c.args.self.now c.note.new.self ms m h refl (rw (len, ← one, ← two) noted)
