use Rattle.std.proofs.Common.{◌≡◌, [], Some, sym, ap, ◌∙◌}
use Rattle.std.specs.Option.{option_copied}
use Rattle.toml_places.specs.Places.{TableKeeps}
use Rattle.toml_places.specs.Spans.{from_offset}
use Rattle.toml_places.proofs.tables.TablePlaces.of.Goals as goal

pub returns-in_ok-note_table-in-Some : goal.returns-in_ok-note_table-in-Some
returns-in_ok-note_table-in-Some c =
    let from : from_offset c.args.at c.args.text.now ≡ Some c.in-Some.table.now = sym c.from_offset.ensures.value ∙ ap option_copied c.in-Some.is in
    let none : TableKeeps c.new-places.result [] = record { keys = c.new-places.ensures.keys; routes = c.new-places.ensures.routes } in
    rw from (c.in_ok-note_table-in-Some.ensures [] none)
