-- Where a text writes what its frames show.
use Rattle.std.specs.Prelude.{ℕ, List, Option, map}
use Rattle.page_ids.specs.Ids.{Id}
use Rattle.base_text.specs.declared.listed.Listed.{Listed}
use Rattle.toml_places.specs.Places.{Mark, marks}
use Rattle.lint.specs.declared.pictures.PicturePlace.{PicturePlace}
use Rattle.lint.specs.Lookups.{value_of}
use Rattle.lint.specs.Tables.{picture_span}

-- a frame of the text, with where it is written
abbrev pub placed_picture : List ℕ → List Mark → Listed → Id × PicturePlace
placed_picture text ms l = (l.frame.id, record { lead = l.frame.lead; span = picture_span text ms l.table })

-- that of the frame of an id; none if there is no such frame
abbrev pub written_picture : List ℕ → List Listed → Id → Option PicturePlace
written_picture text frames id = value_of (map (placed_picture text (marks text)) frames) id
