-- What screens conceal.
use Rattle.std.specs.Prelude.{Bool, false, not, List, map, ◌&&◌}
use Rattle.std.specs.List.{list_any}
use Rattle.screens.specs.declared.look.Look.{Look}
use Rattle.screens.specs.Looks.{is_space}

-- a look that conceals nothing, and is else the same
abbrev pub revealed_look : Look → Look
revealed_look a = record a { concealed = false }

-- the looks of a screen with all that they conceal
abbrev pub revealed : List (List Look) → List (List Look)
revealed rows = map (map revealed_look) rows

-- a cell conceals something: a blank one hasn't anything
abbrev pub conceals : Look → Bool
conceals a = a.concealed && not (is_space a.glyph)

abbrev pub row_conceals : List Look → Bool
row_conceals row = list_any conceals row

-- a screen conceals something
abbrev pub screen_conceals : List (List Look) → Bool
screen_conceals rows = list_any row_conceals rows
