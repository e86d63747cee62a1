-- Mosaics as rectangles. A cell is 12 units wide and 20 high; its blocks are 6 wide and 6, 8 and 6 high.
use Rattle.std.specs.Prelude.{ℕ, Bool, true, false, List, [], ◌∷◌, ◌++◌, Option, Some, None, codes, decimal, ◌+◌, ◌/◌, ◌%◌, ◌==◌, if◌then◌else◌}
use Rattle.std.specs.List.{flat_map}
use Rattle.screens.specs.declared.look.Glyph.{Glyph}
use Rattle.screens.specs.declared.look.Glyph.TheVariants.{Char, Block}
use Rattle.screens.specs.declared.look.Height.{Height}
use Rattle.screens.specs.declared.look.Height.TheVariants.{Single, Upper, Lower}
use Rattle.screens.specs.declared.look.Look.{Look}
use Rattle.screens.specs.declared.mosaic.Mosaic.{Mosaic}
use Rattle.screens.specs.Table.{six}
use Rattle.screens.specs.declared.mosaics.Third.{Third}
use Rattle.screens.specs.declared.mosaics.Third.TheVariants.{Top, Middle, Bottom}
use Rattle.screens.specs.declared.mosaics.Units.{Units}

abbrev pub span : ℕ → ℕ → Units
span start size = record { start = start; size = size }

-- Up and down.

-- contiguous blocks; double height is twice as high, cut between the halves
abbrev pub contiguous : Height → Third → Option Units
contiguous Single Top = Some (span 0 6)
contiguous Single Middle = Some (span 6 8)
contiguous Single Bottom = Some (span 14 6)
contiguous Upper Top = Some (span 0 12)
contiguous Upper Middle = Some (span 12 8)
contiguous Upper Bottom = None
contiguous Lower Top = None
contiguous Lower Middle = Some (span 0 8)
contiguous Lower Bottom = Some (span 8 12)

-- separated blocks lose a unit above and below, at double height two
abbrev pub separated : Height → Third → Option Units
separated Single Top = Some (span 1 4)
separated Single Middle = Some (span 7 6)
separated Single Bottom = Some (span 15 4)
separated Upper Top = Some (span 2 8)
separated Upper Middle = Some (span 14 6)
separated Upper Bottom = None
separated Lower Top = None
separated Lower Middle = Some (span 0 6)
separated Lower Bottom = Some (span 10 8)

abbrev pub down : Bool → Height → Third → Option Units
down true height part = separated height part
down false height part = contiguous height part

-- Across.

-- the left block (1), the right one (2), or both (3); separated ones lose a unit on the left and on the right
abbrev pub across : Bool → ℕ → List Units
across true n = if n == 1 then span 1 4 ∷ [] else if n == 2 then span 7 4 ∷ [] else if n == 3 then span 1 4 ∷ span 7 4 ∷ [] else []
across false n = if n == 1 then span 0 6 ∷ [] else if n == 2 then span 6 6 ∷ [] else if n == 3 then span 0 12 ∷ [] else []

-- the two bits of a part
abbrev pub bits_of : Third → ℕ → ℕ
bits_of Top n = n % 4
bits_of Middle n = n / 4 % 4
bits_of Bottom n = n / 16

-- As the path of an SVG picture.

-- a rectangle: its left upper corner, along, down, back and closed
abbrev pub rectangle : ℕ → ℕ → Units → Units → List ℕ
rectangle x y wide high =
    codes "M" ++ decimal (x + wide.start) ++ codes " " ++ decimal (y + high.start) ++ codes "h" ++ decimal wide.size ++ codes "v" ++ decimal high.size ++ codes "h-" ++ decimal wide.size ++ codes "z"

abbrev pub rectangles : ℕ → ℕ → List Units → Option Units → List ℕ
rectangles x y wide None = []
rectangles x y wide (Some high) = flat_map (λ w. rectangle x y w high) wide

-- a part of a mosaic in the cell at x and y
abbrev pub part_path : ℕ → ℕ → Height → Mosaic → Third → List ℕ
part_path x y height m part = rectangles x y (across m.separated (bits_of part (six m.sextants))) (down m.separated height part)

abbrev pub mosaic_path : ℕ → ℕ → Height → Mosaic → List ℕ
mosaic_path x y height m = part_path x y height m Top ++ part_path x y height m Middle ++ part_path x y height m Bottom

abbrev pub glyph_path : ℕ → ℕ → Height → Glyph → List ℕ
glyph_path x y height (Char c) = []
glyph_path x y height (Block m) = mosaic_path x y height m

-- the mosaics of neighbouring cells, the first of them at x and y
abbrev pub mosaics_path : ℕ → ℕ → List Look → List ℕ
mosaics_path x y [] = []
mosaics_path x y (a ∷ rest) = glyph_path x y a.height a.glyph ++ mosaics_path (x + 12) y rest
