-- The sums of an edition's files, as `sha256sum -c` reads them.
use Rattle.std.specs.Prelude.{ℕ, List, ◌∷◌, [], ◌++◌, codes}
use Rattle.hex.specs.Hex.{encode_lower}
use Rattle.sha2.specs.Sha256.{sha256}
use Rattle.editions.specs.declared.edition_file.EditionFile.{EditionFile}
use Rattle.editions.specs.declared.edition_file.EditionFile.TheVariants.{Base, Cert, Policy, Follows}
use Rattle.editions.specs.Names.{file_name}

-- the sum in base 16, two spaces, the file's name and a line end (10)
abbrev pub sum_line : EditionFile → List ℕ → List ℕ
sum_line file bytes = encode_lower (sha256 bytes) ++ (codes "  " ++ (file_name file ++ (10 ∷ [])))

-- a line for each of the four files
abbrev pub sums_text : List ℕ → List ℕ → List ℕ → List ℕ → List ℕ
sums_text base cert policy follows =
    sum_line Base base ++ (sum_line Cert cert ++ (sum_line Policy policy ++ sum_line Follows follows))
