-- The names of an edition's files.
use Rattle.std.specs.Prelude.{ℕ, List, codes}
use Rattle.editions.specs.declared.edition_file.EditionFile.{EditionFile}
use Rattle.editions.specs.declared.edition_file.EditionFile.TheVariants.{Base, Cert, Policy, Follows, Sums}

-- the name below the edition's folder
abbrev pub file_name : EditionFile → List ℕ
file_name Base = codes "base.toml"
file_name Cert = codes "base.cert"
file_name Policy = codes "policy.toml"
file_name Follows = codes "follows"
file_name Sums = codes "SHA256SUMS"
