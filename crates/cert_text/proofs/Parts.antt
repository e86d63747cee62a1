-- A line and its parts.
use Rattle.std.proofs.Common.{◌≡◌, ℕ, ◌<◌, List, [], ◌∷◌, length, Err, refl, arith}
use Rattle.std.specs.Prelude.{◌==◌}
use Rattle.std.proofs.lemmas.List.Splits.{length-slice_split}
use Rattle.page_ids.specs.Parts.{parts_of}
use Rattle.cert_text.specs.declared.fault.LineCause.TheVariants.{Word}
use Rattle.cert_text.specs.Lines.{row_of_parts}

four : (a b c : List ℕ) (more : List (List ℕ)) → 0 < length more → row_of_parts (a ∷ b ∷ c ∷ more) ≡ Err Word
four a b c [] h = absurd (omega arith)
four a b c (d ∷ more) h = refl

-- three spaces are too many
pub too_many : (a b c rest : List ℕ) → row_of_parts (a ∷ b ∷ c ∷ parts_of 32 rest) ≡ Err Word
too_many a b c rest = four a b c (parts_of 32 rest) (omega (arith, length-slice_split (λ b. b == 32) rest))
