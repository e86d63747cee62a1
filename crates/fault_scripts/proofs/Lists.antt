-- Lists by their indices.
use Rattle.std.proofs.Common.{◌≡◌, List, [], Some, slice_get, ◌∙◌, ap, arith}
use Rattle.std.specs.Prelude.{Contains}
use Rattle.std.proofs.lemmas.Option.{slice_get-get_or}

-- an element has an index
pub place_of : {X : Type 0} (xs : List X) (x : X) → (h : Contains xs x) → slice_get xs h.0 ≡ Some x
place_of xs x h = slice_get-get_or xs h.0 x h.1 ∙ ap Some h.2

pub none_in : {X : Type 0} (x : X) → Contains [] x → ⊥
none_in x h = absurd (omega (arith, h.1))
