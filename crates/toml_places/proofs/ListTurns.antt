-- The elements of an array, listed one after another.
use Rattle.std.proofs.Common.{◌≡◌, ℕ, zero, suc, List, [], ◌∷◌, ◌++◌, Option, Some, None, option_map, refl}
use Rattle.std.specs.List.{slice_get}
use Rattle.toml_places.specs.declared.spans.Span.{Span}
use Rattle.toml_places.specs.Strings.{TextPart}
use Rattle.toml_places.specs.Values.{next_element, element_from}

module _ (see : TextPart → Span) where
  -- the k-th of these spans and then of the elements of the rest
  abbrev pub listed : List Span → ℕ → List ℕ → Option Span
  listed [] k rest = option_map see (element_from k rest)
  listed (s ∷ ss) zero rest = Some s
  listed (s ∷ ss) (suc k) rest = listed ss k rest

  pub one_more : (spans : List Span) (k : ℕ) (rest next : List ℕ) (p : TextPart) → next_element rest ≡ Some (p, next)
      → listed spans k rest ≡ listed (spans ++ see p ∷ []) k next
  unfolding element_from
  one_more [] zero rest next p is = rw is
  one_more [] (suc k) rest next p is = rw is
  one_more (s ∷ ss) zero rest next p is = refl
  one_more (s ∷ ss) (suc k) rest next p is = one_more ss k rest next p is

  pub no_more : (spans : List Span) (k : ℕ) (rest : List ℕ) → next_element rest ≡ None → listed spans k rest ≡ slice_get spans k
  unfolding element_from
  no_more [] zero rest none = rw none
  no_more [] (suc k) rest none = rw none
  no_more (s ∷ ss) zero rest none = refl
  no_more (s ∷ ss) (suc k) rest none = no_more ss k rest none
