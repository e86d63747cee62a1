-- Which of some names is nearest to a word.
use Rattle.std.specs.Prelude.{◌≡◌, ℕ, ◌+◌, ◌&&◌, Bool, true, false, nat_lt, if◌then◌else◌, Option, Some, None}
use Rattle.std.specs.Prelude.{List, [], ◌∷◌, ◌++◌, length}
use Rattle.std.specs.List.{AllByRecursion}
use Rattle.std.specs.Str.{chars}
use Rattle.strsim.specs.Edits.{osa_table}

-- how many steps make the word the name
abbrev pub distance : List ℕ → List ℕ → ℕ
distance word name = (osa_table (chars word) (chars name)).last_row (length (chars name))

-- the name is fewer than this many steps away, and fewer than it has bytes
abbrev pub is_below : ℕ → List ℕ → List ℕ → Bool
is_below steps word name = nat_lt (distance word name) steps && nat_lt (distance word name) (length name)

-- A search: the word, and a number of steps below which a name is nearer than those before.
pub record SearchView : Type 0 where
  pub word : List ℕ
  pub below : ℕ

-- at first a name is to be near: at most two steps away
abbrev pub search_of : List ℕ → SearchView
search_of word = record { word = word; below = 3 }

-- the name is nearer than those before
abbrev pub is_nearer : SearchView → List ℕ → Bool
is_nearer s name = is_below s.below s.word name

-- the search once a name was offered
abbrev pub offered : SearchView → List ℕ → SearchView
offered s name = record { word = s.word; below = if is_nearer s name then distance s.word name else s.below }

module _ {A : Type 0} (name_of : A → List ℕ) where
  -- what is found once these were offered in turn
  abbrev pub found_after : SearchView → Option A → List A → Option A
  found_after s found [] = found
  found_after s found (x ∷ xs) =
      found_after (offered s (name_of x)) (if is_nearer s (name_of x) then Some x else found) xs

  abbrev pub nearest : List ℕ → List A → Option A
  nearest word xs = found_after (search_of word) None xs

  module _ (word : List ℕ) where
    abbrev pub steps_to : A → ℕ
    steps_to x = distance word (name_of x)

    -- none of them is fewer than this many steps away, and fewer than its name has bytes
    abbrev pub NoneBelow : ℕ → List A → Type 0
    NoneBelow steps xs = AllByRecursion (λ x. is_below steps word (name_of x) ≡ false) xs

    -- one of them is fewer than this many steps away; none before it is as near, and none after it is nearer
    abbrev pub IsNearestBelow : ℕ → List A → A → Type 0
    IsNearestBelow steps xs x =
        (before : List A) × (after : List A) × (xs ≡ before ++ x ∷ after) × (is_below steps word (name_of x) ≡ true) ×
        NoneBelow (steps_to x + 1) before × NoneBelow (steps_to x) after

    -- what is found is the nearest of the near ones; or none is near
    abbrev pub IsNearest : List A → Option A → Type 0
    IsNearest xs None = NoneBelow 3 xs
    IsNearest xs (Some x) = IsNearestBelow 3 xs x
