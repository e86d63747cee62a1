-- A turn of a loop that appends the findings of one thing.
use Rattle.std.proofs.Common.{◌≡◌, ◌∙◌, ℕ, ◌+◌, ◌<◌, List, [], ◌∷◌, ◌++◌, length, map, drop, get_or, sym, ap, append_assoc}
use Rattle.std.specs.Prelude.{Option, flat_map}
use Rattle.std.proofs.lemmas.List.{drop_more}
use Rattle.toml_places.specs.Places.{Mark}
use Rattle.lint.specs.Findings.{FindingView}
use Rattle.lint.specs.Tables.{TableView, table_at}
use Rattle.lint.specs.Loops.{IsTable}

module _ {X : Type 0} (xs : List X) (i : ℕ) (x : X) (below : i < length xs) (is : x ≡ get_or xs i x) where
  left : drop i xs ≡ x ∷ drop (i + 1) xs
  left = drop_more xs i x below ∙ ap (λ y. y ∷ drop (i + 1) xs) (sym is)

  -- one finding
  pub one_more : (f : X → FindingView) (before after start : List FindingView) (g : FindingView) → g ≡ f x → after ≡ before ++ g ∷ []
      → before ++ map f (drop i xs) ≡ start → after ++ map f (drop (i + 1) xs) ≡ start
  one_more f before after start g is_of pushed so_far =
      let rest = map f (drop (i + 1) xs) in
      ap (λ ys. ys ++ rest) (pushed ∙ ap (λ y. before ++ y ∷ []) is_of)
      ∙ (append_assoc before (f x ∷ []) rest ∙ (ap (λ ys. before ++ map f ys) (sym left) ∙ so_far))

  -- some findings
  pub some_more : {Y : Type 0} (f : X → List Y) (before after start : List Y) → after ≡ before ++ f x
      → before ++ flat_map f (drop i xs) ≡ start → after ++ flat_map f (drop (i + 1) xs) ≡ start
  some_more f before after start added so_far =
      let rest = flat_map f (drop (i + 1) xs) in
      ap (λ ys. ys ++ rest) added
      ∙ (append_assoc before (f x) rest ∙ (ap (λ ys. before ++ flat_map f ys) (sym left) ∙ so_far))

-- the table of a frame is one of the text's
pub is_table : (text : List ℕ) (ms : List Mark) (frame : Option ℕ) (view : TableView) → view ≡ table_at text ms frame → IsTable text ms view
is_table text ms frame view e = e ∙ ap (table_at text ms) (sym (ap (λ v. v.frame) e))
