-- The rows that are gathered from discovered frames without a fault: each frame has one, in its place.
use Rattle.std.proofs.Common.{◌≡◌, ◌≤◌, ℕ, zero, suc, nat_lt, Bool, true, false, List, [], ◌∷◌, ◌++◌, length, Option, Some, slice_get, refl, sym, ◌∙◌, ap, subst, arith}
use Rattle.std.specs.Prelude.{Contains, count_by}
use Rattle.std.specs.List.{flat_map}
use Rattle.std.proofs.lemmas.Bool.Decides.{nat_tests}
use Rattle.std.proofs.lemmas.Option.{same_Some, get_or_from_slice_get, slice_get_within}
use Rattle.page_ids.specs.Ids.{Id, id_eq}
use Rattle.page_ids.specs.IdLaws.{id_eq_same}
use Rattle.frame_records.specs.Bases.{BaseView}
use Rattle.frame_records.proofs.Finds.{IsPlace, two_places}
use Rattle.abstract_paint.specs.declared.cursor.AbsCursor.{AbsCursor}
use Rattle.abstract_paint.specs.Paint.{paint_of}
use Rattle.cert_table.specs.declared.row.Row.{Row}
use Rattle.checker.specs.declared.policy.Policy.{Policy}
use Rattle.finder.specs.declared.found.Discovered.{Discovered}
use Rattle.fault_scripts.specs.Loops.{row_if_clean, row_by, row_at}
use Rattle.finder.proofs.Lists.{at_within, at_contains}
use Rattle.fault_scripts.proofs.Lists.{place_of}
use Rattle.fault_scripts.proofs.Sound.{IsSound}

-- the row of a discovered frame
abbrev pub row_with : Id → ℕ → AbsCursor → Row
row_with id rank cursor = record { id = id; rank = rank; cursor = cursor }

-- lists of one element each, joined: as many, and each in its place
ones_length : {X Y : Type 0} (f : X → List Y) (xs : List X)
    → ((i : ℕ) (x : X) → slice_get xs i ≡ Some x → (y : Y) × (f x ≡ y ∷ [])) → length (flat_map f xs) ≡ length xs
ones_length f [] each = refl
ones_length {X} {Y} f (x ∷ xs) each = omega (arith, ap (λ (l : List Y). length (l ++ flat_map f xs)) (each 0 x refl).1, ones_length f xs (λ i z at. each (suc i) z at))

ones_at : {X Y : Type 0} (f : X → List Y) (xs : List X)
    → ((i : ℕ) (x : X) → slice_get xs i ≡ Some x → (y : Y) × (f x ≡ y ∷ [])) → (i : ℕ) (x : X) (y : Y)
    → slice_get xs i ≡ Some x → slice_get (flat_map f xs) i ≡ Some y → f x ≡ y ∷ []
ones_at f [] each i x y at there = absurd cc
ones_at {X} {Y} f (z ∷ xs) each zero x y at there =
    let one = each 0 z refl in
    let same : one.0 ≡ y = same_Some one.0 y (sym (ap (λ (l : List Y). slice_get (l ++ flat_map f xs) 0) one.1) ∙ there) in
    ap f (sym (same_Some z x at)) ∙ one.1 ∙ ap (λ (w : Y). w ∷ []) same
ones_at {X} {Y} f (z ∷ xs) each (suc i) x y at there =
    let one = each 0 z refl in
    ones_at f xs (λ j w h. each (suc j) w h) i x y at (sym (ap (λ (l : List Y). slice_get (l ++ flat_map f xs) (suc i)) one.1) ∙ there)

-- the row is that of a discovered frame without a fault
pub record IsRowOf (base : BaseView) (policy : Policy) (found : List Discovered) (row : Row) : Type 0 where
  pub index : ℕ
  pub discovered : Discovered
  pub listed : slice_get found index ≡ Some discovered
  pub sound : IsSound base policy discovered
  pub is : row ≡ row_with discovered.id sound.rank sound.cursor

module _ (base : BaseView) (policy : Policy) (found : List Discovered) (sound : (i : ℕ) (d : Discovered) → slice_get found i ≡ Some d → IsSound base policy d) where
  abbrev pub gathered : List Row
  gathered = flat_map (row_at base) found

  one_row : (d : Discovered) (s : IsSound base policy d) → row_at base d ≡ row_with d.id s.rank s.cursor ∷ []
  one_row d s =
      ap (row_by d) s.of_frame
      ∙ ap (λ (r : Option ℕ). row_if_clean d.id r (paint_of s.frame.lead s.frame.body)) s.ranked
      ∙ ap (row_if_clean d.id (Some s.rank)) s.painted

  own : (i : ℕ) (d : Discovered) → slice_get found i ≡ Some d → (row : Row) × (row_at base d ≡ row ∷ [])
  own i d at = let s = sound i d at in (row_with d.id s.rank s.cursor, one_row d s)

  pub row_count : length gathered ≡ length found
  row_count = ones_length (row_at base) found own

  -- each row is in its frame's place
  row_is : (k : ℕ) (d : Discovered) (row : Row) → slice_get found k ≡ Some d → slice_get gathered k ≡ Some row
      → (s : IsSound base policy d) → row ≡ row_with d.id s.rank s.cursor
  row_is k d row listed at s =
      let both : row ∷ [] ≡ row_with d.id s.rank s.cursor ∷ [] = sym (ones_at (row_at base) found own k d row listed at) ∙ one_row d s in
      cc

  of_index : (k : ℕ) (row : Row) → slice_get gathered k ≡ Some row → (r : IsRowOf base policy found row) × (r.index ≡ k)
  of_index k row at =
      let d = at_within found k (omega (arith, slice_get_within gathered k row at, row_count)) in
      let s = sound k d.0 d.1 in
      (record { index = k; discovered = d.0; listed = d.1; sound = s; is = row_is k d.0 row d.1 at s }, refl)

  pub row_from : (row : Row) → Contains gathered row → IsRowOf base policy found row
  row_from row h = (of_index h.0 row (place_of gathered row h)).0

  pub row_in : (i : ℕ) (d : Discovered) → slice_get found i ≡ Some d → (s : IsSound base policy d)
      → Contains gathered (row_with d.id s.rank s.cursor)
  row_in i d listed s =
      let row = at_within gathered i (omega (arith, slice_get_within found i d listed, row_count)) in
      subst (Contains gathered) (row_is i d row.0 listed row.1 s) (at_contains gathered i row.0 row.1)

  -- no id is twice there, if none is twice among the frames
  pub none_twice : ((i j : ℕ) (d e : Discovered) → slice_get found i ≡ Some d → slice_get found j ≡ Some e → d.id ≡ e.id → i ≡ j) → (id : Id) → count_by (λ r. id_eq r.id id) gathered ≤ 1
  none_twice once id = by (nat_lt 1 (count_by (λ r. id_eq r.id id) gathered)) refl where
    -- the frame of a place that passes has the id
    frame_of : (k : ℕ) → IsPlace (λ r. id_eq r.id id) gathered k
        → (d : Discovered) × (slice_get found k ≡ Some d) × (d.id ≡ id)
    frame_of k p =
        let row = at_within gathered k p.within in
        let r = of_index k row.0 row.1 in
        let at : id_eq row.0.id id ≡ true = ap (λ (x : Row). id_eq x.id id) (sym (get_or_from_slice_get gathered k row.0 row.0 row.1)) ∙ p.passes row.0 in
        (r.0.discovered, subst (λ (n : ℕ). slice_get found n ≡ Some r.0.discovered) r.1 r.0.listed, sym (ap (λ (x : Row). x.id) r.0.is) ∙ id_eq_same row.0.id id at)

    by : (b : Bool) → nat_lt 1 (count_by (λ r. id_eq r.id id) gathered) ≡ b → count_by (λ r. id_eq r.id id) gathered ≤ 1
    by false e = grind (arith, nat_tests)
    by true e =
        let two = two_places (λ r. id_eq r.id id) gathered (grind (arith, nat_tests)) in
        let a = frame_of two.0 two.3 in
        let b = frame_of two.1 two.4 in
        absurd (omega (arith, two.2, once two.0 two.1 a.0 b.0 a.1 b.1 (a.2 ∙ sym b.2)))
