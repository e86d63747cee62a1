-- Two tables in the order of ids, gone through side by side.
use Rattle.std.proofs.Common.{◌≡◌, ℕ, ◌+◌, ◌<◌, ◌≤◌, Bool, true, false, cond, List, length, get_or, drop, Some, None, inl, inr, refl, sym, ap, ◌∙◌, subst, arith}
use Rattle.std.specs.Prelude.{slice_get, is_some}
use Rattle.std.specs.Ordering.{is_lt}
use Rattle.std.specs.List.Sorted.{IsSortedByKey}
use Rattle.std.specs.declared.cmp.Ordering.TheVariants.{Less}
use Rattle.std.proofs.lemmas.Bool.{cases_lt}
use Rattle.std.proofs.lemmas.Bool.Decides.{nat_tests}
use Rattle.std.proofs.lemmas.Option.{slice_get_within, get_or_from_slice_get}
use Rattle.std.proofs.lemmas.List.{drop_all}
use Rattle.std.proofs.lemmas.List.Sorted.{ranks_by, sorted_far}
use Rattle.page_ids.specs.Ids.{Id, id_cmp, id_eq}
use Rattle.page_ids.specs.IdLaws.{id_cmp_total}
use Rattle.frame_records.proofs.Finds.{find_first, find_none}
use Rattle.cert_table.specs.declared.row.Row.{Row}
use Rattle.cert_table.specs.Table.{AreRows}
use Rattle.checker.specs.Good.{is_row_of}
use Rattle.checker.specs.Change.{lost_id}
use Rattle.checker.specs.Loops.{AreBelow, IsPlaceOf}
use Rattle.checker.proofs.RowsInTurn.{drop_at}
use Rattle.page_ids.proofs.Truths.{less_is}
use Rattle.page_ids.specs.IdLaws.{not_after, less_apart}

-- an id has no row after a row that isn't before it and isn't its own
other_after : (a b id : Id) → is_lt (id_cmp a id) ≡ false → id_eq a id ≡ false → is_lt (id_cmp b a) ≡ false → id_eq b id ≡ false
other_after a b id h other up = grind (arith, nat_tests)

-- what is before an id is before those after it
still_below : (a b c : Id) → id_cmp a b ≡ Less → is_lt (id_cmp c b) ≡ false → id_cmp a c ≡ Less
still_below a b c lt up = grind (arith, nat_tests)

-- a later row's id isn't below an earlier one's
pub far : (rows : List Row) → AreRows rows → (i j : ℕ) (d : Row) → i ≤ j → j < length rows → is_lt (id_cmp (get_or rows j d).id (get_or rows i d).id) ≡ false
far rows are i j d le lt = sorted_far (λ r s. is_lt (id_cmp r.id s.id)) (ranks_by id_cmp_total (λ (r : Row). r.id)) rows sorted i j d le lt where
  sorted : IsSortedByKey (λ r. r.id) id_cmp rows
  sorted k e low within = not_after (get_or rows k e).id (get_or rows (k + 1) e).id (are.ascending k e within)

module _ (rows : List Row) (id : Id) (at : ℕ) (below : AreBelow rows at id) where
  -- one row further on
  pub below_more : (row : Row) → slice_get rows at ≡ Some row → is_lt (id_cmp row.id id) ≡ true → AreBelow rows (at + 1) id
  below_more row here lt k d before within = elim (cases_lt k at) [
    | inl earlier ↦ below k d earlier within
    | inr late ↦ subst (λ (n : ℕ). id_cmp (get_or rows n d).id id ≡ Less) (at_is_k late) (ap (λ (r : Row). id_cmp r.id id) (get_or_from_slice_get rows at row d here) ∙ less_is (id_cmp row.id id) lt)
  ] where
    at_is_k : at ≤ k → at ≡ k
    at_is_k late = omega (arith, before, late)

  pub place_here : (row : Row) → slice_get rows at ≡ Some row → is_lt (id_cmp row.id id) ≡ false → IsPlaceOf rows id at
  place_here row here h = record {
    below = below;
    here = λ d lt. ap (λ (r : Row). is_lt (id_cmp r.id id)) (get_or_from_slice_get rows at row d here) ∙ h;
  }

  pub place_end : (n : ℕ) → n ≡ length rows → n ≤ at → IsPlaceOf rows id n
  place_end n is le = record {
    below = λ k d before within. below k d (omega (arith, before, le)) within;
    here = λ d lt. absurd (omega (arith, lt, is));
  }

-- the row at an id's place is the id's, or no row is
module _ (rows : List Row) (are : AreRows rows) (id : Id) (at : ℕ) (place : IsPlaceOf rows id at) where
  pub not_covered : ((d : Row) → at < length rows → id_eq (get_or rows at d).id id ≡ false) → is_row_of rows id ≡ false
  not_covered other =
      ap is_some (find_none (λ (r : Row). id_eq r.id id) rows (λ k d lt. elim (cases_lt k at) [
        | inl before ↦ less_apart (get_or rows k d).id id (place.below k d before lt)
        | inr behind ↦ other_after (get_or rows at d).id (get_or rows k d).id id (place.here d (omega (arith, behind, lt))) (other d (omega (arith, behind, lt))) (far rows are at k d behind lt)
      ]))

  pub covered_is : (row : Row) → slice_get rows at ≡ Some row → id_eq row.id id ≡ is_row_of rows id
  covered_is row here = by (id_eq row.id id) refl where
    within : at < length rows
    within = slice_get_within rows at row here

    by : (same : Bool) → id_eq row.id id ≡ same → same ≡ is_row_of rows id
    by true e =
        sym (ap is_some (find_first (λ (r : Row). id_eq r.id id) rows at row within (get_or_from_slice_get rows at row row here) e (λ k before. less_apart (get_or rows k row).id id (place.below k row before (omega (arith, before, within))))))
    by false e = sym (not_covered (λ d lt. ap (λ (r : Row). id_eq r.id id) (get_or_from_slice_get rows at row d here) ∙ e))

-- the old rows from i on are after the new ones before a place
pub record AreBeside (old new : List Row) (i at : ℕ) : Type 0 where
  pub right : lost_id (drop i old) new ≡ lost_id old new
  pub below : (j : ℕ) (d : Row) → i ≤ j → j < length old → AreBelow new at (get_or old j d).id

pub beside_first : (old new : List Row) → AreBeside old new 0 0
beside_first old new = record { right = refl; below = λ j d le lt k e before within. absurd (omega (arith, before)) }

module _ (old new : List Row) (are : AreRows old) (i : ℕ) (row : Row) (here : slice_get old i ≡ Some row) where
  within_old : i < length old
  within_old = slice_get_within old i row here

  row_is : (d : Row) → get_or old i d ≡ row
  row_is d = get_or_from_slice_get old i row d here

  pub below_row : (at : ℕ) → AreBeside old new i at → AreBelow new at row.id
  below_row at beside = subst (λ (r : Row). AreBelow new at r.id) (row_is row) (beside.below i row (omega arith) within_old)

  pub is_lost : is_row_of new row.id ≡ false → lost_id (drop i old) new ≡ Some row.id
  is_lost none = ap (λ (rows : List Row). lost_id rows new) (drop_at old i row here) ∙ ap (λ (b : Bool). cond b (lost_id (drop (i + 1) old) new) (Some row.id)) none

  is_kept : is_row_of new row.id ≡ true → lost_id (drop i old) new ≡ lost_id (drop (i + 1) old) new
  is_kept some = ap (λ (rows : List Row). lost_id rows new) (drop_at old i row here) ∙ ap (λ (b : Bool). cond b (lost_id (drop (i + 1) old) new) (Some row.id)) some

  pub beside_next : (at next : ℕ) → AreBeside old new i at → is_row_of new row.id ≡ true → IsPlaceOf new row.id next → AreBeside old new (i + 1) next
  beside_next at next beside covered place = record {
    right = sym (is_kept covered) ∙ beside.right;
    below = λ j d le lt k e before within.
        still_below (get_or new k e).id row.id (get_or old j d).id (place.below k e before within)
        (subst (λ (r : Row). is_lt (id_cmp (get_or old j d).id r.id) ≡ false) (row_is d) (far old are i j d (omega (arith, le)) lt));
  }

pub none_lost : (old new : List Row) (i at : ℕ) → AreBeside old new i at → length old ≤ i → None ≡ lost_id old new
none_lost old new i at beside le = sym (ap (λ (rows : List Row). lost_id rows new) (drop_all i old le)) ∙ beside.right
