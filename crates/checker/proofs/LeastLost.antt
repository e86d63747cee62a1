-- The id that a refused change names is the smallest lost one.
use Rattle.std.proofs.Common.{◌≡◌, ◌==◌, Bool, true, false, cond, List, [], ◌∷◌, Option, Some, None, ◌⊎◌, ◌+◌, inl, inr, refl, sym, ap, ◌∙◌, subst, length, get_or, ◌<◌, ℕ, suc, arith}
use Rattle.std.specs.Prelude.{is_some}
use Rattle.std.specs.Ordering.{is_lt}
use Rattle.std.specs.List.{AllByRecursion}
use Rattle.std.specs.declared.cmp.Ordering.TheVariants.{Less}
use Rattle.std.proofs.lemmas.Option.{same_Some}
use Rattle.std.proofs.lemmas.Bool.Decides.{nat_tests}
use Rattle.page_ids.specs.Ids.{Id, id_cmp, id_eq}
use Rattle.page_ids.specs.IdLaws.{id_eq_same, id_eq_refl}
use Rattle.cert_table.specs.declared.row.Row.{Row}
use Rattle.cert_table.specs.Table.{AreRows, row_among}
use Rattle.checker.specs.declared.verdict.Verdict.{Verdict}
use Rattle.checker.specs.declared.verdict.Verdict.TheVariants as verdicts
use Rattle.checker.specs.declared.change.ChangeVerdict.{ChangeVerdict}
use Rattle.checker.specs.declared.change.ChangeVerdict.TheVariants.{EntryMoved, NoLongerCovered}
use Rattle.checker.specs.Good.{is_row_of}
use Rattle.checker.specs.Verdict.{verdict}
use Rattle.checker.specs.Change.{lost_id, unless_lost, unless_old, unless_new, keeps_covered, LostIsLeast}
use Rattle.checker.proofs.Places.{far}
use Rattle.checker.proofs.Steps.{some_there, row_is}
use Rattle.page_ids.proofs.Truths.{clash}

-- a verdict that names a lost id is that of the rows
named : (v w : Verdict) (later : ChangeVerdict) (id : Id) → unless_old v (unless_new w later) ≡ NoLongerCovered id → later ≡ NoLongerCovered id
named verdicts.Cleared verdicts.Cleared later id e = e
named verdicts.Cleared (verdicts.Refused cause) later id e = absurd cc
named (verdicts.Refused cause) w later id e = absurd cc

lost_named : (same : Bool) (lost : Option Id) (id : Id) → cond same (unless_lost lost) EntryMoved ≡ NoLongerCovered id → lost ≡ Some id
lost_named true None id e = absurd cc
lost_named true (Some other) id e = cc
lost_named false lost id e = absurd cc

by_index : (P : Row → Type 0) (rows : List Row) → ((k : ℕ) (d : Row) → k < length rows → P (get_or rows k d)) → AllByRecursion P rows
by_index P [] each = tt
by_index P (row ∷ rows) each = (each 0 row (omega arith), by_index P rows (λ k d lt. each (suc k) d (omega (arith, lt))))

-- no row after the first is before it
not_before : (row : Row) (rows : List Row) → AreRows (row ∷ rows) → AllByRecursion (λ r. is_lt (id_cmp r.id row.id) ≡ false) rows
not_before row rows are = by_index (λ r. is_lt (id_cmp r.id row.id) ≡ false) rows (λ k d lt. far (row ∷ rows) are 0 (suc k) d (omega arith) (omega (arith, lt)))

next_place : (k : ℕ) → suc k + 1 ≡ suc (k + 1)
next_place k = omega arith

others : (row : Row) (rows : List Row) → AreRows (row ∷ rows) → AreRows rows
others row rows are = record {
  few = omega (arith, are.few);
  ascending = λ k d lt. subst (λ (n : ℕ). id_cmp (get_or rows k d).id (get_or (row ∷ rows) n d).id ≡ Less) (next_place k) (are.ascending (suc k) d (omega (arith, lt)));
}

-- an id's row is the first one or among the others
covered_by : (b : Bool) (row : Row) (rest : Option Row) → is_some (cond b (Some row) rest) ≡ true → (b ≡ true) ⊎ (is_some rest ≡ true)
covered_by true row rest h = inl refl
covered_by false row rest h = inr h

among_others : (b : Bool) (row : Row) (rest : Option Row) → is_some rest ≡ true → is_some (cond b (Some row) rest) ≡ true
among_others true row rest h = refl
among_others false row rest h = h

not_before_itself : (id : Id) → is_lt (id_cmp id id) ≡ false
not_before_itself id = grind (arith, nat_tests)

-- it is covered by the old rows, and not by the new ones
is_lost : (old new : List Row) (id : Id) → lost_id old new ≡ Some id → (is_row_of old id ≡ true) × (is_row_of new id ≡ false)
is_lost [] new id e = absurd cc
is_lost (row ∷ old) new id e = by (is_lost old new id) (is_row_of new row.id) refl e where
  by : (lost_id old new ≡ Some id → (is_row_of old id ≡ true) × (is_row_of new id ≡ false)) → (covered : Bool) → is_row_of new row.id ≡ covered → cond covered (lost_id old new) (Some row.id) ≡ Some id → (is_row_of (row ∷ old) id ≡ true) × (is_row_of new id ≡ false)
  by others true there e = let later = others e in (among_others (id_eq row.id id) row (row_among old id) later.0, later.1)
  by others false there e =
      let same = same_Some row.id id e in
      (subst (λ (i : Id). is_row_of (row ∷ old) i ≡ true) same (ap (λ (b : Bool). is_some (cond b (Some row) (row_among old row.id))) (id_eq_refl row.id)), subst (λ (i : Id). is_row_of new i ≡ false) same there)

-- and no such id is before it
none_before : (old new : List Row) (id other : Id) → AreRows old → lost_id old new ≡ Some id → is_row_of old other ≡ true → is_row_of new other ≡ false → is_lt (id_cmp other id) ≡ false
none_before [] new id other are e covered lost = absurd cc
none_before (row ∷ old) new id other are e covered lost = by (none_before old new id other (others row old are)) (is_row_of new row.id) refl e (covered_by (id_eq row.id other) row (row_among old other) covered) where
  by : (lost_id old new ≡ Some id → is_row_of old other ≡ true → is_row_of new other ≡ false → is_lt (id_cmp other id) ≡ false) → (kept : Bool) → is_row_of new row.id ≡ kept → cond kept (lost_id old new) (Some row.id) ≡ Some id → (id_eq row.id other ≡ true) ⊎ (is_some (row_among old other) ≡ true) → is_lt (id_cmp other id) ≡ false
  by below true there e (inl same) = absurd (clash (is_row_of new other) (ap (is_row_of new) (sym (id_eq_same row.id other same)) ∙ there) lost)
  by below true there e (inr later) = below e later lost
  by below false there e (inl same) = ap (λ (i : Id). is_lt (id_cmp other i)) (sym (same_Some row.id id e) ∙ id_eq_same row.id other same) ∙ not_before_itself other
  by below false there e (inr later) =
      let found = some_there (row_among old other) later in
      let up = row_is (λ r. is_lt (id_cmp r.id row.id) ≡ false) old other found.0 (not_before row old are) found.1 in
      subst (λ (i : Id). is_lt (id_cmp other i) ≡ false) (same_Some row.id id e) (subst (λ (i : Id). is_lt (id_cmp i row.id) ≡ false) up.1 up.0)

pub lost_is_least : LostIsLeast
lost_is_least policy old old_cert new new_cert id are e =
    let later = named (verdict old policy old_cert) (verdict new policy new_cert) (keeps_covered old old_cert new new_cert) id e in
    let first = lost_named (old.entry == new.entry) (lost_id old_cert.rows new_cert.rows) id later in
    let lost = is_lost old_cert.rows new_cert.rows id first in
    record {
      covered = lost.0;
      lost = lost.1;
      least = λ other covered not. none_before old_cert.rows new_cert.rows id other are first covered not;
    }
