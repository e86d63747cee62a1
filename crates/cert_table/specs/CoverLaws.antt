-- How many rows a look-up compares: at most as many as the cover says, and at least one if there is any.
use Rattle.std.proofs.Common.{◌≡◌, ℕ, ◌<◌, ◌≤◌, List, [], ◌∷◌, Option, Some, None, length, map, refl, arith}
use Rattle.std.specs.Prelude.{position}
use Rattle.std.proofs.lemmas.List.{length-map}
use Rattle.std.proofs.lemmas.List.Quantifiers.{position-Some}
use Rattle.page_ids.specs.Ids.{Id, id_cmp, id_eq}
use Rattle.frame_records.proofs.Comparisons.{few_compared, some_compared}
use Rattle.cert_table.specs.declared.row.Row.{Row}
use Rattle.cert_table.specs.declared.limits.TheConstants.{MOST_ROWS}
use Rattle.cert_table.specs.Table.{rows_compared, rows_up_to, number_or}

pub sixteen : 16 ≤ MOST_ROWS
sixteen = omega arith

pub few_rows : (rows : List Row) (id : Id) → length rows ≤ MOST_ROWS → rows_compared rows id ≤ 16
few_rows rows id few = few_compared (map (λ r. id_cmp r.id id) rows) (omega (arith, few, length-map rows (λ r. id_cmp r.id id)))

pub some_rows : (rows : List Row) (id : Id) → 0 < length rows → 1 ≤ rows_compared rows id
some_rows rows id some = some_compared (map (λ r. id_cmp r.id id) rows) (omega (arith, some, length-map rows (λ r. id_cmp r.id id)))

some_or : (all : ℕ) (place : Option ℕ) → 0 < all → 1 ≤ number_or all place
some_or all None some = omega (arith, some)
some_or all (Some at) some = omega arith

pub some_up_to : (rows : List Row) (id : Id) → 0 < length rows → 1 ≤ rows_up_to rows id
some_up_to rows id some = some_or (length rows) (position (λ r. id_eq r.id id) rows) some

few_or : (all : ℕ) (place : Option ℕ) → ((at : ℕ) → place ≡ Some at → at < all) → number_or all place ≤ all
few_or all None within = omega arith
few_or all (Some at) within = omega (arith, within at refl)

pub few_up_to : (rows : List Row) (id : Id) → length rows ≤ MOST_ROWS → rows_up_to rows id ≤ length rows
few_up_to [] id few = omega arith
few_up_to (row ∷ rows) id few = few_or (length (row ∷ rows)) (position (λ r. id_eq r.id id) (row ∷ rows)) (λ at is.
    (position-Some (λ (r : Row). id_eq r.id id) (row ∷ rows) at row is).0)
