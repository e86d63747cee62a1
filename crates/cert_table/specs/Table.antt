-- Rows, and the map that they represent.
use Rattle.std.specs.Prelude.{◌≡◌, ◌≤◌, ℕ, ◌+◌, List, Option, Some, None, find, position, map, length, All, ◌↔◌, Bool, true, [], ◌∷◌, nat_lt, if◌then◌else◌, Result, Ok, Err}
use Rattle.std.specs.List.{AllAdjacentBelow}
use Rattle.std.specs.declared.cmp.Ordering.TheVariants.{Less}
use Rattle.page_ids.specs.Ids.{Id, id_cmp, id_eq}
use Rattle.frame_records.specs.Bases.{comparisons}
use Rattle.abstract_paint.specs.Paint.{OnScreen}
use Rattle.cert_table.specs.declared.row.Row.{Row}
use Rattle.cert_table.specs.declared.limits.TheConstants.{MOST_ROWS}
use Rattle.std.specs.Ordering.{is_lt}
use Rattle.abstract_paint.specs.declared.cursor.Place.{Place}
use Rattle.abstract_paint.specs.declared.cursor.Place.TheVariants.{Any, Col, Spot}
use Rattle.cert_table.specs.declared.certificate.TableFault.{TableFault}
use Rattle.cert_table.specs.declared.certificate.TableFault.TheVariants.{TooMany, Range, Order}

-- ids ascend, and there are at most 65,535
pub record AreRows (rows : List Row) : Type 0 where
  pub few : length rows ≤ MOST_ROWS
  pub ascending : AllAdjacentBelow (λ r s. id_cmp r.id s.id ≡ Less) rows (length rows)

-- each row's cursor has a place on the screen
abbrev pub AreOnScreen : List Row → Type 0
AreOnScreen rows = All (λ r. OnScreen r.cursor.place) rows

-- the row of an id
abbrev pub row_among : List Row → Id → Option Row
row_among rows id = find (λ r. id_eq r.id id) rows

-- how many rows a binary search for an id compares
abbrev pub rows_compared : List Row → Id → ℕ
rows_compared rows id = comparisons (map (λ r. id_cmp r.id id) rows)

-- the number, from 1, of what is at a place, or all
abbrev pub number_or : ℕ → Option ℕ → ℕ
number_or all None = all
number_or all (Some at) = at + 1

-- how many rows a search from the front compares: up to and with the first of the id, or all
abbrev pub rows_up_to : List Row → Id → ℕ
rows_up_to rows id = number_or (length rows) (position (λ r. id_eq r.id id) rows)

-- What contracts see of a certificate.

-- the entry page, the greatest price, the greatest rank, the caller's groups, and the rows in the order of their ids
pub record CertView : Type 0 where
  pub entry : ℕ
  pub ceiling : ℕ
  pub keyings : ℕ
  pub groups : List ℕ
  pub rows : List Row

-- Which rows make a table, or the first refusal.

-- a column of at most 39, a spot of at most 959
abbrev pub is_on_screen : Place → Bool
is_on_screen Any = true
is_on_screen (Col c) = nat_lt c 40
is_on_screen (Spot s) = nat_lt s 960

-- the id is greater than that of the row before, if there is one
abbrev pub comes_after : Option Row → Id → Bool
comes_after None id = true
comes_after (Some r) id = is_lt (id_cmp r.id id)

-- what is wrong with the row at i, after another
abbrev pub row_fault : ℕ → Option Row → Row → Option TableFault
row_fault i before row =
    if is_on_screen row.cursor.place
    then (if comes_after before row.id then None else Some (Order i))
    else Some (Range i)

-- the first of two faults
abbrev pub or_later : Option TableFault → Option TableFault → Option TableFault
or_later None later = later
or_later (Some fault) later = Some fault

-- rows in turn, the first at i, after another
abbrev pub rows_fault : ℕ → Option Row → List Row → Option TableFault
rows_fault i before [] = None
rows_fault i before (row ∷ rows) = or_later (row_fault i before row) (rows_fault (i + 1) (Some row) rows)

-- over 65,535 rows; then the first row at fault
abbrev pub table_fault : List Row → Option TableFault
table_fault rows = if nat_lt MOST_ROWS (length rows) then Some TooMany else rows_fault 0 None rows

abbrev pub unless_fault : Option TableFault → CertView → Result CertView TableFault
unless_fault None cert = Ok cert
unless_fault (Some fault) cert = Err fault

-- the certificate of these parts
abbrev pub cert_of : ℕ → ℕ → ℕ → List ℕ → List Row → CertView
cert_of entry ceiling keyings groups rows = record { entry = entry; ceiling = ceiling; keyings = keyings; groups = groups; rows = rows }

-- the same, or the refusal of its rows
abbrev pub built : ℕ → ℕ → ℕ → List ℕ → List Row → Result CertView TableFault
built entry ceiling keyings groups rows = unless_fault (table_fault rows) (cert_of entry ceiling keyings groups rows)

-- no refusal applies if and only if the rows are a table on the screen
abbrev pub FaultsAreExact : Type 0
FaultsAreExact = (rows : List Row) → (table_fault rows ≡ None) ↔ (AreRows rows × AreOnScreen rows)
