-- What a reader keeps.
use Rattle.std.proofs.Common.{◌≡◌, ℕ, zero, suc, ◌+◌, ◌-◌, ◌<◌, ◌≤◌, Bool, true, List, [], ◌∷◌, ◌++◌, length, get_or, Some, Ok, refl, sym, ap, subst, inl, inr, ◌∙◌, arith, length-append}
use Rattle.std.specs.Prelude.{slice_get}
use Rattle.std.specs.List.{AllByRecursion, AllAdjacentBelow}
use Rattle.std.specs.declared.cmp.Ordering.TheVariants.{Less}
use Rattle.std.proofs.Math.ListN.{get_or-append}
use Rattle.std.proofs.Math.Seq.{get_or-append_seam}
use Rattle.std.proofs.lemmas.Bool.{cases_lt}
use Rattle.page_ids.specs.Ids.{Id, id_cmp, IsPageNumber}
use Rattle.frame_records.specs.Groups.{AreGroups}
use Rattle.cert_table.specs.declared.row.Row.{Row}
use Rattle.cert_text.specs.Grammar.{IsRow}
use Rattle.cert_table.specs.Table.{comes_after}
use Rattle.cert_text.specs.Lines.{row_in}
use Rattle.cert_text.specs.Reading.{Said, IsSound, most_number, put}
use Rattle.cert_text.specs.declared.stage.NumberLine.{NumberLine}
use Rattle.cert_text.specs.declared.stage.NumberLine.TheVariants.{Entry, Ceiling, Keyings, Count}
use Rattle.cert_text.proofs.Spelled.{row_found}
use Rattle.page_ids.proofs.Truths.{less_is}

pub each_more : {X : Type 0} (P : X → Type 0) (xs : List X) (x : X) → AllByRecursion P xs → P x
    → AllByRecursion P (xs ++ x ∷ [])
each_more P [] x all p = (p, tt)
each_more P (y ∷ xs) x all p = (all.0, each_more P xs x all.1 p)

pub get_is : {X : Type 0} (xs : List X) (i : ℕ) (d : X) → i < length xs → slice_get xs i ≡ Some (get_or xs i d)
get_is [] i d h = absurd (omega arith)
get_is (x ∷ xs) zero d h = refl
get_is (x ∷ xs) (suc i) d h = get_is xs i d (omega arith)

pub last_before : (rows : List Row) (id : Id) (d : Row) → 0 < length rows
    → comes_after (slice_get rows (length rows - 1)) id ≡ true → id_cmp (get_or rows (length rows - 1) d).id id ≡ Less
last_before rows id d some h =
    let e : slice_get rows (length rows - 1) ≡ Some (get_or rows (length rows - 1) d) =
    get_is rows (length rows - 1) d (omega arith) in
    less_is _ (sym (ap (λ (o : _). comes_after o id) e) ∙ h)

-- the rows so far, then one that is after them
pub ascending_more : (rows : List Row) (r : Row) → AllAdjacentBelow (λ r t. id_cmp r.id t.id ≡ Less) rows (length rows)
    → comes_after (slice_get rows (length rows - 1)) r.id ≡ true
    → AllAdjacentBelow (λ r t. id_cmp r.id t.id ≡ Less) (rows ++ r ∷ []) (length (rows ++ r ∷ []))
ascending_more rows r asc after k d lt =
    let len : length (rows ++ r ∷ []) ≡ length rows + 1 = length-append rows (r ∷ []) in
    elim (cases_lt (k + 1) (length rows)) [
      | inl below ↦
          rw (get_or-append rows (r ∷ []) d k (omega arith), get_or-append rows (r ∷ []) d (k + 1) below)
          (asc k d below)
      | inr le ↦
          let at : k + 1 ≡ length rows = omega (arith, len) in
          let here : k ≡ length rows - 1 = omega arith in
          rw (get_or-append rows (r ∷ []) d k (omega arith), at, get_or-append_seam rows r [] d, here)
          (last_before rows r.id d (omega arith) after)
    ]

pub most_small : (f : NumberLine) → most_number f ≤ 999999999
most_small Entry = omega arith
most_small Ceiling = omega arith
most_small Keyings = omega arith
most_small Count = omega arith

-- other numbers and groups beside the same rows
same_rows : (s t : Said) → IsSound s → t.rows ≡ s.rows → IsPageNumber t.entry → t.ceiling ≤ 9999 → t.keyings ≤ 65535
    → AreGroups t.groups → t.count ≤ 65535 → IsSound t
same_rows s t is same entry ceiling keyings groups count =
    record {
      entry = entry;
      ceiling = ceiling;
      keyings = keyings;
      groups = groups;
      count = count;
      rows = rw same is.rows;
      each = rw same is.each;
    }

pub put_sound : (f : NumberLine) (n : ℕ) (s : Said) → IsSound s → n ≤ most_number f → IsSound (put f n s)
put_sound Entry n s is le = same_rows s _ is refl le is.ceiling is.keyings is.groups is.count
put_sound Ceiling n s is le = same_rows s _ is refl is.entry le is.keyings is.groups is.count
put_sound Keyings n s is le = same_rows s _ is refl is.entry is.ceiling le is.groups is.count
put_sound Count n s is le = same_rows s _ is refl is.entry is.ceiling is.keyings is.groups le

abbrev pub with_grouped : Said → Bool → Said
with_grouped s q = record s { grouped = q }

abbrev pub with_groups : Said → List ℕ → Said
with_groups s groups = record s { groups = groups }

pub grouped_sound : (q : Bool) (s : Said) → IsSound s → IsSound (with_grouped s q)
grouped_sound q s is = same_rows s _ is refl is.entry is.ceiling is.keyings is.groups is.count

pub groups_sound : (groups : List ℕ) (s : Said) → IsSound s → AreGroups groups → IsSound (with_groups s groups)
groups_sound groups s is valid = same_rows s _ is refl is.entry is.ceiling is.keyings valid is.count

pub row_sound : (s : Said) (line : List ℕ) (r : Row) (rows : List Row) → IsSound s → length s.rows + 1 ≤ s.count
    → row_in s.rows line ≡ Ok r
    → rows ≡ s.rows ++ r ∷ [] → IsSound (record s { rows = rows })
row_sound s line r rows is room e push =
    let f = row_found s.rows line r e in
    subst (λ (x : List Row). IsSound (record s { rows = x })) (sym push) (record {
      entry = is.entry;
      ceiling = is.ceiling;
      keyings = is.keyings;
      groups = is.groups;
      count = is.count;
      rows = record {
        few = omega (arith, is.count, length-append s.rows (r ∷ []));
        ascending = ascending_more s.rows r is.rows.ascending f.2;
      };
      each = each_more IsRow s.rows r is.each f.0;
    })
