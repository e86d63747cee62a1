-- If there is no fault, the rows of the discovered frames, sorted, make the certificate.
use Rattle.std.proofs.Common.{◌≡◌, ◌<◌, ◌≤◌, ◌+◌, ℕ, Bool, true, false, List, length, get_or, Option, Some, None, map, option_map, unwrap_or, slice_get, refl, sym, ◌∙◌, ap, subst, cond, arith}
use Rattle.std.specs.Prelude.{◌↔◌, Contains, count_by}
use Rattle.std.specs.Ordering.{is_lt}
use Rattle.std.specs.List.Sorted.{IsSortedByKey}
use Rattle.std.proofs.lemmas.List.{get_or_default}
use Rattle.std.proofs.lemmas.List.Sorted.{ranks_by, sorted_far, Contains-permutation, IsPermutation-sym, length_permutation, sum_by-IsPermutation}
use Rattle.std.proofs.lemmas.List.Elements.{Contains-get_or}
use Rattle.std.proofs.lemmas.Option.{same_Some}
use Rattle.page_ids.specs.Ids.{Id, id_cmp, id_eq}
use Rattle.page_ids.specs.IdLaws.{id_cmp_total, id_eq_refl, before_of}
use Rattle.frame_records.specs.declared.frame.Frame.{Frame}
use Rattle.frame_records.specs.Bases.{BaseView, frame_at}
use Rattle.frame_records.specs.Seek.{entry_of}
use Rattle.frame_records.proofs.Finds.{count_two}
use Rattle.abstract_paint.specs.Paint.{Ends}
use Rattle.abstract_paint.proofs.Exact.{is_exact}
use Rattle.abstract_paint.proofs.Unique.{ends_are_on_screen}
use Rattle.cert_table.specs.declared.row.Row.{Row}
use Rattle.cert_table.specs.Table.{AreRows, AreOnScreen, table_fault}
use Rattle.cert_table.proofs.Tables.{no_fault}
use Rattle.checker.specs.declared.policy.Policy.{Policy}
use Rattle.checker.specs.Good.{is_row_of}
use Rattle.checker.proofs.Clears.{good_cleared}
use Rattle.finder.specs.declared.found.Discovered.{Discovered}
use Rattle.finder.specs.Finds.{IsFinding, IsDistance, EntryIsFound, IsReached}
use Rattle.fault_scripts.specs.Loops.{price_at, rank_at, IsMost, AreSortedRows}
use Rattle.fault_scripts.specs.Outcomes.{IsCertificateOf}
use Rattle.fault_scripts.proofs.Discoveries.{listed_once, reached_listed}
use Rattle.fault_scripts.proofs.Gathering.{most_above, most_there}
use Rattle.fault_scripts.proofs.GoodRows.{certificate, contained_covered, covered_row, row_is, row_there, reached_covered, good}
use Rattle.fault_scripts.proofs.Rows.{row_with, IsRowOf, gathered, row_count, none_twice}
use Rattle.fault_scripts.proofs.Sound.{IsSound}

-- no id is that of two rows
abbrev NoneTwice : List Row → Type 0
NoneTwice rows = (id : Id) → count_by (λ r. id_eq r.id id) rows ≤ 1

-- the ids of neighbours differ
neighbours : (rows : List Row) → NoneTwice rows → (k : ℕ) (d : Row) → k + 1 < length rows
    → id_eq (get_or rows k d).id (get_or rows (k + 1) d).id ≡ false
neighbours rows once k d lt = by (id_eq (get_or rows k d).id (get_or rows (k + 1) d).id) refl where
  by : (b : Bool) → id_eq (get_or rows k d).id (get_or rows (k + 1) d).id ≡ b → b ≡ false
  by false e = refl
  by true e =
      let id : Id = (get_or rows (k + 1) d).id in
      let two = count_two (λ r. id_eq r.id id) rows k (k + 1) (omega arith)
      (record { within = omega (arith, lt); passes = λ c. ap (λ (r : Row). id_eq r.id id) (get_or_default rows k c d (omega (arith, lt))) ∙ e })
      (record { within = lt; passes = λ c. ap (λ (r : Row). id_eq r.id id) (get_or_default rows (k + 1) c d lt) ∙ id_eq_refl id }) in
      absurd (omega (arith, two, once id))

-- sorted rows of which no id is twice there ascend
are_rows : (rows : List Row) → length rows ≤ 65535 → IsSortedByKey (λ r. r.id) id_cmp rows → NoneTwice rows
    → AreRows rows
are_rows rows few sorted once = record {
  few = few;
  ascending = λ k d lt.
      let ranked = sorted_far (λ r s. is_lt (id_cmp r.id s.id)) (ranks_by id_cmp_total (λ (r : Row). r.id)) rows sorted k (k + 1) d (omega arith) lt in
      before_of (get_or rows k d).id (get_or rows (k + 1) d).id ranked (neighbours rows once k d lt);
}

module _ (base : BaseView) (policy : Policy) (found : List Discovered) (finding : IsFinding policy.groups base found) (entry : EntryIsFound policy.groups base) (small : length found ≤ 65535) (sound : (i : ℕ) (d : Discovered) → slice_get found i ≡ Some d → IsSound base policy d) (ceiling keyings : ℕ) (prices : IsMost (map (price_at base) found) ceiling) (ranks : IsMost (map rank_at found) keyings) (rows : List Row) (sorted : AreSortedRows (gathered base policy found sound) rows) where
  abbrev all : List Row
  all = gathered base policy found sound

  same : (row : Row) → Contains rows row ↔ Contains all row
  same row = (λ h. Contains-permutation rows all row (IsPermutation-sym all rows sorted.same) h, λ h. Contains-permutation all rows row sorted.same h)

  of_row : (row : Row) → Contains rows row → IsRowOf base policy found row
  of_row = row_is base policy found finding sound rows same

  own_row : (i : ℕ) (d : Discovered) → slice_get found i ≡ Some d → (s : IsSound base policy d)
      → Contains rows (row_with d.id s.rank s.cursor)
  own_row = row_there base policy found finding sound rows same

  once : NoneTwice rows
  once id = omega (arith, sum_by-IsPermutation (λ (r : Row). cond (id_eq r.id id) 1 0) all rows sorted.same, none_twice base policy found sound (listed_once policy.groups base found finding) id)

  table : AreRows rows
  table = are_rows rows (omega (arith, length_permutation all rows sorted.same, row_count base policy found sound, small)) sorted.in_order once

  -- a row's cursor covers the ends of its frame
  ends_of : (row : Row) (r : IsRowOf base policy found row) → Ends r.sound.frame.lead r.sound.frame.body row.cursor
  ends_of row r =
      let frame = r.sound.frame in
      subst (λ (x : Row). Ends frame.lead frame.body x.cursor) (sym r.is) (((is_exact frame.lead frame.body).clean r.sound.cursor).0 r.sound.painted).1

  on_screen : AreOnScreen rows
  on_screen k d lt =
      let row = get_or rows k d in
      let r = of_row row (Contains-get_or rows k d lt) in
      ends_are_on_screen r.sound.frame.lead r.sound.frame.body row.cursor (ends_of row r)

  -- a frame's record is one
  own_frame : (row : Row) (r : IsRowOf base policy found row) (frame : Frame) → frame_at base row.id ≡ Some frame
      → r.sound.frame ≡ frame
  own_frame row r frame at = same_Some r.sound.frame frame (sym r.sound.of_frame ∙ ap (frame_at base) (sym (ap (λ (x : Row). x.id) r.is)) ∙ at)

  price_is : (d : Discovered) (s : IsSound base policy d) → price_at base d ≡ s.frame.price
  price_is d s = ap (λ (o : Option Frame). unwrap_or (option_map (λ f. f.price) o) 0) s.of_frame

  rank_is : (d : Discovered) (s : IsSound base policy d) → rank_at d ≡ s.rank
  rank_is d s = ap (λ (r : Option ℕ). unwrap_or r 0) s.ranked

  most : (row : Row) (r : IsRowOf base policy found row) → (r.sound.frame.price ≤ ceiling) × (r.sound.rank ≤ keyings)
  most row r = (
    omega (arith, price_is r.discovered r.sound, most_above (price_at base) found ceiling prices r.index r.discovered r.listed),
    omega (arith, rank_is r.discovered r.sound, most_above rank_at found keyings ranks r.index r.discovered r.listed),
  )

  first : (i : ℕ) × (d : Discovered) × (slice_get found i ≡ Some d) × (d.id ≡ entry_of base)
  first = reached_listed policy.groups base found finding (entry_of base) (record { steps = 0; entry = entry; walk = refl })

  -- a frame of the greatest price, and one of the greatest rank
  top_price : (id : Id) × (frame : Frame) × (is_row_of rows id ≡ true) × (frame_at base id ≡ Some frame) × (frame.price ≡ ceiling)
  top_price =
      let t = most_there (price_at base) found ceiling prices first.0 first.1 first.2 in
      let s = sound t.0 t.1 t.2 in
      (t.1.id, s.frame, contained_covered rows (row_with t.1.id s.rank s.cursor) (own_row t.0 t.1 t.2 s), s.of_frame, sym (price_is t.1 s) ∙ t.3)

  top_rank : (row : Row) × Contains rows row × (row.rank ≡ keyings)
  top_rank =
      let t = most_there rank_at found keyings ranks first.0 first.1 first.2 in
      let s = sound t.0 t.1 t.2 in
      (row_with t.1.id s.rank s.cursor, own_row t.0 t.1 t.2 s, sym (rank_is t.1 s) ∙ t.3)

  low : (ceiling ≤ policy.ceiling) × (keyings ≤ policy.keyings)
  low =
      let t = most_there (price_at base) found ceiling prices first.0 first.1 first.2 in
      let u = most_there rank_at found keyings ranks first.0 first.1 first.2 in
      let s = sound t.0 t.1 t.2 in
      let v = sound u.0 u.1 u.2 in
      (omega (arith, price_is t.1 s, t.3, s.price), omega (arith, rank_is u.1 v, u.3, v.near))

  -- the table of the rows isn't refused
  pub no_table_fault : table_fault rows ≡ None
  no_table_fault = no_fault rows (table, on_screen)

  -- and with the greatest price and rank it is the certificate
  pub is_certificate : IsCertificateOf base policy (certificate base ceiling keyings policy.groups rows)
  is_certificate = record {
    entry = refl;
    groups = refl;
    rows = table;
    reached = λ id. (
      (λ covered.
          let c = covered_row rows id covered in
          let r = of_row c.0 c.2 in
          subst (IsReached policy.groups base) (sym (ap (λ (x : Row). x.id) r.is) ∙ c.3) r.sound.reached),
      (λ reached. reached_covered base policy found finding sound rows same id reached),
    );
    ranks = λ row h. let r = of_row row h in subst (λ (x : Row). IsDistance policy.groups base x.id x.rank) (sym r.is) r.sound.distance;
    ends = λ row frame h at. let r = of_row row h in subst (λ (f : Frame). Ends f.lead f.body row.cursor) (own_frame row r frame at) (ends_of row r);
    ceiling = record {
      at_most = λ id frame covered at.
          let c = covered_row rows id covered in
          let r = of_row c.0 c.2 in
          let own = own_frame c.0 r frame (ap (frame_at base) c.3 ∙ at) in
          omega (arith, ap (λ (f : Frame). f.price) own, (most c.0 r).0);
      some = top_price;
    };
    keyings = record {
      at_most = λ row h. let r = of_row row h in omega (arith, ap (λ (x : Row). x.rank) r.is, (most row r).1);
      some = top_rank;
    };
    cleared = good_cleared base policy (certificate base ceiling keyings policy.groups rows) (good base policy found finding sound rows same ceiling keyings entry low.0 low.1 most);
  }
