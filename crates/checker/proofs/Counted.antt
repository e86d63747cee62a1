-- What a check takes is within its bounds: they follow from the exact numbers.
use Rattle.std.proofs.Common.{◌≡◌, ◌∙◌, ℕ, ◌+◌, ◌*◌, ◌<◌, ◌≤◌, Bool, true, false, cond, List, [], ◌∷◌, length, get_or, Option, Some, None, refl, sym, ap, subst, map, arith}
use Rattle.std.specs.Prelude.{find, is_some, is_none, nat_lt}
use Rattle.std.specs.Int.{from_bool}
use Rattle.std.specs.Ordering.{nat_cmp}
use Rattle.std.specs.List.{sum_by, range_with_len}
use Rattle.std.proofs.Math.Nat.{mul_comm}
use Rattle.std.proofs.lemmas.Bool.{or_parts}
use Rattle.std.proofs.lemmas.Bool.Decides.{nat_tests}
use Rattle.std.proofs.lemmas.List.{length-map}
use Rattle.std.proofs.lemmas.List.FromFn.{length-range_with_len, sum_by-map-range_with_len_more}
use Rattle.std.proofs.lemmas.List.Sums.{sum_by-cons, sum_by-le, sum_by-le-sum_by}
use Rattle.page_ids.specs.Ids.{Id, id_cmp, id_eq}
use Rattle.page_ids.specs.declared.way.Way.{Way}
use Rattle.page_ids.specs.declared.way.Way.TheVariants.{Route, Next}
use Rattle.page_ids.specs.Ways.{way_at, ways}
use Rattle.frame_records.specs.declared.frame.Frame.{Frame}
use Rattle.frame_records.specs.Bases.{BaseView, IsBase, frame_at, frames_compared, pages_compared, is_body_long}
use Rattle.frame_records.specs.Seek.{entry_of}
use Rattle.frame_records.specs.declared.limits.TheConstants.{MOST_LISTED}
use Rattle.frame_records.specs.Ways.{sought}
use Rattle.frame_records.proofs.Comparisons.{few_compared, some_compared}
use Rattle.frame_records.proofs.Finds.{first_found}
use Rattle.cert_table.specs.declared.row.Row.{Row}
use Rattle.cert_table.specs.Table.{CertView}
use Rattle.checker.specs.declared.count.Count.{Count}
use Rattle.checker.specs.declared.policy.Policy.{Policy}
use Rattle.checker.specs.declared.verdict.Cause.{Cause}
use Rattle.checker.specs.declared.verdict.Verdict.{Verdict}
use Rattle.checker.specs.declared.verdict.Verdict.TheVariants.{Cleared}
use Rattle.checker.specs.Conditions.{◌otherwise◌, ◌then◌}
use Rattle.checker.specs.Good.{is_row_of}
use Rattle.checker.specs.Verdict.{on_terms, on_head, on_frame, on_painting, on_ways, if_found, on_row, on_rows, verdict, verdict_of}
use Rattle.checker.specs.Counts.{counted_if, are_ways_sought, outside_compared, offered_compared, way_compared, ways_compared, found_probes, row_probes, found_steps, row_steps, rows_unless_fault, rows_judged, judged_rows, probes_of, steps_of, ways_of, ways_if, ways_at, bytes_if, bytes_at, row_most, IsCount}
use Rattle.checker.specs.Loops.{first_ways}

-- a number that counts only if something is done
pub if_done : (b : Bool) (n : ℕ) → counted_if b n ≤ n
if_done true n = omega arith
if_done false n = omega arith

-- Each look-up.

module _ (compared : List Row → Id → ℕ) (base : BaseView) (rows : List Row) (m : ℕ) (is : IsBase base) (few : (id : Id) → compared rows id ≤ m) where
  few_frames : length base.frames ≤ 65535
  few_frames = grind (arith, nat_tests, (or_parts (nat_lt MOST_LISTED (length base.frames)) (nat_lt MOST_LISTED (length base.outside)) is.few).0)

  few_pages : length base.outside ≤ 65535
  few_pages = grind (arith, nat_tests, (or_parts (nat_lt MOST_LISTED (length base.frames)) (nat_lt MOST_LISTED (length base.outside)) is.few).1)

  frames_few : (id : Id) → frames_compared base.frames id ≤ 16
  frames_few id = few_compared (map (λ f. id_cmp f.id id) base.frames) (omega (arith, few_frames, length-map base.frames (λ (f : Frame). id_cmp f.id id)))

  pages_few : (page : ℕ) → pages_compared base.outside page ≤ 16
  pages_few page = few_compared (map (λ p. nat_cmp p page) base.outside) (omega (arith, few_pages, length-map base.outside (λ (p : ℕ). nat_cmp p page)))

  -- an outside page is sought for a route alone
  outside_few : (way : Way) (page : ℕ) → outside_compared base way page ≤ 16
  outside_few (Route digit) page = pages_few page
  outside_few Next page = omega arith

  absent_few : (b : Bool) (n k : ℕ) → n ≤ k → cond b 0 n ≤ k
  absent_few true n k le = omega arith
  absent_few false n k le = le

  offered_few : (way : Way) (to : Option Id) → offered_compared compared base rows way to ≤ m + 16
  offered_few way None = omega arith
  offered_few way (Some to) = omega (arith, few to, absent_few (is_row_of rows to) (outside_compared base way to.page) 16 (outside_few way to.page))

  pub way_few : (f : Frame) (way : Way) → way_compared compared base rows f way ≤ m + 16
  way_few f way = offered_few way (sought f way)

  next_few : (to : Option Id) → offered_compared compared base rows Next to ≤ m
  next_few None = omega arith
  next_few (Some to) = omega (arith, few to, absent_few (is_row_of rows to) 0 0 (omega arith))

  length_first : (n : ℕ) → length (first_ways n) ≡ n
  length_first n = length-map (range_with_len 0 n) way_at ∙ length-range_with_len 0 n

  pub first_few : (f : Frame) (n : ℕ) → sum_by (way_compared compared base rows f) (first_ways n) ≤ n * (m + 16)
  first_few f n =
      subst (λ (k : ℕ). sum_by (way_compared compared base rows f) (first_ways n) ≤ k * (m + 16)) (length_first n)
      (sum_by-le (way_compared compared base rows f) (m + 16) (first_ways n) (λ i d lt. way_few f (get_or (first_ways n) i d)))

  pub ways_few : (f : Frame) → ways_compared compared base rows f ≤ 160 + 11 * m
  ways_few f = omega (arith, first_few f 10, sum_by-map-range_with_len_more (way_compared compared base rows f) way_at 0 10 10 (omega arith), next_few (sought f Next))

  found_few : (caller : List ℕ) (cert : CertView) (row : Row) → cert.rows ≡ rows → (f : Option Frame) → found_probes compared caller base cert row f ≤ 160 + 11 * m
  found_few caller cert row same None = omega arith
  found_few caller cert row same (Some f) = omega (arith, ways_few f, if_done (are_ways_sought caller cert row f) (ways_compared compared base cert.rows f), ap (λ (rs : List Row). ways_compared compared base rs f) same)

  row_few : (caller : List ℕ) (cert : CertView) → cert.rows ≡ rows → (row : Row) → row_probes compared caller base cert row ≤ row_most m
  row_few caller cert same row = omega (arith, frames_few row.id, found_few caller cert row same (frame_at base row.id))

-- The rows that are judged.

unless_le : (f : Row → ℕ) (o : Option Cause) (rows : List Row) → sum_by f (rows_unless_fault o rows) ≤ sum_by f rows
unless_le f None rows = omega arith
unless_le f (Some c) rows = omega arith

module _ (caller : List ℕ) (base : BaseView) (cert : CertView) where
  judged_le : (f g : Row → ℕ) → ((row : Row) → f row ≤ g row) → (rows : List Row) → sum_by f (rows_judged caller base cert rows) ≤ sum_by g rows
  judged_le f g le [] = omega arith
  judged_le f g le (row ∷ rows) =
      let rest = rows_judged caller base cert rows in
      let o = (on_row caller base cert row).first_cause in
      omega (arith, sum_by-cons f row (rows_unless_fault o rest), sum_by-cons g row rows, le row, unless_le f o rest, judged_le f g le rows)

  both_none : (o p : Option Cause) → (o otherwise p) ≡ None → (o ≡ None) × (p ≡ None)
  both_none None p e = (refl, e)
  both_none (Some c) p e = cc

  -- if no row is at fault all are judged
  all_judged : (rows : List Row) → (on_rows caller base cert rows).first_cause ≡ None → rows_judged caller base cert rows ≡ rows
  all_judged [] none = refl
  all_judged (row ∷ rows) none =
      let parts = both_none (on_row caller base cert row).first_cause (on_rows caller base cert rows).first_cause none in
      ap (λ (o : Option Cause). row ∷ rows_unless_fault o (rows_judged caller base cert rows)) parts.0 ∙ ap (λ (rs : List Row). row ∷ rs) (all_judged rows parts.1)

  -- What a row takes.

  short_body : (id : Id) (f : Frame) → IsBase base → frame_at base id ≡ Some f → length f.body ≤ 4096
  short_body id f is e =
      let p = first_found (λ (g : Frame). id_eq g.id id) base.frames f e in
      let short : is_body_long f ≡ false = ap is_body_long (sym (p.1.at f)) ∙ is.short p.0 f p.1.within in
      grind (arith, nat_tests, short)

  steps_found : (row : Row) (o : Option Frame) → found_steps caller cert row o ≤ bytes_if o
  steps_found row None = omega arith
  steps_found row (Some f) = if_done _ (length f.body)

  steps_few : (row : Row) → row_steps caller base cert row ≤ bytes_at base row
  steps_few row = steps_found row (frame_at base row.id)

  bytes_few : IsBase base → (row : Row) → bytes_at base row ≤ 4096
  bytes_few is row = by (frame_at base row.id) refl where
    by : (o : Option Frame) → frame_at base row.id ≡ o → bytes_if o ≤ 4096
    by None e = omega arith
    by (Some f) e = short_body row.id f is e

  -- a row that isn't at fault: its body is painted, and each way of its frame is looked up
  module _ (compared : List Row → Id → ℕ) (some : (id : Id) → 1 ≤ compared cert.rows id) where
    covered_some : (b : Bool) (n k : ℕ) → 1 ≤ n → 1 ≤ n + cond b 0 k
    covered_some b n k le = omega (arith, le)

    offered_some : (way : Way) (to : Option Id) → from_bool (is_some to) ≤ offered_compared compared base cert.rows way to
    offered_some way None = omega arith
    offered_some way (Some to) = omega (arith, some to)

    ways_some : (f : Frame) → ways_of f ≤ ways_compared compared base cert.rows f
    ways_some f = sum_by-le-sum_by (λ way. from_bool (is_some (sought f way))) (way_compared compared base cert.rows f) ways (λ way. offered_some way (sought f way))

    frame_some : (frames : List Frame) (id : Id) (f : Frame) → find (λ g. id_eq g.id id) frames ≡ Some f → 1 ≤ frames_compared frames id
    frame_some [] id f e = cc
    frame_some (x ∷ frames) id f e = some_compared (map (λ g. id_cmp g.id id) (x ∷ frames)) (omega arith)

    pub record IsPassed (row : Row) : Type 0 where
      pub probes : 1 + ways_at base row ≤ row_probes compared caller base cert row
      pub steps : row_steps caller base cert row ≡ bytes_at base row

    passed : (row : Row) → (on_row caller base cert row).first_cause ≡ None → IsPassed row
    passed row none = by (frame_at base row.id) refl none where
      by : (o : Option Frame) → frame_at base row.id ≡ o → (if_found caller base cert row o).first_cause ≡ None → IsPassed row
      by None e h = cc
      by (Some f) e h =
          let frame = both_none (on_frame caller cert row f).first_cause ((on_painting row f then on_ways base cert.rows row f).first_cause) h in
          let painting = both_none (on_painting row f).first_cause (on_ways base cert.rows row f).first_cause frame.1 in
          let painted : is_none (on_frame caller cert row f).first_cause ≡ true = ap is_none frame.0 in
          let sought : is_none (on_frame caller cert row f then on_painting row f).first_cause ≡ true = ap is_none (ap (λ (o : Option Cause). o otherwise (on_painting row f).first_cause) frame.0 ∙ painting.0) in
          let probes = ap (found_probes compared caller base cert row) e ∙ ap (λ (b : Bool). counted_if b (ways_compared compared base cert.rows f)) sought in
          let ways : ways_at base row ≡ ways_of f = ap ways_if e in
          record {
            probes = omega (arith, frame_some base.frames row.id f e, probes, ways, ways_some f);
            steps = ap (found_steps caller cert row) e ∙ ap (λ (b : Bool). counted_if b (length f.body)) painted ∙ sym (ap bytes_if e);
          }

    all_passed : (rows : List Row) → (on_rows caller base cert rows).first_cause ≡ None
        → (length rows + sum_by (ways_at base) rows ≤ sum_by (row_probes compared caller base cert) rows) × (sum_by (row_steps caller base cert) rows ≡ sum_by (bytes_at base) rows)
    all_passed [] none = (omega arith, refl)
    all_passed (row ∷ rows) none =
        let parts = both_none (on_row caller base cert row).first_cause (on_rows caller base cert rows).first_cause none in
        let one = passed row parts.0 in
        let rest = all_passed rows parts.1 in (
          omega (arith, one.probes, rest.0, sum_by-cons (ways_at base) row rows, sum_by-cons (row_probes compared caller base cert) row rows),
          omega (arith, one.steps, rest.1, sum_by-cons (row_steps caller base cert) row rows, sum_by-cons (bytes_at base) row rows),
        )

-- All of a check.

no_cause : (o : Option Cause) → verdict_of o ≡ Cleared → o ≡ None
no_cause None e = refl
no_cause (Some c) e = cc

some_rows : (rows : List Row) (id : Id) → is_row_of rows id ≡ true → 0 < length rows
some_rows [] id e = cc
some_rows (row ∷ rows) id e = omega arith

passes : (b : Bool) (c : Cause) → cond b None (Some c) ≡ None → b ≡ true
passes true c e = refl
passes false c e = cc

module _ (compared : List Row → Id → ℕ) (base : BaseView) (cert : CertView) (m : ℕ) (is : IsBase base) (few : (id : Id) → compared cert.rows id ≤ m) where
  pub probes_few : sum_by (row_probes compared cert.groups base cert) (rows_judged cert.groups base cert cert.rows) ≤ row_most m * length cert.rows
  probes_few =
      let most = judged_le cert.groups base cert (row_probes compared cert.groups base cert) (λ _. row_most m) (row_few compared base cert.rows m is few cert.groups cert refl) cert.rows in
      omega (arith, most, sum_by-le (λ (_ : Row). row_most m) (row_most m) cert.rows (λ i d lt. omega arith), mul_comm (length cert.rows) (row_most m))

  pub steps_within : sum_by (row_steps cert.groups base cert) (rows_judged cert.groups base cert cert.rows) ≤ sum_by (bytes_at base) cert.rows
  steps_within = judged_le cert.groups base cert (row_steps cert.groups base cert) (bytes_at base) (steps_few cert.groups base cert) cert.rows

  pub steps_short : sum_by (row_steps cert.groups base cert) (rows_judged cert.groups base cert cert.rows) ≤ length cert.rows * 4096
  steps_short = omega (arith, steps_within, sum_by-le (bytes_at base) 4096 cert.rows (λ i d lt. bytes_few cert.groups base cert is (get_or cert.rows i d)))

  least : (policy : Policy) → ((id : Id) → 0 < length cert.rows → 1 ≤ compared cert.rows id) → verdict base policy cert ≡ Cleared
      → (1 + length cert.rows + sum_by (ways_at base) cert.rows ≤ probes_of compared base policy cert) × (steps_of base policy cert ≡ sum_by (bytes_at base) cert.rows)
  least policy some cleared =
      let caller = cert.groups in
      let both = both_none caller base cert (on_head base policy cert).first_cause (on_rows caller base cert cert.rows).first_cause (no_cause _ cleared) in
      let head = both_none caller base cert (on_terms base policy cert).first_cause _ both.0 in
      let any = some_rows cert.rows (entry_of base) (passes (is_row_of cert.rows (entry_of base)) _ head.1) in
      let one = some (entry_of base) any in
      let rows : judged_rows base policy cert ≡ cert.rows = ap (λ (o : Option Cause). rows_unless_fault o (rows_judged caller base cert cert.rows)) both.0 ∙ all_judged caller base cert cert.rows both.1 in
      let all = all_passed caller base cert compared (λ id. some id any) cert.rows both.1 in
      let entry : is_none (on_terms base policy cert).first_cause ≡ true = ap is_none head.0 in (
        omega (arith, one, all.0, ap (λ (b : Bool). counted_if b (compared cert.rows (entry_of base))) entry, ap (sum_by (row_probes compared caller base cert)) rows),
        ap (sum_by (row_steps caller base cert)) rows ∙ all.1,
      )

  pub counted : (policy : Policy) → ((id : Id) → 0 < length cert.rows → 1 ≤ compared cert.rows id) → (v : Verdict) (count : Count) → v ≡ verdict base policy cert
      → count.probes ≡ probes_of compared base policy cert → count.steps ≡ steps_of base policy cert → IsCount base cert.rows m v count
  counted policy some v count verdict probes steps =
      let head = (on_head base policy cert).first_cause in
      let rows = rows_judged cert.groups base cert cert.rows in
      record {
        most = omega (arith, probes, probes_few, unless_le (row_probes compared cert.groups base cert) head rows, few (entry_of base), if_done (is_none (on_terms base policy cert).first_cause) (compared cert.rows (entry_of base)));
        least = λ cleared. omega (arith, probes, (least policy some (sym verdict ∙ cleared)).0);
        within = omega (arith, steps, steps_within, unless_le (row_steps cert.groups base cert) head rows);
        all = λ cleared. steps ∙ (least policy some (sym verdict ∙ cleared)).1;
      }
