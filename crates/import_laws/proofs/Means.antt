-- The text of a base that is made of frames means just that base.
use Rattle.std.proofs.Common.{◌≡◌, ◌⊎◌, ℕ, zero, suc, ◌+◌, ◌*◌, ◌≤◌, Bool, true, false, ◌&&◌, ◌||◌, ◌==◌, nat_lt, List, [], ◌∷◌, ◌++◌, length, get_or, codes, decimal, Option, Some, None, Result, Ok, Err, refl, sym, ap, ◌∙◌, subst, inl, inr, arith, add-one, length-append}
use Rattle.std.proofs.lemmas.Bool.{cases_Bool}
use Rattle.std.proofs.lemmas.Bool.Decides.{nat_tests}
use Rattle.std.proofs.lemmas.Fmt.{length-decimal-le}
use Rattle.std.proofs.lemmas.List.Elements.{All-nil, All-cons, All-head, All-tail}
use Rattle.std.proofs.lemmas.List.Sorted.{IsPermutation-refl}
use Rattle.std.specs.List.{All}
use Rattle.page_ids.specs.Ids.{Id, id_cmp}
use Rattle.page_ids.specs.declared.limits.TheConstants.{MOST_PAGE}
use Rattle.frame_records.specs.declared.frame.Frame.{Frame}
use Rattle.frame_records.specs.declared.build.BuildFault.TheVariants as build
use Rattle.frame_records.specs.declared.limits.TheConstants.{MOST_LISTED, MOST_BODY}
use Rattle.frame_records.specs.Bases.{BaseView, IsAscending, NoFrame, is_body_long, is_next_after_z, IsBaseOf}
use Rattle.frame_records.proofs.SortedFrames.{none_twice}
use Rattle.base_text.specs.declared.fault.BaseCause.{BaseCause}
use Rattle.base_text.specs.declared.fault.BaseCause.TheVariants as cause
use Rattle.base_text.specs.declared.fault.BaseFault.{BaseFault}
use Rattle.base_text.specs.declared.limits.TheConstants.{MOST_TEXT}
use Rattle.base_text.specs.Frames.{top_fault}
use Rattle.base_text.specs.Rows.{row_bytes, rows_bytes, body_of_rows}
use Rattle.base_text.specs.Whole.{PartsView, listed_parts, tree_parts, IsTextBase, IsWholeCause, IsFaultOf, IsRead}
use Rattle.base_text.proofs.BuildFaults.{no_fault}
use Rattle.base_text.proofs.Documents.{its_tree}
use Rattle.base_text.proofs.OneText.{one_text_base}
use Rattle.screen_forms.specs.Laws.{IsSavedScreen}
use Rattle.screen_files.specs.declared.filed.Filed.{Filed}
use Rattle.screen_files.specs.Settling.{Ascend}
use Rattle.screen_files.specs.Texts.{entry_key_line}
use Rattle.screen_files.specs.Album.{base_text, entry_or, filed_lines, first_over, frames_text, leads_on}
use Rattle.screen_files.specs.Rows.{rows_of}
use Rattle.import_laws.specs.Imported.{IsAsked, IsFiled, frame_items, members_of}
use Rattle.import_laws.specs.Bases.{ImportsAreBases, MeansBase, screen_frame, screen_frames, screen_base}
use Rattle.import_laws.proofs.Elements.{IsRow, screen_rows_are, few_rows}
use Rattle.import_laws.proofs.Listed.{none_at_fault, all_placed, table_listed}
use Rattle.import_laws.proofs.Lows.{base_utf8}
use Rattle.import_laws.proofs.Whole.{read}

-- The text is no longer than a base may be.

within_most : (known : List Id) (before : ℕ) (frames : List Filed) → before ≤ MOST_TEXT → first_over known before frames ≡ None
    → before + length (frames_text known frames) ≤ MOST_TEXT
unfolding first_over frames_text
within_most known before [] so_far none = omega (arith, so_far)
within_most known before (f ∷ rest) so_far none =
    elim (cases_Bool (nat_lt MOST_TEXT (before + length (filed_lines known f rest)))) [
      | inl over ↦ absurd (some_file f.origin.file (rw over at none))
      | inr fits ↦
          let this : before + length (filed_lines known f rest) ≤ MOST_TEXT = grind (arith, nat_tests, fits) in
          let more = within_most known (before + length (filed_lines known f rest)) rest this (rw fits at none) in
          omega (arith, more, length-append (filed_lines known f rest) (frames_text known rest))
    ] where
      some_file : (file : ℕ) → Some file ≡ None → ⊥
      some_file file e = cc

-- What it lists.

module _ (known : List Id) where
  pub frames_long : (frames : List Filed) → length (screen_frames known frames) ≡ length frames
  frames_long [] = refl
  frames_long (f ∷ rest) = omega (arith, frames_long rest)

  -- Its frames make a base.

  row_longer : (row : List ℕ) → length row ≤ 40 → length (row_bytes row) ≤ 42
  row_longer row short = elim (cases_Bool (nat_lt (length row) 40)) [
    | inl less ↦ rw less (omega (arith, short, length-append row (13 ∷ 10 ∷ [])))
    | inr full ↦ rw full (omega (arith, short))
  ]

  rows_longer : (rows : List (List ℕ)) → All IsRow rows → length (rows_bytes rows) ≤ 42 * length rows
  rows_longer [] all = omega arith
  rows_longer (row ∷ rows) all =
      omega (arith, row_longer row (All-head IsRow row rows all).0, rows_longer rows (All-tail IsRow row rows all), length-append (row_bytes row) (rows_bytes rows))

  body_short : (screen : List ℕ) → IsSavedScreen screen → nat_lt MOST_BODY (length (body_of_rows (rows_of screen))) ≡ false
  body_short screen saved =
      let few : length (body_of_rows (rows_of screen)) ≤ MOST_BODY = omega (arith, rows_longer (rows_of screen) (screen_rows_are screen saved), few_rows screen) in
      grind (arith, nat_tests, few)

  bodies_short : (frames : List Filed) → All IsFiled frames → NoFrame is_body_long (screen_frames known frames)
  bodies_short [] filed = All-nil (λ (f : Frame). is_body_long f ≡ false)
  bodies_short (f ∷ rest) filed =
      All-cons (λ (g : Frame). is_body_long g ≡ false) (screen_frame known f.frame (leads_on f.frame.id rest)) (screen_frames known rest)
      (body_short f.frame.codes (All-head IsFiled f rest filed).screen) (bodies_short rest (All-tail IsFiled f rest filed))

  -- no letter follows `z` (122)
  not_after_z : (letter : ℕ) (b : Bool) → ((nat_lt letter 122 && b) && letter == 122) ≡ false
  not_after_z letter b = elim (cases_Bool (nat_lt letter 122)) [
    | inl less ↦ let other : (letter == 122) ≡ false = grind (arith, nat_tests, less) in rw (less, other) (neither b)
    | inr not ↦ rw not refl
  ] where
    neither : (b : Bool) → (b && false) ≡ false
    neither true = refl
    neither false = refl

  none_after_z : (frames : List Filed) → NoFrame is_next_after_z (screen_frames known frames)
  none_after_z [] = All-nil (λ (f : Frame). is_next_after_z f ≡ false)
  none_after_z (f ∷ rest) =
      All-cons (λ (g : Frame). is_next_after_z g ≡ false) (screen_frame known f.frame (leads_on f.frame.id rest)) (screen_frames known rest)
      (not_after_z f.frame.id.letter _) (none_after_z rest)

  pub ascending : (frames : List Filed) → Ascend frames → IsAscending (screen_frames known frames)
  unfolding Ascend
  ascending [] up k d lt = absurd (omega (arith, lt))
  ascending (f ∷ []) up k d lt = absurd (omega (arith, lt))
  ascending (f ∷ g ∷ rest) up zero d lt = up.0
  ascending (f ∷ g ∷ rest) up (suc k) d lt =
      let x = screen_frame known f.frame (leads_on f.frame.id (g ∷ rest)) in
      let others = screen_frames known (g ∷ rest) in
      let next : get_or (x ∷ others) (suc k + 1) d ≡ get_or others (k + 1) d = ap (λ (i : ℕ). get_or (x ∷ others) i d) (add-one (suc k)) ∙ ap (λ (i : ℕ). get_or others i d) (sym (add-one k)) in
      ap (λ (h : Frame). id_cmp (get_or others k d).id h.id) next ∙ ascending (g ∷ rest) up.1 k d (omega (arith, lt))

  not_many : (n : ℕ) → n ≤ MOST_LISTED → (nat_lt MOST_LISTED n || nat_lt MOST_LISTED 0) ≡ false
  not_many n few = let less : nat_lt MOST_LISTED n ≡ false = grind (arith, nat_tests, few) in rw less refl

  is_base : (entry : ℕ) (frames : List Filed) → length frames ≤ MOST_LISTED → Ascend frames → All IsFiled frames
      → IsBaseOf entry [] (screen_frames known frames) (record { entry = entry; outside = []; frames = screen_frames known frames })
  is_base entry frames few up filed =
      let all = screen_frames known frames in
      let not_over = not_many (length all) (omega (arith, frames_long frames, few)) in
      let rise = ascending frames up in
      record {
        few = not_over;
        short = bodies_short frames filed;
        no_next_after_z = none_after_z frames;
        none_twice = none_twice all rise;
        none_inside = λ page inside. absurd (omega (arith, inside.1));
        same_entry = refl;
        same_pages = λ page. (λ h. h, λ h. h);
        same_frames = IsPermutation-refl all;
        valid = record {
          few = not_over;
          short = bodies_short frames filed;
          no_next_after_z = none_after_z frames;
          ascending = rise;
          pages_ascend = λ k lt. absurd (omega (arith, lt));
          apart = λ id listed. absurd (none_listed listed);
        };
      } where
        none_listed : false ≡ true → ⊥
        none_listed e = cc

no_cause : (entry : ℕ) (outside : List ℕ) (frames : List Frame) (base : BaseView) (c : BaseCause) → IsBaseOf entry outside frames base → IsWholeCause outside frames c → ⊥
no_cause entry outside frames base cause.TooMany is h = no_fault outside frames entry base build.TooMany is h
no_cause entry outside frames base (cause.BodyTooLong id) is h = no_fault outside frames entry base (build.BodyTooLong id) is h
no_cause entry outside frames base (cause.NextAfterZ id) is h = no_fault outside frames entry base (build.NextAfterZ id) is h
no_cause entry outside frames base (cause.Duplicate id) is h = no_fault outside frames entry base (build.Duplicate id) is h
no_cause entry outside frames base (cause.OutsideInside page) is h = no_fault outside frames entry base (build.OutsideInside page) is h
no_cause entry outside frames base _ is h = h

-- a text that lists what makes a base means it
means_by : (text : List ℕ) (p : PartsView) (base : BaseView) → listed_parts text ≡ Ok p → IsBaseOf p.entry p.outside p.frames base → MeansBase text base
means_by text p base lists is = record { means = means; only = only } where
  means : IsTextBase text base
  means = (p, lists, is)

  only : (r : Result BaseView BaseFault) → IsRead text r → (r ≡ Ok base) ⊎ (r ≡ Err (top_fault cause.Memory))
  only (Ok other) h = inl (ap Ok (one_text_base text other base h means))
  only (Err fault) (inl memory) = inr (ap Err memory)
  only (Err fault) (inr first) =
      let at : IsFaultOf (Ok p) fault = subst (λ (r : Result PartsView BaseFault). IsFaultOf r fault) lists first in
      absurd (no_cause p.entry p.outside p.frames base fault.cause is at.1)

asked_page : (asked : Option ℕ) (page : ℕ) → IsAsked asked → page ≤ MOST_PAGE → entry_or asked page ≤ MOST_PAGE
asked_page None page is small = small
asked_page (Some other) page is small = is

-- what a text of frames lists
lists : (asked : Option ℕ) (known : List Id) (f : Filed) (rest : List Filed) → IsAsked asked → All IsFiled (f ∷ rest)
    → length (base_text asked known (f ∷ rest)) ≤ MOST_TEXT
    → listed_parts (base_text asked known (f ∷ rest)) ≡ Ok (record { entry = entry_or asked f.frame.id.page; outside = []; frames = screen_frames known (f ∷ rest) })
lists asked known f rest is_asked filed short =
    let text = base_text asked known (f ∷ rest) in
    let page = entry_or asked f.frame.id.page in
    let small = asked_page asked f.frame.id.page is_asked (All-head IsFiled f rest filed).id.page in
    let not_long : nat_lt MOST_TEXT (length text) ≡ false = grind (arith, nat_tests, short) in
    let tree = its_tree text (members_of asked known (f ∷ rest)) (base_utf8 known page (f ∷ rest) (omega (arith, small)) filed) (read asked known (f ∷ rest) is_asked filed) in
    rw not_long (ap tree_parts tree)
    ∙ table_listed page (frame_items known (f ∷ rest)) (screen_frames known (f ∷ rest)) small (none_at_fault known 0 (f ∷ rest) filed) (all_placed known 0 (f ∷ rest) filed)

entry_short : (page : ℕ) → page ≤ MOST_PAGE → length (entry_key_line page) ≤ MOST_TEXT
entry_short page small =
    omega (arith, length-append (codes "entry = " ++ decimal page) (codes "\n"), length-append (codes "entry = ") (decimal page), length-decimal-le 9 page (omega arith) (omega (arith, small)) (omega (arith, small)))

pub means : ImportsAreBases
means asked guessed f rest text is_asked filed few made =
    let known = made.known in
    let page = entry_or asked f.frame.id.page in
    let small = asked_page asked f.frame.id.page is_asked (All-head IsFiled f rest filed).id.page in
    let short_place = length-append (entry_key_line page) (frames_text known (f ∷ rest)) in
    let short : length (base_text asked known (f ∷ rest)) ≤ MOST_TEXT =
    omega (arith, within_most known (length (entry_key_line page)) (f ∷ rest) (entry_short page small) made.within, short_place) in
    subst (λ (t : List ℕ). MeansBase t (screen_base asked known f rest)) (sym made.is)
    (means_by (base_text asked known (f ∷ rest)) (record { entry = page; outside = []; frames = screen_frames known (f ∷ rest) }) (screen_base asked known f rest)
    (lists asked known f rest is_asked filed short) (is_base known page (f ∷ rest) few made.ascend filed))
