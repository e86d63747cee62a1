-- If a base is certified, no way of a section that callers reach fails.
use Rattle.std.proofs.Common.{◌≡◌, ℕ, refl, sym, subst, ap, ◌∙◌, Any, Contains, Bool, true, false, ◌||◌, List, [], ◌∷◌, ◌++◌, Option, Some, None, codes, decimal, get_or, is_some, map, arith, if◌then◌else◌}
use Rattle.std.specs.Char.{encode_utf8}
use Rattle.std.specs.List.{list_any, flat_map, AllByRecursion}
use Rattle.std.specs.declared.cmp.Ordering.TheVariants.{Equal}
use Rattle.std.proofs.lemmas.Bool.Decides.{nat_tests}
use Rattle.std.proofs.lemmas.List.Elements.{All-from_recursion}
use Rattle.std.proofs.lemmas.List.Folds.{list_any-append}
use Rattle.std.proofs.lemmas.List.Quantifiers.{position-Some}
use Rattle.std.proofs.lemmas.Option.{slice_get-get_or, get_or_from_slice_get}
use Rattle.page_ids.specs.Ids.{Id, id_cmp, id_eq, frame_text}
use Rattle.page_ids.specs.IdLaws.{id_eq_same}
use Rattle.page_ids.specs.declared.key.Key.{Key}
use Rattle.page_ids.specs.declared.way.Way.{Way}
use Rattle.page_ids.specs.Ways.{way_key, ways}
use Rattle.frame_records.specs.declared.base.Sought.{Sought}
use Rattle.frame_records.specs.declared.base.Sought.TheVariants as sought
use Rattle.frame_records.specs.declared.frame.Frame.{Frame}
use Rattle.frame_records.specs.declared.frame.Lead.{Lead}
use Rattle.frame_records.specs.declared.frame.Lead.TheVariants.{Clear, Keep}
use Rattle.frame_records.specs.declared.ways.Destination.{Destination}
use Rattle.frame_records.specs.declared.ways.Destination.TheVariants.{NotOffered, Found, Closed, Missing, Outside}
use Rattle.frame_records.specs.Bases.{BaseView, frame_at}
use Rattle.frame_records.specs.Seek.{seek_entry}
use Rattle.frame_records.specs.Ways.{destination_of, destination_by}
use Rattle.frame_records.proofs.OneBase.{first_in, later_in}
use Rattle.frame_records.proofs.SortedFrames.{found_at}
use Rattle.finder.specs.declared.found.Discovered.{Discovered}
use Rattle.finder.specs.Finds.{IsReached, script}
use Rattle.finder.specs.Parts.{part_shows}
use Rattle.frame_screens.specs.Frames.{place_of}
use Rattle.checker.specs.declared.policy.Policy.{Policy}
use Rattle.base_faults.specs.declared.fault.Fault.{Fault}
use Rattle.base_faults.specs.declared.fault.FaultKind.{FaultKind}
use Rattle.base_faults.specs.declared.fault.FaultKind.TheVariants as kind
use Rattle.fault_scripts.specs.declared.outcome.Outcome.TheVariants.{Certified, Faulty}
use Rattle.fault_scripts.specs.Faults.{AreFaults, AreFaultsBy, AreFaultsAlong, IsDueAs, KeyIsDue, key_fault}
use Rattle.screens.specs.declared.look.Look.{Look}
use Rattle.screens.specs.Svg.{newline}
use Rattle.lint.specs.declared.lines.WrittenFrame.{WrittenFrame}
use Rattle.lint.specs.FrameLines.{SentenceView}
use Rattle.lint.specs.Lookups.{value_of}
use Rattle.base_pages.specs.Faults.{faults_about, sentences_about}
use Rattle.base_pages.specs.Screens.{is_reached, screen_of}
use Rattle.base_pages.specs.Revealed.{revealed, screen_conceals}
use Rattle.base_pages.specs.Sections.{BookView, section_attributes, shown_frames}
use Rattle.base_pages.specs.Pages.{book}
use Rattle.base_pages.specs.Reading.{Element}
use Rattle.base_pages.specs.Said.{said_as, link_said, marked_said, way_said, ways_said, over_said, group_said, place_said, marks_said, sentence_said, sentences_said, fault_said, faults_said, findings_said, text_said, revealed_said, section_said, class_said}
use Rattle.base_pages.specs.Links.{says_unreached, fails, NoWayFails}
use Rattle.base_pages.specs.Laws.{CertifiedWaysLead}
use Rattle.base_pages.proofs.Files.{says_what_is_shown}
use Rattle.base_pages.proofs.Links.{none_in, filter_among}

-- What is reached has no fault.

along : (base : BaseView) (policy : Policy) (s : Sought) → AreFaultsBy s base policy [] → AreFaultsAlong base policy []
along base policy (sought.Found price) h = h
along base policy sought.Closed h = absurd cc
along base policy sought.Missing h = absurd cc

listed : (found : List Discovered) (id : Id) → is_some (place_of found id) ≡ true → Any (λ d. d.id ≡ id) found
listed [] id h = absurd cc
listed (d ∷ ds) id h = by (place_of (d ∷ ds) id) refl h where
  by : (o : Option ℕ) → place_of (d ∷ ds) id ≡ o → is_some o ≡ true → Any (λ d. d.id ≡ id) (d ∷ ds)
  by None e h = absurd cc
  by (Some k) e h =
      let p = position-Some (λ (x : Discovered). id_eq x.id id) (d ∷ ds) k d e in
      let x = get_or (d ∷ ds) k d in
      (k, x, p.0, get_or_from_slice_get (d ∷ ds) k x x (slice_get-get_or (d ∷ ds) k d p.0), id_eq_same x.id id p.1)

module _ (base : BaseView) (policy : Policy) (f : Frame) (none : AreFaults base policy []) (reached : IsReached policy.groups base f.id) (there : frame_at base f.id ≡ Some f) where
  abbrev faults : AreFaultsAlong base policy []
  faults = along base policy (seek_entry policy.groups base) none

  abbrev place : Any (λ d. d.id ≡ f.id) faults.found
  place = (faults.finding.reached.reached f.id).0 reached

  at_place : frame_at base place.1.id ≡ Some f
  at_place = ap (frame_at base) place.4 ∙ there

  -- a destination that would be a fault of a kind
  no_way : (k : FaultKind) (what : Id → Destination)
      → ((keys : List Key) (fault : Fault) → KeyIsDue policy.groups base place.1.id keys fault k what → IsDueAs k base policy place.1.id f keys fault)
      → (way : Way) (to : Id) → destination_of policy.groups base f way ≡ what to → ⊥
  no_way k what due way to e =
      let keys = script faults.found place.0 in
      let fault = key_fault k place.1.id keys (way_key way) to in
      none_in fault ((faults.due.just fault).1 (record {
        index = place.0;
        discovered = place.1;
        frame = f;
        keys = keys;
        place = record { listed = slice_get-get_or faults.found place.0 place.1 place.2 ∙ ap Some place.3; of_frame = at_place; script = refl };
        due = due keys fault (record { through = way; to = to; comes_to = ap (destination_by policy.groups base way) at_place ∙ e; is = refl });
      }))

  not_missing : (way : Way) (to : Id) → destination_of policy.groups base f way ≡ Missing to → ⊥
  not_missing = no_way kind.Missing Missing (λ keys fault due. due)

  not_closed : (way : Way) (to : Id) → destination_of policy.groups base f way ≡ Closed to → ⊥
  not_closed = no_way kind.Closed Closed (λ keys fault due. due)

-- What sections say.

none_either : (a b : Bool) → a ≡ false → b ≡ false → (a || b) ≡ false
none_either a b h k = rw (h, k) refl

none_in_each : {A : Type 0} (f : A → List Element) → ((x : A) → list_any fails (f x) ≡ false) → (xs : List A) → list_any fails (flat_map f xs) ≡ false
none_in_each f h [] = refl
none_in_each f h (x ∷ xs) = list_any-append fails (f x) (flat_map f xs) ∙ none_either (list_any fails (f x)) (list_any fails (flat_map f xs)) (h x) (none_in_each f h xs)

way_found : (part : Option (List Id)) (key : Key) (leads : Destination) → ((to : Id) → leads ≡ Missing to → ⊥) → ((to : Id) → leads ≡ Closed to → ⊥) → list_any fails (way_said part key leads) ≡ false
unfolding encode_utf8
way_found part key NotOffered m c = refl
way_found part key (Found to price) m c = by (part_shows part to) where
  by : (q : Bool) → list_any fails ((if q then link_said to key else marked_said (codes "elsewhere") key (frame_text to)) ∷ []) ≡ false
  by true = refl
  by false = refl
way_found part key (Closed to) m c = absurd (c to refl)
way_found part key (Missing to) m c = absurd (m to refl)
way_found part key (Outside page) m c = refl

over_found : (lead : Lead) → list_any fails (over_said lead) ≡ false
over_found Clear = refl
over_found Keep = refl

faults_found : (faults : List Fault) → list_any fails (faults_said faults) ≡ false
faults_found [] = refl
faults_found (fault ∷ faults) = none_in_each fault_said (λ x. refl) (fault ∷ faults)

sentences_found : (ss : List SentenceView) → list_any fails (sentences_said ss) ≡ false
sentences_found [] = refl
sentences_found (s ∷ ss) = none_in_each sentence_said (λ x. refl) (s ∷ ss)

group_found : (group : Option ℕ) → list_any fails (group_said group) ≡ false
group_found None = refl
group_found (Some group) = refl

place_found : (name : List ℕ) (line : Option WrittenFrame) → list_any fails (place_said name line) ≡ false
place_found name None = refl
place_found name (Some line) = refl

revealed_found : (rows : List (List Look)) → list_any fails (revealed_said rows) ≡ false
revealed_found rows = by (screen_conceals rows) where
  by : (q : Bool) → list_any fails (if q then said_as (codes "div") ((codes "class", codes "revealed") ∷ []) newline ∷ text_said (revealed rows) ∷ [] else []) ≡ false
  by true = refl
  by false = refl

none_in_both : (es ds : List Element) → list_any fails es ≡ false → list_any fails ds ≡ false → list_any fails (es ++ ds) ≡ false
none_in_both es ds h k = list_any-append fails es ds ∙ none_either (list_any fails es) (list_any fails ds) h k

marked_unreached : (b : BookView) (f : Frame) → says_unreached (section_said b f) ≡ false → is_reached b.found f.id ≡ true
unfolding encode_utf8
marked_unreached b f h = by (is_reached b.found f.id) h where
  by : (r : Bool) → says_unreached (said_as (codes "section") (section_attributes f.id r) (10 ∷ []) ∷ []) ≡ false → r ≡ true
  by true e = refl
  by false e = absurd cc

abbrev Holds : List Element → Type 0
Holds es = says_unreached es ≡ false → list_any fails es ≡ false

each_said : (b : BookView) (fs : List Frame) → ((f : Frame) → Contains fs f → Holds (section_said b f)) → AllByRecursion Holds (map (section_said b) fs)
each_said b [] h = tt
each_said b (f ∷ fs) h = (h f (first_in f fs), each_said b fs (λ g k. h g (later_in f fs g k)))

pub certified_ways_lead : CertifiedWaysLead
certified_ways_lead source base policy part found (Faulty faults) sentences valid finding outcome = tt
certified_ways_lead source base policy part found (Certified cert) sentences valid finding outcome =
    let b = book source base policy part found (Certified cert) sentences in
    let fs = shown_frames b base.frames in
    let one : (f : Frame) → Contains fs f → Holds (section_said b f) = λ (f : Frame) h unmarked.
    let has = (filter_among (λ (g : Frame). part_shows part g.id) base.frames f h).0 in
    let same : id_cmp f.id f.id ≡ Equal = grind (arith, nat_tests) in
    let there : frame_at base f.id ≡ Some f = found_at base.frames f.id has.0 f valid.ascending has.1 has.2 same in
    let reached = (finding.reached.reached f.id).1 (listed found f.id (marked_unreached b f unmarked)) in
    let said = sentences_about b.faults b.sentences f.id in
    let lines = faults_about b.faults f.id in
    let rows = screen_of policy.groups base found f.id in
    let price = class_said (codes "price") (decimal f.price ++ codes "p") in
    none_in_both (revealed_said rows ++ price ∷ marks_said source f) (class_said (codes "ways") (10 ∷ []) ∷ (ways_said b f ++ over_said f.lead ++ findings_said b f))
    (none_in_both (revealed_said rows) (price ∷ marks_said source f) (revealed_found rows)
    (none_in_both (group_said f.group) (place_said source.name (value_of source.lines f.id)) (group_found f.group) (place_found source.name (value_of source.lines f.id))))
    (none_in_both (ways_said b f ++ over_said f.lead) (findings_said b f)
    (none_in_both (ways_said b f) (over_said f.lead)
    (none_in_each (λ (way : Way). way_said part (way_key way) (destination_of policy.groups base f way)) (λ (way : Way). way_found part (way_key way) (destination_of policy.groups base f way) (not_missing base policy f outcome.0 reached there way) (not_closed base policy f outcome.0 reached there way)) ways)
    (over_found f.lead)) (none_in_both (sentences_said said) (faults_said lines) (sentences_found said) (faults_found lines))) in
    subst NoWayFails (sym (says_what_is_shown policy (Certified cert) b)) (All-from_recursion Holds (map (section_said b) fs) (each_said b fs one))
