-- The frames that are warned of.
use Rattle.std.proofs.Common.{◌≡◌, ◌∙◌, ◌≢◌, ◌||◌, ℕ, Bool, true, false, cond, not, List, [], ◌∷◌, ◌++◌, map, get_or, Option, Some, None, Ok, is_none, refl, sym, ap, subst, Contains, inl, inr, suc, length, append-nil, append_assoc, arith}
use Rattle.std.specs.Option.{option_or}
use Rattle.std.specs.Prelude.{filter, AllPairs, ◌⊎◌, ◌↔◌}
use Rattle.std.specs.List.{list_any}
use Rattle.std.proofs.lemmas.List.Elements.{All-map, All-contains, filter_passes, Contains-append_left, Contains-append_cases}
use Rattle.std.proofs.lemmas.List.Folds.{Any-from_list_any, list_any-from_Any}
use Rattle.std.proofs.lemmas.List.Kept.{AllPairs-filter}
use Rattle.std.proofs.lemmas.List.Sorted.{Contains-permutation, IsPermutation-filter_both, IsPermutation-sym}
use Rattle.page_ids.specs.Ids.{Id, id_eq}
use Rattle.page_ids.specs.IdLaws.{id_eq_same, id_eq_refl}
use Rattle.frame_records.specs.declared.frame.Frame.{Frame}
use Rattle.frame_records.specs.Bases.{BaseView, IsAscending}
use Rattle.frame_records.specs.Seek.{is_open, entry_of}
use Rattle.frame_records.proofs.SortedFrames.{apart_at}
use Rattle.checker.specs.declared.policy.Policy.{Policy}
use Rattle.finder.specs.declared.found.Discovered.{Discovered}
use Rattle.finder.specs.Finds.{EntryIsFound, IsReached, FindsReached}
use Rattle.base_text.specs.Whole.{IsTextBase}
use Rattle.toml_places.specs.Places.{marks}
use Rattle.lint.specs.declared.finding.Level.TheVariants.{Error}
use Rattle.lint.specs.Findings.{FindingView, AreInOrder}
use Rattle.lint.specs.Lookups.{value_of}
use Rattle.lint.specs.AllLooks.{all_looks}
use Rattle.lint.specs.Lint.{ranks_of, finds_none, is_unreached, unreached, frame_ids, warning, none_reached, unreached_findings, look_findings, fault_finding, text_tables}
use Rattle.lint.specs.Laws.{IsCutOff, AreOfAudit, WarnsOfCutOff, LintWarnsOfUnreached}
use Rattle.lint.proofs.Meanings.{follows}
use Rattle.std.proofs.lemmas.Bool.{and_parts}
use Rattle.page_ids.proofs.Truths.{not_so, not_true}

-- what passes a test is kept
module _ {X : Type 0} (p : X → Bool) (xs : List X) (x : X) where
  kept : Contains xs x → p x ≡ true → Contains (filter p xs) x
  kept c h = on (Contains-append_cases (filter p xs) (filter (λ y. not (p y)) xs) x (Contains-permutation xs _ x (IsPermutation-filter_both p (λ y. not (p y)) (λ y. refl) xs) c)) where
    failed : (b : Bool) → b ≡ true → not b ≡ true → ⊥
    failed true h e = absurd cc
    failed false h e = absurd cc

    on : Contains (filter p xs) x ⊎ Contains (filter (λ y. not (p y)) xs) x → Contains (filter p xs) x
    on (inl here) = here
    on (inr out) = absurd (failed (p x) h (All-contains (λ y. not (p y) ≡ true) (filter (λ y. not (p y)) xs) x (filter_passes (λ y. not (p y)) xs) out))

  kept_from : Contains (filter p xs) x → Contains xs x × (p x ≡ true)
  kept_from c = (
    Contains-permutation (filter p xs ++ filter (λ y. not (p y)) xs) xs x (IsPermutation-sym xs _ (IsPermutation-filter_both p (λ y. not (p y)) (λ y. refl) xs)) (Contains-append_left (filter p xs) _ x c),
    All-contains (λ y. p y ≡ true) (filter p xs) x (filter_passes p xs) c,
  )

-- an id has no rank if it isn't listed
none_or : {X : Type 0} (later : Option X) (b : Bool) (x : X) (rest : Bool) → is_none later ≡ not rest
    → is_none (option_or later (cond b (Some x) None)) ≡ not (b || rest)
none_or (Some y) true x rest e = refl
none_or (Some y) false x rest e = e
none_or None true x rest e = refl
none_or None false x rest e = e

unranked : (found : List Discovered) (id : Id) → is_none (value_of (ranks_of found) id) ≡ not (list_any (λ d. id_eq d.id id) found)
unranked [] id = refl
unranked (d ∷ ds) id = none_or (value_of (ranks_of ds) id) (id_eq d.id id) d.rank (list_any (λ e. id_eq e.id id) ds) (unranked ds id)

-- one finding for each frame of a list of ids
each : (f : Id → FindingView) (frames : List Frame) → map f (frame_ids frames) ≡ map (λ (g : Frame). f g.id) frames
each f [] = refl
each f (g ∷ gs) = ap (λ fs. f g.id ∷ fs) (each f gs)

module _ (groups : List ℕ) (base : BaseView) (found : List Discovered) (finds : FindsReached groups base found) where
  -- the frames that are listed are those that walks reach
  listed : (id : Id) → IsReached groups base id → list_any (λ d. id_eq d.id id) found ≡ true
  listed id r =
      let a = (finds.reached id).0 r in
      list_any-from_Any (λ d. id_eq d.id id) found (a.0, a.1, a.2, a.3, ap (λ (x : Id). id_eq x id) a.4 ∙ id_eq_refl id)

  reached : (id : Id) → list_any (λ d. id_eq d.id id) found ≡ true → IsReached groups base id
  reached id e =
      let a = Any-from_list_any (λ d. id_eq d.id id) found e in
      (finds.reached id).1 (a.0, a.1, a.2, a.3, id_eq_same a.1.id id a.4)

  -- a frame that is kept is cut off, if the entry frame is found, and the other way round
  kept_is_cut_off : EntryIsFound groups base → (f : Frame) → Contains (unreached groups (ranks_of found) base.frames) f → IsCutOff groups base f
  kept_is_cut_off entry f c =
      let k = kept_from (is_unreached groups (ranks_of found)) base.frames f c in
      let b = and_parts (is_open groups f) (is_none (value_of (ranks_of found) f.id)) k.1 in
      record { entry = entry; listed = k.0; opens = b.0; unreached = λ r. not_true (list_any (λ d. id_eq d.id f.id) found) (sym (unranked found f.id) ∙ b.1) (listed f.id r) }

  cut_off_is_kept : (f : Frame) → IsCutOff groups base f → Contains (unreached groups (ranks_of found) base.frames) f
  cut_off_is_kept f c =
      let none = unranked found f.id ∙ not_so (list_any (λ d. id_eq d.id f.id) found) (λ e. c.unreached (reached f.id e)) in
      kept (is_unreached groups (ranks_of found)) base.frames f c.listed (rw (c.opens, none) refl)

-- without an entry frame nothing is reached, and else it is
no_entry : (groups : List ℕ) (base : BaseView) → FindsReached groups base [] → ¬ (EntryIsFound groups base)
no_entry groups base finds entry =
    let a = (finds.reached (entry_of base)).0 (record { steps = 0; entry = entry; walk = refl }) in absurd (omega (arith, a.2))

an_entry : (groups : List ℕ) (base : BaseView) (d : Discovered) (ds : List Discovered) → FindsReached groups base (d ∷ ds) → EntryIsFound groups base
an_entry groups base d ds finds = (reached groups base (d ∷ ds) finds d.id (rw (id_eq_refl d.id) refl)).entry

-- the frames that are cut off; without an entry frame none is
abbrev warned : List ℕ → List Discovered → List Frame → List Frame
warned groups [] frames = []
warned groups (d ∷ ds) frames = unreached groups (ranks_of (d ∷ ds)) frames

warned_is_cut_off : (groups : List ℕ) (base : BaseView) (found : List Discovered) → FindsReached groups base found
    → (f : Frame) → Contains (warned groups found base.frames) f ↔ IsCutOff groups base f
warned_is_cut_off groups base [] finds f = (λ c. absurd (omega (arith, c.1)), λ c. absurd (no_entry groups base finds c.entry))
warned_is_cut_off groups base (d ∷ ds) finds f = (
  kept_is_cut_off groups base (d ∷ ds) finds (an_entry groups base d ds finds) f,
  cut_off_is_kept groups base (d ∷ ds) finds f,
)

apart : (base : BaseView) → IsAscending base.frames → AllPairs (λ f g. f.id ≢ g.id) base.frames
apart base up i j d lt within same =
    let differ = apart_at base.frames j i d up lt within in
    let equal : id_eq (get_or base.frames i d).id (get_or base.frames j d).id ≡ true = ap (λ (x : Id). id_eq x (get_or base.frames j d).id) same ∙ id_eq_refl (get_or base.frames j d).id in
    absurd cc

once : (groups : List ℕ) (base : BaseView) (found : List Discovered) → IsAscending base.frames → AllPairs (λ f g. f.id ≢ g.id) (warned groups found base.frames)
once groups base [] up = λ i j d lt within same. absurd (omega (arith, within))
once groups base (d ∷ ds) up = AllPairs-filter (λ f g. f.id ≢ g.id) (is_unreached groups (ranks_of (d ∷ ds))) base.frames (apart base up)

-- where nothing is reached, each frame that is open isn't
open_ids : (groups : List ℕ) (frames : List Frame) → length (frame_ids (unreached groups [] frames)) ≡ length (filter (is_open groups) frames)
open_ids groups [] = refl
open_ids groups (f ∷ fs) = on (is_open groups f) refl (open_ids groups fs) where
  on : (b : Bool) → is_open groups f ≡ b → length (frame_ids (unreached groups [] fs)) ≡ length (filter (is_open groups) fs)
      → length (frame_ids (unreached groups [] (f ∷ fs))) ≡ length (filter (is_open groups) (f ∷ fs))
  on true e rest = rw e (ap suc rest)
  on false e rest = rw e rest

module _ (text : List ℕ) (groups : List ℕ) (base : BaseView) where
  -- what is said of all frames, if the entry frame isn't found
  abbrev others : List Discovered → List FindingView
  others [] = none_reached text (marks text) (length (filter (is_open groups) base.frames))
  others (d ∷ ds) = []

  others_found : (found : List Discovered) → FindsReached groups base found → EntryIsFound groups base → others found ≡ []
  others_found [] finds entry = absurd (no_entry groups base finds entry)
  others_found (d ∷ ds) finds entry = refl

  others_not_found : (found : List Discovered) → FindsReached groups base found → ¬ (EntryIsFound groups base)
      → others found ≡ none_reached text (marks text) (length (filter (is_open groups) base.frames))
  others_not_found [] finds none = refl
  others_not_found (d ∷ ds) finds none = absurd (none (an_entry groups base d ds finds))

  -- both are what is said of frames that aren't reached
  parts : (tables : List (Id × ℕ)) (found : List Discovered)
      → unreached_findings text (marks text) tables (finds_none found) (frame_ids (unreached groups (ranks_of found) base.frames))
      ≡ map (λ (f : Frame). warning text (marks text) tables f.id) (warned groups found base.frames) ++ others found
  parts tables [] = ap (none_reached text (marks text)) (open_ids groups base.frames)
  parts tables (d ∷ ds) =
      each (warning text (marks text) tables) (unreached groups (ranks_of (d ∷ ds)) base.frames) ∙ sym (append-nil _)

pub warns : (text : List ℕ) (policy : Policy) (findings : List FindingView) (base : BaseView) → IsTextBase text base
    → AreOfAudit text policy findings base → WarnsOfCutOff text policy base findings
warns text policy findings base is a =
    let ms = marks text in
    let tables = text_tables text in
    let found = a.1.found in
    let frames = warned policy.groups found base.frames in
    let each_frame = map (λ (f : Frame). warning text ms tables f.id) frames in
    let faults = map (fault_finding text ms tables base policy (ranks_of found)) a.1.faults in
    let looks = look_findings text ms tables (all_looks policy.groups base.frames) in
    let rest = others text policy.groups base found in
    record {
      errors = faults;
      frames = frames;
      others = rest;
      are_errors = All-map (λ f. f.level ≡ Error) (fault_finding text ms tables base policy (ranks_of found)) a.1.faults (λ k d lt. refl);
      cut_off = warned_is_cut_off policy.groups base found a.1.reached;
      once = once policy.groups base found is.2.valid.ascending;
      found = others_found text policy.groups base found a.1.reached;
      not_found = others_not_found text policy.groups base found a.1.reached;
      in_order = subst (λ fs. AreInOrder fs findings)
          (a.1.all ∙ ap (λ fs. faults ++ fs ++ looks) (parts text policy.groups base tables found) ∙ ap (λ fs. fs ++ looks) (sym (append_assoc faults each_frame rest))) a.2;
    }

pub lint_warns : LintWarnsOfUnreached
lint_warns text policy findings lint base is = warns text policy findings base is (follows text policy findings lint (Ok base) is)
