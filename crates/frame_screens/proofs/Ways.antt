-- Where ways end.
use Rattle.std.proofs.Common.{◌≡◌, ◌∙◌, ◌<◌, ◌+◌, ◌-◌, ℕ, zero, suc, List, [], ◌∷◌, ◌++◌, Option, Some, None, refl, sym, ap, subst, length, reverse, get_or, arith, add-one, append_assoc}
use Rattle.std.proofs.lemmas.List.Quantifiers.{position-Some}
use Rattle.std.proofs.lemmas.Option.{slice_get-get_or, slice_get_within, get_or_from_slice_get}
use Rattle.std.specs.Prelude.{Any, Ok, slice_get}
use Rattle.std.proofs.lemmas.List.{reverse-append}
use Rattle.page_ids.specs.Ids.{Id, id_eq}
use Rattle.page_ids.specs.IdLaws.{id_eq_same}
use Rattle.page_ids.specs.declared.key.Key.{Key}
use Rattle.page_ids.specs.declared.way.Way.{Way}
use Rattle.page_ids.specs.declared.way.Way.TheVariants.{Route, Next}
use Rattle.page_ids.specs.Ways.{way_key}
use Rattle.frame_records.specs.declared.ways.Destination.TheVariants.{Found}
use Rattle.frame_records.specs.Bases.{BaseView}
use Rattle.frame_records.specs.Seek.{entry_of}
use Rattle.frame_records.specs.Ways.{destination}
use Rattle.session_machine.specs.declared.reply.Reply.TheVariants.{Shown}
use Rattle.session_machine.specs.Sessions.{SessionState, Outcome, At, Left, key_step, by_way, remember, present, opening, left_for}
use Rattle.session_machine.specs.Runs.{state_after, replies_to}
use Rattle.finder.specs.declared.found.Discovered.{Discovered}
use Rattle.finder.specs.Finds.{KeysLead, ScriptsLead, FindsReached, EntryIsFound, parent_by, parent_of, script}
use Rattle.finder.proofs.Scripted.{scripts_lead}
use Rattle.frame_screens.specs.Frames.{last_frame, sent_by, sent_in, frames_sent, if_entry_found, unless_left, keyed_frames, place_of, way_by}
use Rattle.frame_screens.specs.Laws.{LeadsThere}

last_more : (f g : Id) (ids : List Id) → last_frame (f ∷ g ∷ ids) ≡ last_frame (g ∷ ids)
last_more f g ids =
    let one : suc (suc (length ids)) - 1 ≡ suc (suc (length ids) - 1) = omega arith in
    ap (λ (n : ℕ). slice_get (f ∷ g ∷ ids) n) one

module _ (caller : List ℕ) (base : BaseView) where
  -- a way that leads on shows its frame
  step : (f h : Id) (remembered : List Id) (way : Way) (price : ℕ) → destination caller base f way ≡ Found h price
      → key_step caller base (At f remembered) (way_key way) ≡ (At h (remember f remembered), Shown h price)
  step f h remembered (Route digit) price e = ap (by_way f remembered) e
  step f h remembered Next price e = ap (by_way f remembered) e

  -- keys that lead to a frame leave the caller there, and it is sent last
  there : (keys : List Key) (f g : Id) (remembered : List Id) → KeysLead caller base f keys g
      → (present (state_after caller base (At f remembered) keys) ≡ Some g) × (last_frame (f ∷ sent_in (replies_to caller base (At f remembered) keys)) ≡ Some g)
  there [] f g remembered lead = (ap Some lead, ap Some lead)
  there (key ∷ keys) f g remembered lead =
      let h = lead.0 in
      let on = step f h remembered lead.1 lead.3.price lead.3.found in
      let here : key_step caller base (At f remembered) key ≡ (At h (remember f remembered), Shown h lead.3.price) =
      ap (key_step caller base (At f remembered)) lead.2 ∙ on in
      let rest = there keys h g (remember f remembered) lead.4 in (
        ap (λ (o : Outcome). present (state_after caller base o.0 keys)) here ∙ rest.0,
        ap (λ (o : Outcome). last_frame (f ∷ sent_in (o.1 ∷ replies_to caller base o.0 keys))) here
            ∙ last_more f h (sent_in (replies_to caller base (At h (remember f remembered)) keys)) ∙ rest.1,
      )

  -- one key more sends one frame more
  sent_more : (keys : List Key) (key : Key) (f g : Id) (remembered : List Id)
      → KeysLead caller base f (keys ++ key ∷ []) g
      → sent_in (replies_to caller base (At f remembered) (keys ++ key ∷ []))
      ≡ sent_in (replies_to caller base (At f remembered) keys) ++ g ∷ []
  sent_more [] key f g remembered lead =
      let h = lead.0 in
      let on : key_step caller base (At f remembered) key ≡ (At h (remember f remembered), Shown h lead.3.price) =
      ap (key_step caller base (At f remembered)) lead.2 ∙ step f h remembered lead.1 lead.3.price lead.3.found in
      ap (λ (o : Outcome). sent_by o.1 ++ []) on ∙ ap (λ (x : Id). x ∷ []) lead.4
  sent_more (first ∷ keys) key f g remembered lead =
      let h = lead.0 in
      let on : key_step caller base (At f remembered) first ≡ (At h (remember f remembered), Shown h lead.3.price) =
      ap (key_step caller base (At f remembered)) lead.2 ∙ step f h remembered lead.1 lead.3.price lead.3.found in
      ap (λ (o : Outcome). sent_by o.1 ++ sent_in (replies_to caller base o.0 (keys ++ key ∷ []))) on
      ∙ ap (λ (ids : List Id). h ∷ ids) (sent_more keys key h g (remember f remembered) lead.4)
      ∙ sym (ap (λ (o : Outcome). (sent_by o.1 ++ sent_in (replies_to caller base o.0 keys)) ++ g ∷ []) on)

  module _ (found : List Discovered) where
    -- the frame at the place where it was found
    at_place : (id : Id) (place : ℕ) → place_of found id ≡ Some place → (d : Discovered) × (slice_get found place ≡ Some d) × (d.id ≡ id)
    at_place id place e = by found refl where
      by : (all : List Discovered) → all ≡ found → (d : Discovered) × (slice_get found place ≡ Some d) × (d.id ≡ id)
      by [] is = let none : place_of [] id ≡ Some place = ap (λ (ds : List Discovered). place_of ds id) is ∙ e in absurd cc
      by (d ∷ ds) is =
          let p = position-Some (λ (x : Discovered). id_eq x.id id) found place d e in
          (get_or found place d, slice_get-get_or found place d p.0, id_eq_same (get_or found place d).id id p.1)

    -- a frame that is listed is reached, from an entry frame that is found
    entry : FindsReached caller base found → (id : Id) (place : ℕ) → place_of found id ≡ Some place → EntryIsFound caller base
    entry finds id place e =
        let a = at_place id place e in
        let here : Any (λ (x : Discovered). x.id ≡ id) found = (place, a.0, slice_get_within found place a.0 a.1, get_or_from_slice_get found place a.0 a.0 a.1, a.2) in
        ((finds.reached id).1 here).entry

  module _ (found : List Discovered) (scripts : ScriptsLead caller base found) where
    led : (id : Id) (place : ℕ) → place_of found id ≡ Some place → KeysLead caller base (entry_of base) (script found place) id
    led id place e =
        let a = at_place found id place e in
        subst (λ (x : Id). KeysLead caller base (entry_of base) (script found place) x) a.2 (scripts.leads place a.0 a.1)

    last_by : (id : Id) (o : Option ℕ) → place_of found id ≡ o → last_frame (way_by caller base found id o) ≡ Some id
    last_by id None e = refl
    last_by id (Some place) e = (there (script found place) (entry_of base) id [] (led id place e)).1

    -- the caller is at a frame, and so didn't leave
    not_left : (state : SessionState) (id : Id) → present state ≡ Some id → left_for state ≡ None
    not_left (At g remembered) id e = refl
    not_left (Left page) id e = absurd cc

    keyed : EntryIsFound caller base → (id : Id) (place : ℕ) → place_of found id ≡ Some place
        → keyed_frames caller base (script found place) ≡ Ok (frames_sent caller base (script found place))
    keyed entry id place e =
        let ids = frames_sent caller base (script found place) in
        let state = state_after caller base (opening base) (script found place) in
        let at = (there (script found place) (entry_of base) id [] (led id place e)).0 in
        ap (if_entry_found (unless_left ids (left_for state))) entry.1 ∙ ap (unless_left ids) (not_left state id at)

    leads_there : FindsReached caller base found → LeadsThere caller base found
    leads_there finds = record {
      keyed = λ id place e. keyed (entry found finds id place e) id place e;
      last = λ id. last_by id (place_of found id) refl;
      present = λ id place e. (there (script found place) (entry_of base) id [] (led id place e)).0;
    }

pub ways_lead : (caller : List ℕ) (base : BaseView) (found : List Discovered) → FindsReached caller base found
    → LeadsThere caller base found
ways_lead caller base found finds = leads_there caller base found (scripts_lead caller base found finds) finds

-- The way to a frame along the parents.

-- the frames that are sent before one, by its parent
abbrev pub earlier_by : List ℕ → BaseView → List Discovered → Option ℕ → List Id
earlier_by caller base found None = []
earlier_by caller base found (Some parent) = frames_sent caller base (script found parent)

-- how many places of parents are left
abbrev pub left_of : Option ℕ → ℕ
left_of None = 0
left_of (Some parent) = parent + 1

module _ (caller : List ℕ) (base : BaseView) (found : List Discovered) (finds : FindsReached caller base found) where
  scripts : ScriptsLead caller base found
  scripts = scripts_lead caller base found finds

  abbrev sent_to : ℕ → List Id
  sent_to place = frames_sent caller base (script found place)

  -- a frame's parent, with the key
  parent_at : (i : ℕ) (d : Discovered) (a : ℕ) → slice_get found i ≡ Some d → d.parent ≡ Some a
      → (key : Key) × (parent_of (slice_get found i) ≡ Some (a, key))
  parent_at zero d a at parent = let none = (finds.first d at).1 in absurd cc
  parent_at (suc i) d a at parent =
      let h = finds.pairs i d (rw add-one at) in
      let by_parent = ap parent_of at ∙ ap (λ (o : Option ℕ). parent_by o d.key) parent in
      (way_key h.pair.1, by_parent ∙ ap (parent_by (Some a)) h.has.key)

  -- a frame is sent after its parent's frames
  after_parent : (i : ℕ) (d : Discovered) (a : ℕ) → slice_get found i ≡ Some d → d.parent ≡ Some a
      → (a < i) × (sent_to i ≡ sent_to a ++ d.id ∷ [])
  after_parent i d a at parent =
      let p = parent_at i d a at parent in
      let on = scripts.extends i (a, p.0) p.1 in
      let lead = subst (λ (keys : List Key). KeysLead caller base (entry_of base) keys d.id) on.1 (scripts.leads i d at) in
      let more = sent_more caller base (script found a) p.0 (entry_of base) d.id [] lead in
      (on.0, ap (frames_sent caller base) on.1 ∙ ap (λ (ids : List Id). entry_of base ∷ ids) more)

  sent_by_parent : (i : ℕ) (d : Discovered) (o : Option ℕ) → slice_get found i ≡ Some d → d.parent ≡ o
      → sent_to i ≡ earlier_by caller base found o ++ d.id ∷ []
  sent_by_parent i d None at parent =
      let first = (scripts.first i d at parent).1 in
      let Leads = λ (keys : List Key). KeysLead caller base (entry_of base) keys d.id in
      let entry : entry_of base ≡ d.id = subst Leads first (scripts.leads i d at) in
      ap (frames_sent caller base) first ∙ ap (λ (x : Id). x ∷ []) entry
  sent_by_parent i d (Some a) at parent = (after_parent i d a at parent).1

  pub parent_before : (i : ℕ) (d : Discovered) (a : ℕ) → slice_get found i ≡ Some d → d.parent ≡ Some a → a < i
  parent_before i d a at parent = (after_parent i d a at parent).0

  -- the frame is sent last
  pub last_sent : (place : ℕ) (d : Discovered) → slice_get found place ≡ Some d → last_frame (sent_to place) ≡ Some d.id
  last_sent place d at = (there caller base (script found place) (entry_of base) d.id [] (scripts.leads place d at)).1

  pub parent_is_listed : (i : ℕ) (d : Discovered) (a : ℕ) → slice_get found i ≡ Some d → d.parent ≡ Some a
      → a < length found
  parent_is_listed i d a at parent = omega (arith, (after_parent i d a at parent).0, slice_get_within found i d at)

  pub way_begins : (place : ℕ) (d : Discovered) → slice_get found place ≡ Some d
      → sent_to place ≡ earlier_by caller base found d.parent ++ d.id ∷ []
  way_begins place d at = sent_by_parent place d d.parent at refl

  pub way_goes_on : (place a : ℕ) (o : Option ℕ) (e : Discovered) (back : List Id) → o ≡ Some a
      → slice_get found a ≡ Some e
      → sent_to place ≡ earlier_by caller base found o ++ reverse back
      → sent_to place ≡ earlier_by caller base found e.parent ++ reverse (back ++ e.id ∷ [])
  way_goes_on place a o e back parent there is =
      is
      ∙ ap (λ (p : Option ℕ). earlier_by caller base found p ++ reverse back) parent
      ∙ ap (λ (ids : List Id). ids ++ reverse back) (sent_by_parent a e e.parent there refl)
      ∙ append_assoc (earlier_by caller base found e.parent) (e.id ∷ []) (reverse back)
      ∙ sym (ap (λ (ids : List Id). earlier_by caller base found e.parent ++ ids) (reverse-append back (e.id ∷ [])))

  pub fewer_left : (a : ℕ) (o : Option ℕ) (e : Discovered) → o ≡ Some a → slice_get found a ≡ Some e
      → left_of e.parent < left_of o
  fewer_left a o e parent there = by e.parent refl where
    by : (p : Option ℕ) → e.parent ≡ p → left_of p < left_of o
    by None none = let is : left_of o ≡ a + 1 = ap left_of parent in omega (arith, is)
    by (Some b) some =
        let up : b < a = (after_parent a e b there some).0 in
        let is : left_of o ≡ a + 1 = ap left_of parent in
        omega (arith, up, is)
