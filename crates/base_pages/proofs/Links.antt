-- The links of the file are the ways.
use Rattle.std.proofs.Common.{◌≡◌, ℕ, ◌+◌, ◌<◌, inl, inr, refl, sym, subst, ap, ◌∙◌, Contains, Bool, true, false, not, cond, List, [], ◌∷◌, ◌++◌, Option, Some, None, codes, decimal, filter, get_or, nat_lt, arith, if◌then◌else◌}
use Rattle.std.specs.List.{list_all, flat_map}
use Rattle.std.proofs.lemmas.Bool.{and_parts, cond_both, true≢false}
use Rattle.std.proofs.lemmas.Bool.Decides.{nat_tests}
use Rattle.std.proofs.lemmas.List.Elements.{All-contains, Contains-append_left, Contains-append_right, Contains-append_cases}
use Rattle.std.proofs.lemmas.List.Folds.{list_all-append}
use Rattle.std.proofs.lemmas.Str.{encode_ascii}
use Rattle.page_ids.specs.Ids.{Id, IsFrameId, id_eq, frame_text, page_text}
use Rattle.page_ids.specs.IdLaws.{id_eq_same}
use Rattle.page_ids.specs.Keys.{IsKey, key_word}
use Rattle.page_ids.specs.Texts.{id_in}
use Rattle.page_ids.specs.declared.key.Key.{Key}
use Rattle.page_ids.specs.declared.way.Way.{Way}
use Rattle.page_ids.specs.declared.way.Way.TheVariants.{Route, Next}
use Rattle.page_ids.specs.Ways.{way_at, way_key, ways}
use Rattle.page_ids.specs.WayLaws.{ways_length, ways_at}
use Rattle.page_ids.proofs.Digits.{PassesDigits, all_decimal}
use Rattle.page_ids.proofs.IdTexts.{id_again}
use Rattle.page_ids.proofs.KeyTexts.{no_prefix}
use Rattle.frame_records.specs.declared.frame.Frame.{Frame}
use Rattle.frame_records.specs.declared.base.Sought.TheVariants as sought
use Rattle.frame_records.specs.declared.frame.Lead.{Lead}
use Rattle.frame_records.specs.declared.frame.Lead.TheVariants.{Clear, Keep}
use Rattle.frame_records.specs.declared.ways.Destination.{Destination}
use Rattle.frame_records.specs.declared.ways.Destination.TheVariants.{NotOffered, Found, Closed, Missing, Outside}
use Rattle.frame_records.specs.Bases.{BaseView, frame_at, lists_outside}
use Rattle.frame_records.specs.Seek.{is_open, sought_of}
use Rattle.frame_records.specs.Ways.{sought, sought_by, offered_by, destination_of}
use Rattle.frame_records.proofs.Finds.{first_found}
use Rattle.frame_records.proofs.OneBase.{first_in, later_in, first_or_later}
use Rattle.base_faults.specs.declared.fault.Fault.{Fault}
use Rattle.finder.specs.Parts.{part_shows}
use Rattle.screens.specs.declared.writing.Writing.TheVariants.{Plain}
use Rattle.screens.specs.Writing.{written}
use Rattle.screens.specs.declared.look.Look.{Look}
use Rattle.screens.specs.Svg.{newline}
use Rattle.screens.specs.Laws.{is_name}
use Rattle.screens.proofs.Safe.{all_append}
use Rattle.lint.specs.declared.lines.WrittenFrame.{WrittenFrame}
use Rattle.lint.specs.FrameLines.{SentenceView}
use Rattle.lint.specs.Lookups.{value_of}
use Rattle.base_pages.specs.Faults.{faults_about, sentences_about}
use Rattle.base_pages.specs.Screens.{is_reached, screen_of}
use Rattle.base_pages.specs.Revealed.{revealed, screen_conceals}
use Rattle.base_pages.specs.Sections.{BookView, section_attributes, shown_frames}
use Rattle.base_pages.specs.Tags.{HasId, HaveIds}
use Rattle.base_pages.specs.Reading.{Element}
use Rattle.base_pages.specs.Said.{said_as, link_said, marked_said, way_said, ways_said, class_said, over_said, group_said, place_said, marks_said, sentence_said, sentences_said, fault_said, faults_said, findings_said, text_said, revealed_said, screen_said, section_said}
use Rattle.base_pages.specs.Links.{HasLink, LeadsInFile, LinksAreWays}
use Rattle.base_pages.specs.Laws.{LinksLead}

-- What is among the elements of a list that another one gives.

pub none_in : {A : Type 0} (x : A) → Contains [] x → ⊥
none_in x h = absurd (omega (arith, h.1))

one_in : {A : Type 0} (x z : A) → Contains (x ∷ []) z → x ≡ z
one_in x z h = elim (first_or_later x [] z h) [
  | inl same ↦ same
  | inr later ↦ absurd (none_in z later)
]

among_each : {A B : Type 0} (f : A → List B) (xs : List A) (z : B) → Contains (flat_map f xs) z → (x : A) × Contains xs x × Contains (f x) z
among_each f [] z h = absurd (none_in z h)
among_each f (x ∷ xs) z h = elim (Contains-append_cases (f x) (flat_map f xs) z h) [
  | inl own ↦ (x, first_in x xs, own)
  | inr later ↦ let more = among_each f xs z later in (more.0, later_in x xs more.0 more.1, more.2)
]

each_among : {A B : Type 0} (f : A → List B) (xs : List A) (x : A) (z : B) → Contains xs x → Contains (f x) z → Contains (flat_map f xs) z
each_among f [] x z h own = absurd (none_in x h)
each_among f (y ∷ xs) x z h own = elim (first_or_later y xs x h) [
  | inl same ↦ Contains-append_left (f y) (flat_map f xs) z (subst (λ w. Contains (f w) z) (sym same) own)
  | inr later ↦ Contains-append_right (f y) (flat_map f xs) z (each_among f xs x z later own)
]

among_filter : {X : Type 0} (p : X → Bool) (xs : List X) (x : X) → p x ≡ true → Contains xs x → Contains (filter p xs) x
among_filter p [] x e h = absurd (none_in x h)
among_filter p (z ∷ zs) x e h = elim (first_or_later z zs x h) [
  | inl same ↦ rw (ap p same ∙ e) (subst (λ y. Contains (z ∷ filter p zs) y) same (first_in z (filter p zs)))
  | inr later ↦
      cond_both (p z) (z ∷ filter p zs) (filter p zs) (λ ys. Contains ys x) (λ q. later_in z (filter p zs) x (among_filter p zs x e later)) (λ q. among_filter p zs x e later)
]

pub filter_among : {X : Type 0} (p : X → Bool) (xs : List X) (x : X) → Contains (filter p xs) x → Contains xs x × (p x ≡ true)
filter_among p [] x h = absurd (none_in x h)
filter_among p (z ∷ zs) x h = by (p z) refl h (filter_among p zs x) where
  by : (b : Bool) → p z ≡ b → Contains (cond b (z ∷ filter p zs) (filter p zs)) x → (Contains (filter p zs) x → Contains zs x × (p x ≡ true)) → Contains (z ∷ zs) x × (p x ≡ true)
  by true e w more = elim (first_or_later z (filter p zs) x w) [
    | inl same ↦ (subst (λ y. Contains (z ∷ zs) y) same (first_in z zs), ap p (sym same) ∙ e)
    | inr later ↦ (later_in z zs x (more later).0, (more later).1)
  ]
  by false e w more = (later_in z zs x (more w).0, (more w).1)

-- Ids and keys are in ASCII, so that they are their own texts.

low : ℕ → Bool
low b = nat_lt b 128

own_text : (bs : List ℕ) → list_all low bs ≡ true → written Plain bs ≡ bs
unfolding low
own_text [] h = refl
own_text (b ∷ bs) h =
    let parts = and_parts (nat_lt b 128) (list_all low bs) h in
    let lt : b < 128 = grind (arith, nat_tests) in
    ap (λ (xs : List ℕ). xs ++ written Plain bs) (encode_ascii b lt) ∙ ap (λ (xs : List ℕ). b ∷ xs) (own_text bs parts.1)

low_id : (id : Id) → IsFrameId id → list_all low (frame_text id) ≡ true
unfolding low
low_id id is = all_append low (decimal id.page) (id.letter ∷ []) (all_decimal low digit id.page) last where
  digit : PassesDigits low
  digit d lt = grind (arith, nat_tests)

  last : list_all low (id.letter ∷ []) ≡ true
  last = let letter = is.letter in let test : nat_lt id.letter 128 ≡ true = grind (arith, nat_tests) in rw test refl

low_key : (way : Way) → IsKey (way_key way) → list_all low (key_word (way_key way)) ≡ true
unfolding low
low_key (Route d) lt = let test : nat_lt (48 + d) 128 ≡ true = grind (arith, nat_tests) in rw test refl
low_key Next lt = refl

one_id : (a b : Id) → IsFrameId a → IsFrameId b → written Plain (frame_text a) ≡ written Plain (frame_text b) → a ≡ b
one_id a b h k e =
    let same : frame_text a ≡ frame_text b = sym (own_text (frame_text a) (low_id a h)) ∙ e ∙ own_text (frame_text b) (low_id b k) in
    some_is a b (sym (id_again a h) ∙ ap id_in same ∙ id_again b k) where
      some_is : (a b : Id) → ◌≡◌ {A = Option Id} (Some a) (Some b) → a ≡ b
      some_is a b e = cc

one_way : (v w : Way) → IsKey (way_key v) → IsKey (way_key w) → written Plain (key_word (way_key v)) ≡ written Plain (key_word (way_key w)) → v ≡ w
one_way v w h k e =
    let same : key_word (way_key v) ≡ key_word (way_key w) = sym (own_text (key_word (way_key v)) (low_key v h)) ∙ e ∙ own_text (key_word (way_key w)) (low_key w k) in
    by v w (no_prefix (way_key v) (way_key w) [] [] h k (ap (λ (bs : List ℕ). bs ++ []) same)).0 where
      by : (v w : Way) → way_key v ≡ way_key w → v ≡ w
      by (Route d) (Route e) s = cc
      by (Route d) Next s = absurd cc
      by Next (Route e) s = absurd cc
      by Next Next s = refl

-- Ways.

key_at : (n : ℕ) → IsKey (way_key (way_at n))
key_at n = cond_both (nat_lt n 10) (Route n) Next (λ (way : Way). IsKey (way_key way)) (λ e. let lt : n < 10 = grind (arith, nat_tests) in lt) (λ e. tt)

way_is_key : (way : Way) → Contains ways way → IsKey (way_key way)
way_is_key way h =
    let lt : h.0 < 11 = omega (arith, h.1, ways_length) in
    subst (λ (w : Way). IsKey (way_key w)) (sym (ways_at h.0 way lt) ∙ h.2) (key_at h.0)

way_among : (way : Way) → IsKey (way_key way) → Contains ways way
way_among (Route d) lt =
    let within : d < 11 = omega (arith, lt) in
    let test : nat_lt d 10 ≡ true = grind (arith, nat_tests) in
    (d, omega (arith, within, ways_length), ways_at d (Route d) within ∙ rw test refl)
way_among Next lt = (10, omega (arith, ways_length), ways_at 10 Next (omega arith))

-- what is found is a frame
found_frame : (base : BaseView) (way : Way) (t to : Id) (price : ℕ) (o : Option Frame) (caller : List ℕ) → sought_by base way t (sought_of caller o) ≡ Found to price → (g : Frame) × (o ≡ Some g) × (t ≡ to)
found_frame base (Route d) t to price None caller e =
    absurd (cond_both (lists_outside base t.page) (Outside t.page) (Missing t) (λ (leads : Destination). leads ≡ Found to price → ⊥) (λ q s. cc) (λ q s. cc) e)
found_frame base Next t to price None caller e = absurd cc
found_frame base way t to price (Some g) caller e = by (is_open caller g) e where
  by : (q : Bool) → sought_by base way t (if q then sought.Found g.price else sought.Closed) ≡ Found to price → (h : Frame) × (◌≡◌ {A = Option Frame} (Some g) (Some h)) × (t ≡ to)
  by true e = (g, refl, cc)
  by false e = absurd cc

offered_frame : (base : BaseView) (way : Way) (t : Option Id) (to : Id) (price : ℕ) (caller : List ℕ) → offered_by caller base way t ≡ Found to price → (g : Frame) × (frame_at base to ≡ Some g)
offered_frame base way None to price caller e = absurd cc
offered_frame base way (Some t) to price caller e =
    let found = found_frame base way t to price (frame_at base t) caller e in
    (found.0, ap (frame_at base) (sym found.2) ∙ found.1)

in_file : (b : BookView) (f : Frame) (way : Way) (to : Id) (price : ℕ) → destination_of b.caller b.base f way ≡ Found to price → part_shows b.part to ≡ true → LeadsInFile b f way to
in_file b f way to price e shows =
    let there = offered_frame b.base way (sought f way) to price b.caller e in
    let first = first_found (λ (g : Frame). id_eq g.id to) b.base.frames there.0 there.1 in
    let same : there.0.id ≡ to = id_eq_same there.0.id to first.1.passes in
    record {
      price = price;
      found = e;
      frame = there.0;
      has = among_filter (λ (g : Frame). part_shows b.part g.id) b.base.frames there.0 (ap (part_shows b.part) same ∙ shows) (first.0, first.1.within, first.1.at there.0);
      is = same;
    }

-- Links.

abbrev is_other : Element → Bool
is_other e = not (is_name e.name (codes "a"))

-- among elements of other names
no_link : {A : Type 0} (es : List Element) (e : Element) → list_all is_other es ≡ true → e.name ≡ codes "a" → Contains es e → A
no_link [] e h named has = absurd (none_in e has)
no_link (d ∷ es) e h named has = elim (first_or_later d es e has) [
  | inl same ↦
      let other : is_other d ≡ true = (and_parts (is_other d) (list_all is_other es) h).0 in
      absurd (true≢false (sym other ∙ ap is_other same ∙ ap (λ (name : List ℕ). not (is_name name (codes "a"))) named))
  | inr later ↦ no_link es e (and_parts (is_other d) (list_all is_other es) h).1 named later
]

over_unlinked : (lead : Lead) → list_all is_other (over_said lead) ≡ true
over_unlinked Clear = refl
over_unlinked Keep = refl

each_unlinked : (faults : List Fault) → list_all is_other (flat_map fault_said faults) ≡ true
each_unlinked [] = refl
each_unlinked (fault ∷ faults) = each_unlinked faults

faults_unlinked : (faults : List Fault) → list_all is_other (faults_said faults) ≡ true
faults_unlinked [] = refl
faults_unlinked (fault ∷ faults) = each_unlinked faults

group_unlinked : (group : Option ℕ) → list_all is_other (group_said group) ≡ true
group_unlinked None = refl
group_unlinked (Some group) = refl

place_unlinked : (name : List ℕ) (line : Option WrittenFrame) → list_all is_other (place_said name line) ≡ true
place_unlinked name None = refl
place_unlinked name (Some line) = refl

revealed_unlinked : (rows : List (List Look)) → list_all is_other (revealed_said rows) ≡ true
revealed_unlinked rows = by (screen_conceals rows) where
  by : (q : Bool) → list_all is_other (if q then said_as (codes "div") ((codes "class", codes "revealed") ∷ []) newline ∷ text_said (revealed rows) ∷ [] else []) ≡ true
  by true = refl
  by false = refl

each_said_unlinked : (ss : List SentenceView) → list_all is_other (flat_map sentence_said ss) ≡ true
each_said_unlinked [] = refl
each_said_unlinked (s ∷ ss) = each_said_unlinked ss

said_unlinked : (ss : List SentenceView) → list_all is_other (sentences_said ss) ≡ true
said_unlinked [] = refl
said_unlinked (s ∷ ss) = each_said_unlinked ss

all_unlinked : (es ds : List Element) → list_all is_other es ≡ true → list_all is_other ds ≡ true → list_all is_other (es ++ ds) ≡ true
all_unlinked es ds h k = list_all-append is_other es ds ∙ rw (h, k) refl

record IsLinkOf (part : Option (List Id)) (key : Key) (leads : Destination) (e : Element) : Type 0 where
  to : Id
  price : ℕ
  found : leads ≡ Found to price
  shows : part_shows part to ≡ true
  is : e ≡ link_said to key

way_link : (part : Option (List Id)) (key : Key) (leads : Destination) (e : Element) → e.name ≡ codes "a" → Contains (way_said part key leads) e → IsLinkOf part key leads e
way_link part key NotOffered e named h = absurd (none_in e h)
way_link part key (Found to price) e named h = by (part_shows part to) refl h where
  by : (q : Bool) → part_shows part to ≡ q → Contains ((if q then link_said to key else marked_said (codes "elsewhere") key (frame_text to)) ∷ []) e → IsLinkOf part key (Found to price) e
  by true shows has = record { to = to; price = price; found = refl; shows = shows; is = sym (one_in (link_said to key) e has) }
  by false shows has = no_link (marked_said (codes "elsewhere") key (frame_text to) ∷ []) e refl named has
way_link part key (Closed to) e named h = no_link (marked_said (codes "closed") key (frame_text to) ∷ []) e refl named h
way_link part key (Missing to) e named h = no_link (marked_said (codes "missing") key (frame_text to) ∷ []) e refl named h
way_link part key (Outside page) e named h = no_link (marked_said (codes "outside") key (page_text page) ∷ []) e refl named h

first_of : {A : Type 0} (q : Bool) (x y : A) → q ≡ true → Contains ((if q then x else y) ∷ []) x
first_of true x y h = first_in x []
first_of false x y h = absurd cc

module _ (b : BookView) (ids : HaveIds b.part b.base.frames) (f : Frame) where
  abbrev leads : Way → Destination
  leads way = destination_of b.caller b.base f way

  abbrev own : Way → List Element
  own way = way_said b.part (way_key way) (leads way)

  -- what comes before the ways, and after them
  abbrev front : List Element
  front = said_as (codes "section") (section_attributes f.id (is_reached b.found f.id)) newline ∷ screen_said b f

  abbrev rest : List Element
  rest = class_said (codes "ways") newline ∷ (ways_said b f ++ over_said f.lead ++ findings_said b f)

  marks_unlinked : list_all is_other (marks_said b.source f) ≡ true
  marks_unlinked = all_unlinked (group_said f.group) (place_said b.source.name (value_of b.source.lines f.id)) (group_unlinked f.group) (place_unlinked b.source.name (value_of b.source.lines f.id))

  front_unlinked : list_all is_other front ≡ true
  front_unlinked =
      let rows = screen_of b.caller b.base b.found f.id in
      all_unlinked (revealed_said rows) (class_said (codes "price") (decimal f.price ++ codes "p") ∷ marks_said b.source f) (revealed_unlinked rows) marks_unlinked

  findings_unlinked : list_all is_other (findings_said b f) ≡ true
  findings_unlinked =
      let ss = sentences_about b.faults b.sentences f.id in
      let fs = faults_about b.faults f.id in
      all_unlinked (sentences_said ss) (faults_said fs) (said_unlinked ss) (faults_unlinked fs)

  -- a link is among the ways
  among_rest : (e : Element) → e.name ≡ codes "a" → Contains (ways_said b f ++ over_said f.lead ++ findings_said b f) e → Contains (ways_said b f) e
  among_rest e named later = elim (Contains-append_cases (ways_said b f ++ over_said f.lead) (findings_said b f) e later) [
    | inl own ↦ elim (Contains-append_cases (ways_said b f) (over_said f.lead) e own) [
      | inl way ↦ way
      | inr over ↦ no_link (over_said f.lead) e (over_unlinked f.lead) named over
    ]
    | inr findings ↦ no_link (findings_said b f) e findings_unlinked named findings
  ]

  among_ways : (e : Element) → e.name ≡ codes "a" → Contains (section_said b f) e → Contains (ways_said b f) e
  among_ways e named h = elim (Contains-append_cases front rest e h) [
    | inl first ↦ no_link front e front_unlinked named first
    | inr later ↦ elim (Contains-append_cases (class_said (codes "ways") newline ∷ []) (ways_said b f ++ over_said f.lead ++ findings_said b f) e later) [
      | inl ways ↦ no_link (class_said (codes "ways") newline ∷ []) e refl named ways
      | inr after ↦ among_rest e named after
    ]
  ]

  record IsFound (e : Element) : Type 0 where
    way : Way
    key : IsKey (way_key way)
    link : IsLinkOf b.part (way_key way) (leads way) e

  link_found : (e : Element) → Contains (section_said b f) e → e.name ≡ codes "a" → IsFound e
  link_found e h named =
      let from = among_each own ways e (among_ways e named h) in
      record { way = from.0; key = way_is_key from.0 from.1; link = way_link b.part (way_key from.0) (leads from.0) e named from.2 }

  led : (e : Element) (found : IsFound e) → LeadsInFile b f found.way found.link.to
  led e found = in_file b f found.way found.link.to found.link.price found.link.found found.link.shows

  -- a frame of the file has an id
  id_of : (way : Way) (to : Id) → LeadsInFile b f way to → IsFrameId to
  id_of way to leads =
      let has = filter_among (λ (g : Frame). part_shows b.part g.id) b.base.frames leads.frame leads.has in
      subst IsFrameId leads.is (All-contains (HasId b.part) b.base.frames leads.frame ids has.0 has.1)

  second : List (List ℕ × List ℕ) → List ℕ
  second [] = []
  second (a ∷ []) = []
  second (a ∷ c ∷ later) = c.1

  -- from a link to its way
  link_leads : (way : Way) (to : Id) → IsKey (way_key way) → IsFrameId to → HasLink b f way to → LeadsInFile b f way to
  unfolding second
  link_leads way to key id h =
      let e = link_said to (way_key way) in
      let found = link_found e h refl in
      let there = led e found in
      let same : to ≡ found.link.to = one_id to found.link.to id (id_of found.way found.link.to there) (ap (λ (x : Element). x.chars) found.link.is) in
      let own_way : way ≡ found.way = one_way way found.way key found.key (ap (λ (x : Element). second x.attributes) found.link.is) in
      subst (λ (t : Id). LeadsInFile b f way t) (sym same) (subst (λ (w : Way). LeadsInFile b f w found.link.to) (sym own_way) there)

  -- and back
  leads_link : (way : Way) (to : Id) → IsKey (way_key way) → LeadsInFile b f way to → HasLink b f way to
  leads_link way to key there =
      let shown = (filter_among (λ (g : Frame). part_shows b.part g.id) b.base.frames there.frame there.has).1 in
      let shows : part_shows b.part to ≡ true = ap (part_shows b.part) (sym there.is) ∙ shown in
      let link = link_said to (way_key way) in
      let here : Contains (way_said b.part (way_key way) (Found to there.price)) link = first_of (part_shows b.part to) link (marked_said (codes "elsewhere") (way_key way) (frame_text to)) shows in
      let among : Contains (ways_said b f) link = each_among own ways way link (way_among way key) (subst (λ (leads : Destination). Contains (way_said b.part (way_key way) leads) link) (sym there.found) here) in
      let after = ways_said b f ++ over_said f.lead ++ findings_said b f in
      Contains-append_right front rest link
      (Contains-append_right (class_said (codes "ways") newline ∷ []) after link
      (Contains-append_left (ways_said b f ++ over_said f.lead) (findings_said b f) link (Contains-append_left (ways_said b f) (over_said f.lead) link among)))

  pub are_ways : LinksAreWays b f
  are_ways = record {
    ways = λ way to key id. (link_leads way to key id, leads_link way to key);
    links = λ e h named. let found = link_found e h named in (found.way, found.link.to, led e found, found.link.is);
  }

pub links_lead : LinksLead
links_lead b ids k d lt = are_ways b ids (get_or (shown_frames b b.base.frames) k d)
