-- A file, read.
use Rattle.std.proofs.Common.{◌≡◌, ℕ, refl, sym, ap, ◌∙◌, Bool, true, false, not, ◌&&◌, ◌||◌, List, [], ◌∷◌, ◌++◌, ◌==◌, Option, Some, None, codes, append_assoc, append-nil, filter, map, if◌then◌else◌}
use Rattle.std.specs.List.{list_all, flat_map}
use Rattle.std.proofs.lemmas.Bool.{and_parts, or_parts}
use Rattle.std.proofs.lemmas.List.{map-append}
use Rattle.std.proofs.lemmas.List.Folds.{list_all-append}
use Rattle.page_ids.specs.Ids.{Id}
use Rattle.frame_records.specs.declared.frame.Frame.{Frame}
use Rattle.checker.specs.declared.policy.Policy.{Policy}
use Rattle.fault_scripts.specs.declared.outcome.Outcome.{Outcome}
use Rattle.screens.specs.declared.writing.Writing.TheVariants.{Markup}
use Rattle.screens.specs.Writing.{written}
use Rattle.screens.specs.Svg.{Piece, piece, newline, markup}
use Rattle.screens.specs.Laws.{tags_reading, tags_of, is_harmless, raw}
use Rattle.screens.proofs.Safe.{is_inner, harmless, first_of, rest_of}
use Rattle.screens.proofs.Tags.{Inner, Outer, has_inner, Tags}
use Rattle.base_pages.specs.Elements.{tag, opening_pieces, ending}
use Rattle.base_pages.specs.Faults.{faults_about, sentences_about, touched_cell}
use Rattle.base_pages.specs.Screens.{is_reached, screen_of}
use Rattle.base_pages.specs.Sections.{BookView, section_attributes, heading, screen_pieces, below_screen, shaped, section_pieces, shown_frames}
use Rattle.base_pages.specs.Head.{header_pieces}
use Rattle.base_pages.specs.Shell.{head, middle, foot}
use Rattle.base_pages.specs.Tags.{body_pieces, page_tags}
use Rattle.base_pages.specs.Pages.{page}
use Rattle.base_pages.specs.Reading.{Element, name_of, read, elements_of, begins, ends, inside, sections_of, is_kept, sections_in}
use Rattle.base_pages.specs.Said.{said_as, frame_said, section_said}
use Rattle.base_pages.proofs.Attributes.{Words, inner_tag, read_is}
use Rattle.base_pages.proofs.Bytes.{markup_each}
use Rattle.base_pages.proofs.Parts.{read_append, Part, stays, fits}
use Rattle.base_pages.proofs.Sections.{inner_part, header_part}

-- The tags of pieces, and of what comes after them.

-- a text begins with a tag
abbrev starts : List ℕ → Bool
starts [] = false
starts (b ∷ bs) = b == 0x3C

in_tag : (tag front rest : List ℕ) → Inner front → tags_reading true tag [] (front ++ 0x3E ∷ rest) ≡ tags_reading false (tag ++ front) [] rest
in_tag tag [] rest h = ap (λ (t : List ℕ). tags_reading false t [] rest) (sym (append-nil tag))
in_tag tag (b ∷ bs) rest h =
    let here : (b == 0x3E) ≡ false = (or_parts (b == 0x3C) (b == 0x3E) (first_of (b == 0x3C || b == 0x3E) (list_all is_inner bs) h)).1 in
    rw here (in_tag (tag ++ b ∷ []) bs rest (rest_of (b == 0x3C || b == 0x3E) (list_all is_inner bs) h) ∙ ap (λ (t : List ℕ). tags_reading false t [] rest) (append_assoc tag (b ∷ []) bs))

out_tag : (tag since front rest : List ℕ) → Outer front → starts rest ≡ true → tags_reading false tag since (front ++ rest) ≡ piece tag (since ++ front) ∷ tags_of rest
out_tag tag since [] [] h s = cc
out_tag tag since [] (b ∷ rest) h s = rw (s, append-nil since) refl
out_tag tag since (b ∷ bs) rest h s =
    let mark = b == 0x3E || (b == 0x22 || b == 0x27) in
    let here : (b == 0x3C) ≡ false = (or_parts (b == 0x3C) mark (first_of (b == 0x3C || mark) (list_all is_harmless bs) h)).0 in
    rw here (out_tag tag (since ++ b ∷ []) bs rest (rest_of (b == 0x3C || mark) (list_all is_harmless bs) h) s ∙ ap (λ (cs : List ℕ). piece tag cs ∷ tags_of rest) (append_assoc since (b ∷ []) bs))

starts_more : (ps : List Piece) (rest : List ℕ) → starts rest ≡ true → starts (markup ps ++ rest) ≡ true
unfolding markup
starts_more [] rest s = s
starts_more (p ∷ ps) rest s = refl

regroup : (t cs later rest : List ℕ) → (codes "<" ++ t ++ codes ">" ++ cs ++ later) ++ rest ≡ 0x3C ∷ (t ++ (0x3E ∷ (cs ++ (later ++ rest))))
regroup t cs later rest = simp append_assoc

of_pieces : (ps : List Piece) (rest : List ℕ) → Tags ps → starts rest ≡ true → tags_of (markup ps ++ rest) ≡ map raw ps ++ tags_of rest
unfolding markup
of_pieces [] rest h s = refl
of_pieces (p ∷ ps) rest h s =
    let cs = written Markup p.chars in
    let parts = and_parts (has_inner p) (list_all has_inner ps) h in
    ap tags_of (regroup p.tag cs (markup ps) rest)
    ∙ in_tag [] p.tag (cs ++ (markup ps ++ rest)) parts.0
    ∙ out_tag p.tag [] cs (markup ps ++ rest) (harmless p.chars) (starts_more ps rest s)
    ∙ ap (λ (later : List Piece). raw p ∷ later) (of_pieces ps rest parts.1 s)

-- The fixed parts: from outside of tags or after a part of one, they end outside, and no tag is that of a section.

abbrev fixed : Option (List ℕ) → List ℕ → Bool
fixed None [] = true
fixed (Some tag) [] = false
fixed None (b ∷ bs) = if b == 0x3C then fixed (Some []) bs else fixed None bs
fixed (Some tag) (b ∷ bs) = if b == 0x3E then stays (name_of tag) && fixed None bs else fixed (Some (tag ++ b ∷ [])) bs

abbrev state : Bool → List ℕ → Option (List ℕ)
state true tag = Some tag
state false tag = None

abbrev Stay : List Element → Type 0
Stay es = list_all (λ e. stays e.name) es ≡ true

-- what is read is that of the two parts
abbrev Splits : List Piece → List Piece → List Piece → Type 0
Splits whole ps later = (whole ≡ ps ++ later) × Stay (map read ps)

either : (q a c : Bool) (x y u v later : List Piece) → (a ≡ true → Splits x u later) → (c ≡ true → Splits y v later) → (if q then a else c) ≡ true → Splits (if q then x else y) (if q then u else v) later
either true a c x y u v later f g h = f h
either false a c x y u v later f g h = g h

ended : (i : Bool) (tag since bs rest : List ℕ) → (i || stays (name_of tag)) ≡ true → fixed (state i tag) bs ≡ true → starts rest ≡ true
    → Splits (tags_reading i tag since (bs ++ rest)) (tags_reading i tag since bs) (tags_of rest)
ended true tag since [] rest s h b = cc
ended false tag since [] [] s h b = cc
ended false tag since [] (c ∷ rest) s h b = (rw b refl, rw s refl)
ended true tag since (c ∷ bs) rest s h b =
    either (c == 0x3E) _ _ (tags_reading false tag [] (bs ++ rest)) (tags_reading true (tag ++ c ∷ []) since (bs ++ rest)) (tags_reading false tag [] bs) (tags_reading true (tag ++ c ∷ []) since bs) (tags_of rest)
    (λ e. let parts = and_parts (stays (name_of tag)) (fixed None bs) e in ended false tag [] bs rest parts.0 parts.1 b) (λ e. ended true (tag ++ c ∷ []) since bs rest refl e b) h
ended false tag since (c ∷ bs) rest s h b =
    either (c == 0x3C) _ _ (piece tag since ∷ tags_reading true [] [] (bs ++ rest)) (tags_reading false tag (since ++ c ∷ []) (bs ++ rest)) (piece tag since ∷ tags_reading true [] [] bs) (tags_reading false tag (since ++ c ∷ []) bs) (tags_of rest)
    (λ e. let later = ended true [] [] bs rest refl e b in (ap (λ (ps : List Piece). piece tag since ∷ ps) later.0, rw (s, later.1) refl)) (λ e. ended false tag (since ++ c ∷ []) bs rest s e b) h

abbrev IsFixed : List ℕ → Type 0
IsFixed bs = (starts bs ≡ true) × (fixed None bs ≡ true)

of_fixed : (bs rest : List ℕ) → IsFixed bs → starts rest ≡ true → Splits (tags_of (bs ++ rest)) (tags_of bs) (tags_of rest)
of_fixed [] rest h s = (refl, refl)
of_fixed (b ∷ bs) rest h s =
    let is : (b == 0x3C) ≡ true = h.0 in
    rw is (ended true [] [] bs rest refl (rw is at h.1) s)

fixed_head : IsFixed head
unfolding head
fixed_head = (refl, refl)

fixed_middle : IsFixed middle
unfolding middle
fixed_middle = (refl, refl)

fixed_foot : IsFixed foot
unfolding foot
fixed_foot = (refl, refl)

-- Sections, and what comes after them.

quiet_parts : (a b : Bool) → not (a || b) ≡ true → (a ≡ false) × (b ≡ false)
quiet_parts true b h = cc
quiet_parts false true h = cc
quiet_parts false false h = (refl, refl)

skip : (es rest : List Element) → Stay es → sections_of (es ++ rest) ≡ sections_of rest
skip [] rest h = refl
skip (e ∷ es) rest h =
    let parts = and_parts (stays e.name) (list_all (λ x. stays x.name) es) h in
    rw (quiet_parts (begins e) (ends e) parts.0).0 (skip es rest parts.1)

up_to_end : (es : List Element) (z : Element) (rest : List Element) → Stay es → ends z ≡ true → inside (es ++ z ∷ rest) ≡ es
up_to_end [] z rest h last = rw last refl
up_to_end (e ∷ es) z rest h last =
    let parts = and_parts (stays e.name) (list_all (λ x. stays x.name) es) h in
    rw (quiet_parts (begins e) (ends e) parts.0).1 (ap (λ (xs : List Element). e ∷ xs) (up_to_end es z rest parts.1 last))

one_section : (o : Element) (es : List Element) (z : Element) (rest : List Element) → begins o ≡ true → Stay es → ends z ≡ true → begins z ≡ false
    → sections_of (o ∷ (es ++ z ∷ rest)) ≡ (o ∷ es) ∷ sections_of rest
one_section o es z rest first h last other =
    let after : sections_of (z ∷ rest) ≡ sections_of rest = rw other refl in
    rw first (ap (λ (xs : List Element). (o ∷ xs) ∷ sections_of (es ++ z ∷ rest)) (up_to_end es z rest h last) ∙ ap (λ (xs : List (List Element)). (o ∷ es) ∷ xs) (skip es (z ∷ rest) h ∙ after))

fit_parts : (ps : List Piece) → list_all fits ps ≡ true → Tags ps × Stay (map read (map raw ps))
fit_parts [] h = (refl, refl)
fit_parts (p ∷ ps) h =
    let all = and_parts (fits p) (list_all fits ps) h in
    let own = and_parts (has_inner p) (stays (name_of p.tag)) all.0 in
    let later = fit_parts ps all.1 in
    (rw (own.0, later.0) refl, rw (own.1, later.1) refl)

tags_both : (ps qs : List Piece) → Tags ps → Tags qs → Tags (ps ++ qs)
tags_both ps qs h k = list_all-append has_inner ps qs ∙ rw (h, k) refl

words : (id : Id) (is_reached : Bool) → Words (section_attributes id is_reached)
words id true = refl
words id false = refl

module _ (b : BookView) where
  abbrev own_attributes : Frame → List (List ℕ × List ℕ)
  own_attributes f = section_attributes f.id (is_reached b.found f.id)

  abbrev inner : Frame → List Piece
  inner f =
      heading f.id ++ screen_pieces f.id (screen_of b.caller b.base b.found f.id) (touched_cell f (faults_about b.faults f.id))
      ++ below_screen b f (sentences_about b.faults b.sentences f.id) (faults_about b.faults f.id)

  inner_is : (f : Frame) → Part (inner f) (frame_said b f)
  inner_is f = inner_part b f

  section_tags : (f : Frame) → Tags (section_pieces b f)
  unfolding shaped opening_pieces ending
  section_tags f =
      let attributes = own_attributes f in
      tags_both (opening_pieces (codes "section") attributes ++ inner f) (ending (codes "section"))
      (tags_both (opening_pieces (codes "section") attributes) (inner f) (rw (inner_tag (codes "section") attributes refl (words f.id (is_reached b.found f.id))) refl) (fit_parts (inner f) (inner_is f).fit).0) refl

  body_tags : (fs : List Frame) → Tags (flat_map (section_pieces b) fs)
  body_tags [] = refl
  body_tags (f ∷ fs) = tags_both (section_pieces b f) (flat_map (section_pieces b) fs) (section_tags f) (body_tags fs)

  section_found : (f : Frame) (rest : List Element)
      → sections_of (map read (map raw (section_pieces b f)) ++ rest) ≡ (said_as (codes "section") (own_attributes f) newline ∷ map read (map raw (inner f))) ∷ sections_of rest
  unfolding shaped opening_pieces ending
  section_found f rest =
      let es = map read (map raw (inner f)) in
      let begin = said_as (codes "section") (own_attributes f) newline in
      let last = read (raw (piece (codes "/section") newline)) in
      let first = read (raw (piece (tag (codes "section") (own_attributes f)) newline)) in
      ap (λ (xs : List Element). sections_of (first ∷ (xs ++ rest))) (read_append (inner f) (ending (codes "section")))
      ∙ ap (λ (xs : List Element). sections_of (first ∷ xs)) (append_assoc es (last ∷ []) rest)
      ∙ ap (λ (e : Element). sections_of (e ∷ (es ++ last ∷ rest))) (read_is (codes "section") (own_attributes f) newline refl (words f.id (is_reached b.found f.id)))
      ∙ one_section begin es last rest refl (fit_parts (inner f) (inner_is f).fit).1 refl refl

  body_said : (fs : List Frame) (rest : List Element) → sections_of rest ≡ [] → map (filter is_kept) (sections_of (map read (map raw (flat_map (section_pieces b) fs)) ++ rest)) ≡ map (section_said b) fs
  body_said [] rest h = ap (map (filter is_kept)) h
  body_said (f ∷ fs) rest h =
      let own = section_pieces b f in
      let later = flat_map (section_pieces b) fs in
      let begin = said_as (codes "section") (own_attributes f) newline in
      ap (λ (es : List Element). map (filter is_kept) (sections_of (es ++ rest))) (read_append own later)
      ∙ ap (λ (es : List Element). map (filter is_kept) (sections_of es)) (append_assoc (map read (map raw own)) (map read (map raw later)) rest)
      ∙ ap (map (filter is_kept)) (section_found f (map read (map raw later) ++ rest))
      ∙ ap (λ (es : List Element). (begin ∷ es) ∷ map (filter is_kept) (sections_of (map read (map raw later) ++ rest))) (inner_is f).keeps
      ∙ ap (λ (ss : List (List Element)). section_said b f ∷ ss) (body_said fs rest h)

-- The file.

starts_first : (bs rest : List ℕ) → starts bs ≡ true → starts (bs ++ rest) ≡ true
starts_first [] rest h = cc
starts_first (b ∷ bs) rest h = h

parts_of_page : (a h m s f : List ℕ) → a ++ h ++ m ++ s ++ f ≡ a ++ (h ++ (m ++ (s ++ f)))
parts_of_page a h m s f = simp append_assoc

module _ (policy : Policy) (outcome : Outcome) (b : BookView) where
  abbrev top : List Piece
  top = header_pieces b.source.name b.base policy outcome

  abbrev body : List Piece
  body = body_pieces b

  top_parts : Tags top × Stay (map read (map raw top))
  top_parts = fit_parts top (header_part b.source.name b.base policy outcome).fit

  pub has_its_tags : tags_of (page policy outcome b) ≡ page_tags policy outcome b
  has_its_tags =
      let last = markup body ++ foot in
      let s : starts (middle ++ last) ≡ true = starts_first middle last fixed_middle.0 in
      ap (λ (bs : List ℕ). tags_of (head ++ markup top ++ middle ++ bs ++ foot)) (sym (markup_each (section_pieces b) (shown_frames b b.base.frames)))
      ∙ ap tags_of (parts_of_page head (markup top) middle (markup body) foot)
      ∙ (of_fixed head (markup top ++ (middle ++ last)) fixed_head (starts_more top (middle ++ last) s)).0
      ∙ ap (λ (ps : List Piece). tags_of head ++ ps) (of_pieces top (middle ++ last) top_parts.0 s
      ∙ ap (λ (ps : List Piece). map raw top ++ ps) ((of_fixed middle last fixed_middle (starts_more body foot fixed_foot.0)).0
      ∙ ap (λ (ps : List Piece). tags_of middle ++ ps) (of_pieces body foot (body_tags b (shown_frames b b.base.frames)) fixed_foot.0)))

  -- what is read of the parts
  read_parts : (a h m s f : List Piece) → map read (a ++ (h ++ (m ++ (s ++ f)))) ≡ map read a ++ (map read h ++ (map read m ++ (map read s ++ map read f)))
  read_parts a h m s f = simp map-append

  pub says_what_is_shown : sections_in (page policy outcome b) ≡ map (section_said b) (shown_frames b b.base.frames)
  says_what_is_shown =
      let end = elements_of foot in
      let sections = map read (map raw body) ++ end in
      let none : sections_of end ≡ [] = ap sections_of (sym (append-nil end)) ∙ skip end [] (of_fixed foot (codes "<") fixed_foot refl).1 in
      ap (λ (ps : List Piece). map (filter is_kept) (sections_of (map read ps))) has_its_tags
      ∙ ap (λ (es : List Element). map (filter is_kept) (sections_of es)) (read_parts (tags_of head) (map raw top) (tags_of middle) (map raw body) (tags_of foot))
      ∙ ap (map (filter is_kept)) (skip (elements_of head) (map read (map raw top) ++ (elements_of middle ++ sections)) (of_fixed head (codes "<") fixed_head refl).1
      ∙ skip (map read (map raw top)) (elements_of middle ++ sections) top_parts.1
      ∙ skip (elements_of middle) sections (of_fixed middle (codes "<") fixed_middle refl).1)
      ∙ body_said b (shown_frames b b.base.frames) end none
