-- The numbers of a frame's faults, and the faults that they pick.
use Rattle.std.proofs.Common.{◌≡◌, ◌∙◌, ◌<◌, ◌+◌, ℕ, zero, suc, sym, ap, cond, Bool, true, false, List, [], ◌∷◌, ◌++◌, Option, Some, None, append-nil, append_assoc, refl, drop, length, get_or, codes, ◌==◌, arith}
use Rattle.std.specs.Prelude.{slice_get}
use Rattle.std.specs.Option.{option_map_or}
use Rattle.std.proofs.lemmas.Bool.Decides.{nat_tests}
use Rattle.std.proofs.lemmas.Grind.{flat_map-append}
use Rattle.std.proofs.lemmas.List.{drop_more}
use Rattle.std.proofs.lemmas.Option.{slice_get_within, slice_get_read, get_or_from_slice_get}
use Rattle.page_ids.specs.Ids.{Id, id_eq}
use Rattle.page_ids.specs.IdLaws.{id_eq_same}
use Rattle.base_faults.specs.declared.fault.Fault.{Fault}
use Rattle.std.specs.List.{flat_map}
use Rattle.screens.specs.Svg.{Piece, markup}
use Rattle.base_pages.specs.Elements.{opening_pieces, ending}
use Rattle.lint.specs.FrameLines.{SentenceView}
use Rattle.base_pages.specs.Faults.{is_about, is_entry_kind, faults_about, numbers_about, option_list, picked, item, items, listed, fault_list, entry_faults, start_or, first_start}
use Rattle.base_pages.specs.Sections.{sentence_item, sentence_list}
use Rattle.base_pages.specs.declared.index.Numbered.{Numbered}
use Rattle.base_pages.specs.Loops.{number_by, numbers_of, numbered_one, numbered_faults, lines_as, numbered_items, numbered_sentences, entry_items, wrapped_in, first_numbered_start, earliest_start}
use Rattle.base_pages.proofs.Bytes.{markup_append, nothing, around_bytes}

pub chosen : {A : Type 0} (f : A → List ℕ) (b : Bool) (v : A) (o : Option A) → option_map_or f (cond b (Some v) o) [] ≡ cond b (f v) (option_map_or f o [])
chosen f true v o = refl
chosen f false v o = refl

-- one number more: the numbers of its frame have one more, and those of the others stay
pub one_more : (from id : Id) (n : ℕ) (b : Bool) → id_eq from id ≡ b → (old_from old_id mid more new : List ℕ) → new ≡ cond b more mid
    → (id_eq from id ≡ false → mid ≡ old_id) → (from ≡ id → old_from ≡ old_id) → more ≡ old_from ++ n ∷ [] → new ≡ old_id ++ cond b (n ∷ []) []
one_more from id n true e old_from old_id mid more new is other same last =
    is ∙ (last ∙ ap (λ xs. xs ++ n ∷ []) (same (id_eq_same from id e)))
one_more from id n false e old_from old_id mid more new is other same last = is ∙ (other e ∙ sym (append-nil old_id))

cons_head : {A : Type 0} {x y : A} {xs ys : List A} → x ∷ xs ≡ y ∷ ys → x ≡ y
cons_head e = cc

cons_tail : {A : Type 0} {x y : A} {xs ys : List A} → x ∷ xs ≡ y ∷ ys → xs ≡ ys
cons_tail e = cc

-- the first of what is left of a list, and the rest
split : {A : Type 0} (all : List A) (n : ℕ) (f : A) (fs : List A) → drop n all ≡ f ∷ fs → (slice_get all n ≡ Some f) × (drop (n + 1) all ≡ fs)
split [] zero f fs e = absurd cc
split [] (suc n) f fs e = absurd cc
split (x ∷ xs) zero f fs e = (ap Some (cons_head e), cons_tail e)
split (x ∷ xs) (suc n) f fs e =
    let rest = split xs n f fs e in
    let at : n < length xs = slice_get_within xs n f rest.0 in
    let next : suc n + 1 ≡ suc (n + 1) = omega arith in
    (slice_get_read (x ∷ xs) (length (x ∷ xs)) (suc n) f refl (omega (arith, at)) (sym (get_or_from_slice_get xs n f f rest.0)), ap (λ (k : ℕ). drop k (x ∷ xs)) next ∙ rest.1)

module _ (all : List Fault) (id : Id) where
  one : (n : ℕ) (f : Fault) (fs : List Fault) (entry here : Bool) → is_entry_kind f.kind ≡ entry → id_eq f.frame id ≡ here → slice_get all n ≡ Some f
      → picked all (numbers_of (numbered_one n f) id) ++ faults_about fs id ≡ faults_about (f ∷ fs) id
  one n f fs true here e h at = rw e refl
  one n f fs false true e h at = rw (e, h, at) refl
  one n f fs false false e h at = rw (e, h) refl

  -- the numbers of a frame pick the faults about it
  pub picks : (n : ℕ) (fs : List Fault) → drop n all ≡ fs → picked all (numbers_of (numbered_faults n fs) id) ≡ faults_about fs id
  picks n [] e = refl
  picks n (f ∷ fs) e =
      let first = numbered_one n f in
      let later = numbered_faults (n + 1) fs in
      let parts = split all n f fs e in
      ap (picked all) (flat_map-append (λ x. number_by x id) first later)
      ∙ flat_map-append (λ k. option_list (slice_get all k)) (numbers_of first id) (numbers_of later id)
      ∙ ap (λ xs. picked all (numbers_of first id) ++ xs) (picks (n + 1) fs parts.1)
      ∙ one n f fs (is_entry_kind f.kind) (id_eq f.frame id) refl refl parts.0

pub picks_all : (all : List Fault) (id : Id) → picked all (numbers_of (numbered_faults 0 all) id) ≡ faults_about all id
picks_all all id = picks all id 0 all refl

-- The numbers of a frame are those of the faults about it.

one_about : (n : ℕ) (id : Id) (f : Fault) (entry here : Bool) → is_entry_kind f.kind ≡ entry → id_eq f.frame id ≡ here
    → numbers_of (numbered_one n f) id ≡ cond (is_about id f) (n ∷ []) []
one_about n id f true here e h = rw e refl
one_about n id f false true e h = rw (e, h) refl
one_about n id f false false e h = rw (e, h) refl

numbers_from : (n : ℕ) (fs : List Fault) (id : Id) → numbers_of (numbered_faults n fs) id ≡ numbers_about n fs id
numbers_from n [] id = refl
numbers_from n (f ∷ fs) id =
    flat_map-append (λ x. number_by x id) (numbered_one n f) (numbered_faults (n + 1) fs)
    ∙ ap (λ (xs : List ℕ). xs ++ numbers_of (numbered_faults (n + 1) fs) id) (one_about n id f (is_entry_kind f.kind) (id_eq f.frame id) refl refl)
    ∙ ap (λ (xs : List ℕ). cond (is_about id f) (n ∷ []) [] ++ xs) (numbers_from (n + 1) fs id)

pub numbers_are : (fs : List Fault) (id : Id) → numbers_of (numbered_faults 0 fs) id ≡ numbers_about 0 fs id
numbers_are fs id = numbers_from 0 fs id

-- The lines of what is picked, and the first start that picked faults name.

-- lines in a list, if there are any
some : (class : List ℕ) (b : ℕ) (bs : List ℕ) → wrapped_in class (b ∷ bs) ≡ markup (opening_pieces (codes "ul") ((codes "class", class) ∷ [])) ++ (b ∷ bs) ++ markup (ending (codes "ul"))
some class b bs = let is : (length (b ∷ bs) == 0) ≡ false = grind (arith, nat_tests) in rw is refl

list_of : (fs : List Fault) → wrapped_in (codes "faults") (markup (items fs)) ≡ markup (fault_list fs)
unfolding markup listed
list_of [] = refl
list_of (f ∷ fs) = some (codes "faults") 0x3C _ ∙ sym (around_bytes (codes "ul") ((codes "class", codes "faults") ∷ []) (items (f ∷ fs)))

sentence_list_of : (ss : List SentenceView) → wrapped_in (codes "said") (markup (flat_map sentence_item ss)) ≡ markup (sentence_list ss)
unfolding markup
sentence_list_of [] = refl
sentence_list_of (s ∷ ss) = some (codes "said") 0x3C _ ∙ sym (around_bytes (codes "ul") ((codes "class", codes "said") ∷ []) (flat_map sentence_item (s ∷ ss)))

module _ {A : Type 0} (f : A → List Piece) where
  one_line : (o : Option A) → lines_as f o ≡ markup (flat_map f (option_list o))
  one_line None = nothing []
  one_line (Some x) = ap markup (sym (append-nil (f x)))

  each_picked : (all : List A) (ns : List ℕ) → flat_map (λ n. lines_as f (slice_get all n)) ns ≡ markup (flat_map f (picked all ns))
  each_picked all [] = nothing []
  each_picked all (n ∷ ns) =
      let xs = option_list (slice_get all n) in
      ap (λ (bs : List ℕ). bs ++ flat_map (λ n. lines_as f (slice_get all n)) ns) (one_line (slice_get all n))
      ∙ ap (λ (bs : List ℕ). markup (flat_map f xs) ++ bs) (each_picked all ns)
      ∙ sym (markup_append (flat_map f xs) (flat_map f (picked all ns)))
      ∙ ap markup (sym (flat_map-append f xs (picked all ns)))

pub items_picked : (all : List Fault) (ns : List ℕ) → wrapped_in (codes "faults") (numbered_items all ns) ≡ markup (fault_list (picked all ns))
items_picked all ns = ap (wrapped_in (codes "faults")) (each_picked item all ns) ∙ list_of (picked all ns)

pub sentences_picked : (all : List SentenceView) (ns : List ℕ) → wrapped_in (codes "said") (numbered_sentences all ns) ≡ markup (sentence_list (picked all ns))
sentences_picked all ns = ap (wrapped_in (codes "said")) (each_picked sentence_item all ns) ∙ sentence_list_of (picked all ns)

each_entry : (fs : List Fault) → entry_items fs ≡ markup (items (entry_faults fs))
each_entry [] = nothing []
each_entry (f ∷ fs) = by (is_entry_kind f.kind) (each_entry fs) where
  by : (b : Bool) → entry_items fs ≡ markup (items (entry_faults fs)) → cond b (markup (item f)) [] ++ entry_items fs ≡ markup (items (cond b (f ∷ entry_faults fs) (entry_faults fs)))
  by true later = ap (λ xs. markup (item f) ++ xs) later ∙ sym (markup_append (item f) (items (entry_faults fs)))
  by false later = later

pub entry_items_are : (fs : List Fault) → wrapped_in (codes "faults") (entry_items fs) ≡ markup (fault_list (entry_faults fs))
entry_items_are fs = ap (wrapped_in (codes "faults")) (each_entry fs) ∙ list_of (entry_faults fs)

pub start_picked : (all : List Fault) (ns : List ℕ) → first_numbered_start all ns ≡ first_start (picked all ns)
start_picked all [] = refl
start_picked all (n ∷ ns) = by (slice_get all n) (start_picked all ns) where
  by : (o : Option Fault) → first_numbered_start all ns ≡ first_start (picked all ns) → start_or (earliest_start o) (first_numbered_start all ns) ≡ first_start (option_list o ++ picked all ns)
  by None later = later
  by (Some f) later = ap (start_or f.start) later

-- one more fault is numbered
pub number_more : (all : List Fault) (n : ℕ) (f : Fault) (list now : List Numbered) → f ≡ get_or all n f → n < length all
    → now ≡ list ++ numbered_one n f → list ++ numbered_faults n (drop n all) ≡ numbered_faults 0 all → now ++ numbered_faults (n + 1) (drop (n + 1) all) ≡ numbered_faults 0 all
number_more all n f list now is lt added held =
    let rest = drop (n + 1) all in
    let more : drop n all ≡ f ∷ rest = drop_more all n f lt ∙ ap (λ x. x ∷ rest) (sym is) in
    ap (λ xs. xs ++ numbered_faults (n + 1) rest) added
    ∙ append_assoc list (numbered_one n f) (numbered_faults (n + 1) rest)
    ∙ ap (λ xs. list ++ numbered_faults n xs) (sym more) ∙ held
