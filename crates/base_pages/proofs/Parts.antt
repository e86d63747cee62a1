-- Parts of a section, read.
use Rattle.std.proofs.Common.{◌≡◌, ℕ, refl, subst, ap, ◌∙◌, Bool, true, false, not, ◌&&◌, ◌||◌, List, [], ◌∷◌, ◌++◌, codes, append-nil, filter, map, if◌then◌else◌}
use Rattle.std.specs.List.{list_all, list_any, flat_map}
use Rattle.std.proofs.lemmas.List.{map-append}
use Rattle.std.proofs.lemmas.List.Elements.{filter-append}
use Rattle.std.proofs.lemmas.List.Folds.{list_all-append}
use Rattle.screens.specs.Svg.{Piece, piece, newline}
use Rattle.screens.specs.Laws.{is_name, raw}
use Rattle.screens.proofs.Tags.{has_inner}
use Rattle.base_pages.specs.Elements.{tag, opening_pieces, ending, element_pieces, around}
use Rattle.base_pages.specs.Reading.{Element, name_of, read, kept_names, is_kept}
use Rattle.base_pages.specs.Said.{said_as}
use Rattle.base_pages.proofs.Attributes.{Word, Words, inner_tag, name_is, read_is}

-- a tag without `<` and `>` that neither begins nor ends a section
abbrev pub stays : List ℕ → Bool
stays name = not (is_name name (codes "section") || is_name name (codes "/section"))

abbrev pub fits : Piece → Bool
fits p = has_inner p && stays (name_of p.tag)

abbrev pub kept : List Piece → List Element
kept ps = filter is_kept (map read (map raw ps))

-- pieces that fit, and the elements that are kept of them
pub record Part (ps : List Piece) (es : List Element) : Type 0 where
  pub fit : list_all fits ps ≡ true
  pub keeps : kept ps ≡ es

pub none : Part [] []
none = record { fit = refl; keeps = refl }

pub read_append : (ps qs : List Piece) → map read (map raw (ps ++ qs)) ≡ map read (map raw ps) ++ map read (map raw qs)
read_append ps qs = ap (map read) (map-append raw ps qs) ∙ map-append read (map raw ps) (map raw qs)

pub both : (ps qs : List Piece) (es fs : List Element) → Part ps es → Part qs fs → Part (ps ++ qs) (es ++ fs)
both ps qs es fs h k = record {
  fit = list_all-append fits ps qs ∙ rw (h.fit, k.fit) refl;
  keeps = ap (filter is_kept) (read_append ps qs) ∙ filter-append is_kept (map read (map raw ps)) (map read (map raw qs)) ∙ rw (h.keeps, k.keeps) refl;
}

pub each : {A : Type 0} (f : A → List Piece) (g : A → List Element) → ((x : A) → Part (f x) (g x)) → (xs : List A) → Part (flat_map f xs) (flat_map g xs)
each f g h [] = none
each f g h (x ∷ xs) = both (f x) (flat_map f xs) (g x) (flat_map g xs) (h x) (each f g h xs)

one_fits : (name : List ℕ) (attributes : List (List ℕ × List ℕ)) (chars : List ℕ) → Word name → Words attributes → stays name ≡ true → fits (piece (tag name attributes) chars) ≡ true
one_fits name attributes chars h k s = rw (inner_tag name attributes h k, name_is name attributes h, s) refl

-- what is kept of an element of a name
abbrev kept_as : List ℕ → Element → List Element
kept_as name e = if list_any (is_name name) kept_names then e ∷ [] else []

one : (name : List ℕ) (attributes : List (List ℕ × List ℕ)) (chars : List ℕ) → Word name → Words attributes → stays name ≡ true
    → Part (piece (tag name attributes) chars ∷ []) (kept_as name (said_as name attributes chars))
one name attributes chars h k s = record {
  fit = rw (one_fits name attributes chars h k s) refl;
  keeps = ap (λ (e : Element). filter is_kept (e ∷ [])) (read_is name attributes chars h k);
}

end : (name : List ℕ) → Word (codes "/" ++ name) → stays (codes "/" ++ name) ≡ true → list_any (is_name (codes "/" ++ name)) kept_names ≡ false → Part (ending name) []
unfolding ending tag
end name h s silent =
    let t = codes "/" ++ name in
    let own : Part (piece (t ++ []) newline ∷ []) (kept_as t (said_as t [] newline)) = one t [] newline h refl s in
    subst (λ (tag : List ℕ). Part (piece tag newline ∷ []) []) (append-nil t) (subst (Part (piece (t ++ []) newline ∷ [])) (unkept (list_any (is_name t) kept_names) (said_as t [] newline) silent) own)
  where
    unkept : (q : Bool) (e : Element) → q ≡ false → (if q then e ∷ [] else []) ≡ []
    unkept true e h = cc
    unkept false e h = refl

-- pieces of which nothing is kept may follow
pub quiet : (ps qs : List Piece) (es : List Element) → Part ps es → Part qs [] → Part (ps ++ qs) es
quiet ps qs es h k = subst (Part (ps ++ qs)) (append-nil es) (both ps qs es [] h k)

-- an element of characters is kept, if its name is one of those
pub of_element : (name : List ℕ) (attributes : List (List ℕ × List ℕ)) (chars : List ℕ)
    → Word name → Words attributes → stays name ≡ true → Word (codes "/" ++ name) → stays (codes "/" ++ name) ≡ true → list_any (is_name (codes "/" ++ name)) kept_names ≡ false
    → Part (element_pieces name attributes chars) (kept_as name (said_as name attributes chars))
of_element name attributes chars h k s i t silent =
    quiet (piece (tag name attributes) chars ∷ []) (ending name) (kept_as name (said_as name attributes chars)) (one name attributes chars h k s) (end name i t silent)

-- an element of others is too, and what is kept of them
pub of_around : (name : List ℕ) (attributes : List (List ℕ × List ℕ)) (inner : List Piece) (es : List Element)
    → Word name → Words attributes → stays name ≡ true → Word (codes "/" ++ name) → stays (codes "/" ++ name) ≡ true → list_any (is_name (codes "/" ++ name)) kept_names ≡ false → Part inner es
    → Part (around name attributes inner) (kept_as name (said_as name attributes newline) ++ es)
unfolding opening_pieces
of_around name attributes inner es h k s i t silent inside =
    quiet (opening_pieces name attributes ++ inner) (ending name) (kept_as name (said_as name attributes newline) ++ es)
    (both (opening_pieces name attributes) inner (kept_as name (said_as name attributes newline)) es (one name attributes newline h k s) inside) (end name i t silent)
