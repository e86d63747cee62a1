-- What is among the elements of a list that another one gives.
use Rattle.std.proofs.Common.{◌≡◌, inl, inr, ap, sym, ◌∙◌, cond, Bool, true, false, List, [], ◌∷◌, Option, Some, None, Contains, refl, subst, arith}
use Rattle.std.specs.Prelude.{map, filter}
use Rattle.std.specs.List.{filter_map, cons_option}
use Rattle.frame_records.proofs.OneBase.{first_in, later_in, first_or_later}

pub none_among : {X A : Type 0} (x : X) → Contains [] x → A
none_among x h = absurd (omega (arith, h.1))

is_first : {X : Type 0} (x y : X) (xs : List X) → x ≡ y → Contains (x ∷ xs) y
is_first x y xs e = subst (λ z. Contains (x ∷ xs) z) e (first_in x xs)

pub among_map : {X Y : Type 0} (f : X → Y) (xs : List X) (x : X) → Contains xs x → Contains (map f xs) (f x)
among_map f [] x h = none_among x h
among_map f (z ∷ zs) x h = elim (first_or_later z zs x h) [
  | inl e ↦ is_first (f z) (f x) (map f zs) (ap f e)
  | inr w ↦ later_in (f z) (map f zs) (f x) (among_map f zs x w)
]

pub map_among : {X Y : Type 0} (f : X → Y) (xs : List X) (y : Y) → Contains (map f xs) y → (x : X) × Contains xs x × (f x ≡ y)
map_among f [] y h = none_among y h
map_among f (z ∷ zs) y h = elim (first_or_later (f z) (map f zs) y h) [
  | inl e ↦ (z, first_in z zs, e)
  | inr w ↦ let more = map_among f zs y w in (more.0, later_in z zs more.0 more.1, more.2)
]

pub among_filter : {X : Type 0} (p : X → Bool) (xs : List X) (x : X) → p x ≡ true → Contains xs x → Contains (filter p xs) x
among_filter p [] x e h = none_among x h
among_filter p (z ∷ zs) x e h = elim (first_or_later z zs x h) [
  | inl same ↦ rw (subst (λ y. p y ≡ true) (sym same) e) (is_first z x (filter p zs) same)
  | inr w ↦ by (p z) (among_filter p zs x e w)
] where
  by : (b : Bool) → Contains (filter p zs) x → Contains (cond b (z ∷ filter p zs) (filter p zs)) x
  by true w = later_in z (filter p zs) x w
  by false w = w

pub filter_among : {X : Type 0} (p : X → Bool) (xs : List X) (x : X) → Contains (filter p xs) x → Contains xs x × (p x ≡ true)
filter_among p [] x h = none_among x h
filter_among p (z ∷ zs) x h = by (p z) refl h (filter_among p zs x) where
  by : (b : Bool) → p z ≡ b → Contains (cond b (z ∷ filter p zs) (filter p zs)) x → (Contains (filter p zs) x → Contains zs x × (p x ≡ true))
      → Contains (z ∷ zs) x × (p x ≡ true)
  by true e w ih = elim (first_or_later z (filter p zs) x w) [
    | inl same ↦ (is_first z x zs same, subst (λ y. p y ≡ true) same e)
    | inr later ↦ let more = ih later in (later_in z zs x more.0, more.1)
  ]
  by false e w ih = let more = ih w in (later_in z zs x more.0, more.1)

pub among_filter_map : {X Y : Type 0} (h : X → Option Y) (xs : List X) (x : X) (y : Y) → h x ≡ Some y → Contains xs x → Contains (filter_map h xs) y
among_filter_map h [] x y e w = none_among x w
among_filter_map {Y = Y} h (z ∷ zs) x y e w = elim (first_or_later z zs x w) [
  | inl same ↦ rw (subst (λ v. h v ≡ Some y) (sym same) e) (first_in y (filter_map h zs))
  | inr later ↦ by (h z) (among_filter_map h zs x y e later)
] where
  by : (o : Option Y) → Contains (filter_map h zs) y → Contains (cons_option o (filter_map h zs)) y
  by None v = v
  by (Some u) v = later_in u (filter_map h zs) y v

pub filter_map_among : {X Y : Type 0} (h : X → Option Y) (xs : List X) (y : Y) → Contains (filter_map h xs) y → (x : X) × Contains xs x × (h x ≡ Some y)
filter_map_among h [] y w = none_among y w
filter_map_among {X = X} {Y = Y} h (z ∷ zs) y w = by (h z) refl w (filter_map_among h zs y) where
  by : (o : Option Y) → h z ≡ o → Contains (cons_option o (filter_map h zs)) y → (Contains (filter_map h zs) y → (x : X) × Contains zs x × (h x ≡ Some y))
      → (x : X) × Contains (z ∷ zs) x × (h x ≡ Some y)
  by None e v ih = let more = ih v in (more.0, later_in z zs more.0 more.1, more.2)
  by (Some u) e v ih = elim (first_or_later u (filter_map h zs) y v) [
    | inl same ↦ (z, first_in z zs, e ∙ ap Some same)
    | inr later ↦ let more = ih later in (more.0, later_in z zs more.0 more.1, more.2)
  ]
