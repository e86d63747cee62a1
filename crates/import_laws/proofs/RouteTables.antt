-- The routes that are guessed are read as they are.
use Rattle.std.proofs.Common.{◌≡◌, ℕ, zero, suc, ◌+◌, ◌<◌, ◌≤◌, Bool, true, false, ◌⊎◌, ◌==◌, pos, List, [], ◌∷◌, ◌++◌, length, codes, decimal, Some, refl, ◌∙◌, inl, inr, arith, append_assoc, nat_cmp}
use Rattle.std.proofs.lemmas.Bool.{cases_Bool}
use Rattle.std.proofs.lemmas.Bool.Decides.{nat_tests}
use Rattle.std.specs.Cmp.Lexicographic.{slice_cmp}
use Rattle.std.specs.Ordering.{is_lt}
use Rattle.page_ids.specs.Ids.{Id}
use Rattle.page_ids.specs.declared.limits.TheConstants.{MOST_PAGE}
use Rattle.screens.specs.declared.look.Look.{Look}
use Rattle.screen_files.specs.Routes.{is_guessed, page_by, pair_text, routes_from}
use Rattle.toml_parser.specs.Lexical.{is_bare, skip_blank}
use Rattle.toml_writer.specs.Text.{key_text}
use Rattle.toml.specs.Data.{Members, no_members, member, integer, table, is_before, members_depth, members_have_valid_dates}
use Rattle.toml.specs.Tables.{no_nodes}
use Rattle.toml.specs.Parse.{val}
use Rattle.toml.specs.Text.{IsMembersText}
use Rattle.toml.proofs.Turns.{members_end, val_table}
use Rattle.toml.proofs.Blanks.{skip_space, skip_none}
use Rattle.toml.proofs.ReadValues.{read_value}
use Rattle.import_laws.specs.Imported.{route_members}
use Rattle.import_laws.proofs.Pairs.{IsTail, IsValue}

-- a digit, 48 is `0`, as a key
digit_key : (digit : ℕ) → digit < 10 → key_text ((48 + digit) ∷ []) ≡ (48 + digit) ∷ []
unfolding key_text
digit_key digit small =
    let bare : is_bare (48 + digit) ≡ true = grind (arith, nat_tests) in
    rw bare refl

digits_ascend : (digit later : ℕ) → digit < later → is_lt (slice_cmp nat_cmp ((48 + digit) ∷ []) ((48 + later) ∷ [])) ≡ true
digits_ascend digit later less = grind (arith, nat_tests)

pub longer : (c : ℕ) (cs : List ℕ) → (length (c ∷ cs) == 0) ≡ false
longer c cs = grind (arith, nat_tests)

module _ (known : List Id) (page : ℕ) (all : List (List Look)) where
  abbrev found : ℕ → ℕ → Members
  found n digit = route_members known page all n digit

  pub small_page : (digit : ℕ) → is_guessed known page all digit ≡ true → page_by page digit ≤ MOST_PAGE
  small_page digit is = grind (arith, nat_tests, is)

  later : (n digit from : ℕ) → digit < from → is_before ((48 + digit) ∷ []) (found n from) ≡ true
  unfolding route_members
  later zero digit from less = refl
  later (suc n) digit from less = elim (cases_Bool (is_guessed known page all from)) [
    | inl is ↦ rw is (digits_ascend digit from less)
    | inr not ↦ rw not (later n digit (from + 1) (omega (arith, less)))
  ]

  pub flat : (n digit : ℕ) → members_depth (found n digit) ≡ 0
  unfolding route_members
  flat zero digit = refl
  flat (suc n) digit = elim (cases_Bool (is_guessed known page all digit)) [
    | inl is ↦ rw is (rw (flat n (digit + 1)) refl)
    | inr not ↦ rw not (flat n (digit + 1))
  ]

  pub dated : (n digit : ℕ) → members_have_valid_dates (found n digit) ≡ true
  unfolding route_members
  dated zero digit = refl
  dated (suc n) digit = elim (cases_Bool (is_guessed known page all digit)) [
    | inl is ↦ rw is (dated n (digit + 1))
    | inr not ↦ rw not (dated n (digit + 1))
  ]

  -- what comes after a route
  abbrev after_one : ℕ → ℕ → List ℕ
  after_one n digit = routes_from known page all false n digit ++ codes " }"

  abbrev IsRouteText : Bool → ℕ → ℕ → Type 0
  IsRouteText is_first n digit = IsMembersText true is_first (found n digit) (routes_from known page all is_first n digit ++ codes " }")

  one_more : (is_first : Bool) (n digit : ℕ) → digit < 10 → is_guessed known page all digit ≡ true → IsRouteText false n (digit + 1)
      → IsMembersText true is_first (member ((48 + digit) ∷ []) (integer (pos (page_by page digit))) (found n (digit + 1)))
      ((pair_text is_first digit (page_by page digit) ++ routes_from known page all false n (digit + 1)) ++ codes " }")
  one_more true n digit small is more = (
    decimal (page_by page digit),
    after_one n (digit + 1),
    rw (digit_key digit small) (simp append_assoc refl),
    (refl, omega (arith, small_page digit is)),
    more,
    later n digit (digit + 1) (omega arith),
  )
  one_more false n digit small is more = (
    decimal (page_by page digit),
    after_one n (digit + 1),
    rw (digit_key digit small) (simp append_assoc refl),
    (refl, omega (arith, small_page digit is)),
    more,
    later n digit (digit + 1) (omega arith),
  )

  -- routes after others
  routes_after : (n digit : ℕ) → digit + n ≤ 10 → IsRouteText false n digit
  unfolding route_members routes_from
  routes_after zero digit room = refl
  routes_after (suc n) digit room = elim (cases_Bool (is_guessed known page all digit)) [
    | inl is ↦ rw is (one_more false n digit (omega (arith, room)) is (routes_after n (digit + 1) (omega (arith, room))))
    | inr not ↦ rw not (routes_after n (digit + 1) (omega (arith, room)))
  ]

  -- no routes, or a text of some
  pub record HasNone (n digit : ℕ) : Type 0 where
    pub text : routes_from known page all true n digit ≡ []
    pub members : found n digit ≡ no_members

  pub record HasSome (n digit : ℕ) : Type 0 where
    pub text : IsRouteText true n digit
    pub some : (length (routes_from known page all true n digit) == 0) ≡ false

  pub routes_first : (n digit : ℕ) → digit + n ≤ 10 → HasNone n digit ⊎ HasSome n digit
  unfolding route_members routes_from
  routes_first zero digit room = inl (record { text = refl; members = refl })
  routes_first (suc n) digit room = elim (cases_Bool (is_guessed known page all digit)) [
    | inl is ↦ inr (record {
      text = rw is (one_more true n digit (omega (arith, room)) is (routes_after n (digit + 1) (omega (arith, room))));
      some = rw is (longer 32 ((48 + digit) ∷ (codes " = " ++ decimal (page_by page digit) ++ routes_from known page all false n (digit + 1))));
    })
    | inr not ↦ elim (routes_first n (digit + 1) (omega (arith, room))) [
      | inl none ↦ inl (record { text = rw not none.text; members = rw not none.members })
      | inr some ↦ inr (record { text = rw not some.text; some = rw not some.some })
    ]
  ]

-- `{` is 123, `}` 125
none_read : (rest : List ℕ) → val 80 (123 ∷ 32 ∷ 125 ∷ rest) ≡ Some (table no_members, rest)
none_read rest =
    let text = 123 ∷ 32 ∷ 125 ∷ rest in
    let at : skip_blank (32 ∷ 125 ∷ rest) ≡ 125 ∷ rest = skip_space (125 ∷ rest) ∙ skip_none (125 ∷ rest) 125 refl refl in
    val_table 79 text refl refl ∙ rw (members_end (val 79) (length text) no_nodes (32 ∷ 125 ∷ rest) (omega arith) (rw at refl), at) refl

pub none_value : (tail : List ℕ) → IsValue (codes "{ }") tail (table no_members)
none_value tail = record { starts = λ rest. refl; reads = λ rest. none_read (tail ++ rest) }

pub some_value : (text tail : List ℕ) (ms : Members) → IsMembersText true true ms text → members_depth ms ≡ 0 → members_have_valid_dates ms ≡ true → IsTail tail
    → IsValue (123 ∷ text) tail (table ms)
some_value text tail ms is deep dates ends = record {
  starts = λ rest. refl;
  reads = λ rest. read_value true (table ms) 80 (123 ∷ text) (tail ++ rest) (text, refl, is) (omega (arith, deep)) dates (ends.value_ends rest);
}
