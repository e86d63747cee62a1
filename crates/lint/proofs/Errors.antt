-- How many errors there are among findings.
use Rattle.std.proofs.Common.{◌≡◌, ◌∙◌, ◌+◌, ℕ, Bool, true, false, List, [], ◌∷◌, ◌++◌, length, map, cond, refl, ap, arith}
use Rattle.std.specs.Prelude.{if◌then◌else◌, Option, Some, None, ◌==◌}
use Rattle.std.proofs.lemmas.List.Sums.{sum_by-cons, sum_by-append}
use Rattle.std.proofs.lemmas.List.Sorted.{sum_by-IsPermutation}
use Rattle.frame_records.specs.Bases.{BaseView}
use Rattle.checker.specs.declared.policy.Policy.{Policy}
use Rattle.page_ids.specs.Ids.{Id}
use Rattle.toml_places.specs.Places.{Mark, marks}
use Rattle.lint.specs.declared.finding.Level.{Level}
use Rattle.lint.specs.declared.finding.Level.TheVariants.{Error, Warning}
use Rattle.lint.specs.Findings.{FindingView, warning_at, same_level, count_of, AreInOrder}
use Rattle.lint.specs.Lint.{Subject, Length, Toml, Text, Whole, finding_of, ranks_of, finds_none, frame_ids, table_of, unreached, warning, warning_if, unreached_findings, look_at, look_words, look_finding, look_findings, fault_finding, text_tables, IsAudited}
use Rattle.lint_words.specs.FaultWords.{none_reached_words}
use Rattle.lint_words.specs.WordsOf.{WordsView}
use Rattle.toml_places.specs.declared.spans.Span.{Span}
use Rattle.lint.specs.Tables.{table_at}
use Rattle.lint.specs.Spots.{entry_span}
use Rattle.lint.specs.declared.looks.Look.{Look}
use Rattle.lint.specs.AllLooks.{all_looks}

abbrev errors : List FindingView → ℕ
errors findings = count_of Error findings

one_more : (f : FindingView) (fs : List FindingView) → errors (f ∷ fs) ≡ cond (same_level f.level Error) 1 0 + errors fs
one_more f fs = sum_by-cons (λ g. cond (same_level g.level Error) 1 0) f fs

module _ {X : Type 0} (f : X → FindingView) where
  all_errors : ((x : X) → (f x).level ≡ Error) → (xs : List X) → errors (map f xs) ≡ length xs
  all_errors are [] = refl
  all_errors are (x ∷ xs) = one_more (f x) (map f xs) ∙ ap (λ (l : Level). cond (same_level l Error) 1 0 + errors (map f xs)) (are x) ∙ omega (arith, all_errors are xs)

  no_errors : ((x : X) → (f x).level ≡ Warning) → (xs : List X) → errors (map f xs) ≡ 0
  no_errors are [] = refl
  no_errors are (x ∷ xs) = one_more (f x) (map f xs) ∙ ap (λ (l : Level). cond (same_level l Error) 1 0 + errors (map f xs)) (are x) ∙ omega (arith, no_errors are xs)

-- a warning about what a frame shows is no error
module _ (text : List ℕ) (ms : List Mark) (tables : List (Id × ℕ)) where
  one_warning : (f : FindingView) → f.level ≡ Warning → errors (f ∷ []) ≡ 0
  one_warning f is = one_more f [] ∙ ap (λ (l : Level). cond (same_level l Error) 1 0 + errors []) is

  warning_if_span : (span : Option Span) (words : WordsView) → errors (warning_if span words) ≡ 0
  warning_if_span None words = refl
  warning_if_span (Some span) words = one_warning (warning_at span words) refl

  no_look_errors : (looks : List (Id × Look)) → errors (look_findings text ms tables looks) ≡ 0
  no_look_errors [] = refl
  no_look_errors (p ∷ ps) =
      let table = table_at text ms (Some (table_of tables p.0)) in
      let here : errors (look_finding text ms tables p) ≡ 0 = warning_if_span (look_at table p.1) (look_words table p.0 p.1) in
      let both : errors (look_findings text ms tables (p ∷ ps)) ≡ errors (look_finding text ms tables p) + errors (look_findings text ms tables ps) =
      sum_by-append (λ (g : FindingView). cond (same_level g.level Error) 1 0) (look_finding text ms tables p) (look_findings text ms tables ps) in
      omega (arith, both, here, no_look_errors ps)

  no_unreached_errors : (none : Bool) (ids : List Id) → errors (unreached_findings text ms tables none ids) ≡ 0
  no_unreached_errors true ids = on (length ids == 0) where
    on : (b : Bool) → errors (if b then [] else warning_at (entry_span (table_at text ms None)) (none_reached_words (length ids)) ∷ []) ≡ 0
    on true = refl
    on false = one_warning (warning_at (entry_span (table_at text ms None)) (none_reached_words (length ids))) refl
  no_unreached_errors false ids = no_errors (warning text ms tables) (λ id. refl) ids

is_error : (text : List ℕ) (s : Subject) → (finding_of text s).level ≡ Error
is_error text Length = refl
is_error text (Toml span message) = refl
is_error text (Text fault) = refl
is_error text (Whole fault) = refl

module _ (judged findings : List FindingView) (order : AreInOrder judged findings) where
  same_errors : errors findings ≡ errors judged
  same_errors = sum_by-IsPermutation _ judged findings order.same

  -- a text with something wrong has an error
  pub text_errors : (text : List ℕ) (s : Subject) (ss : List Subject) → judged ≡ map (finding_of text) (s ∷ ss) → errors findings ≡ 0 → ⊥
  text_errors text s ss is none =
      let all : errors judged ≡ length (s ∷ ss) = ap errors is ∙ all_errors (finding_of text) (is_error text) (s ∷ ss) in
      absurd (omega (arith, same_errors, all, none))

  -- that of a base has as many as there are faults
  pub audit_errors : (text : List ℕ) (policy : Policy) (base : BaseView) (a : IsAudited text policy base judged) → errors findings ≡ length a.faults
  audit_errors text policy base a =
      let ms = marks text in
      let tables = text_tables text in
      let faults = fault_finding text ms tables base policy (ranks_of a.found) in
      let none = finds_none a.found in
      let ids = frame_ids (unreached policy.groups (ranks_of a.found) base.frames) in
      let out = unreached_findings text ms tables none ids in
      let looks = look_findings text ms tables (all_looks policy.groups base.frames) in
      let weight : FindingView → ℕ = λ (g : FindingView). cond (same_level g.level Error) 1 0 in
      let all : errors judged ≡ errors (map faults a.faults ++ out) + errors looks =
      ap errors a.all ∙ sum_by-append weight (map faults a.faults ++ out) looks in
      let both : errors (map faults a.faults ++ out) ≡ errors (map faults a.faults) + errors out =
      sum_by-append weight (map faults a.faults) out in
      omega (
        arith,
        same_errors,
        all,
        both,
        all_errors faults (λ fault. refl) a.faults,
        no_unreached_errors text ms tables none ids,
        no_look_errors text ms tables (all_looks policy.groups base.frames),
      )
