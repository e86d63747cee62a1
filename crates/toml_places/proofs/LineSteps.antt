-- What holds of each line of a text that is TOML holds of the whole text.
use Rattle.std.proofs.Common.{◌≡◌, ℕ, zero, suc, ◌-◌, ◌==◌, false, List, [], ◌∷◌, ◌++◌, length, Some, option_and_then, refl, sym, ap, ◌∙◌, subst, inl, inr, append_assoc, append-nil}
use Rattle.std.proofs.lemmas.Bool.{cases_Bool}
use Rattle.std.proofs.lemmas.Option.{none-some, same_Some}
use Rattle.toml_parser.specs.Lexical.{skip_blank}
use Rattle.toml.specs.Tables.{Document, Expression, define}
use Rattle.toml.specs.Parse.{line, lines}
use Rattle.toml_places.proofs.Options.{stepped}
use Rattle.toml_places.specs.Places.{Mark, Section, mark_of, next_section, marks_from}

marks_next : (size n : ℕ) (s : Section) (text : List ℕ) (e : Expression) (after : List ℕ) → (length (skip_blank text) == 0) ≡ false
    → line (skip_blank text) ≡ Some (e, after)
    → marks_from size (suc n) s text ≡ mark_of s e (size - length (skip_blank text)) ∷ marks_from size n (next_section s e) after
unfolding marks_from
marks_next size n s text e after other is = rw (other, is) refl

module _ (P : List Mark → Section → Document → Type 0)
    (keeps : (ms : List Mark) (s : Section) (doc next : Document) (e : Expression) (at : ℕ) → P ms s doc → define doc e ≡ Some next → P (ms ++ mark_of s e at ∷ []) (next_section s e) next) where
  pub lines_keep : (size n : ℕ) (doc last : Document) (s : Section) (text : List ℕ) (ms : List Mark) → lines n doc text ≡ Some last → P ms s doc
      → (t : Section) × P (ms ++ marks_from size n s text) t last
  unfolding lines marks_from
  lines_keep size zero doc last s text ms h p = absurd (none-some last h)
  lines_keep size (suc n) doc last s text ms h p =
      elim (cases_Bool (length (skip_blank text) == 0)) [
        | inl none ↦
            let same : doc ≡ last = same_Some doc last (rw none at h) in
            (s, rw (none, append-nil ms, ← same) p)
        | inr other ↦
            let start = skip_blank text in
            let one = stepped (line start) (λ e. option_and_then (λ next. lines n next e.1) (define doc e.0)) last (rw other at h) in
            let two = stepped (define doc one.value.0) (λ next. lines n next one.value.1) last one.then in
            let mark = mark_of s one.value.0 (size - length start) in
            let more = lines_keep size n two.value last (next_section s one.value.0) one.value.1 (ms ++ mark ∷ []) two.then
            (keeps ms s doc two.value one.value.0 (size - length start) p two.is) in
            let all : ms ++ marks_from size (suc n) s text ≡ (ms ++ mark ∷ []) ++ marks_from size n (next_section s one.value.0) one.value.1 =
            ap (λ (l : List Mark). ms ++ l) (marks_next size n s text one.value.0 one.value.1 other one.is)
            ∙ sym (append_assoc ms (mark ∷ []) (marks_from size n (next_section s one.value.0) one.value.1)) in
            (more.0, subst (λ (l : List Mark). P l more.0 last) (sym all) more.1)
      ]
