-- What is outside of the spans is kept.
use Rattle.std.proofs.Common.{◌≡◌, ◌≤◌, ◌+◌, ◌-◌, ℕ, Bool, true, false, cond, List, [], ◌∷◌, ◌++◌, length, take, drop, Option, Some, None, refl, sym, ap, ◌∙◌, arith, take-append-drop, drop-drop}
use Rattle.std.specs.Prelude.{option_map, nat_le, ◌&&◌}
use Rattle.std.proofs.lemmas.Bool.Decides.{nat_tests}
use Rattle.text_edits.specs.Edits.{ReplacementView, is_after, between, edited_from, joined, old_texts, new_texts, KeepsRest}

-- the same from a place on
record KeepsFrom (text new : List ℕ) (at : ℕ) (rs : List ReplacementView) : Type 0 where
  pub pieces : List (List ℕ)
  pub count : length pieces ≡ length rs + 1
  pub old_is : drop at text ≡ joined pieces (old_texts text rs)
  pub new_is : new ≡ joined pieces (new_texts rs)

-- a span in order
record IsInOrder (text : List ℕ) (at : ℕ) (r : ReplacementView) : Type 0 where
  pub begins : at ≤ r.begin
  pub spans : r.begin ≤ r.end
  pub ends : r.end ≤ length text

in_order : (text : List ℕ) (at : ℕ) (r : ReplacementView) → is_after at (length text) r ≡ true → IsInOrder text at r
in_order text at r h = record { begins = grind (arith, nat_tests, h); spans = grind (arith, nat_tests, h); ends = grind (arith, nat_tests, h) }

-- a text from a place on, cut at a later one
cut_at : (text : List ℕ) (at to : ℕ) → at ≤ to → drop at text ≡ between text at to ++ drop to text
cut_at text at to h =
    let later : at + (to - at) ≡ to = omega (arith, h) in
    sym (take-append-drop (to - at) (drop at text))
    ∙ ap (λ l. between text at to ++ l) (drop-drop (to - at) at text ∙ ap (λ n. drop n text) later)

-- one more in front of what is kept from the end of its span
one_more : (text new rest : List ℕ) (at : ℕ) (r : ReplacementView) (rs : List ReplacementView) → is_after at (length text) r ≡ true
    → new ≡ between text at r.begin ++ (r.text ++ rest) → KeepsFrom text rest r.end rs → KeepsFrom text new at (r ∷ rs)
one_more text new rest at r rs after new_is kept =
    let order = in_order text at r after in
    record {
      pieces = between text at r.begin ∷ kept.pieces;
      count = omega (arith, kept.count);
      old_is =
          cut_at text at r.begin order.begins
          ∙ ap (λ l. between text at r.begin ++ l) (cut_at text r.begin r.end order.spans ∙ ap (λ l. between text r.begin r.end ++ l) kept.old_is);
      new_is = new_is ∙ ap (λ l. between text at r.begin ++ (r.text ++ l)) kept.new_is;
    }

kept_from : (text new : List ℕ) (at : ℕ) (rs : List ReplacementView) → edited_from text at rs ≡ Some new → KeepsFrom text new at rs
kept_from text new at [] e = record { pieces = drop at text ∷ []; count = refl; old_is = refl; new_is = cc }
kept_from text new at (r ∷ rs) e = by (is_after at (length text) r) (edited_from text r.end rs) refl refl e (λ rest. kept_from text rest r.end rs) where
  by : (b : Bool) (more : Option (List ℕ)) → is_after at (length text) r ≡ b → edited_from text r.end rs ≡ more
      → cond b (option_map (λ rest. between text at r.begin ++ (r.text ++ rest)) more) None ≡ Some new
      → ((rest : List ℕ) → edited_from text r.end rs ≡ Some rest → KeepsFrom text rest r.end rs) → KeepsFrom text new at (r ∷ rs)
  by false more after is e kept = absurd (cc (e))
  by true None after is e kept = absurd (cc (e))
  by true (Some rest) after is e kept =
      let new_is : new ≡ between text at r.begin ++ (r.text ++ rest) = cc in
      one_more text new rest at r rs after new_is (kept rest is)

pub kept : (text new : List ℕ) (rs : List ReplacementView) → edited_from text 0 rs ≡ Some new → KeepsRest text new rs
kept text new rs e = let h = kept_from text new 0 rs e in record { pieces = h.pieces; count = h.count; old_is = h.old_is; new_is = h.new_is }
