-- A text of which the first bytes were taken and the others are kept.
use Rattle.std.proofs.Common.{◌≡◌, ◌∙◌, ◌+◌, ◌==◌, ℕ, false, List, [], ◌++◌, length, take, arith, sym, ap, subst, append_assoc, length-append, if◌then◌else◌}
use Rattle.std.proofs.Math.Seq.{take-append-add}
use Rattle.std.proofs.lemmas.List.{take-append-le, append-nil}
use Rattle.std.proofs.lemmas.Bool.Decides.{nat_tests}
use Rattle.std.proofs.KnownBytes.{Appends-trans}
use Rattle.std.specs.Io.KnownBytes.{Appends}
use Rattle.devices.specs.Devices.{Seen, TookAll, WroteWhole, WrotePart, IsOnItsWay, one_more}
use Rattle.devices.specs.Loops.{TookPart}

module _ (a b c : Seen) (xs ys : List ℕ) (first : TookAll a b xs) where
  more : TookAll b c ys → TookAll a c (xs ++ ys)
  more next = record {
    taken = Appends-trans a.bytes b.bytes c.bytes xs ys first.taken next.taken;
    unbroken = next.unbroken;
    unflushed = next.unflushed ∙ first.unflushed;
  }

  whole : WroteWhole b c ys → WroteWhole a c (xs ++ ys)
  whole next = record {
    taken = Appends-trans a.bytes b.bytes c.bytes xs ys first.taken next.taken;
    unbroken = next.unbroken;
    flushed = next.flushed ∙ ap one_more first.unflushed;
  }

  -- the kept bytes begin with ys, of which n were taken
  taken_of : (rest : List ℕ) (n : ℕ) → Appends b.bytes c.bytes (take n (ys ++ rest)) → Appends a.bytes c.bytes (take (length xs + n) (xs ++ (ys ++ rest)))
  taken_of rest n next =
      subst (λ zs. Appends a.bytes c.bytes zs) (sym (take-append-add xs (ys ++ rest) n)) (Appends-trans a.bytes b.bytes c.bytes xs (take n (ys ++ rest)) first.taken next)

  part : (rest : List ℕ) (n : ℕ) → TookPart b c ys n → WrotePart a c (xs ++ (ys ++ rest)) (length xs + n)
  part rest n next =
      let all = length-append xs (ys ++ rest) in
      let kept = length-append ys rest in
      let early : (length xs + n == length (xs ++ (ys ++ rest))) ≡ false = grind (arith, nat_tests, all, kept, next.short) in
      record {
        within = omega (arith, all, kept, next.short);
        taken = taken_of rest n (subst (λ zs. Appends b.bytes c.bytes zs) (sym (take-append-le n ys rest (omega (arith, next.short)))) next.taken);
        broken = next.broken;
        flushed = next.unflushed ∙ first.unflushed ∙ ap (λ t. if t then one_more a.flushes else a.flushes) (sym early);
      }

  last : (n : ℕ) → WrotePart b c ys n → WrotePart a c (xs ++ ys) (length xs + n)
  last n next =
      let all = length-append xs ys in
      let same : (n == length ys) ≡ (length xs + n == length (xs ++ ys)) = grind (arith, nat_tests, all) in
      record {
        within = omega (arith, all, next.within);
        taken = subst (λ zs. Appends a.bytes c.bytes zs) (sym (take-append-add xs ys n)) (Appends-trans a.bytes b.bytes c.bytes xs (take n ys) first.taken next.taken);
        broken = next.broken;
        flushed = next.flushed ∙ ap (λ m. if n == length ys then one_more m else m) first.unflushed ∙ ap (λ t. if t then one_more a.flushes else a.flushes) same;
      }

-- more of the text is kept
pub kept_more : (old now : Seen) (kept more : List ℕ) (wrote : ℕ) (text line : List ℕ) → more ≡ kept ++ line → IsOnItsWay old now kept wrote text → IsOnItsWay old now more wrote (text ++ line)
kept_more old now kept more wrote text line is way = record {
  front = way.front;
  all = ap (λ xs. xs ++ line) way.all ∙ append_assoc way.front kept line ∙ ap (λ xs. way.front ++ xs) (sym is);
  counted = way.counted;
  took = way.took;
}

-- facts about one text
module _ (start now new : Seen) (kept : List ℕ) (wrote : ℕ) (text : List ℕ) (way : IsOnItsWay start now kept wrote text) where
  pub taken_on : TookAll now new kept → (n : ℕ) → n ≡ wrote + length kept → IsOnItsWay start new [] n text
  taken_on took n is = record {
    front = way.front ++ kept;
    all = way.all ∙ sym (append-nil (way.front ++ kept));
    counted = length-append way.front kept ∙ ap (λ m. m + length kept) way.counted ∙ sym is;
    took = more start now new way.front kept way.took took;
  }

  pub broke_on : (rest : List ℕ) (n : ℕ) → TookPart now new kept n → WrotePart start new (text ++ rest) (wrote + n)
  broke_on rest n part_taken =
      subst (λ zs. WrotePart start new zs (wrote + n)) (sym (ap (λ xs. xs ++ rest) way.all ∙ append_assoc way.front kept rest))
      (subst (λ m. WrotePart start new (way.front ++ (kept ++ rest)) (m + n)) way.counted (part start now new way.front kept way.took rest n part_taken))

  pub ended : WroteWhole now new kept → WroteWhole start new text
  ended wrote_all = subst (λ zs. WroteWhole start new zs) (sym way.all) (whole start now new way.front kept way.took wrote_all)

  pub broke_at_end : (n : ℕ) → WrotePart now new kept n → WrotePart start new text (wrote + n)
  broke_at_end n wrote_part =
      subst (λ zs. WrotePart start new zs (wrote + n)) (sym way.all)
      (subst (λ m. WrotePart start new (way.front ++ kept) (m + n)) way.counted (last start now new way.front kept way.took n wrote_part))
