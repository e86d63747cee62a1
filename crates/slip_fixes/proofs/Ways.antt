-- Rounds in turn.
use Rattle.std.proofs.Common.{◌≡◌, ◌+◌, ℕ, List, sym, subst}
use Rattle.std.proofs.Math.Numerals.{suc-eq-add-one}
use Rattle.checker.specs.declared.policy.Policy.{Policy}
use Rattle.lint.specs.Findings.{FindingView}
use Rattle.lint.specs.Lint.{IsLint}
use Rattle.slip_fixes.specs.Rounds.{IsRound, AreRounds, fixes_after}

-- a round more
pub and_round : (policy : Policy) (old text new : List ℕ) (number earlier count fixes : ℕ) → AreRounds policy old number text earlier
    → IsRound policy text new count → fixes ≡ fixes_after earlier count → AreRounds policy old (number + 1) new fixes
and_round policy old text new number earlier count fixes before round sum =
    subst (λ n. AreRounds policy old n new fixes) (suc-eq-add-one number)
    record { text = text; earlier = earlier; count = count; rounds = before; round = round; sum = sum }

-- what lint finds in the same text
pub of_same : (policy : Policy) (old new : List ℕ) (findings : List FindingView) → new ≡ old → IsLint old policy findings → IsLint new policy findings
of_same policy old new findings same found = subst (λ text. IsLint text policy findings) (sym same) found
