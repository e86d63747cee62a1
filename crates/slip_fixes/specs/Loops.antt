-- What the functions of a round answer.
use Rattle.std.specs.Prelude.{◌≡◌, ℕ, Option, Some, None}
use Rattle.checker.specs.declared.policy.Policy.{Policy}
use Rattle.lint.specs.Lint.{IsLint}
use Rattle.slip_fixes.specs.Rounds.{IsRound, IsLast, fixes_after}
use Rattle.slip_fixes.specs.declared.rounds.Attempt.{Attempt}

-- the next text on the way, if the findings of this one are those of lint
pub record IsAdvanced (policy : Policy) (state next : Attempt) : Type 0 where
  pub round : IsLint state.text.items policy state.findings.items → (count : ℕ) × (IsRound policy state.text.items next.text.items count × (next.fixes ≡ fixes_after state.fixes count))
  pub found : IsLint next.text.items policy next.findings.items

-- the next text, or why there is none
abbrev pub AdvancesTo : Policy → Attempt → Option Attempt → Type 0
AdvancesTo policy state None = IsLint state.text.items policy state.findings.items → IsLast policy state.text.items
AdvancesTo policy state (Some next) = IsAdvanced policy state next
