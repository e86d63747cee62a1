-- What is read and judged of a folder whose lock is held.
use Rattle.std.proofs.Common.{◌≡◌, ◌<◌, ℕ, List, Option, Some, None, subst, map}
use Rattle.std.specs.Prelude.{IfSome}
use Rattle.std.specs.List.Sorted.{IsPermutation, IsNonDecreasing}
use Rattle.editions.specs.Folders.{FolderState}
use Rattle.editions.specs.Chains.{IsClearedAgainst}
use Rattle.edition_checks.proofs.FolderReads.{before}
use Rattle.edition_lists.specs.declared.kept.KeptEdition.{KeptEdition}
use Rattle.edition_lists.specs.Kept.{IsKeptEdition}
use Rattle.edition_lists.specs.Judged.{kept_view, IsAfterKept, AreNumbersOf}

pub after_in : (o : Option FolderState) (old e : KeptEdition) (k : ℕ) → k < e.served.number → old.served.number ≡ k → IfSome o (λ f. IsKeptEdition f old) → IsClearedAgainst (kept_view old) (kept_view e) → IfSome o (λ f. IsAfterKept f e k)
after_in None old e k earlier named kept against = tt
after_in (Some f) old e k earlier named kept against = record { before = earlier; old = old; named = named; kept = kept; against = against }

-- the numbers of all editions, sorted
pub numbers_there : (o p : Option FolderState) (numbers sorted : List ℕ) → p ≡ o → IfSome p (λ f. numbers ≡ map (λ e. e.0) f.editions) → IsPermutation numbers sorted → IsNonDecreasing sorted → IfSome o (λ f. AreNumbersOf f sorted)
numbers_there None p numbers sorted same read all ascending = tt
numbers_there (Some f) p numbers sorted same read all ascending = record {
  all = subst (λ (ns : List ℕ). IsPermutation ns sorted) (before (Some f) p (λ f. numbers ≡ map (λ e. e.0) f.editions) same read) all;
  ascending = ascending;
}
