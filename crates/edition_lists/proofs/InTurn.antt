-- Editions that are judged or listed in turn.
use Rattle.std.proofs.Common.{◌≡◌, ◌<◌, ◌+◌, ◌++◌, ◌∷◌, [], ◌∙◌, ℕ, List, map, take, length, get_or, Option, Some, None, refl, sym, ap, subst}
use Rattle.std.proofs.lemmas.List.Elements.{All-push}
use Rattle.std.proofs.lemmas.List.{take_more, map-append}
use Rattle.std.specs.Prelude.{IfSome}
use Rattle.editions.specs.Folders.{FolderState, SeenFolder}
use Rattle.edition_lists.specs.declared.finding.EditionFinding.{EditionFinding}
use Rattle.edition_lists.specs.declared.judging.JudgedEdition.{JudgedEdition}
use Rattle.edition_lists.specs.declared.judging.JudgedEdition.TheVariants.{Right, Wrong}
use Rattle.edition_lists.specs.declared.kept.KeptEdition.{KeptEdition}
use Rattle.edition_lists.specs.declared.rows.EditionRow.{EditionRow}
use Rattle.edition_lists.specs.Kept.{IsKeptEdition}
use Rattle.edition_lists.specs.Judged.{IsJudgedRight, IsRightNumber}
use Rattle.edition_lists.specs.Findings.{IsEditionFinding, AreFindings}
use Rattle.edition_lists.specs.Rows.{IsRowOf, IsRowIn, AreEditionRows}
use Rattle.edition_lists.specs.Loops.{IfRight, IsRightNow, IsKeptBefore, finding_with, kept_if_right, AddsRow}
use Rattle.edition_checks.proofs.FolderReads.{before}

-- the numbers of a list with one more
named_more : {X : Type 0} (number : X → ℕ) (xs : List X) (x : X) (numbers : List ℕ) (i d n : ℕ) → i < length numbers → n ≡ get_or numbers i d → number x ≡ n → map number xs ≡ take i numbers
    → map number (xs ++ x ∷ []) ≡ take (i + 1) numbers
named_more number xs x numbers i d n below is named so_far =
    map-append number xs (x ∷ [])
    ∙ ap (λ (ns : List ℕ). ns ++ number x ∷ []) so_far
    ∙ ap (λ (m : ℕ). take i numbers ++ m ∷ []) (named ∙ is)
    ∙ sym (take_more numbers i d below)

-- Findings.

-- the edition that was judged last
pub kept_after : (a b : SeenFolder) (numbers : List ℕ) (served : Option ℕ) (n : ℕ) (j : JudgedEdition) → b.state ≡ a.state → IfRight j (IsRightNow a numbers served n) → IsKeptBefore b (kept_if_right j)
kept_after a b numbers served n (Wrong flaw) same right = tt
kept_after a b numbers served n (Right e) same right = before b.state a.state (λ f. IsKeptEdition f e) (sym same) right.kept

right_now : (o : Option FolderState) (numbers : List ℕ) (served : Option ℕ) (n : ℕ) (e : KeptEdition) → e.served.number ≡ n → IfSome o (λ f. IsKeptEdition f e) → IfSome o (λ f. IsJudgedRight f numbers served e)
    → IfSome o (λ f. IsRightNumber f numbers served n e.follows)
right_now None numbers served n e named kept right = tt
right_now (Some f) numbers served n e named kept right = record { edition = e; named = named; says = refl; kept = kept; right = right }

nothing_said : (o : Option FolderState) → IfSome o (λ f. Unit {0})
nothing_said None = tt
nothing_said (Some f) = tt

finding_now : (o : Option FolderState) (a : SeenFolder) (numbers : List ℕ) (served : Option ℕ) (n : ℕ) (j : JudgedEdition) → a.state ≡ o → IfRight j (IsRightNow a numbers served n) → IfSome o (λ f. IsEditionFinding f numbers served (finding_with n j))
finding_now o a numbers served n (Wrong flaw) same right = nothing_said o
finding_now o a numbers served n (Right e) same right =
    right_now o numbers served n e right.named (before o a.state (λ f. IsKeptEdition f e) same right.kept) (before o a.state (λ f. IsJudgedRight f numbers served e) same right.right)

more_found : (o : Option FolderState) (numbers : List ℕ) (served : Option ℕ) (i d n : ℕ) (findings : List EditionFinding) (x : EditionFinding) → i < length numbers → n ≡ get_or numbers i d → x.number ≡ n
    → IfSome o (λ f. AreFindings f numbers served (take i numbers) findings) → IfSome o (λ f. IsEditionFinding f numbers served x)
    → IfSome o (λ f. AreFindings f numbers served (take (i + 1) numbers) (findings ++ x ∷ []))
more_found None numbers served i d n findings x below is named so_far one = tt
more_found (Some f) numbers served i d n findings x below is named so_far one = record {
  named = named_more (λ (x : EditionFinding). x.number) findings x numbers i d n below is named so_far.named;
  are = All-push (IsEditionFinding f numbers served) findings x so_far.are one;
}

-- one more that was judged
pub found_more : (o : Option FolderState) (a : SeenFolder) (numbers : List ℕ) (served : Option ℕ) (i d n : ℕ) (findings new : List EditionFinding) (j : JudgedEdition) → a.state ≡ o → i < length numbers → n ≡ get_or numbers i d
    → IfSome o (λ f. AreFindings f numbers served (take i numbers) findings) → IfRight j (IsRightNow a numbers served n) → new ≡ findings ++ finding_with n j ∷ []
    → IfSome o (λ f. AreFindings f numbers served (take (i + 1) numbers) new)
found_more o a numbers served i d n findings new j same below is so_far right added =
    subst (λ (xs : List EditionFinding). IfSome o (λ f. AreFindings f numbers served (take (i + 1) numbers) xs)) (sym added)
    (more_found o numbers served i d n findings (finding_with n j) below is refl so_far (finding_now o a numbers served n j same right))

-- Rows.

row_now : (o : Option FolderState) (numbers : List ℕ) (served : Option ℕ) (e : KeptEdition) (row : EditionRow) → IfSome o (λ f. IsKeptEdition f e) → IsRowOf numbers served e row → IfSome o (λ f. IsRowIn f numbers served row)
row_now None numbers served e row kept is = tt
row_now (Some f) numbers served e row kept is = record { edition = e; kept = kept; is = is }

more_listed : (o : Option FolderState) (numbers : List ℕ) (served : Option ℕ) (i d n : ℕ) (rows : List EditionRow) (row : EditionRow) → i < length numbers → n ≡ get_or numbers i d → row.number ≡ n
    → IfSome o (λ f. AreEditionRows f numbers served (take i numbers) rows) → IfSome o (λ f. IsRowIn f numbers served row)
    → IfSome o (λ f. AreEditionRows f numbers served (take (i + 1) numbers) (rows ++ row ∷ []))
more_listed None numbers served i d n rows row below is named so_far one = tt
more_listed (Some f) numbers served i d n rows row below is named so_far one = record {
  named = named_more (λ (r : EditionRow). r.number) rows row numbers i d n below is named so_far.named;
  are = All-push (IsRowIn f numbers served) rows row so_far.are one;
}

-- one more that was read
pub listed_more : (o p : Option FolderState) (numbers : List ℕ) (served : Option ℕ) (i d n : ℕ) (rows new : List EditionRow) (e : KeptEdition) → p ≡ o → i < length numbers → n ≡ get_or numbers i d
    → IfSome o (λ f. AreEditionRows f numbers served (take i numbers) rows) → IfSome p (λ f. IsKeptEdition f e) → e.served.number ≡ n → AddsRow numbers served e rows new
    → IfSome o (λ f. AreEditionRows f numbers served (take (i + 1) numbers) new)
listed_more o p numbers served i d n rows new e same below is so_far kept named adds =
    subst (λ (xs : List EditionRow). IfSome o (λ f. AreEditionRows f numbers served (take (i + 1) numbers) xs)) (sym adds.added)
    (more_listed o numbers served i d n rows adds.row below is (adds.is.number ∙ named) so_far
    (row_now o numbers served e adds.row (before o p (λ f. IsKeptEdition f e) same kept) adds.is))
