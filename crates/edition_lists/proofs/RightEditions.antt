-- Editions that were read and judged are sound, and so is their folder.
use Rattle.std.proofs.Common.{◌≡◌, ◌≤◌, ◌⊎◌, ◌||◌, ◌&&◌, ℕ, Bool, true, cond, List, [], ◌∷◌, map, Option, Some, None, option_map, refl, sym, ap, ◌∙◌, subst, arith, false, nat_eq, inl, inr}
use Rattle.std.proofs.lemmas.Bool.{and_parts}
use Rattle.std.proofs.lemmas.Bool.Decides.{nat_tests}
use Rattle.std.proofs.lemmas.List.Elements.{Contains-append_cases, Contains-push_cases, All-nil, All-cons, All-head, All-tail, All-contains, Contains-append_left, Contains-append_right, Contains-push}
use Rattle.std.proofs.lemmas.List.Sorted.{Contains-permutation}
use Rattle.std.specs.List.{All, Contains, list_all, list_any}
use Rattle.std.specs.List.Sorted.{IsNonDecreasing}
use Rattle.std.specs.Prelude.{IfSome, is_none, Result, Ok, Err}
use Rattle.editions.specs.declared.edition_file.EditionFile.TheVariants.{Base, Cert, Policy, Follows, Sums}
use Rattle.devices.specs.Devices.{Seen}
use Rattle.editions.specs.Folders.{SeenFolder, EditionBytes, FilesSeen, all_files, FolderState, edition_among, file_of, file_at}
use Rattle.editions.specs.NumberLines.{number_line, current_in, follows_in, follows_text}
use Rattle.editions.specs.Sums.{sums_text}
use Rattle.editions.specs.Chains.{IsEditionText}
use Rattle.editions.specs.Moments.{IsFollowing, IsSoundEdition, NamesEdition}
use Rattle.editions.proofs.LineLaws.{lines_numbers, number_named}
use Rattle.edition_lists.specs.declared.kept.KeptEdition.{KeptEdition}
use Rattle.edition_lists.specs.declared.current.FoundCurrent.{FoundCurrent}
use Rattle.edition_lists.specs.declared.current.FoundCurrent.TheVariants as current
use Rattle.edition_lists.specs.declared.fault.EditionsFault.{EditionsFault}
use Rattle.edition_lists.specs.declared.finding.EditionFinding.{EditionFinding}
use Rattle.edition_lists.specs.declared.finding.EditionNote.{EditionNote}
use Rattle.edition_lists.specs.declared.finding.EditionNote.TheVariants as note
use Rattle.edition_lists.specs.declared.status.EditionsStatus.{EditionsStatus}
use Rattle.edition_lists.specs.declared.status.EditionsStatus.TheVariants.{Cleared, Refused}
use Rattle.edition_lists.specs.Kept.{IsKeptEdition}
use Rattle.edition_lists.specs.Verified.{IsNotPassed, FollowsOne, IsUnforked, IsVerifiedFolder}
use Rattle.edition_lists.specs.declared.forks.Fork.{Fork}
use Rattle.edition_lists.specs.Forks.{followed, first_fork}
use Rattle.edition_lists.specs.Currents.{is_among, found_by, found_current, served_of}
use Rattle.edition_lists.specs.Findings.{is_right_note, is_right, IsEditionNote, IsEditionFinding, is_right_current, is_all_right, verify_status, AreFindings, IsFoundIn}
use Rattle.edition_lists.specs.Runs.{IsVerification}
use Rattle.edition_lists.specs.Judged.{kept_view, HasItsSums, IsFollowingKept, IsWithinNumbers, IsJudgedRight, IsRightNumber, AreNumbersOf}
use Rattle.edition_lists.specs.FolderChains.{AreChainsSafe}
use Rattle.edition_lists.specs.Loops.{IsRightEdition, IsSaid}
use Rattle.edition_lists.proofs.FolderLaws.{same_some, folders_safe}
use Rattle.edition_lists.proofs.NoForks.{Has, straight, ascending, from_zero}

-- All files of an edition that was read are there.

abbrev five : Option (List ℕ) → Option (List ℕ) → Option (List ℕ) → Option (List ℕ) → Option (List ℕ) → FilesSeen
five base cert policy follows sums = record { base = base; cert = cert; policy = policy; follows = follows; sums = sums }

five_same : (a b c d e : Option (List ℕ)) (p q r s t : Option (List ℕ)) → a ≡ p → b ≡ q → c ≡ r → d ≡ s → e ≡ t → five a b c d e ≡ five p q r s t
five_same a b c d e p q r s t base cert policy follows sums = cc

all_there : (o : Option FilesSeen) (e : EditionBytes) → file_of o Base ≡ Some e.base → file_of o Cert ≡ Some e.cert → file_of o Policy ≡ Some e.policy → file_of o Follows ≡ Some e.follows → file_of o Sums ≡ Some e.sums → o ≡ Some (all_files e)
all_there None e base cert policy follows sums = absurd cc
all_there (Some files) e base cert policy follows sums =
    ap Some (five_same files.base files.cert files.policy files.follows files.sums (Some e.base) (Some e.cert) (Some e.policy) (Some e.follows) (Some e.sums) base cert policy follows sums)

abbrev bytes_of : (f : FolderState) (e : KeptEdition) → IsKeptEdition f e → EditionBytes
bytes_of f e kept = record { base = e.served.base_text.items; cert = kept.served.of_cert.text; policy = e.served.policy_text.items; follows = kept.text; sums = e.sums.items }

kept_there : (f : FolderState) (e : KeptEdition) (kept : IsKeptEdition f e) → edition_among f.editions e.served.number ≡ Some (all_files (bytes_of f e kept))
kept_there f e kept = all_there (edition_among f.editions e.served.number) (bytes_of f e kept) kept.served.base_there kept.served.of_cert.there kept.served.policy_there kept.there kept.sums

kept_text : (f : FolderState) (e : KeptEdition) (kept : IsKeptEdition f e) → IsEditionText (bytes_of f e kept) (kept_view e)
kept_text f e kept = record { of_base = kept.served.of_base; of_cert = kept.served.of_cert.is; of_policy = kept.served.of_policy; of_follows = kept.says }

-- The numbers of all editions.

here : (x : ℕ) (xs : List ℕ) → Contains (x ∷ xs) x
here x xs = Contains-append_left (x ∷ []) xs x (Contains-push [] x)

among_by : (b : Bool) (x n : ℕ) (xs : List ℕ) (files : FilesSeen) (o : Option FilesSeen) (found : FilesSeen) → (b ≡ true → x ≡ n) → (o ≡ Some found → Contains xs n) → cond b (Some files) o ≡ Some found → Contains (x ∷ xs) n
among_by true x n xs files o found same more e = subst (λ (m : ℕ). Contains (x ∷ xs) m) (same refl) (here x xs)
among_by false x n xs files o found same more e = Contains-append_right (x ∷ []) xs n (more e)

among : (editions : List (ℕ × FilesSeen)) (n : ℕ) (files : FilesSeen) → edition_among editions n ≡ Some files → Contains (map (λ e. e.0) editions) n
among [] n files e = absurd cc
among (x ∷ editions) n files e =
    among_by (nat_eq x.0 n) x.0 n (map (λ e. e.0) editions) x.1 (edition_among editions n) files (λ same. grind (arith, nat_tests, same)) (λ later. among editions n files later) e

has_number : (f : FolderState) (numbers : List ℕ) (n : ℕ) (files : FilesSeen) → AreNumbersOf f numbers → edition_among f.editions n ≡ Some files → Contains numbers n
has_number f numbers n files all there = Contains-permutation (map (λ e. e.0) f.editions) numbers n all.all (among f.editions n files there)

-- a test of a list, or of its first element
contains_by : (b : Bool) (x n : ℕ) (xs : List ℕ) → (b ≡ true → x ≡ n) → (list_any (λ m. nat_eq m n) xs ≡ true → Contains xs n) → (b || list_any (λ m. nat_eq m n) xs) ≡ true → Contains (x ∷ xs) n
contains_by true x n xs same more holds = subst (λ (m : ℕ). Contains (x ∷ xs) m) (same refl) (here x xs)
contains_by false x n xs same more holds = Contains-append_right (x ∷ []) xs n (more holds)

-- An edition that was read and is right.

following : (f : FolderState) (e : KeptEdition) (follows : Option ℕ) → IsFollowingKept f e follows → IsFollowing f.editions e.served.number (kept_view e) follows
following f e None h = tt
following f e (Some k) h = record {
  before = h.before;
  bytes = bytes_of f h.old h.kept;
  there = subst (λ (n : ℕ). edition_among f.editions n ≡ Some (all_files (bytes_of f h.old h.kept))) h.named (kept_there f h.old h.kept);
  old = kept_view h.old;
  text = kept_text f h.old h.kept;
  against = record { groups = h.against.groups; change = h.against.change };
}

its_sums : (f : FolderState) (e : KeptEdition) (kept : IsKeptEdition f e) → HasItsSums f e
    → e.sums.items ≡ sums_text e.served.base_text.items kept.served.of_cert.text e.served.policy_text.items kept.text
its_sums f e kept own =
    let cert : own.cert ≡ kept.served.of_cert.text = same_some own.cert kept.served.of_cert.text (sym own.there ∙ kept.served.of_cert.there) in
    let follows : kept.text ≡ follows_text e.follows = lines_numbers.follows_found kept.text e.follows kept.says in
    own.are
    ∙ ap (λ (c : List ℕ). sums_text e.served.base_text.items c e.served.policy_text.items (follows_text e.follows)) cert
    ∙ ap (λ (t : List ℕ). sums_text e.served.base_text.items kept.served.of_cert.text e.served.policy_text.items t) (sym follows)

sound_kept : (f : FolderState) (numbers : List ℕ) (served : Option ℕ) (e : KeptEdition) (kept : IsKeptEdition f e) → IsJudgedRight f numbers served e → IsSoundEdition f.editions e.served.number (all_files (bytes_of f e kept))
sound_kept f numbers served e kept right = record {
  bytes = bytes_of f e kept;
  whole = refl;
  sums = its_sums f e kept right.own.sums;
  view = kept_view e;
  text = kept_text f e kept;
  cleared = right.own.cleared;
  following = following f e e.follows right.follows;
}

not_passed : (f : FolderState) (numbers : List ℕ) (served : Option ℕ) (n : ℕ) (follows : Option ℕ) → AreNumbersOf f numbers → IsWithinNumbers numbers served n follows → IsNotPassed f.editions served n follows
not_passed f numbers served n None all h = tt
not_passed f numbers None n (Some k) all h = absurd h
not_passed f numbers (Some c) n (Some k) all (inl le) = inl le
not_passed f numbers (Some c) n (Some k) all (inr last) = inr (last.0, λ m files there. All-contains (λ (m : ℕ). m ≤ n) numbers m last.1 (has_number f numbers m files all there))

right_kept : (f : FolderState) (numbers : List ℕ) (served : Option ℕ) (e : KeptEdition) → AreNumbersOf f numbers → IsKeptEdition f e → IsJudgedRight f numbers served e → IsRightEdition f served e.served.number
unfolding sound_kept
right_kept f numbers served e all kept right = record {
  files = all_files (bytes_of f e kept);
  there = kept_there f e kept;
  sound = sound_kept f numbers served e kept right;
  passed = not_passed f numbers served e.served.number e.follows all right.within;
}

right_number : (f : FolderState) (numbers : List ℕ) (served : Option ℕ) (n : ℕ) (follows : Option ℕ) → AreNumbersOf f numbers → IsRightNumber f numbers served n follows → IsRightEdition f served n
right_number f numbers served n follows all right = subst (λ (m : ℕ). IsRightEdition f served m) right.named (right_kept f numbers served right.edition all right.kept right.right)

-- A folder of which all editions are right.

abbrev pub IsRightAt : FolderState → List ℕ → Option ℕ → ℕ → Type 0
IsRightAt f numbers served n = (follows : Option ℕ) × IsRightNumber f numbers served n follows

module _ (f : FolderState) (numbers : List ℕ) (served : Option ℕ) (all : AreNumbersOf f numbers) (right : All (IsRightAt f numbers served) numbers) where
  at_number : (n : ℕ) → Contains numbers n → IsRightEdition f served n
  at_number n has = let one = All-contains (IsRightAt f numbers served) numbers n right has in right_number f numbers served n one.0 all one.1

  found : (n : ℕ) (files : FilesSeen) → edition_among f.editions n ≡ Some files → IsRightEdition f served n
  found n files there = at_number n (has_number f numbers n files all there)

  same_files : (n : ℕ) (files : FilesSeen) (there : edition_among f.editions n ≡ Some files) → (found n files there).files ≡ files
  same_files n files there = same_some (found n files there).files files (sym (found n files there).there ∙ there)

  each : (n : ℕ) (files : FilesSeen) → edition_among f.editions n ≡ Some files → IsSoundEdition f.editions n files
  each n files there = subst (λ (fs : FilesSeen). IsSoundEdition f.editions n fs) (same_files n files there) (found n files there).sound

  last : (n : ℕ) (files : FilesSeen) (text : List ℕ) (follows : Option ℕ) → edition_among f.editions n ≡ Some files → files.follows ≡ Some text → follows_in text ≡ Some follows → IsNotPassed f.editions served n follows
  last n files text follows there is says =
      let one = found n files there in
      let bytes : one.sound.bytes.follows ≡ text =
      same_some one.sound.bytes.follows text (sym (ap (λ (fs : FilesSeen). fs.follows) one.sound.whole) ∙ ap (λ (fs : FilesSeen). fs.follows) (same_files n files there) ∙ is) in
      let same : one.sound.view.follows ≡ follows = same_some one.sound.view.follows follows (sym one.sound.text.of_follows ∙ ap follows_in bytes ∙ says) in
      subst (λ (o : Option ℕ). IsNotPassed f.editions served n o) same one.passed

names : (f : FolderState) (numbers : List ℕ) (served : Option ℕ) → AreNumbersOf f numbers → All (IsRightAt f numbers served) numbers → IfSome served (Contains numbers)
    → (text : List ℕ) → option_map number_line served ≡ Some text → NamesEdition f.editions text
names f numbers None all right has text e = absurd cc
names f numbers (Some c) all right has text e =
    let one = at_number f numbers (Some c) all right c has in
    record { number = c; files = one.files; spelled = sym (same_some (number_line c) text e); there = one.there }

verified : (f : FolderState) (numbers : List ℕ) (served : Option ℕ) → AreNumbersOf f numbers → f.current ≡ option_map number_line served → IfSome served (Contains numbers) → All (IsRightAt f numbers served) numbers → IsUnforked f → IsVerifiedFolder f
verified f numbers served all named has right unforked = record {
  sound = record {
    each = each f numbers served all right;
    current = λ text is. names f numbers served all right has text (sym named ∙ is);
  };
  unforked = unforked;
  last = record { served = served; named = named; last = last f numbers served all right };
}

-- What was found of it.

right_note : (f : FolderState) (numbers : List ℕ) (served : Option ℕ) (n : ℕ) (r : EditionNote) → is_right_note r ≡ true → IsEditionNote f numbers served n r → IsRightAt f numbers served n
right_note f numbers served n (note.Right follows) holds is = (follows, is)
right_note f numbers served n (note.Wrong flaw) holds is = absurd cc

all_right : (f : FolderState) (numbers : List ℕ) (served : Option ℕ) (findings : List EditionFinding) → list_all is_right findings ≡ true → All (IsEditionFinding f numbers served) findings
    → All (IsRightAt f numbers served) (map (λ x. x.number) findings)
all_right f numbers served [] holds are = All-nil (IsRightAt f numbers served)
all_right f numbers served (x ∷ findings) holds are =
    let both = and_parts (is_right x) (list_all is_right findings) holds in
    All-cons (IsRightAt f numbers served) x.number (map (λ x. x.number) findings)
    (right_note f numbers served x.number x.note both.0 (All-head (IsEditionFinding f numbers served) x findings are))
    (all_right f numbers served findings both.1 (All-tail (IsEditionFinding f numbers served) x findings are))

-- the finding of a right edition
pub record IsKnown (f : FolderState) (numbers : List ℕ) (served : Option ℕ) (findings : List EditionFinding) (n : ℕ) : Type 0 where
  pub follows : Option ℕ
  pub right : IsRightNumber f numbers served n follows
  pub has : (k : ℕ) → follows ≡ Some k → Has findings n k

none_in : (n : ℕ) → Contains [] n → ⊥
none_in n has = absurd (omega (arith, has.1))

only_one : (x n : ℕ) → Contains [] n ⊎ (x ≡ n) → x ≡ n
only_one x n (inl none) = absurd (none_in n none)
only_one x n (inr same) = same

head_by : (x n : ℕ) (ns : List ℕ) → Contains (x ∷ []) n ⊎ Contains ns n → (x ≡ n) ⊎ Contains ns n
head_by x n ns (inl one) = inl (only_one x n (Contains-push_cases [] x n one))
head_by x n ns (inr more) = inr more

head_or : (x n : ℕ) (ns : List ℕ) → Contains (x ∷ ns) n → (x ≡ n) ⊎ Contains ns n
head_or x n ns has = head_by x n ns (Contains-append_cases (x ∷ []) ns n has)

known_note : (f : FolderState) (numbers : List ℕ) (served : Option ℕ) (x : EditionFinding) (findings : List EditionFinding) (n : ℕ) (r : EditionNote) → x.number ≡ n → x.note ≡ r → is_right_note r ≡ true → IsEditionNote f numbers served n r → IsKnown f numbers served (x ∷ findings) n
known_note f numbers served x findings n (note.Right follows) same is holds right = record { follows = follows; right = right; has = λ k e. inl (same, ap followed is ∙ e) }
known_note f numbers served x findings n (note.Wrong flaw) same is holds right = absurd cc

known_by : (f : FolderState) (numbers : List ℕ) (served : Option ℕ) (x : EditionFinding) (findings : List EditionFinding) (n : ℕ) → is_right_note x.note ≡ true → IsEditionFinding f numbers served x
    → (Contains (map (λ x. x.number) findings) n → IsKnown f numbers served findings n) → (x.number ≡ n) ⊎ Contains (map (λ x. x.number) findings) n → IsKnown f numbers served (x ∷ findings) n
known_by f numbers served x findings n holds is more (inl same) =
    known_note f numbers served x findings n x.note same refl holds (subst (λ (m : ℕ). IsEditionNote f numbers served m x.note) same is)
known_by f numbers served x findings n holds is more (inr later) =
    let known = more later in
    record { follows = known.follows; right = known.right; has = λ k e. inr (known.has k e) }

known : (f : FolderState) (numbers : List ℕ) (served : Option ℕ) (findings : List EditionFinding) (n : ℕ) → list_all is_right findings ≡ true → All (IsEditionFinding f numbers served) findings → Contains (map (λ x. x.number) findings) n
    → IsKnown f numbers served findings n
known f numbers served [] n holds are has = absurd (none_in n has)
known f numbers served (x ∷ findings) n holds are has =
    let both = and_parts (is_right x) (list_all is_right findings) holds in
    known_by f numbers served x findings n both.0 (All-head (IsEditionFinding f numbers served) x findings are)
    (λ later. known f numbers served findings n both.1 (All-tail (IsEditionFinding f numbers served) x findings are) later)
    (head_or x.number n (map (λ x. x.number) findings) has)

follows_known : (f : FolderState) (numbers : List ℕ) (served : Option ℕ) (n : ℕ) (follows : Option ℕ) (k : ℕ) → IsRightNumber f numbers served n follows → FollowsOne f n k → follows ≡ Some k
follows_known f numbers served n follows k right one =
    let there : file_at f n Follows ≡ Some right.kept.text = subst (λ (m : ℕ). file_at f m Follows ≡ Some right.kept.text) right.named right.kept.there in
    let text : right.kept.text ≡ one.text = same_some right.kept.text one.text (sym there ∙ ap (λ (o : Option FilesSeen). file_of o Follows) one.there ∙ one.is) in
    sym right.says ∙ same_some right.edition.follows (Some k) (sym right.kept.says ∙ ap follows_in text ∙ one.says)

none_of : (o : Option Fork) → is_none o ≡ true → o ≡ None
none_of None e = refl
none_of (Some fork) e = absurd cc

module _ (f : FolderState) (numbers : List ℕ) (served : Option ℕ) (findings : List EditionFinding) (all : AreNumbersOf f numbers) (are : AreFindings f numbers served numbers findings) (holds : list_all is_right findings ≡ true) where
  at_known : (n k : ℕ) → FollowsOne f n k → IsKnown f numbers served findings n
  at_known n k one = known f numbers served findings n holds are.are (subst (λ (ns : List ℕ). Contains ns n) (sym are.named) (has_number f numbers n one.files all one.there))

  has_one : (n k : ℕ) → FollowsOne f n k → Has findings n k
  has_one n k one = let known = at_known n k one in known.has k (follows_known f numbers served n known.follows k known.right one)

  unforked : is_none (first_fork 0 findings) ≡ true → IsUnforked f
  unforked none = λ m j n k one two below.
      straight 0 findings m j n k (none_of (first_fork 0 findings) none)
      (ascending findings (subst (λ (ns : List ℕ). IsNonDecreasing ns) (sym are.named) all.ascending)) (from_zero findings) (has_one m j one) (has_one n k two) below

-- what `current` names, if that is right
pub record IsNamedRight (text : Option (List ℕ)) (numbers : List ℕ) (served : Option ℕ) : Type 0 where
  pub named : text ≡ option_map number_line served
  pub has : IfSome served (Contains numbers)

named_among : (text numbers : List ℕ) (n : ℕ) (b : Bool) → text ≡ number_line n → (b ≡ true → Contains numbers n) → is_right_current (cond b (current.Edition n) (current.Lacking n)) ≡ true
    → IsNamedRight (Some text) numbers (served_of (cond b (current.Edition n) (current.Lacking n)) numbers)
named_among text numbers n true is has holds = record { named = ap Some is; has = has refl }
named_among text numbers n false is has holds = absurd cc

contains_among : (numbers : List ℕ) (n : ℕ) → is_among numbers n ≡ true → Contains numbers n
contains_among [] n holds = absurd cc
contains_among (x ∷ numbers) n holds = contains_by (nat_eq x n) x n numbers (λ same. grind (arith, nat_tests, same)) (λ later. contains_among numbers n later) holds

named_by : (text numbers : List ℕ) (o : Option ℕ) → current_in text ≡ o → is_right_current (found_by numbers o) ≡ true → IsNamedRight (Some text) numbers (served_of (found_by numbers o) numbers)
named_by text numbers None is holds = absurd cc
named_by text numbers (Some n) is holds = named_among text numbers n (is_among numbers n) (number_named text n is).1 (contains_among numbers n) holds

named_right : (numbers : List ℕ) (o : Option (List ℕ)) → is_right_current (found_current numbers o) ≡ true → IsNamedRight o numbers (served_of (found_current numbers o) numbers)
named_right numbers None holds = record { named = refl; has = tt }
named_right numbers (Some text) holds = named_by text numbers (current_in text) refl holds

abbrev done : EditionsStatus → Result EditionsStatus EditionsFault
done s = Ok s

same_status : (s t : EditionsStatus) → done s ≡ done t → s ≡ t
same_status s t e = cc

pub cleared_right : (b : Bool) → cond b Cleared Refused ≡ Cleared → b ≡ true
cleared_right true e = refl
cleared_right false e = absurd cc

verified_found : (f : FolderState) (numbers : List ℕ) (c : FoundCurrent) (findings : List EditionFinding) → IsFoundIn f numbers c findings → verify_status c findings ≡ Cleared → IsVerifiedFolder f
verified_found f numbers c findings found cleared =
    let parts = and_parts (is_right_current c && list_all is_right findings) (is_none (first_fork 0 findings)) (cleared_right (is_all_right c findings) cleared) in
    let both = and_parts (is_right_current c) (list_all is_right findings) parts.0 in
    let served = served_of c numbers in
    let named : IsNamedRight f.current numbers served = subst (λ (d : FoundCurrent). IsNamedRight f.current numbers (served_of d numbers)) (sym found.named)
    (named_right numbers f.current (subst (λ (d : FoundCurrent). is_right_current d ≡ true) found.named both.0)) in
    verified f numbers served found.all named.named named.has
    (subst (λ (ns : List ℕ). All (IsRightAt f numbers served) ns) found.each.named (all_right f numbers served findings both.1 found.each.are))
    (unforked f numbers served findings found.all found.each both.1 parts.1)

pub verified_in : (o : Option FolderState) (numbers : List ℕ) (c : FoundCurrent) (findings : List EditionFinding) → IfSome o (λ f. IsFoundIn f numbers c findings) → verify_status c findings ≡ Cleared → IfSome o IsVerifiedFolder
verified_in None numbers c findings found cleared = tt
verified_in (Some f) numbers c findings found cleared = verified_found f numbers c findings found cleared

pub safe_in : (o : Option FolderState) → IfSome o IsVerifiedFolder → IfSome o AreChainsSafe
safe_in None verified = tt
safe_in (Some f) verified = folders_safe.changes f verified.sound

-- the same of what a run answers
pub verified_run : (seen : SeenFolder) (folder text : List ℕ) (status : EditionsStatus) (old new : Seen) (r : Result EditionsStatus EditionsFault) → IsVerification seen folder text status → IsSaid old new text status r → r ≡ Ok Cleared
    → IfSome seen.state IsVerifiedFolder
verified_run seen folder text status old new (Err e) v said is = absurd cc
verified_run seen folder text status old new (Ok s) v said is = verified_in seen.state v.numbers v.current v.findings v.found (sym v.said.status_is ∙ sym said.1 ∙ same_status s Cleared is)
