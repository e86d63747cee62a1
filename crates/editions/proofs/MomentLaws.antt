-- A sound folder stays sound at every moment of safe steps.
use Rattle.std.proofs.Common.{◌≡◌, ℕ, Bool, true, false, cond, List, [], ◌∷◌, ◌++◌, Option, Some, None, refl, sym, ap, ◌∙◌, subst, arith, ◌⊎◌, inl, inr, nat_eq}
use Rattle.std.proofs.lemmas.Bool.Decides.{nat_tests}
use Rattle.editions.specs.Folders.{EditionBytes, FilesSeen, all_files, FolderState, edition_among, FolderStep, RemoveParts, WriteEdition, SetCurrent, folder_after, IsSameAside, IsNewNumber}
use Rattle.editions.specs.Chains.{EditionView}
use Rattle.editions.specs.Moments.{IsFollowing, IsSoundEdition, NamesEdition, IsSoundFolder, KeepsEditions, IsSafeStep, AreSafeSteps, IsMoment, publish_steps}

abbrev Editions : Type 0
Editions = List (ℕ × FilesSeen)

-- what is found among some is found among more
more_step : (b : Bool) (x : FilesSeen) (o p : Option FilesSeen) (files : FilesSeen) → (o ≡ Some files → p ≡ Some files) → cond b (Some x) o ≡ Some files → cond b (Some x) p ≡ Some files
more_step true x o p files h e = e
more_step false x o p files h e = h e

among_more : (xs ys : Editions) (n : ℕ) (files : FilesSeen) → edition_among xs n ≡ Some files → edition_among (xs ++ ys) n ≡ Some files
among_more [] ys n files e = absurd cc
among_more (x ∷ xs) ys n files e = more_step (nat_eq x.0 n) x.1 (edition_among xs n) (edition_among (xs ++ ys) n) files (among_more xs ys n files) e

-- what is found among them with one more is found among them, or it is that one
last_step : (b : Bool) (x : FilesSeen) (o p : Option FilesSeen) (files : FilesSeen) (Last : Type 0) → (p ≡ Some files → (o ≡ Some files) ⊎ Last) → cond b (Some x) p ≡ Some files → (cond b (Some x) o ≡ Some files) ⊎ Last
last_step true x o p files Last h e = inl e
last_step false x o p files Last h e = h e

is_last : (b : Bool) (n k : ℕ) (added files : FilesSeen) → (b ≡ true → n ≡ k) → cond b (Some added) None ≡ Some files → (k ≡ n) × (files ≡ added)
is_last true n k added files same e = (sym (same refl), cc)
is_last false n k added files same e = absurd cc

among_last : (xs : Editions) (n k : ℕ) (added files : FilesSeen) → edition_among (xs ++ (n, added) ∷ []) k ≡ Some files → (edition_among xs k ≡ Some files) ⊎ ((k ≡ n) × (files ≡ added))
among_last [] n k added files e = inr (is_last (nat_eq n k) n k added files (λ h. grind (arith, nat_tests, h)) e)
among_last (x ∷ xs) n k added files e =
    last_step (nat_eq x.0 k) x.1 (edition_among xs k) (edition_among (xs ++ (n, added) ∷ []) k) files ((k ≡ n) × (files ≡ added)) (among_last xs n k added files) e

-- an edition stays sound when more are there
following_more : (xs ys : Editions) (n : ℕ) (v : EditionView) (follows : Option ℕ) → IsFollowing xs n v follows → IsFollowing (xs ++ ys) n v follows
following_more xs ys n v None h = tt
following_more xs ys n v (Some k) h = record {
  before = h.before;
  bytes = h.bytes;
  there = among_more xs ys k (all_files h.bytes) h.there;
  old = h.old;
  text = h.text;
  against = h.against;
}

edition_more : (xs ys : Editions) (n : ℕ) (files : FilesSeen) → IsSoundEdition xs n files → IsSoundEdition (xs ++ ys) n files
edition_more xs ys n files h = record {
  bytes = h.bytes;
  whole = h.whole;
  sums = h.sums;
  view = h.view;
  text = h.text;
  cleared = h.cleared;
  following = following_more xs ys n h.view h.view.follows h.following;
}

names_more : (xs ys : Editions) (text : List ℕ) → NamesEdition xs text → NamesEdition (xs ++ ys) text
names_more xs ys text h = record { number = h.number; files = h.files; spelled = h.spelled; there = among_more xs ys h.number h.files h.there }

-- a folder of the same editions and the same `current`
same_sound : (f g : FolderState) → g.editions ≡ f.editions → g.current ≡ f.current → IsSoundFolder f → IsSoundFolder g
same_sound f g editions current h = record {
  each = λ n files e. let Sound : Editions → Type 0 = λ xs. IsSoundEdition xs n files in subst Sound (sym editions) (h.each n files (sym (ap (λ (xs : Editions). edition_among xs n) editions) ∙ e));
  current = λ text e. let Names : Editions → Type 0 = λ xs. NamesEdition xs text in subst Names (sym editions) (h.current text (sym current ∙ e));
}

aside_sound : (f g : FolderState) → IsSameAside f g → IsSoundFolder f → IsSoundFolder g
aside_sound f g same h = same_sound f g same.editions same.current h

aside_keeps : (f g : FolderState) → IsSameAside f g → KeepsEditions f g
aside_keeps f g same n files e = ap (λ (xs : Editions). edition_among xs n) same.editions ∙ e

-- after a safe step
written_sound : (f : FolderState) (n : ℕ) (e : EditionBytes) → IsSafeStep f (WriteEdition n e) → IsSoundFolder f → IsSoundFolder (folder_after (WriteEdition n e) f)
written_sound f n e safe h = record {
  each = λ k files found. elim (among_last f.editions n k (all_files e) files found) [
    | inl old ↦ edition_more f.editions ((n, all_files e) ∷ []) k files (h.each k files old)
    | inr new ↦ let Sound : ℕ → FilesSeen → Type 0 = λ m fs. IsSoundEdition (f.editions ++ (n, all_files e) ∷ []) m fs in
        subst (λ (m : ℕ). Sound m files) (sym new.0) (subst (λ (fs : FilesSeen). Sound n fs) (sym new.1) (edition_more f.editions ((n, all_files e) ∷ []) n (all_files e) safe.1))
  ];
  current = λ text is. names_more f.editions ((n, all_files e) ∷ []) text (h.current text is);
}

pub after_sound : (step : FolderStep) (f : FolderState) → IsSafeStep f step → IsSoundFolder f → IsSoundFolder (folder_after step f)
after_sound RemoveParts f safe h = same_sound f (folder_after RemoveParts f) refl refl h
after_sound (WriteEdition n e) f safe h = written_sound f n e safe h
after_sound (SetCurrent n) f safe h = record {
  each = h.each;
  current = λ text is. record { number = n; files = safe.0; spelled = cc; there = safe.1 };
}

pub after_keeps : (step : FolderStep) (f : FolderState) → KeepsEditions f (folder_after step f)
after_keeps RemoveParts f k files e = e
after_keeps (WriteEdition n x) f k files e = among_more f.editions ((n, all_files x) ∷ []) k files e
after_keeps (SetCurrent n) f k files e = e

pub moments_sound : (steps : List FolderStep) (f now : FolderState) → IsSoundFolder f → AreSafeSteps f steps → IsMoment steps f now → IsSoundFolder now × KeepsEditions f now
moments_sound [] f now h safe is = (aside_sound f now is h, aside_keeps f now is)
moments_sound (step ∷ steps) f now h safe (inl (inl before)) = (aside_sound f now before h, aside_keeps f now before)
moments_sound (step ∷ steps) f now h safe (inl (inr after)) =
    (aside_sound (folder_after step f) now after (after_sound step f safe.0 h), λ n files e. aside_keeps (folder_after step f) now after n files (after_keeps step f n files e))
moments_sound (step ∷ steps) f now h safe (inr later) =
    let rest = moments_sound steps (folder_after step f) now (after_sound step f safe.0 h) safe.1 later in
    (rest.0, λ n files e. rest.1 n files (after_keeps step f n files e))

-- an edition that is added under a free number is found there
new_step : (b : Bool) (x : FilesSeen) (o p : Option FilesSeen) (added : FilesSeen) → (o ≡ None → p ≡ Some added) → cond b (Some x) o ≡ None → cond b (Some x) p ≡ Some added
new_step true x o p added h e = absurd cc
new_step false x o p added h e = h e

added_by : (n : ℕ) (added : FilesSeen) → edition_among ((n, added) ∷ []) n ≡ Some added
added_by n added = let same : nat_eq n n ≡ true = grind (arith, nat_tests) in rw same refl

among_new : (xs : Editions) (n : ℕ) (added : FilesSeen) → edition_among xs n ≡ None → edition_among (xs ++ (n, added) ∷ []) n ≡ Some added
among_new [] n added e = added_by n added
among_new (x ∷ xs) n added e = new_step (nat_eq x.0 n) x.1 (edition_among xs n) (edition_among (xs ++ (n, added) ∷ []) n) added (among_new xs n added) e

-- the steps of a publish are safe
pub publish_safe : (f : FolderState) (n : ℕ) (e : EditionBytes) → IsNewNumber f.editions n → IsSoundEdition f.editions n (all_files e) → AreSafeSteps f (publish_steps n e)
publish_safe f n e new sound = ((new.free, sound), ((all_files e, among_new f.editions n (all_files e) new.free), tt))
