-- A candidate's edition is sound in a sound folder, under a new number.
use Rattle.std.proofs.Common.{◌≡◌, ◌≤◌, ℕ, List, Option, Some, None, option_map, map, refl, sym, ap, ◌∙◌, subst}
use Rattle.std.specs.Prelude.{Result, Ok, Err, IfOk, IfSome, is_some}
use Rattle.std.specs.Result.{result_ok}
use Rattle.editions.specs.declared.limits.TheConstants.{MOST_EDITION}
use Rattle.editions.specs.Folders.{EditionBytes, edition_bytes, all_files, FolderState, SeenFolder, next_number, IsNewNumber}
use Rattle.editions.specs.NumberLines.{follows_in, follows_text}
use Rattle.editions.specs.Moments.{IsSoundEdition, IsSoundFolder, KeepsEditions, AreSafeSteps, AreTaken, StaysSound, after_steps, publish_steps}
use Rattle.editions.proofs.LineLaws.{lines_numbers}
use Rattle.editions.proofs.MomentLaws.{publish_safe}
use Rattle.editions.proofs.NewNumbers.{next_new}
use Rattle.editions.proofs.TakenSteps.{shown_after}
use Rattle.edition_checks.specs.declared.candidate.Candidate.{Candidate}
use Rattle.edition_checks.specs.Served.{candidate_view}
use Rattle.edition_checks.specs.Putting.{IsToPublish, CanFollow, CanFollowIn, LeavesSound, IsPut}

read_again : (follows : Option ℕ) → IfSome follows (λ k. k ≤ MOST_EDITION) → follows_in (follows_text follows) ≡ Some follows
read_again None named = lines_numbers.beginning
read_again (Some k) named = lines_numbers.following k named

edition_sound : (f : FolderState) (n : ℕ) (base policy : List ℕ) (c : Candidate) (follows : Option ℕ) → IsToPublish base policy c → CanFollow f c follows → IsNewNumber f.editions n
    → IsSoundEdition f.editions n (all_files (edition_bytes base c.cert_text.items policy follows))
edition_sound f n base policy c follows is may new = record {
  bytes = edition_bytes base c.cert_text.items policy follows;
  whole = refl;
  sums = refl;
  view = candidate_view follows c;
  text = record { of_base = is.of_base; of_cert = is.of_cert; of_policy = is.of_policy; of_follows = read_again follows may.named };
  cleared = is.cleared;
  following = may.following n new;
}

-- what a put leaves, by what its steps leave
leaves_by : (o p : Option FolderState) (n : ℕ) (base policy : List ℕ) (c : Candidate) (follows : Option ℕ) → IsToPublish base policy c
    → IfSome o (λ f. IsSoundFolder f → AreSafeSteps f (publish_steps n (edition_bytes base c.cert_text.items policy follows)) → IfSome p (λ now. IsSoundFolder now × KeepsEditions f now))
    → IfSome o (λ f. IsNewNumber f.editions n)
    → IfSome o (λ f. IsSoundFolder f → CanFollow f c follows)
    → IfSome o (λ f. IsSoundFolder f → IfSome p (λ now. IsSoundFolder now × KeepsEditions f now))
leaves_by None p n base policy c follows is stays new can = tt
leaves_by (Some f) p n base policy c follows is stays new can = λ sound.
    stays sound (publish_safe f n (edition_bytes base c.cert_text.items policy follows) new (edition_sound f n base policy c follows is (can sound) new))

pub leaves_put : {E : Type 0} (old new : SeenFolder) (n : ℕ) (base policy : List ℕ) (c : Candidate) (follows : Option ℕ) (r : Result (Unit {0}) E) → IsToPublish base policy c
    → AreTaken (publish_steps n (edition_bytes base c.cert_text.items policy follows)) old new r
    → StaysSound (publish_steps n (edition_bytes base c.cert_text.items policy follows)) old new → IfSome old.state (λ f. IsNewNumber f.editions n) → CanFollowIn old c follows → LeavesSound old new
leaves_put old new n base policy c follows (Ok _) is taken stays number can = record {
  held = taken.0;
  shown = shown_after (publish_steps n (edition_bytes base c.cert_text.items policy follows)) old.state new.state taken.1;
  sound = leaves_by old.state new.state n base policy c follows is stays number can;
}
leaves_put old new n base policy c follows (Err _) is taken stays number can = record {
  held = taken.0;
  shown = taken.1;
  sound = leaves_by old.state new.state n base policy c follows is stays number can;
}

-- a folder in which nothing changed
same_sound : (o p : Option FolderState) → p ≡ o → IfSome o (λ f. IsSoundFolder f → IfSome p (λ now. IsSoundFolder now × KeepsEditions f now))
same_sound None p is = tt
same_sound (Some f) p is = λ sound. subst (λ (q : Option FolderState). IfSome q (λ now. IsSoundFolder now × KeepsEditions f now)) (sym is) (sound, λ n files e. e)

pub leaves_same : (old new : SeenFolder) → new.held ≡ old.held → new.state ≡ old.state → LeavesSound old new
leaves_same old new held is = record { held = held; shown = ap is_some is; sound = same_sound old.state new.state is }

-- one call after another
then_sound : (o p q : Option FolderState) → is_some p ≡ is_some o
    → IfSome o (λ f. IsSoundFolder f → IfSome p (λ now. IsSoundFolder now × KeepsEditions f now))
    → IfSome p (λ f. IsSoundFolder f → IfSome q (λ now. IsSoundFolder now × KeepsEditions f now))
    → IfSome o (λ f. IsSoundFolder f → IfSome q (λ now. IsSoundFolder now × KeepsEditions f now))
then_sound None p q shown a b = tt
then_sound (Some f) None q shown a b = absurd cc
then_sound (Some f) (Some g) None shown a b = λ sound. tt
then_sound (Some f) (Some g) (Some h) shown a b = λ sound.
    let one = a sound in
    let two = b one.0 in
    (two.0, λ n files e. two.1 n files (one.1 n files e))

pub leaves_then : (a b c : SeenFolder) → LeavesSound a b → LeavesSound b c → LeavesSound a c
leaves_then a b c one two = record {
  held = two.held ∙ one.held;
  shown = two.shown ∙ one.shown;
  sound = then_sound a.state b.state c.state one.shown one.sound two.sound;
}

-- what a put is, and what it leaves, after a number was found
pub put_is : (a b d : SeenFolder) (n : ℕ) (e edition : EditionBytes) → edition ≡ e → b.state ≡ a.state → d.state ≡ option_map (after_steps (publish_steps n edition)) b.state → IfSome a.state (λ f. IsNewNumber f.editions n) → IsPut a d n e
put_is a b d n e edition is same taken new = record {
  state = subst (λ (one : EditionBytes). d.state ≡ option_map (after_steps (publish_steps n one)) b.state) is taken ∙ ap (option_map (after_steps (publish_steps n e))) same;
  number = new;
}

pub put_leaves : {E : Type 0} (a b d : SeenFolder) (n : ℕ) (base policy : List ℕ) (c : Candidate) (follows : Option ℕ) (edition : EditionBytes) (r : Result (Unit {0}) E)
    → edition ≡ edition_bytes base c.cert_text.items policy follows → b.held ≡ a.held → b.state ≡ a.state → IsToPublish base policy c → IfSome a.state (λ f. IsNewNumber f.editions n) → CanFollowIn a c follows
    → AreTaken (publish_steps n edition) b d r → StaysSound (publish_steps n edition) b d → LeavesSound a d
put_leaves a b d n base policy c follows edition r is held same checked new can taken stays =
    let New : Option FolderState → Type 0 = λ o. IfSome o (λ f. IsNewNumber f.editions n) in
    let Can : Option FolderState → Type 0 = λ o. IfSome o (λ f. IsSoundFolder f → CanFollow f c follows) in
    leaves_then a b d (leaves_same a b held same)
    (leaves_put b d n base policy c follows r checked
    (subst (λ (one : EditionBytes). AreTaken (publish_steps n one) b d r) is taken)
    (subst (λ (one : EditionBytes). StaysSound (publish_steps n one) b d) is stays)
    (subst New (sym same) new) (subst Can (sym same) can))

-- the number that follows those of a folder is new in it
new_in : (o : Option FolderState) (numbers : List ℕ) (n : ℕ) → IfSome o (λ f. numbers ≡ map (λ e. e.0) f.editions) → next_number numbers ≡ Some n → IfSome o (λ f. IsNewNumber f.editions n)
new_in None numbers n is e = tt
new_in (Some f) numbers n is e = next_new f.editions n (sym (ap next_number is) ∙ e)

pub new_by : {E : Type 0} (o p : Option FolderState) (numbers slice : List ℕ) (r : Result ℕ E) → p ≡ o → slice ≡ numbers → IfSome p (λ f. numbers ≡ map (λ e. e.0) f.editions) → next_number slice ≡ result_ok r → IfOk r (λ n. IfSome o (λ f. IsNewNumber f.editions n))
new_by o p numbers slice (Err e) same is there next = tt
new_by o p numbers slice (Ok n) same is there next =
    new_in o numbers n (subst (λ (q : Option FolderState). IfSome q (λ f. numbers ≡ map (λ e. e.0) f.editions)) same there) (sym (ap next_number is) ∙ next)
