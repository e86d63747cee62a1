-- Editions that are taken, and the one that is current.
use Rattle.std.proofs.Common.{◌≡◌, ◌≢◌, ℕ, List, [], ◌∷◌, Option, Some, None, refl, sym, ap, ◌∙◌, subst}
use Rattle.editions.specs.Folders.{FolderState, SeenFolder, IsLater}
use Rattle.editions.specs.NumberLines.{current_in}
use Rattle.edition_checks.specs.declared.served.Served.{Served}
use Rattle.edition_checks.specs.Served.{IfHeld}
use Rattle.edition_checks.specs.NextEditions.{IsEditionReached}
use Rattle.edition_checks.proofs.Reached.{held_before}
use Rattle.one_call.specs.Loops.{IsRenewed}
use Rattle.one_call.specs.Opened.{NamesCurrent, AreServed, MayChange}
use Rattle.one_call.specs.Parts.{Parts, First, Then, served_now}
use Rattle.std.specs.Prelude.{IfSome}

-- what follows of what holds of a folder
pub held_then : (folder : SeenFolder) (P Q : FolderState → Type 0) → ((f : FolderState) → P f → Q f) → IfHeld folder P → IfHeld folder Q
held_then folder P Q then h = λ held. by folder.state (h held) where
  by : (o : Option FolderState) → IfSome o P → IfSome o Q
  by None p = tt
  by (Some f) p = then f p

held_both : (folder : SeenFolder) (P Q : FolderState → Type 0) → IfHeld folder (λ f. P f → Q f) → IfHeld folder P → IfHeld folder Q
held_both folder P Q then h = λ held. by folder.state (then held) (h held) where
  by : (o : Option FolderState) → IfSome o (λ f. P f → Q f) → IfSome o P → IfSome o Q
  by None t p = tt
  by (Some f) t p = t p

-- `current` names one number
names_one : (f : FolderState) (n m : ℕ) → NamesCurrent n f → NamesCurrent m f → n ≡ m
names_one f n m a b =
    let texts : Some b.text ≡ Some a.text = sym b.current ∙ a.current in
    let same : b.text ≡ a.text = cc in
    let numbers : Some n ≡ Some m = sym a.named ∙ (ap current_in (sym same) ∙ b.named) in
    cc

held_always : (folder : SeenFolder) (P : FolderState → Type 0) → ((f : FolderState) → P f) → IfHeld folder P
held_always folder P always = λ held. by folder.state where
  by : (o : Option FolderState) → IfSome o P
  by None = tt
  by (Some f) = always f

pub renewed_none : (folder : SeenFolder) (s : Served) → IsRenewed folder s s
renewed_none folder s = record {
  reached = record { editions = []; next = tt; is = refl };
  alone = held_always folder _ (λ f named. refl);
}

pub renewed_other : (folder : SeenFolder) (old new : Served) → IsEditionReached folder old new → IfHeld folder (NamesCurrent new.number) → new.number ≢ old.number → IsRenewed folder old new
renewed_other folder old new reached current other = record {
  reached = reached;
  alone = held_then folder (NamesCurrent new.number) (λ f. NamesCurrent old.number f → reached.editions ≡ [])
      (λ f named old_named. absurd (other (names_one f new.number old.number named old_named))) current;
}

-- the edition that is served is the current one, if nobody else changes the folder
current_now : (groups : List ℕ) (folder : SeenFolder) (parts : Parts) → AreServed groups folder parts → IfHeld folder (NamesCurrent (served_now parts).number)
current_now groups folder (First s bytes) h = held_then folder _ (NamesCurrent s.number) (λ f is. is.named) h.1.is.current
current_now groups folder (Then before s bytes) h = held_then folder _ (NamesCurrent s.number) (λ f no. absurd no) h.2

pub none_alone : (groups : List ℕ) (start at : SeenFolder) (parts : Parts) (old new : Served) (h : IsRenewed at old new) → AreServed groups start parts → old ≡ served_now parts → IsLater start at
    → IfHeld start (λ f. h.reached.editions ≡ [])
none_alone groups start at parts old new h served now later =
    held_both start (NamesCurrent old.number) (λ f. h.reached.editions ≡ [])
    (held_before start at (λ f. NamesCurrent old.number f → h.reached.editions ≡ []) later h.alone)
    (subst (λ (s : Served). IfHeld start (NamesCurrent s.number)) (sym now) (current_now groups start parts served))

-- so if there are others it may change
pub may_change : (folder : SeenFolder) (s : Served) (earlier : List Served) → IfHeld folder (λ f. (s ∷ earlier) ≡ []) → MayChange folder
may_change folder s earlier h = held_then folder (λ f. (s ∷ earlier) ≡ []) (λ f. ⊥) (λ f e. absurd cc) h
