-- Editions that are reached from one another.
use Rattle.std.proofs.Common.{List, [], ◌∷◌, Option, Some, None, refl, subst, ◌∙◌}
use Rattle.std.specs.Prelude.{IfSome}
use Rattle.editions.specs.Folders.{FolderState, SeenFolder, IsLater}
use Rattle.edition_checks.specs.declared.served.Served.{Served}
use Rattle.edition_checks.specs.Served.{IfHeld}
use Rattle.edition_checks.specs.NextEditions.{IsNextEdition, AreNext, IsEditionReached, latest_of}
use Rattle.edition_checks.proofs.FolderReads.{before}

-- what holds of a folder later, if nobody else changes it, held of it before
pub held_before : (a b : SeenFolder) (P : FolderState → Type 0) → IsLater a b → IfHeld b P → IfHeld a P
held_before a b P later h = λ held. before a.state b.state P (later.same held) (h (later.held ∙ held))

pub next_before : (a b : SeenFolder) (old new : Served) → IsLater a b → IsNextEdition b old new → IsNextEdition a old new
next_before a b old new later h = record {
  read = h.read;
  fit = h.fit;
  against = h.against;
  there = held_before a b _ later h.there;
  follows = held_before a b _ later h.follows;
}

pub all_next_before : (a b : SeenFolder) (s : Served) (editions : List Served) → IsLater a b → AreNext b s editions → AreNext a s editions
all_next_before a b s [] later h = tt
all_next_before a b s (t ∷ earlier) later h = (next_before a b (latest_of s earlier) t later h.0, all_next_before a b s earlier later h.1)

pub reached_before : (a b : SeenFolder) (old new : Served) → IsLater a b → IsEditionReached b old new → IsEditionReached a old new
reached_before a b old new later h = record { editions = h.editions; next = all_next_before a b old h.editions later h.next; is = h.is }

pub reached_one : (folder : SeenFolder) (s t : Served) → IsNextEdition folder s t → IsEditionReached folder s t
reached_one folder s t h = record { editions = t ∷ []; next = (h, tt); is = refl }

pub reached_more : (folder : SeenFolder) (s t u : Served) → IsEditionReached folder s t → IsNextEdition folder t u → IsEditionReached folder s u
reached_more folder s t u h next = record { editions = u ∷ h.editions; next = (subst (λ (x : Served). IsNextEdition folder x u) h.is next, h.next); is = refl }

pub if_reached_before : (a b : SeenFolder) (old : Served) (new : Option Served) → IsLater a b → IfSome new (IsEditionReached b old) → IfSome new (IsEditionReached a old)
if_reached_before a b old None later h = tt
if_reached_before a b old (Some new) later h = reached_before a b old new later h
