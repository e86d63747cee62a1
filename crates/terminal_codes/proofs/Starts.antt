-- A statement over all terminals is one over the starts.
use Rattle.std.proofs.Common.{◌≡◌, ℕ, ◌<◌, ap, sym, ◌∙◌, Bool, true, List, [], ◌∷◌, ◌++◌, slice_index, replicate, subst}
use Rattle.std.proofs.lemmas.List.{append-nil, length-replicate}
use Rattle.terminal_codes.specs.declared.caret.Caret.{Caret}
use Rattle.frame_records.specs.declared.frame.Lead.{Lead}
use Rattle.terminal_codes.specs.Screen.{Screen, IsScreen, run}
use Rattle.terminal_codes.specs.Writes.{caret_of, byte_writes, writes, has_service, touches, caret_run}
use Rattle.terminal_codes.specs.Bodies.{lead_codes, sent, TouchesAt, EndsAt, StartTouches, StartEnds, StartsAreEnough}
use Rattle.terminal_codes.proofs.Runs.{caret_of_run}
use Rattle.terminal_codes.proofs.Stores.{screen_of_run}

-- a blank terminal (20 is a space) at a start
abbrev pub screen_at : Caret → Screen
screen_at c = record { cells = replicate 960 32; at = c.at; pending = c.pending; visible = true }

-- what a terminal does at its caret
pub has_service_at_caret : (t : Screen) (xs : List ℕ) (b : ℕ) → has_service (writes (run t xs) (b ∷ [])) ≡ touches (caret_run (caret_of t) xs) b
has_service_at_caret t xs b =
    ap has_service (append-nil (byte_writes (caret_of (run t xs)) b)) ∙ ap (λ (c : Caret). touches c b) (caret_of_run t xs)

pub screen_at_is : (c : Caret) → c.at < 960 → IsScreen (screen_at c)
screen_at_is c lt = record { cells = length-replicate {A = ℕ} 960 32; at = lt }

pub touch_to_start : (lead : Lead) (body : List ℕ) (i : ℕ) → TouchesAt lead body i → (c : Caret) × (c.at < 960) × StartTouches lead body i c
touch_to_start lead body i h =
    (caret_of h.0, h.1.at, (h.2.0, sym (has_service_at_caret h.0 (sent lead body i) (slice_index body i)) ∙ h.2.1))

pub touch_from_start : (lead : Lead) (body : List ℕ) (i : ℕ) → ((c : Caret) × (c.at < 960) × StartTouches lead body i c) → TouchesAt lead body i
touch_from_start lead body i h =
    (screen_at h.0, screen_at_is h.0 h.1, (h.2.0, has_service_at_caret (screen_at h.0) (sent lead body i) (slice_index body i) ∙ h.2.1))

pub ends_to_start : (lead : Lead) (body : List ℕ) (p : ℕ) (q : Bool) → EndsAt lead body p q → (c : Caret) × (c.at < 960) × StartEnds lead body p q c
ends_to_start lead body p q h = (caret_of h.0, h.1.at, sym (caret_of_run h.0 (lead_codes lead ++ body)) ∙ h.2)

pub ends_from_start : (lead : Lead) (body : List ℕ) (p : ℕ) (q : Bool) → ((c : Caret) × (c.at < 960) × StartEnds lead body p q c) → EndsAt lead body p q
ends_from_start lead body p q h = (screen_at h.0, screen_at_is h.0 h.1, caret_of_run (screen_at h.0) (lead_codes lead ++ body) ∙ h.2)

pub starts_are_enough : (lead : Lead) (body : List ℕ) → StartsAreEnough lead body
starts_are_enough lead body = record {
  touch = λ i. (touch_to_start lead body i, touch_from_start lead body i);
  ends = λ p q. (ends_to_start lead body p q, ends_from_start lead body p q);
}

-- a run stays on the screen
pub caret_run_small : (c : Caret) (xs : List ℕ) → c.at < 960 → (caret_run c xs).at < 960
caret_run_small c xs lt = subst (λ (u : Caret). u.at < 960) (caret_of_run (screen_at c) xs) (screen_of_run (screen_at c) xs (screen_at_is c lt)).at
