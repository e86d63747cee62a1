-- What a body does, sent after its lead.
use Rattle.std.specs.Prelude.{ℕ, List, [], ◌∷◌, ◌≡◌, Bool, ◌++◌, ◌<◌, true, length, take, slice_index, ◌↔◌}
use Rattle.frame_records.specs.declared.frame.Lead.{Lead}
use Rattle.frame_records.specs.declared.frame.Lead.TheVariants.{Clear, Keep}
use Rattle.terminal_codes.specs.Screen.{Screen, IsScreen, run}
use Rattle.terminal_codes.specs.Writes.{caret_of, writes, has_service, touches, caret_run}
use Rattle.terminal_codes.specs.declared.caret.Caret.{Caret}

-- What the centre sends before a body.

-- clear, home, one row down; or nothing
abbrev pub lead_codes : Lead → List ℕ
lead_codes Clear = 12 ∷ 30 ∷ 10 ∷ []
lead_codes Keep = []

-- Where a terminal is once a body was sent after its lead. Some terminal is enough.

-- some terminal ends at position p with the pending flag q
abbrev pub EndsAt : Lead → List ℕ → ℕ → Bool → Type 0
EndsAt lead body p q = (t : Screen) × IsScreen t × (caret_of (run t (lead_codes lead ++ body)) ≡ record { at = p; pending = q })

-- Where a body, sent after its lead, first writes a service position. Some terminal is enough.

-- the lead and the first i bytes of the body
abbrev pub sent : Lead → List ℕ → ℕ → List ℕ
sent lead body i = lead_codes lead ++ take i body

-- from this terminal the byte at i writes a service position
abbrev pub TouchesFrom : Lead → List ℕ → ℕ → Screen → Type 0
TouchesFrom lead body i t = (i < length body) × (has_service (writes (run t (sent lead body i)) (slice_index body i ∷ [])) ≡ true)

-- from some terminal it does
abbrev pub TouchesAt : Lead → List ℕ → ℕ → Type 0
TouchesAt lead body i = (t : Screen) × IsScreen t × TouchesFrom lead body i t

-- no byte does
abbrev pub IsClean : Lead → List ℕ → Type 0
IsClean lead body = (i : ℕ) → TouchesAt lead body i → ⊥

-- the byte at i does, and none before it
pub record IsFirstTouch (lead : Lead) (body : List ℕ) (i : ℕ) : Type 0 where
  pub touch : TouchesAt lead body i
  pub first : (j : ℕ) → j < i → TouchesAt lead body j → ⊥

-- The 1,920 starts, a position and a pending flag each, stand for all terminals.

-- from this start the byte at i writes a service position
abbrev pub StartTouches : Lead → List ℕ → ℕ → Caret → Type 0
StartTouches lead body i c = (i < length body) × (touches (caret_run c (sent lead body i)) (slice_index body i) ≡ true)

-- from this start the body ends at position p with the pending flag q
abbrev pub StartEnds : Lead → List ℕ → ℕ → Bool → Caret → Type 0
StartEnds lead body p q c = caret_run c (lead_codes lead ++ body) ≡ record { at = p; pending = q }

-- it is enough to try the 1,920 starts
pub record StartsAreEnough (lead : Lead) (body : List ℕ) : Type 0 where
  pub touch : (i : ℕ) → TouchesAt lead body i ↔ ((c : Caret) × (c.at < 960) × StartTouches lead body i c)
  pub ends : (p : ℕ) (q : Bool) → EndsAt lead body p q ↔ ((c : Caret) × (c.at < 960) × StartEnds lead body p q c)

-- for every lead and body
abbrev pub StartsDecide : Type 0
StartsDecide = (lead : Lead) (body : List ℕ) → StartsAreEnough lead body
