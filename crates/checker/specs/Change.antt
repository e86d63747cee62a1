-- A change of edition, and what is promised of it.
use Rattle.std.specs.Prelude.{◌≡◌, List, [], ◌∷◌, ◌==◌, true, false, Option, Some, None, if◌then◌else◌, ◌≤◌, ℕ}
use Rattle.std.specs.Ordering.{is_lt}
use Rattle.page_ids.specs.Ids.{Id, id_cmp}
use Rattle.frame_records.specs.Bases.{BaseView, AreApart}
use Rattle.cert_table.specs.declared.row.Row.{Row}
use Rattle.cert_table.specs.Table.{AreRows, CertView}
use Rattle.checker.specs.declared.policy.Policy.{Policy}
use Rattle.checker.specs.declared.verdict.Verdict.{Verdict}
use Rattle.checker.specs.declared.verdict.Verdict.TheVariants as verdicts
use Rattle.checker.specs.declared.change.ChangeVerdict.{ChangeVerdict}
use Rattle.checker.specs.declared.change.ChangeVerdict.TheVariants.{Cleared, Old, New, EntryMoved, NoLongerCovered}
use Rattle.checker.specs.Good.{is_row_of}
use Rattle.checker.specs.Verdict.{verdict}
use Rattle.std.specs.List.{AllByRecursion}
use Rattle.page_ids.specs.declared.key.Key.{Key}
use Rattle.frame_records.specs.declared.base.Sought.TheVariants.{Found}
use Rattle.frame_records.specs.Seek.{seek}
use Rattle.session_machine.specs.Sessions.{SessionState, At, Left, opening}
use Rattle.session_machine.specs.Runs.{state_after, replies_to, Part, state_over, replies_over, IsFairReply, LeftOrRegains}
use Rattle.checker.specs.Safe.{Safe, IsCleanReply, HasRows}

-- What the check of a change of edition answers: the first condition that fails, in one order.

-- the first id with a row in the old table and none in the new one; rows are in the order of their ids, so it is the
-- smallest (`LostIsLeast`)
abbrev pub lost_id : List Row → List Row → Option Id
lost_id [] new = None
lost_id (row ∷ old) new = if is_row_of new row.id then lost_id old new else Some row.id

-- E2
abbrev pub unless_lost : Option Id → ChangeVerdict
unless_lost None = Cleared
unless_lost (Some id) = NoLongerCovered id

-- E1, then E2
abbrev pub keeps_covered : BaseView → CertView → BaseView → CertView → ChangeVerdict
keeps_covered old old_cert new new_cert =
    if old.entry == new.entry
    then unless_lost (lost_id old_cert.rows new_cert.rows)
    else EntryMoved

-- the old edition's own check comes first
abbrev pub unless_old : Verdict → ChangeVerdict → ChangeVerdict
unless_old verdicts.Cleared later = later
unless_old (verdicts.Refused cause) later = Old cause

-- then the new edition's
abbrev pub unless_new : Verdict → ChangeVerdict → ChangeVerdict
unless_new verdicts.Cleared later = later
unless_new (verdicts.Refused cause) later = New cause

-- Cleared, or the first condition that fails
abbrev pub change_verdict : Policy → BaseView → CertView → BaseView → CertView → ChangeVerdict
change_verdict policy old old_cert new new_cert =
    unless_old (verdict old policy old_cert)
    (unless_new (verdict new policy new_cert) (keeps_covered old old_cert new new_cert))

-- the smallest id with a row in the old table and none in the new one
pub record IsLeastLost (old new : List Row) (id : Id) : Type 0 where
  pub covered : is_row_of old id ≡ true
  pub lost : is_row_of new id ≡ false
  pub least : (other : Id) → is_row_of old other ≡ true → is_row_of new other ≡ false → is_lt (id_cmp other id) ≡ false

-- E2 names the smallest lost id. The premise is what every cover keeps: rows are in the order of their ids
abbrev pub LostIsLeast : Type 0
LostIsLeast = (policy : Policy) (old : BaseView) (old_cert : CertView) (new : BaseView) (new_cert : CertView) (id : Id) → AreRows old_cert.rows → change_verdict policy old old_cert new new_cert ≡ NoLongerCovered id → IsLeastLost old_cert.rows new_cert.rows id

-- What callers are promised while the edition changes around them.

-- a base with its certificate, and the keys that are pressed while it is served
pub record Edition : Type 0 where
  pub base : BaseView
  pub cert : CertView
  pub keys : List Key

abbrev pub edition : BaseView → CertView → List Key → Edition
edition base cert keys = record { base = base; cert = cert; keys = keys }

-- editions in turn as a session's parts
abbrev pub session_parts : List Edition → List Part
session_parts [] = []
session_parts (e ∷ editions) = record { base = e.base; keys = e.keys } ∷ session_parts editions

-- the frame is sought and found, at no more than the ceiling
pub record IsFoundFor (caller : List ℕ) (base : BaseView) (ceiling : ℕ) (id : Id) : Type 0 where
  pub price : ℕ
  pub found : seek caller base id ≡ Found price
  pub fair : price ≤ ceiling

-- the present frame and each remembered one are
abbrev pub AreHeldFound : List ℕ → BaseView → ℕ → SessionState → Type 0
AreHeldFound caller base ceiling (At id remembered) = IsFoundFor caller base ceiling id × AllByRecursion (IsFoundFor caller base ceiling) remembered
AreHeldFound caller base ceiling (Left page) = Unit {0}

-- from a state on, while the base is served, and whatever keys are pressed: what is held is found there; no reply is Missing or
-- Closed, and what is shown costs at most the ceiling; it is clean; at every moment, before the first key too, the caller left
-- or regains the entry frame within the keyings
pub record IsSafeFrom (caller : List ℕ) (base : BaseView) (ceiling keyings : ℕ) (state : SessionState) : Type 0 where
  pub held : (keys : List Key) → AreHeldFound caller base ceiling (state_after caller base state keys)
  pub fair : (keys : List Key) → AllByRecursion (IsFairReply ceiling) (replies_to caller base state keys)
  pub clean : (keys : List Key) → AllByRecursion (IsCleanReply base) (replies_to caller base state keys)
  pub regains : (keys : List Key) → LeftOrRegains caller base keyings (state_after caller base state keys)

-- each edition in turn is safe from the state in which its keys begin, within its own certificate
abbrev pub AreSafeInTurn : List ℕ → SessionState → List Edition → Type 0
AreSafeInTurn caller state [] = Unit {0}
AreSafeInTurn caller state (e ∷ editions) = IsSafeFrom caller e.base e.cert.ceiling e.cert.keyings state × AreSafeInTurn caller (state_after caller e.base state e.keys) editions

-- the change from each edition to the next one was cleared
abbrev pub AreCleared : Policy → List Edition → Type 0
AreCleared policy [] = Unit {0}
AreCleared policy (e ∷ []) = Unit {0}
AreCleared policy (e ∷ f ∷ editions) = (change_verdict policy e.base e.cert f.base f.cert ≡ Cleared) × AreCleared policy (f ∷ editions)

-- the rows of the last edition
abbrev pub last_rows : Edition → List Edition → List Row
last_rows e [] = e.cert.rows
last_rows e (f ∷ editions) = last_rows f editions

-- over a session that crosses the changes: each edition is safe in its turn; no reply at all is Missing or Closed or shows a
-- price above the policy's ceiling; at the end the caller left, or all frames held have rows in the last certificate
pub record HoldsOverChanges (policy : Policy) (state : SessionState) (first : Edition) (more : List Edition) : Type 0 where
  pub each : AreSafeInTurn policy.groups state (first ∷ more)
  pub fair : AllByRecursion (IsFairReply policy.ceiling) (replies_over policy.groups state (session_parts (first ∷ more)))
  pub rows : HasRows (last_rows first more) (state_over policy.groups state (session_parts (first ∷ more)))

-- over editions in turn: the frames of the state in which a session of the first edition opens have rows in its certificate;
-- and the promise over the changes holds from every state that left or whose frames all have rows there
pub record IsSafeOverChanges (policy : Policy) (first : Edition) (more : List Edition) : Type 0 where
  pub opened : HasRows first.cert.rows (opening first.base)
  pub crossed : (state : SessionState) → HasRows first.cert.rows state → HoldsOverChanges policy state first more

-- every list of at least two editions, each cleared against the one before it. The premise of the bases is what every base
-- keeps: no frame is on an outside page
abbrev pub ChangesAreSafe : Type 0
ChangesAreSafe = (policy : Policy) (first second : Edition) (more : List Edition) → AllByRecursion (λ e. AreApart e.base) (first ∷ second ∷ more) → AreCleared policy (first ∷ second ∷ more) → IsSafeOverChanges policy first (second ∷ more)

-- for one change: callers are safe in the old edition, in which sessions open; and from every such state, the opening one too,
-- after any keys in the old edition and any in the new one
pub record IsSafeChange (policy : Policy) (old : BaseView) (old_cert : CertView) (new : BaseView) (new_cert : CertView) : Type 0 where
  pub safe : Safe policy.groups old old_cert.ceiling old_cert.keyings
  pub opened : HasRows old_cert.rows (opening old)
  pub crossed : (state : SessionState) (keys more : List Key) → HasRows old_cert.rows state → HoldsOverChanges policy state (edition old old_cert keys) (edition new new_cert more ∷ [])
