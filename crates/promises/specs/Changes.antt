-- The promise of a change of edition.
use Rattle.std.specs.Prelude.{◌≡◌, ◌≤◌, ℕ, List, Contains}
use Rattle.page_ids.specs.Ids.{Id}
use Rattle.page_ids.specs.declared.key.Key.{Key}
use Rattle.frame_records.specs.declared.base.Sought.TheVariants.{Found}
use Rattle.frame_records.specs.Bases.{BaseView}
use Rattle.frame_records.specs.Seek.{seek}
use Rattle.cert_table.specs.Table.{CertView}
use Rattle.checker.specs.declared.policy.Policy.{Policy}
use Rattle.checker.specs.Safe.{HasRows}
use Rattle.session_machine.specs.Sessions.{SessionState, At, opening}
use Rattle.session_machine.specs.Runs.{state_after}
use Rattle.base_text.specs.Whole.{IsTextBase}
use Rattle.cert_text.specs.Grammar.{IsCertificateText}
use Rattle.pageaudit.specs.ChangeRun.{EditionFiles}
use Rattle.promises.specs.Kept.{IsKept, IsKeptFromEntry}
use Rattle.promises.specs.Headlines.{IsAllOf}

-- a frame is found for the caller, at no more than the ceiling
abbrev pub IsFoundWithin : List ℕ → BaseView → ℕ → Id → Type 0
IsFoundWithin caller base ceiling id = (price : ℕ) × (seek caller base id ≡ Found price) × (price ≤ ceiling)

-- the present frame and each remembered one is
abbrev pub AreHeld : List ℕ → BaseView → ℕ → SessionState → Type 0
AreHeld caller base ceiling state =
    (id : Id) (remembered : List Id) → state ≡ At id remembered
    → IsFoundWithin caller base ceiling id × ((held : Id) → Contains remembered held → IsFoundWithin caller base ceiling held)

-- while an edition is served, from a state on: all that is kept, and at every moment what is held is found in it
pub record IsKeptHolding (caller : List ℕ) (base : BaseView) (cert : CertView) (from : SessionState) : Type 0 where
  pub kept : IsKept caller base cert.ceiling cert.keyings from
  pub held : (keys : List Key) → AreHeld caller base cert.ceiling (state_after caller base from keys)

-- the old edition is kept from its entry page on, whose state has rows in its certificate; and from every state that has, it is kept
-- after any keys, and the new edition from the state to which these led, after any more, which has rows in the new certificate
pub record IsKeptOver (policy : Policy) (old : BaseView) (old_cert : CertView) (new : BaseView) (new_cert : CertView) : Type 0 where
  pub entry : IsKeptFromEntry policy.groups old old_cert.ceiling old_cert.keyings
  pub opened : HasRows old_cert.rows (opening old)
  pub before : (from : SessionState) → HasRows old_cert.rows from → IsKeptHolding policy.groups old old_cert from
  pub after : (from : SessionState) (keys : List Key) → HasRows old_cert.rows from
      → IsKeptHolding policy.groups new new_cert (state_after policy.groups old from keys)
  pub rows : (from : SessionState) (keys more : List Key) → HasRows old_cert.rows from
      → HasRows new_cert.rows (state_after policy.groups new (state_after policy.groups old from keys) more)

-- the files of an edition gave the texts of its base and of its certificate
pub record IsEditionRead (files : EditionFiles) (base : BaseView) (cert : CertView) : Type 0 where
  pub base_text : List ℕ
  pub cert_text : List ℕ
  pub base_read : IsAllOf files.base base_text
  pub cert_read : IsAllOf files.cert cert_text
  pub of_base : IsTextBase base_text base
  pub of_cert : IsCertificateText cert_text cert

-- all four files did
pub record HoldsOfFourFiles (old_files new_files : EditionFiles) (policy : Policy) : Type 0 where
  pub old : BaseView
  pub old_cert : CertView
  pub new : BaseView
  pub new_cert : CertView
  pub old_read : IsEditionRead old_files old old_cert
  pub new_read : IsEditionRead new_files new new_cert
  pub kept : IsKeptOver policy old old_cert new new_cert
