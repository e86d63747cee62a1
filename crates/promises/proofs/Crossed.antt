-- The promise of a change of edition.
use Rattle.std.proofs.Common.{ℕ, List, [], subst}
use Rattle.page_ids.specs.Ids.{Id}
use Rattle.frame_records.specs.Bases.{BaseView}
use Rattle.cert_table.specs.Table.{CertView}
use Rattle.checker.specs.declared.policy.Policy.{Policy}
use Rattle.checker.specs.Change.{IsFoundFor, AreHeldFound, IsSafeFrom, IsSafeChange}
use Rattle.session_machine.specs.Sessions.{SessionState}
use Rattle.pageaudit.specs.ChangeRun.{EditionFiles, IsEditionOf, HoldsOfChange}
use Rattle.promises.specs.Changes.{IsFoundWithin, AreHeld, IsKeptHolding, IsKeptOver, IsEditionRead, HoldsOfFourFiles}
use Rattle.frame_records.proofs.OneBase.{all_at}
use Rattle.promises.proofs.Kept.{kept, kept_from_entry}
use Rattle.promises.proofs.Headlines.{all_of}

found_within : (caller : List ℕ) (base : BaseView) (ceiling : ℕ) (id : Id) → IsFoundFor caller base ceiling id → IsFoundWithin caller base ceiling id
found_within caller base ceiling id h = (h.price, h.found, h.fair)

held : (caller : List ℕ) (base : BaseView) (ceiling : ℕ) (state : SessionState) → AreHeldFound caller base ceiling state → AreHeld caller base ceiling state
held caller base ceiling state h id remembered e =
    let at = subst (AreHeldFound caller base ceiling) e h in
    (found_within caller base ceiling id at.0, λ one is. found_within caller base ceiling one (all_at (IsFoundFor caller base ceiling) remembered one at.1 is))

holding : (caller : List ℕ) (base : BaseView) (cert : CertView) (from : SessionState) → IsSafeFrom caller base cert.ceiling cert.keyings from → IsKeptHolding caller base cert from
holding caller base cert from h = record {
  kept = kept caller base cert.ceiling cert.keyings from h.fair h.clean h.regains;
  held = λ keys. held caller base cert.ceiling _ (h.held keys);
}

pub over : (policy : Policy) (old : BaseView) (old_cert : CertView) (new : BaseView) (new_cert : CertView) → IsSafeChange policy old old_cert new new_cert → IsKeptOver policy old old_cert new new_cert
over policy old old_cert new new_cert h = record {
  entry = kept_from_entry _ old old_cert.ceiling old_cert.keyings h.safe;
  opened = h.opened;
  before = λ from rows. holding _ old old_cert from (h.crossed from [] [] rows).each.0;
  after = λ from keys rows. holding _ new new_cert _ (h.crossed from keys [] rows).each.1.0;
  rows = λ from keys more rows. (h.crossed from keys more rows).rows;
}

edition_read : (files : EditionFiles) (base : BaseView) (cert : CertView) → IsEditionOf files base cert → IsEditionRead files base cert
edition_read files base cert h = record {
  base_text = h.base_read.text;
  cert_text = h.cert_read.text;
  base_read = all_of _ files.base h.base_read.text h.base_read.read;
  cert_read = all_of _ files.cert h.cert_read.text h.cert_read.read;
  of_base = h.base_read.is;
  of_cert = h.cert_read.is;
}

pub of_change : (old_files new_files : EditionFiles) (policy : Policy) → HoldsOfChange old_files new_files policy → HoldsOfFourFiles old_files new_files policy
of_change old_files new_files policy h = record {
  old = h.old;
  old_cert = h.old_cert;
  new = h.new;
  new_cert = h.new_cert;
  old_read = edition_read old_files h.old h.old_cert h.old_read;
  new_read = edition_read new_files h.new h.new_cert h.new_read;
  kept = over policy h.old h.old_cert h.new h.new_cert h.what;
}
