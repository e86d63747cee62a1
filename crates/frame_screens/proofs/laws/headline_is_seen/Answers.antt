use Rattle.session_machine.specs.Sessions.{opening}
use Rattle.session_machine.specs.Runs.{replies_to}
use Rattle.frame_records.specs.Seek.{entry_of}
use Rattle.frame_screens.proofs.Rows.{seen_any, seen_new}
use Rattle.frame_screens.proofs.laws.headline_is_seen.Goals as goal

pub returns : goal.returns
returns c = λ base policy cert apart cleared keys.
    let good = (c.cleared_is_good.ensures base policy cert).0 cleared in
    let safe = c.good_is_safe.ensures.safe base policy cert apart good in
    let replies = replies_to cert.groups base (opening base) keys in
    record {
      any = seen_any base (entry_of base) replies safe.entry_clean (safe.clean keys);
      new = seen_new base (entry_of base) replies safe.entry_clean (safe.clean keys);
    }
