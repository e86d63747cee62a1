-- The laws of the check, of every caller, base, policy and certificate.
use Rattle.std.specs.Prelude.{◌≡◌, ◌↔◌, List, ℕ, ◌≤◌, Bool, false, [], length, get_or}
use Rattle.page_ids.specs.declared.key.Key.{Key}
use Rattle.frame_records.specs.Bases.{BaseView, AreApart}
use Rattle.session_machine.specs.Sessions.{opening}
use Rattle.session_machine.specs.Runs.{state_after}
use Rattle.cert_table.specs.Table.{CertView}
use Rattle.checker.specs.declared.policy.Policy.{Policy}
use Rattle.checker.specs.declared.verdict.Cause.{Cause}
use Rattle.checker.specs.declared.verdict.Verdict.TheVariants.{Cleared, Refused}
use Rattle.checker.specs.Good.{Good}
use Rattle.checker.specs.Safe.{Safe, HasRows}
use Rattle.checker.specs.Verdict.{conditions, verdict}
use Rattle.std.specs.List.{AllByRecursion, list_any}
use Rattle.frame_records.specs.declared.frame.Lead.{Lead}
use Rattle.base_text.specs.Rows.{IsTextRow, body_of_rows}
use Rattle.terminal_codes.specs.Bodies.{IsClean}
use Rattle.terminal_codes.specs.Writes.{is_double_height}

-- a good certificate makes every session safe. The premise is what every base keeps: no frame is on an outside page
abbrev pub GoodIsSafe : Type 0
GoodIsSafe = (base : BaseView) (policy : Policy) (cert : CertView) → AreApart base → Good base policy cert → Safe cert.groups base cert.ceiling cert.keyings

-- after every list of keys the present frame and each remembered one have rows
abbrev pub GoodKeepsRows : Type 0
GoodKeepsRows = (base : BaseView) (policy : Policy) (cert : CertView) → AreApart base → Good base policy cert → (keys : List Key) → HasRows cert.rows (state_after cert.groups base (opening base) keys)

-- cleared if and only if the certificate is good
abbrev pub ClearedIsGood : Type 0
ClearedIsGood = (base : BaseView) (policy : Policy) (cert : CertView) → (verdict base policy cert ≡ Cleared) ↔ Good base policy cert

-- refused for a cause if and only if its condition is the first that fails
abbrev pub RefusedIsFirst : Type 0
RefusedIsFirst = (base : BaseView) (policy : Policy) (cert : CertView) (c : Cause) → (verdict base policy cert ≡ Refused c) ↔ (conditions base policy cert).FailsFor c

-- Frames that are given as rows.

-- double height is among the codes
abbrev pub has_double_height : List ℕ → Bool
has_double_height codes = list_any is_double_height codes

-- the 22nd row, which is above a service row; no codes if there are fewer rows
abbrev pub row_22 : List (List ℕ) → List ℕ
row_22 rows = get_or rows 21 []

-- at most 22 rows, under either lead, are clean if and only if the 22nd has no double height
abbrev pub RowsAreClean : Type 0
RowsAreClean =
    (lead : Lead) (rows : List (List ℕ)) →
    length rows ≤ 22 →
    AllByRecursion IsTextRow rows →
    IsClean lead (body_of_rows rows) ↔ (has_double_height (row_22 rows) ≡ false)
