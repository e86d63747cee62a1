-- When a certificate is right about a base. The caller is the list of the groups to which the caller belongs.
use Rattle.std.specs.Prelude.{◌≡◌, ℕ, ◌<◌, ◌≤◌, ◌⊎◌, Bool, true, List, Some, is_some}
use Rattle.std.specs.List.{AllByRecursion}
use Rattle.page_ids.specs.Ids.{Id}
use Rattle.page_ids.specs.declared.way.Way.{Way}
use Rattle.page_ids.specs.declared.way.Way.TheVariants.{Route, Next}
use Rattle.frame_records.specs.declared.frame.Frame.{Frame}
use Rattle.frame_records.specs.Bases.{BaseView, frame_at, lists_outside}
use Rattle.frame_records.specs.Seek.{is_open, entry_of}
use Rattle.frame_records.specs.Ways.{sought}
use Rattle.terminal_codes.specs.Bodies.{IsClean}
use Rattle.abstract_paint.specs.declared.cursor.AbsCursor.{AbsCursor}
use Rattle.abstract_paint.specs.Paint.{Ends}
use Rattle.cert_table.specs.declared.row.Row.{Row}
use Rattle.cert_table.specs.Table.{row_among, CertView}
use Rattle.checker.specs.declared.policy.Policy.{Policy}

-- the id has a row
abbrev pub is_row_of : List Row → Id → Bool
is_row_of rows id = is_some (row_among rows id)

-- the frame that a way seeks has a row; a route may also lead to an outside page
abbrev pub LeadsOn : BaseView → List Row → Way → Id → Type 0
LeadsOn base rows (Route digit) to = (lists_outside base to.page ≡ true) ⊎ (is_row_of rows to ≡ true)
LeadsOn base rows Next to = is_row_of rows to ≡ true

-- each way that the frame offers leads on
abbrev pub WaysLeadOn : BaseView → List Row → Frame → Type 0
WaysLeadOn base rows f = (way : Way) (to : Id) → sought f way ≡ Some to → LeadsOn base rows way to

-- some way of the frame leads to a row of lower rank
pub record LeadsDown (rows : List Row) (f : Frame) (rank : ℕ) : Type 0 where
  pub way : Way
  pub to : Id
  pub row : Row
  pub offered : sought f way ≡ Some to
  pub covered : row_among rows to ≡ Some row
  pub lower : row.rank < rank

-- a row is right: its frame is there and open, costs and ranks no more than the certificate says, writes nothing that counts
-- as written in a service row, and ends where the cursor says; its ways lead outside or to rows; rank 0 is the entry frame's
-- alone, and from any other rank some way leads to a lower one
pub record IsGoodRow (caller : List ℕ) (base : BaseView) (cert : CertView) (id : Id) (rank : ℕ) (cursor : AbsCursor) : Type 0 where
  pub frame : Frame
  pub found : frame_at base id ≡ Some frame
  pub admitted : is_open caller frame ≡ true
  pub price : frame.price ≤ cert.ceiling
  pub most : rank ≤ cert.keyings
  pub clean : IsClean frame.lead frame.body
  pub ends : Ends frame.lead frame.body cursor
  pub ways : WaysLeadOn base cert.rows frame
  pub zero : rank ≡ 0 → id ≡ entry_of base
  pub down : 0 < rank → LeadsDown cert.rows frame rank

-- the certificate is the base's, is within the policy, speaks for its groups, covers the entry frame, and each of its rows
-- is right for a caller of those
pub record Good (base : BaseView) (policy : Policy) (cert : CertView) : Type 0 where
  pub entry : cert.entry ≡ base.entry
  pub ceiling : cert.ceiling ≤ policy.ceiling
  pub keyings : cert.keyings ≤ policy.keyings
  pub groups : policy.groups ≡ cert.groups
  pub covered : is_row_of cert.rows (entry_of base) ≡ true
  pub rows : AllByRecursion (λ r. IsGoodRow cert.groups base cert r.id r.rank r.cursor) cert.rows
