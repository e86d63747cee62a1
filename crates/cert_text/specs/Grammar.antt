-- The text of a certificate.
use Rattle.std.specs.Prelude.{◌≡◌, ℕ, ◌≤◌, Bool, true, false, List, [], ◌∷◌, ◌++◌, length, map, All, decimal, codes}
use Rattle.page_ids.specs.Ids.{IsPageNumber, IsFrameId, page_text, frame_text}
use Rattle.frame_records.specs.declared.limits.TheConstants.{MOST_PENCE}
use Rattle.frame_records.specs.Groups.{AreGroups}
use Rattle.cert_table.specs.declared.limits.TheConstants.{MOST_RANK}
use Rattle.cert_table.specs.declared.row.Row.{Row}
use Rattle.abstract_paint.specs.declared.cursor.AbsCursor.{AbsCursor}
use Rattle.abstract_paint.specs.declared.cursor.Place.{Place}
use Rattle.abstract_paint.specs.declared.cursor.Place.TheVariants.{Any, Col, Spot}
use Rattle.abstract_paint.specs.declared.cursor.Pend.{Pend}
use Rattle.abstract_paint.specs.declared.cursor.Pend.TheVariants.{No, Yes, Maybe}
use Rattle.cert_table.specs.Table.{CertView, AreRows}
use Rattle.abstract_paint.specs.Paint.{OnScreen}

-- `any`, or `c` (99) and a column, or `s` (115) and a position
abbrev pub place_text : Place → List ℕ
place_text Any = codes "any"
place_text (Col c) = 99 ∷ decimal c
place_text (Spot p) = 115 ∷ decimal p

-- nothing, `+` (43), or `?` (63)
abbrev pub pend_text : Pend → List ℕ
pend_text No = []
pend_text Yes = 43 ∷ []
pend_text Maybe = 63 ∷ []

-- a place, then its pending state
abbrev pub cursor_text : AbsCursor → List ℕ
cursor_text x = place_text x.place ++ pend_text x.pend

-- id, a space (32), rank, a space, cursor
abbrev pub row_line : Row → List ℕ
row_line r = frame_text r.id ++ (32 ∷ (decimal r.rank ++ (32 ∷ cursor_text r.cursor)))

-- a word, a space and a number
abbrev pub entry_line : ℕ → List ℕ
entry_line page = codes "entry " ++ page_text page

abbrev pub ceiling_line : ℕ → List ℕ
ceiling_line pence = codes "ceiling " ++ decimal pence

abbrev pub keyings_line : ℕ → List ℕ
keyings_line keys = codes "keyings " ++ decimal keys

abbrev pub rows_line : ℕ → List ℕ
rows_line count = codes "rows " ++ decimal count

-- whether a certificate is for callers of some group
abbrev pub has_groups : List ℕ → Bool
has_groups [] = false
has_groups (group ∷ groups) = true

-- line 1 says whether there is a line of groups
abbrev pub first_line : Bool → List ℕ
first_line false = codes "PBC1"
first_line true = codes "PBC2"

-- the word, and a space (32) and a number for each group
abbrev pub spaced_groups : List ℕ → List ℕ
spaced_groups [] = []
spaced_groups (group ∷ groups) = 32 ∷ (decimal group ++ spaced_groups groups)

abbrev pub groups_line : List ℕ → List ℕ
groups_line groups = codes "groups" ++ spaced_groups groups

-- the line of the groups, if there are any
abbrev pub groups_lines : List ℕ → List (List ℕ)
groups_lines [] = []
groups_lines (group ∷ groups) = groups_line (group ∷ groups) ∷ []

-- the lines before the rows: five, and a sixth if there are groups
abbrev pub head_lines : ℕ → ℕ → ℕ → List ℕ → ℕ → List (List ℕ)
head_lines entry ceiling keyings groups count =
    first_line (has_groups groups) ∷ entry_line entry ∷ ceiling_line ceiling ∷ keyings_line keyings
    ∷ (groups_lines groups ++ (rows_line count ∷ []))

-- the head, a line for each row, and `end`
abbrev pub certificate_lines : CertView → List (List ℕ)
certificate_lines c =
    head_lines c.entry c.ceiling c.keyings c.groups (length c.rows) ++ (map row_line c.rows ++ (codes "end" ∷ []))

-- each line ends with a byte 10
abbrev pub text_of : List (List ℕ) → List ℕ
text_of [] = []
text_of (line ∷ lines) = line ++ (10 ∷ text_of lines)

-- all lines of a certificate
abbrev pub certificate_text : CertView → List ℕ
certificate_text c = text_of (certificate_lines c)

-- the id is a frame's, the rank at most 65,535, the cursor on the screen
pub record IsRow (r : Row) : Type 0 where
  pub id : IsFrameId r.id
  pub rank : r.rank ≤ MOST_RANK
  pub place : OnScreen r.cursor.place

-- what has a text: each number within its bound, groups ascending, and rows in the order of their ids
pub record IsCertificate (c : CertView) : Type 0 where
  pub entry : IsPageNumber c.entry
  pub ceiling : c.ceiling ≤ MOST_PENCE
  pub keyings : c.keyings ≤ MOST_RANK
  pub groups : AreGroups c.groups
  pub rows : AreRows c.rows
  pub each : All IsRow c.rows

-- the grammar pairs the text with the certificate
pub record IsCertificateText (bytes : List ℕ) (c : CertView) : Type 0 where
  pub valid : IsCertificate c
  pub spelled : bytes ≡ certificate_text c
