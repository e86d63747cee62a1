-- The lines on standard error.
use Rattle.std.specs.Prelude.{ℕ, List, [], ◌++◌, Option, Some, None, codes, decimal}
use Rattle.page_ids.specs.Ids.{page_text}
use Rattle.base_text.specs.declared.fault.BaseFault.{BaseFault}
use Rattle.base_text.specs.declared.fault.BaseCause.{BaseCause}
use Rattle.base_text.specs.declared.fault.BaseCause.TheVariants as cause
use Rattle.base_text.specs.Fields.{field_name}
use Rattle.cert_text.specs.declared.fault.LineCause.{LineCause}
use Rattle.cert_text.specs.declared.fault.LineCause.TheVariants as line_cause
use Rattle.cert_text.specs.declared.fault.ReadFault.{ReadFault}
use Rattle.cert_text.specs.declared.fault.ReadFault.TheVariants as read
use Rattle.audit_report.specs.declared.run_fault.RunFault.{RunFault}
use Rattle.audit_report.specs.declared.run_fault.RunFault.TheVariants as run
use Rattle.audit_report.specs.Lines.{ended_line, with_id}

-- why a text is no base: code, name and argument
abbrev pub base_cause_text : BaseCause → List ℕ
base_cause_text cause.TooLong = codes "X1 TooLong"
base_cause_text cause.NotToml = codes "X2 NotToml"
base_cause_text cause.UnknownKey = codes "X3 UnknownKey"
base_cause_text (cause.Absent f) = codes "X4 Absent " ++ field_name f
base_cause_text (cause.WrongKind f) = codes "X5 WrongKind " ++ field_name f
base_cause_text (cause.Range f) = codes "X6 Range " ++ field_name f
base_cause_text cause.BodyAndRows = codes "X7 BodyAndRows"
base_cause_text cause.RowTooLong = codes "X8 RowTooLong"
base_cause_text cause.RowCode = codes "X9 RowCode"
base_cause_text cause.BadFrame = codes "I2 BadFrame"
base_cause_text cause.TooMany = codes "B4 TooMany"
base_cause_text (cause.BodyTooLong id) = with_id (codes "B5 BodyTooLong ") id
base_cause_text (cause.NextAfterZ id) = with_id (codes "B3 NextAfterZ ") id
base_cause_text (cause.Duplicate id) = with_id (codes "B1 Duplicate ") id
base_cause_text (cause.OutsideInside page) = codes "B2 OutsideInside " ++ page_text page
base_cause_text cause.Memory = codes "memory refused"

-- where in the base file: the frame of an index, or the whole
abbrev pub base_place_text : Option ℕ → List ℕ
base_place_text None = codes "base: "
base_place_text (Some k) = (codes "base: frame " ++ decimal k) ++ codes ": "

-- why a certificate's line is refused
abbrev pub line_cause_text : LineCause → List ℕ
line_cause_text line_cause.Magic = codes "Magic"
line_cause_text line_cause.Word = codes "Word"
line_cause_text line_cause.Number = codes "Number"
line_cause_text line_cause.Range = codes "Range"
line_cause_text line_cause.Order = codes "Order"
line_cause_text line_cause.Cursor = codes "Cursor"
line_cause_text line_cause.Count = codes "Count"
line_cause_text line_cause.Tail = codes "Tail"
line_cause_text line_cause.Truncated = codes "Truncated"

-- what is wrong with a base's text, after a word for its edition; none for the old or only one
abbrev pub base_fault_text : List ℕ → BaseFault → List ℕ
base_fault_text edition fault = edition ++ (base_place_text fault.frame ++ base_cause_text fault.cause)

-- what is wrong with a certificate's text, after the same
abbrev pub cert_fault_text : List ℕ → ReadFault → List ℕ
cert_fault_text edition (read.Line n c) = edition ++ ((codes "certificate: line " ++ decimal n) ++ (codes ": " ++ line_cause_text c))
cert_fault_text edition read.Failed = edition ++ codes "certificate: failed"
cert_fault_text edition read.Memory = codes "memory refused"

abbrev pub fault_words : RunFault → List ℕ
fault_words (run.Base fault) = base_fault_text [] fault
fault_words (run.Cert fault) = cert_fault_text [] fault
fault_words (run.NewBase fault) = base_fault_text (codes "new ") fault
fault_words (run.NewCert fault) = cert_fault_text (codes "new ") fault
fault_words run.Groups = codes "groups: I4 BadGroups"
fault_words (run.Keys offset) = codes "keys: I3 BadKey " ++ decimal offset
fault_words run.ReadBase = codes "base: read failed"
fault_words run.ReadCert = codes "certificate: read failed"
fault_words run.ReadNewBase = codes "new base: read failed"
fault_words run.ReadNewCert = codes "new certificate: read failed"
fault_words (run.Write wrote) = (codes "output: write failed after " ++ decimal wrote) ++ codes " bytes"
fault_words run.Memory = codes "memory refused"

-- the one line that reports a fault
abbrev pub fault_text : RunFault → List ℕ
fault_text fault = ended_line (fault_words fault)
