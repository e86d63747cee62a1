-- Reading a certificate's text.
use Rattle.std.specs.Prelude.{ℕ, ◌+◌, List, [], ◌∷◌, ◌++◌, length, Bool, true, false, ◌==◌, ◌≤◌, nat_lt, if◌then◌else◌, Option, Some, None, Result, Ok, Err, codes, ◌≡◌, ◌*◌, ◌<◌, All, ◌↔◌}
use Rattle.std.specs.Int.{from_bool}
use Rattle.std.specs.Str.{bytes_eq}
use Rattle.std.specs.List.{AllByRecursion}
use Rattle.page_ids.specs.Ids.{IsPageNumber}
use Rattle.page_ids.specs.declared.limits.TheConstants.{MOST_PAGE}
use Rattle.frame_records.specs.declared.limits.TheConstants.{MOST_PENCE}
use Rattle.frame_records.specs.Groups.{AreGroups}
use Rattle.cert_table.specs.declared.limits.TheConstants.{MOST_RANK, MOST_ROWS}
use Rattle.cert_table.specs.declared.row.Row.{Row}
use Rattle.cert_text.specs.Grammar.{IsRow, IsCertificateText}
use Rattle.cert_table.specs.Table.{CertView, AreRows}
use Rattle.cert_text.specs.declared.fault.LineCause.{LineCause}
use Rattle.cert_text.specs.declared.fault.LineCause.TheVariants as causes
use Rattle.cert_text.specs.declared.stage.Stage.{Stage}
use Rattle.cert_text.specs.declared.stage.Stage.TheVariants.{Magic, Head, Groups, Rows, After}
use Rattle.cert_text.specs.declared.stage.NumberLine.{NumberLine}
use Rattle.cert_text.specs.declared.stage.NumberLine.TheVariants.{Entry, Ceiling, Keyings, Count}
use Rattle.frame_records.specs.Steps.{◌>>=◌}
use Rattle.cert_text.specs.Lines.{number_after, groups_after, row_in}
use Rattle.cert_text.specs.declared.fault.ReadFault.{ReadFault}
use Rattle.cert_text.specs.declared.fault.ReadFault.TheVariants as read
use Rattle.cert_text.specs.declared.fault.LineCause.TheVariants.{Word, Tail, Truncated}

-- Reading a certificate's text byte by byte, with the first fault.

-- what the lines so far have said
pub record Said : Type 0 where
  -- line 1 says that a line of groups comes
  pub grouped : Bool
  pub entry : ℕ
  pub ceiling : ℕ
  pub keyings : ℕ
  pub groups : List ℕ
  pub count : ℕ
  pub rows : List Row

abbrev pub nothing_said : Said
nothing_said = record { grouped = false; entry = 0; ceiling = 0; keyings = 0; groups = []; count = 0; rows = [] }

-- that, which line is due, and what has come of it
pub record Reading : Type 0 where
  pub stage : Stage
  pub said : Said
  pub line : List ℕ

-- before a line
abbrev pub line_begins : Stage → Said → Reading
line_begins stage said = record { stage = stage; said = said; line = [] }

abbrev pub reading_start : Reading
reading_start = line_begins Magic nothing_said

-- what a reader keeps, for any stream
pub record IsSound (s : Said) : Type 0 where
  pub entry : IsPageNumber s.entry
  pub ceiling : s.ceiling ≤ MOST_PENCE
  pub keyings : s.keyings ≤ MOST_RANK
  pub groups : AreGroups s.groups
  pub count : s.count ≤ MOST_ROWS
  pub rows : AreRows s.rows
  pub each : AllByRecursion IsRow s.rows

-- the number of the line that is due; a line of groups moves those after it
abbrev pub due_number : Stage → Said → ℕ
due_number Magic s = 1
due_number (Head Entry) s = 2
due_number (Head Ceiling) s = 3
due_number (Head Keyings) s = 4
due_number Groups s = 5
due_number (Head Count) s = from_bool s.grouped + 5
due_number Rows s = length s.rows + from_bool s.grouped + 6
due_number After s = length s.rows + from_bool s.grouped + 7

-- the line at fault, and why
abbrev pub Fault : Type 0
Fault = ℕ × LineCause

-- the lines of a word and a number: the word with its space, the greatest number, what it says, and the next stage
abbrev pub word_of : NumberLine → List ℕ
word_of Entry = codes "entry "
word_of Ceiling = codes "ceiling "
word_of Keyings = codes "keyings "
word_of Count = codes "rows "

abbrev pub most_number : NumberLine → ℕ
most_number Entry = MOST_PAGE
most_number Ceiling = MOST_PENCE
most_number Keyings = MOST_RANK
most_number Count = MOST_ROWS

abbrev pub put : NumberLine → ℕ → Said → Said
put Entry n s = record s { entry = n }
put Ceiling n s = record s { ceiling = n }
put Keyings n s = record s { keyings = n }
put Count n s = record s { count = n }

abbrev pub stage_after : NumberLine → Bool → Stage
stage_after Entry grouped = Head Ceiling
stage_after Ceiling grouped = Head Keyings
stage_after Keyings grouped = if grouped then Groups else Head Count
stage_after Count grouped = Rows

-- line 1
abbrev pub judge_magic : Said → List ℕ → Result Reading LineCause
judge_magic s line =
    if bytes_eq line (codes "PBC1") then Ok (line_begins (Head Entry) (record s { grouped = false }))
    else if bytes_eq line (codes "PBC2") then Ok (line_begins (Head Entry) (record s { grouped = true }))
    else Err causes.Magic

-- the line of the groups
abbrev pub judge_groups : Said → List ℕ → Result Reading LineCause
judge_groups s line =
    groups_after (codes "groups ") line >>= λ groups. Ok (line_begins (Head Count) (record s { groups = groups }))

-- a line in the place of a row, and in the place of `end`
abbrev pub judge_row : Said → List ℕ → Result Reading LineCause
judge_row s line =
    if bytes_eq line (codes "end") then Err causes.Count
    else row_in s.rows line >>= λ r. Ok (line_begins Rows (record s { rows = s.rows ++ r ∷ [] }))

abbrev pub judge_end : Said → List ℕ → Result Reading LineCause
judge_end s line = if bytes_eq line (codes "end") then Ok (line_begins After s) else Err causes.Count

-- a whole line, by the stage at which it comes
abbrev pub judge_at : Stage → Said → List ℕ → Result Reading LineCause
judge_at Magic s line = judge_magic s line
judge_at (Head field) s line =
    number_after (word_of field) (most_number field) line >>= λ n. Ok (line_begins (stage_after field s.grouped) (put field n s))
judge_at Groups s line = judge_groups s line
judge_at Rows s line = if nat_lt (length s.rows) s.count then judge_row s line else judge_end s line
judge_at After s line = Err causes.Tail

abbrev pub judge : Reading → Result Reading LineCause
judge s = judge_at s.stage s.said s.line

-- a byte of a line that isn't ended by it
abbrev pub lengthen : Reading → ℕ → Result Reading LineCause
lengthen s b = if nat_lt (length s.line) 128 then Ok (record s { line = s.line ++ b ∷ [] }) else Err causes.Word

abbrev pub is_over : Stage → Bool
is_over Magic = false
is_over (Head field) = false
is_over Groups = false
is_over Rows = false
is_over After = true

abbrev pub take_byte : Reading → ℕ → Result Reading LineCause
take_byte s b = if is_over s.stage then Err causes.Tail else if b == 10 then judge s else lengthen s b

-- a cause, at its line
abbrev pub at_line : ℕ → Result Reading LineCause → Result Reading Fault
at_line n (Ok s) = Ok s
at_line n (Err cause) = Err (n, cause)

unfoldable pub step : Reading → ℕ → Result Reading Fault
step s b = at_line (due_number s.stage s.said) (take_byte s b)

abbrev pub reading_after : Reading → List ℕ → Result Reading Fault
reading_after s [] = Ok s
reading_after s (b ∷ bytes) = step s b >>= λ t. reading_after t bytes

-- a run that goes on
abbrev pub run_on : Result Reading Fault → List ℕ → Result Reading Fault
run_on r bytes = r >>= λ s. reading_after s bytes

abbrev pub certificate_of : Said → CertView
certificate_of s =
    record { entry = s.entry; ceiling = s.ceiling; keyings = s.keyings; groups = s.groups; rows = s.rows }

-- at the end of the input
abbrev pub ended : Reading → Result CertView Fault
ended s = if is_over s.stage then Ok (certificate_of s.said) else Err (due_number s.stage s.said, causes.Truncated)

-- the certificate of a text, or its first fault
abbrev pub reading : List ℕ → Result CertView Fault
reading bytes = reading_after reading_start bytes >>= ended

abbrev pub reading_fault : {A : Type 0} → Result A Fault → Option Fault
reading_fault (Ok x) = None
reading_fault (Err f) = Some f

-- the first line at fault, with its cause
abbrev pub certificate_fault : List ℕ → Option Fault
certificate_fault bytes = reading_fault (reading bytes)

-- What a call returned, beside what reading gives; memory may run out.

-- a fault that no further byte takes away
abbrev pub lasting_cause : ℕ → LineCause → Option Fault
lasting_cause n causes.Truncated = None
lasting_cause n cause = Some (n, cause)

abbrev pub lasting : Option Fault → Option Fault
lasting None = None
lasting (Some f) = lasting_cause f.0 f.1

-- a reading with its fault
abbrev pub Refuses : {A : Type 0} → ReadFault → Result A Fault → Type 0
Refuses read.Memory outcome = Unit {0}
Refuses read.Failed outcome = ⊥
Refuses (read.Line number cause) outcome = outcome ≡ Err (number, cause)

-- the fault that a call answers
abbrev pub Answers : ReadFault → Option Fault → Type 0
Answers read.Memory fault = Unit {0}
Answers read.Failed fault = ⊥
Answers (read.Line number cause) fault = fault ≡ Some (number, cause)

-- a certificate, or the fault
abbrev pub Gives : {C : Type 0} → (C → CertView) → Result C ReadFault → Result CertView Fault → Type 0
Gives view (Ok c) outcome = outcome ≡ Ok (view c)
Gives view (Err e) outcome = Refuses e outcome

-- what contracts see of a reader
pub record ReaderView : Type 0 where
  pub failed : Bool
  pub reading : Reading

-- the reader has taken this stream, and no call was refused
pub record HasRead (r : ReaderView) (stream : List ℕ) : Type 0 where
  pub going : r.failed ≡ false
  pub so_far : reading_after reading_start stream ≡ Ok r.reading

-- Reading goes line by line, and the first line at fault is the fault of the text.

-- no byte is a line's end (10)
abbrev pub HasNoEnd : List ℕ → Type 0
HasNoEnd bytes = All (λ b. (b == 10) ≡ false) bytes

-- how many bytes are a line's end
abbrev pub line_ends : List ℕ → ℕ
line_ends [] = 0
line_ends (b ∷ bytes) = if b == 10 then line_ends bytes + 1 else line_ends bytes

-- a whole line in the place that is due, with its number
abbrev pub line_judged : Reading → List ℕ → Result Reading Fault
line_judged s line = at_line (due_number s.stage s.said) (judge_at s.stage s.said line)

pub record LinesAreJudged : Type 0 where
  -- a line of at most 128 bytes is judged by its place, and the text after it is read on from there
  pub whole : (s : Reading) (line rest : List ℕ) → is_over s.stage ≡ false → HasNoEnd line
      → length s.line + length line ≤ 128 → reading_after s (line ++ 10 ∷ rest) ≡ run_on (line_judged s (s.line ++ line)) rest
  -- a 129th byte is Word, whatever follows
  pub long : (s : Reading) (line rest : List ℕ) → is_over s.stage ≡ false → HasNoEnd line → length s.line ≤ 128
      → length s.line + length line ≡ 129 → reading_after s (line ++ rest) ≡ Err (due_number s.stage s.said, Word)
  -- a line that doesn't end is Truncated
  pub cut : (s : Reading) (line : List ℕ) → is_over s.stage ≡ false → HasNoEnd line → length s.line + length line ≤ 128
      → (reading_after s line >>= ended) ≡ Err (due_number s.stage s.said, Truncated)
  -- after `end` each byte is Tail
  pub tail : (s : Reading) (b : ℕ) (rest : List ℕ) → is_over s.stage ≡ true
      → reading_after s (b ∷ rest) ≡ Err (due_number s.stage s.said, Tail)
  -- the line that is due has a number one greater than the line ends so far
  pub numbered : (bytes : List ℕ) (s : Reading) → reading_after reading_start bytes ≡ Ok s
      → due_number s.stage s.said ≡ line_ends bytes + 1

-- a text of more than 65,542 lines' bytes is decided: what is read doesn't depend on what follows
abbrev pub LongTextsAreDecided : Type 0
LongTextsAreDecided = (bytes more : List ℕ) → 65542 * 129 < length bytes → reading (bytes ++ more) ≡ reading bytes

-- Texts and certificates belong together one by one.

pub record TextsAreCertificates : Type 0 where
  -- a certificate has one text
  pub one_text : (c : CertView) (a b : List ℕ) → IsCertificateText a c → IsCertificateText b c → a ≡ b
  -- a text has one certificate
  pub one_certificate : (bytes : List ℕ) (c d : CertView) → IsCertificateText bytes c → IsCertificateText bytes d
      → c ≡ d
  -- no text begins another
  pub no_prefix : (bytes : List ℕ) (b : ℕ) (more : List ℕ) (c d : CertView) → IsCertificateText bytes c
      → IsCertificateText (bytes ++ b ∷ more) d → ⊥
  -- what is read from a text without a fault is the certificate with which the grammar pairs it
  pub no_fault : (bytes : List ℕ) (c : CertView) → (reading bytes ≡ Ok c) ↔ IsCertificateText bytes c
  -- reading goes on where it was
  pub pieces : (a b : List ℕ) → reading_after reading_start (a ++ b) ≡ run_on (reading_after reading_start a) b
