-- The report of an audit: the text of a certificate, or the list of faults.
use Rattle.std.specs.Prelude.{◌≡◌, ℕ, List, [], ◌∷◌, ◌++◌, length, Option, Some, None, codes, decimal}
use Rattle.page_ids.specs.Ids.{Id}
use Rattle.page_ids.specs.Keys.{key_word, keys_text}
use Rattle.page_ids.specs.declared.key.Key.{Key}
use Rattle.abstract_paint.specs.declared.start.Start.{Start}
use Rattle.cert_text.specs.Grammar.{certificate_text, IsCertificateText}
use Rattle.base_faults.specs.declared.fault.Fault.{Fault}
use Rattle.base_faults.specs.declared.fault.FaultKind.{FaultKind}
use Rattle.base_faults.specs.declared.fault.FaultKind.TheVariants.{EntryMissing, EntryClosed, Price, Touches, Missing, Closed, NoReturn}
use Rattle.fault_scripts.specs.declared.outcome.Outcome.{Outcome}
use Rattle.fault_scripts.specs.declared.outcome.Outcome.TheVariants.{Certified, Faulty}
use Rattle.audit_report.specs.Lines.{ended_line, with_id, with_id_number}

-- the keys that lead to a fault, `-` if there are none
abbrev pub script_text : List Key → List ℕ
script_text [] = codes " SCRIPT -"
script_text (key ∷ keys) = codes " SCRIPT " ++ keys_text (key ∷ keys)

-- the frame that a key seeks, if the fault names one
abbrev pub sought_text : Option Id → List ℕ
sought_text None = []
sought_text (Some id) = with_id (codes " ") id

-- the key that is pressed, if the fault names one
abbrev pub pressed_text : Option Key → List ℕ
pressed_text None = []
pressed_text (Some key) = codes " KEY " ++ key_word key

-- the body byte that touches and the position of the start, if the fault names one
abbrev pub start_text : Option Start → List ℕ
start_text None = []
start_text (Some start) = (codes " BYTE " ++ decimal start.offset) ++ (codes " START " ++ decimal start.at)

-- a frame that costs too much
abbrev pub price_words : Fault → List ℕ
price_words fault = with_id_number (codes "PRICE ") fault.frame fault.price ++ script_text fault.script

-- a frame that touches
abbrev pub touches_words : Fault → List ℕ
touches_words fault = (with_id (codes "TOUCHES ") fault.frame ++ start_text fault.start) ++ script_text fault.script

-- a key whose frame isn't found: what was sought, where, and by which key
abbrev pub sought_words : List ℕ → Fault → List ℕ
sought_words words fault = ((words ++ sought_text fault.sought) ++ (with_id (codes " AT ") fault.frame ++ pressed_text fault.key)) ++ script_text fault.script

-- a frame from which no walk that is short enough leads back
abbrev pub no_return_words : Fault → List ℕ
no_return_words fault = with_id (codes "NORETURN ") fault.frame ++ script_text fault.script

-- a fault by its kind
abbrev pub words_as : FaultKind → Fault → List ℕ
words_as EntryMissing fault = with_id (codes "ENTRYMISSING ") fault.frame
words_as EntryClosed fault = with_id (codes "ENTRYCLOSED ") fault.frame
words_as Price fault = price_words fault
words_as Touches fault = touches_words fault
words_as Missing fault = sought_words (codes "MISSING") fault
words_as Closed fault = sought_words (codes "CLOSED") fault
words_as NoReturn fault = no_return_words fault

-- a line for each fault
abbrev pub fault_lines : List Fault → List ℕ
fault_lines [] = []
fault_lines (fault ∷ faults) = ended_line (words_as fault.kind fault) ++ fault_lines faults

-- the number of faults, then the faults
abbrev pub fault_list_text : List Fault → List ℕ
fault_list_text faults = ended_line (codes "FAULTS " ++ decimal (length faults)) ++ fault_lines faults

-- the text of an outcome
abbrev pub report_text : Outcome → List ℕ
report_text (Certified cert) = certificate_text cert
report_text (Faulty faults) = fault_list_text faults

-- a certificate in its own grammar, or just the list of faults
abbrev pub IsReport : List ℕ → Outcome → Type 0
IsReport text (Certified cert) = IsCertificateText text cert
IsReport text (Faulty faults) = text ≡ fault_list_text faults
