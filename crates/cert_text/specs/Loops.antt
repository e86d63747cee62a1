-- Facts that hold between the turns of loops, and what functions that aren't exported say. No promise rests on them.
use Rattle.std.specs.Prelude.{ℕ, Some, ◌≡◌, Result, Ok, Err}
use Rattle.cert_text.specs.declared.fault.LineCause.{LineCause}
use Rattle.cert_text.specs.Reading.{lasting_cause, Said, Reading, line_begins, Fault, reading_fault, lasting, Refuses, Answers}
use Rattle.cert_text.specs.declared.stage.Stage.{Stage}
use Rattle.cert_text.specs.declared.fault.LineFault.{LineFault}
use Rattle.cert_text.specs.declared.fault.LineFault.TheVariants as line
use Rattle.cert_text.specs.declared.fault.ReadFault.{ReadFault}

-- The result of a call that takes a line, a byte or a piece.

-- the cause of a fault that no further byte takes away
abbrev pub Lasts : LineCause → Type 0
Lasts cause = (n : ℕ) → lasting_cause n cause ≡ Some (n, cause)

-- a whole line that leads to the next stage
abbrev pub Says : Result Stage LineFault → Said → Result Reading LineCause → Type 0
Says (Ok stage) new outcome = outcome ≡ Ok (line_begins stage new)
Says (Err line.Memory) new outcome = Unit {0}
Says (Err (line.Says cause)) new outcome = (outcome ≡ Err cause) × Lasts cause

-- a call that changes a reading into the new one
abbrev pub Turns : Result (Unit {0}) LineFault → Reading → Result Reading LineCause → Type 0
Turns (Ok _) new outcome = outcome ≡ Ok new
Turns (Err line.Memory) new outcome = Unit {0}
Turns (Err (line.Says cause)) new outcome = (outcome ≡ Err cause) × Lasts cause

-- a call that takes bytes: the reading after them, or their fault, which lasts
abbrev pub TakesBytes : Result (Unit {0}) ReadFault → Reading → Result Reading Fault → Type 0
TakesBytes (Ok _) new outcome = outcome ≡ Ok new
TakesBytes (Err e) new outcome = Refuses e outcome × Answers e (lasting (reading_fault outcome))
