-- Statuses as numbers and as words.
use Rattle.std.specs.Prelude.{◌==◌, ℕ, if◌then◌else◌, List, [], codes}
use Rattle.audit_report.specs.declared.status.Status.{Status as Judged}
use Rattle.audit_report.specs.declared.status.Status.TheVariants as judged
use Rattle.pageaudit_c.specs.declared.status.CallStatus.{CallStatus}
use Rattle.pageaudit_c.specs.declared.status.CallStatus.TheVariants.{Clear, Faulty, BadPolicy, BadText, OutOfMemory}

-- the status of a judgment
abbrev pub of_judged : Judged → CallStatus
of_judged judged.Clear = Clear
of_judged judged.Faulty = Faulty

-- the program's exit status for the same texts
abbrev pub number_of : CallStatus → ℕ
number_of Clear = 0
number_of Faulty = 1
number_of BadPolicy = 2
number_of BadText = 3
number_of OutOfMemory = 4

-- the words for a number; none if it is no status
abbrev pub status_words : ℕ → List ℕ
status_words number =
    if number == 0 then codes "clear"
    else (if number == 1 then codes "faulty"
    else (if number == 2 then codes "bad policy"
    else (if number == 3 then codes "bad text"
    else (if number == 4 then codes "out of memory"
    else []))))
