-- What `editions --verify` prints.
use Rattle.std.specs.Prelude.{ℕ, List, [], ◌++◌, codes, decimal, length, ◌==◌, if◌then◌else◌, Option, Some, None, flat_map}
use Rattle.audit_report.specs.Lines.{verdict_text, change_text}
use Rattle.editions.specs.declared.edition_file.EditionFile.{EditionFile}
use Rattle.editions.specs.declared.edition_file.EditionFile.TheVariants as file
use Rattle.editions.specs.Names.{file_name}
use Rattle.edition_lists.specs.declared.current.FoundCurrent.{FoundCurrent}
use Rattle.edition_lists.specs.declared.current.FoundCurrent.TheVariants as current
use Rattle.edition_lists.specs.declared.fault.EditionFlaw.{EditionFlaw}
use Rattle.edition_lists.specs.declared.fault.EditionFlaw.TheVariants as flaw
use Rattle.edition_lists.specs.declared.finding.EditionFinding.{EditionFinding}
use Rattle.edition_lists.specs.declared.finding.EditionNote.{EditionNote}
use Rattle.edition_lists.specs.declared.finding.EditionNote.TheVariants as note
use Rattle.edition_lists.specs.declared.serving.Serving.{Serving}
use Rattle.edition_lists.specs.declared.serving.Serving.TheVariants.{NotYet}
use Rattle.edition_lists.specs.declared.status.EditionsStatus.{EditionsStatus}
use Rattle.edition_lists.specs.declared.status.EditionsStatus.TheVariants as status
use Rattle.edition_lists.specs.declared.forks.Fork.{Fork}
use Rattle.edition_lists.specs.Servings.{serving_of}
use Rattle.edition_lists.specs.Forks.{first_fork}

-- the path of a file of an edition
abbrev pub file_words : List ℕ → ℕ → EditionFile → List ℕ
file_words folder n f = folder ++ (codes "/editions/" ++ (decimal n ++ (codes "/" ++ (file_name f ++ codes ": "))))

abbrev pub sum_words : EditionFile → List ℕ
sum_words file.Sums = codes "it lacks the sums of the other four files\n"
sum_words _ = codes "it was changed: its sum isn't the one in SHA256SUMS\n"

-- what is said of what an edition follows
abbrev pub follows_line : ℕ → ℕ → List ℕ → List ℕ
follows_line n k words = codes "edition " ++ (decimal n ++ (codes " follows " ++ (decimal k ++ words)))

-- what is wrong with the edition of a number
abbrev pub flaw_line : List ℕ → ℕ → EditionFlaw → List ℕ
flaw_line folder n (flaw.Missing f) = file_words folder n f ++ codes "no such file\n"
flaw_line folder n (flaw.Unread f) = file_words folder n f ++ codes "it isn't what was published\n"
flaw_line folder n (flaw.Sum f) = file_words folder n f ++ sum_words f
flaw_line folder n (flaw.Refused v) = file_words folder n file.Cert ++ verdict_text v
flaw_line folder n (flaw.FollowsNone k) = follows_line n k (codes ", which isn't there\n")
flaw_line folder n (flaw.FollowsLater k) = follows_line n k (codes ", which isn't before it\n")
flaw_line folder n (flaw.FollowsWrong k) = follows_line n k (codes ", which isn't what was published\n")
flaw_line folder n (flaw.OtherGroups k) = follows_line n k (codes ", and its policy has other groups\n")
flaw_line folder n (flaw.ChangeRefused k v) = follows_line n k (codes ": ") ++ change_text v
flaw_line folder n (flaw.Passed k) = follows_line n k (codes ", and is after the one that is served\n")

-- a right edition that isn't served yet
abbrev pub not_yet_line : Serving → ℕ → Option ℕ → List ℕ
not_yet_line NotYet n (Some k) = follows_line n k (codes ", and isn't served yet\n")
not_yet_line serving n follows = []

abbrev pub unserved_line : Option ℕ → ℕ → Option ℕ → List ℕ
unserved_line served n follows = not_yet_line (serving_of served n follows) n follows

-- nothing is printed of a right edition that was served
abbrev pub note_line : List ℕ → Option ℕ → ℕ → EditionNote → List ℕ
note_line folder served n (note.Right follows) = unserved_line served n follows
note_line folder served n (note.Wrong f) = flaw_line folder n f

abbrev pub finding_line : List ℕ → Option ℕ → EditionFinding → List ℕ
finding_line folder served x = note_line folder served x.number x.note

abbrev pub findings_text : List ℕ → Option ℕ → List EditionFinding → List ℕ
findings_text folder served findings = flat_map (finding_line folder served) findings

-- the first edition that doesn't follow the one before it in its chain
abbrev pub fork_line : Option Fork → List ℕ
fork_line None = []
fork_line (Some fork) = follows_line fork.number fork.follows [] ++ (codes ", but edition " ++ (decimal fork.between ++ codes " comes between them\n"))

-- what is wrong with `current`
abbrev pub current_line : List ℕ → FoundCurrent → List ℕ
current_line folder (current.Lacking n) = folder ++ (codes "/current: edition " ++ (decimal n ++ codes " isn't there\n"))
current_line folder current.Unread = folder ++ codes "/current: has to hold an edition's number and a line end\n"
current_line folder c = []

abbrev pub count_words : ℕ → List ℕ
count_words count = decimal count ++ (if count == 1 then codes " edition" else codes " editions")

abbrev pub number_words : ℕ → List ℕ
number_words n = codes "; edition " ++ (decimal n ++ codes " is served\n")

abbrev pub served_words : FoundCurrent → List ℕ
served_words current.Nothing = codes "; none is served\n"
served_words (current.Edition n) = number_words n
served_words (current.Lacking n) = number_words n
served_words current.Unread = codes "\n"

abbrev pub status_line : EditionsStatus → List ℕ
status_line status.Listed = []
status_line status.Cleared = codes "CLEARED\n"
status_line status.Refused = codes "REFUSED\n"

-- all that is printed
abbrev pub verify_text : List ℕ → FoundCurrent → Option ℕ → List EditionFinding → EditionsStatus → List ℕ
verify_text folder c served findings s =
    current_line folder c
    ++ (findings_text folder served findings ++ (fork_line (first_fork 0 findings) ++ (count_words (length findings) ++ (served_words c ++ status_line s))))
