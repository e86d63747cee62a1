-- The printed lines. Each ends with a byte 10; ids and pages are in their own text, numbers in decimal.
use Rattle.std.specs.Prelude.{ℕ, Bool, true, false, List, [], ◌∷◌, ◌++◌, codes, decimal}
use Rattle.page_ids.specs.Ids.{Id, page_text, frame_text}
use Rattle.session_machine.specs.declared.reply.Reply.{Reply}
use Rattle.session_machine.specs.declared.reply.Reply.TheVariants.{Shown, Again, NotOffered, Missing, Closed, Gone}
use Rattle.checker.specs.declared.verdict.Cause.{Cause}
use Rattle.checker.specs.declared.verdict.Cause.TheVariants as cause
use Rattle.checker.specs.declared.change.ChangeVerdict.{ChangeVerdict}
use Rattle.checker.specs.declared.change.ChangeVerdict.TheVariants as change
use Rattle.checker.specs.declared.verdict.Verdict.{Verdict}
use Rattle.checker.specs.declared.verdict.Verdict.TheVariants as verdict

-- a line and its end
abbrev pub ended_line : List ℕ → List ℕ
ended_line text = text ++ 10 ∷ []

-- words and an id
abbrev pub with_id : List ℕ → Id → List ℕ
with_id words id = words ++ frame_text id

-- words, an id, a space and a number
abbrev pub with_id_number : List ℕ → Id → ℕ → List ℕ
with_id_number words id n = (words ++ frame_text id) ++ (codes " " ++ decimal n)

-- why a certificate is refused
abbrev pub cause_text : Cause → List ℕ
cause_text cause.EntryDiffers = codes "REFUSED K1 EntryDiffers"
cause_text cause.CeilingAbove = codes "REFUSED K2 CeilingAbove"
cause_text cause.KeyingsAbove = codes "REFUSED K3 KeyingsAbove"
cause_text cause.GroupsDiffer = codes "REFUSED K15 GroupsDiffer"
cause_text cause.EntryNotCovered = codes "REFUSED K4 EntryNotCovered"
cause_text (cause.NoFrame id) = with_id (codes "REFUSED K5 NoFrame ") id
cause_text (cause.ClosedFrame id) = with_id (codes "REFUSED K6 ClosedFrame ") id
cause_text (cause.Price id) = with_id (codes "REFUSED K7 Price ") id
cause_text (cause.RankAbove id) = with_id (codes "REFUSED K8 RankAbove ") id
cause_text (cause.Touches id offset) = with_id_number (codes "REFUSED K9 Touches ") id offset
cause_text (cause.CursorDiffers id) = with_id (codes "REFUSED K10 CursorDiffers ") id
cause_text (cause.RouteNotCovered id digit) = with_id_number (codes "REFUSED K11 RouteNotCovered ") id digit
cause_text (cause.NextNotCovered id) = with_id (codes "REFUSED K12 NextNotCovered ") id
cause_text (cause.RankZero id) = with_id (codes "REFUSED K13 RankZero ") id
cause_text (cause.NoWayDown id) = with_id (codes "REFUSED K14 NoWayDown ") id

abbrev pub verdict_words : Verdict → List ℕ
verdict_words verdict.Cleared = codes "CLEARED"
verdict_words (verdict.Refused c) = cause_text c

-- the line of a verdict
abbrev pub verdict_text : Verdict → List ℕ
verdict_text v = ended_line (verdict_words v)

-- why a change of edition is refused, or that it isn't
abbrev pub change_words : ChangeVerdict → List ℕ
change_words change.Cleared = codes "CLEARED"
change_words (change.Old c) = codes "OLD " ++ cause_text c
change_words (change.New c) = codes "NEW " ++ cause_text c
change_words change.EntryMoved = codes "REFUSED E1 EntryMoved"
change_words (change.NoLongerCovered id) = with_id (codes "REFUSED E2 NoLongerCovered ") id

-- the line of a change's verdict
abbrev pub change_text : ChangeVerdict → List ℕ
change_text v = ended_line (change_words v)

-- one reply
abbrev pub reply_text : Reply → List ℕ
reply_text (Shown id price) = with_id_number (codes "SHOWN ") id price
reply_text (Again id) = with_id (codes "AGAIN ") id
reply_text NotOffered = codes "NOTOFFERED"
reply_text (Missing id) = with_id (codes "MISSING ") id
reply_text (Closed id) = with_id (codes "CLOSED ") id
reply_text (Gone page) = codes "GONE " ++ page_text page

-- a line for each reply
abbrev pub walk_text : List Reply → List ℕ
walk_text [] = []
walk_text (reply ∷ replies) = ended_line (reply_text reply) ++ walk_text replies

-- the fault of an entry frame that isn't shown: it is closed to the caller, or missing
abbrev pub entry_fault : Bool → List ℕ
entry_fault true = codes "ENTRYCLOSED"
entry_fault false = codes "ENTRYMISSING"

-- a session that isn't opened
abbrev pub entry_text : Id → Bool → List ℕ
entry_text id closed = ended_line (with_id (entry_fault closed ++ codes " ") id)
