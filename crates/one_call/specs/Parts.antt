-- A call, over the editions that were served in it.
use Rattle.std.specs.Prelude.{ℕ, List, ◌++◌}
use Rattle.edition_checks.specs.declared.served.Served.{Served}
use Rattle.one_call.specs.Turns.{CallView, begun_call, call_after, answers_to, AllHeard, first_bytes}

-- The editions in turn, each with the bytes that were heard while it was served. A change comes between two bytes; an edition may be
-- without bytes.
pub data Parts : Type 0 where
  First : (edition : Served) (bytes : List ℕ) → Parts
  Then : (before : Parts) (edition : Served) (bytes : List ℕ) → Parts

-- the edition that is served now
abbrev pub served_now : Parts → Served
served_now (First s bytes) = s
served_now (Then before s bytes) = s

-- all that was heard
abbrev pub heard_in : Parts → List ℕ
heard_in (First s bytes) = bytes
heard_in (Then before s bytes) = heard_in before ++ bytes

-- where they leave the call of a caller of these groups
abbrev pub call_over : List ℕ → Parts → CallView
call_over groups (First s bytes) = call_after s.base (begun_call groups s.base) bytes
call_over groups (Then before s bytes) = call_after s.base (call_over groups before) bytes

-- all that is written: the first bytes, and each answer from the edition that is served then
abbrev pub call_bytes : List ℕ → Parts → List ℕ
call_bytes groups (First s bytes) = first_bytes s.base ++ answers_to s.base (begun_call groups s.base) bytes
call_bytes groups (Then before s bytes) = call_bytes groups before ++ answers_to s.base (call_over groups before) bytes

-- the call is over at none of the bytes but after the last
abbrev pub AreHeard : List ℕ → Parts → Type 0
AreHeard groups (First s bytes) = AllHeard s.base (begun_call groups s.base) bytes
AreHeard groups (Then before s bytes) = AreHeard groups before × AllHeard s.base (call_over groups before) bytes
