-- Whether an edition comes between another one and what that follows.
use Rattle.std.specs.Prelude.{ℕ, nat_lt, if◌then◌else◌, List, [], ◌∷◌, Option, Some, None}
use Rattle.std.specs.Option.{option_or}
use Rattle.edition_lists.specs.declared.finding.EditionFinding.{EditionFinding}
use Rattle.edition_lists.specs.declared.finding.EditionNote.{EditionNote}
use Rattle.edition_lists.specs.declared.finding.EditionNote.TheVariants.{Right, Wrong}
use Rattle.edition_lists.specs.declared.forks.Fork.{Fork}

-- what a right edition follows
abbrev pub followed : EditionNote → Option ℕ
followed (Right follows) = follows
followed (Wrong flaw) = None

-- by the last edition before this one that follows another
abbrev pub fork_after : ℕ → ℕ → Option ℕ → Option Fork
fork_after last n None = None
fork_after last n (Some k) = if nat_lt k last then Some (record { number = n; follows = k; between = last }) else None

abbrev pub last_after : ℕ → ℕ → Option ℕ → ℕ
last_after last n None = last
last_after last n (Some k) = n

-- the first one of some findings
abbrev pub first_fork : ℕ → List EditionFinding → Option Fork
first_fork last [] = None
first_fork last (x ∷ xs) =
    option_or (fork_after last x.number (followed x.note)) (first_fork (last_after last x.number (followed x.note)) xs)
