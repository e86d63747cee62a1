-- What an edition is beside the one that is served.
use Rattle.std.specs.Prelude.{ℕ, ◌==◌, nat_lt, if◌then◌else◌, Option, Some, None}
use Rattle.edition_lists.specs.declared.serving.Serving.{Serving}
use Rattle.edition_lists.specs.declared.serving.Serving.TheVariants.{Earlier, Now, NotYet, Never}

-- an edition after the one that is served: one that follows it isn't served yet
abbrev pub serving_after : ℕ → Option ℕ → Serving
serving_after served None = Never
serving_after served (Some k) = if k == served then NotYet else Never

-- by the number of the one that is served, the edition's own, and that of what it follows
abbrev pub serving_of : Option ℕ → ℕ → Option ℕ → Serving
serving_of None n follows = Never
serving_of (Some served) n follows =
    if n == served then Now else if nat_lt n served then Earlier else serving_after served follows
