use Rattle.std.proofs.Common.{◌≡◌, [], None, inr, rules}
use Rattle.toml.specs.View.{table_view}
use Rattle.base_text.specs.Drafts.{top_of}
use Rattle.base_text.proofs.KeptDetails.{clean, top_fails}
use Rattle.base_text.proofs.text.table_parts.Goals as goal

pub returns-in-Some : goal.returns-in-Some
returns-in-Some c = inr (top_fails (table_view c.args.table) c.in-Some.fault (search rules))

-- nothing is wrong at the top
pub returns-in_err-frames : goal.returns-in_err-frames
returns-in_err-frames c =
    let none : (top_of (table_view c.args.table)).details ≡ [] = clean None _ (search rules) in
    search (rules, none)

pub returns-in-Some-entry : goal.returns-in-Some-entry
returns-in-Some-entry c =
    let none : (top_of (table_view c.args.table)).details ≡ [] = clean None _ (search rules) in
    search (rules, none)

pub returns : goal.returns
returns c =
    let none : (top_of (table_view c.args.table)).details ≡ [] = clean None _ (search rules) in
    search (rules, none)
