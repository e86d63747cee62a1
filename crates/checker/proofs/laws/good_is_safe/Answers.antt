use Rattle.checker.proofs.Steps.{safe, keeps_rows}
use Rattle.checker.proofs.laws.good_is_safe.Goals as goal

pub returns-clause-safe : goal.returns-clause-safe
returns-clause-safe c base policy cert apart good = safe base policy cert apart good

pub returns-clause-rows : goal.returns-clause-rows
returns-clause-rows c base policy cert apart good keys = keeps_rows base policy cert apart good keys
