use Rattle.std.proofs.Common.{◌≡◌, ap}
use Rattle.page_ids.specs.Ids.{Id}
use Rattle.lint_words.proofs.fault_words.push_entry_missing.Goals as goal

pub returns : goal.returns
returns c =
    let page : c.id.inside.page ≡ c.args.fault.now.frame.page = ap (λ (id : Id). id.page) c.id.view_is in
    rw page at c.say.ensures
