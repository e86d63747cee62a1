use Rattle.std.proofs.Common.{◌∙◌}
use Rattle.frame_records.proofs.Searchable.{pages_searchable, listed_by_page}
use Rattle.frame_records.proofs.sorted.is_among.Goals as goal

pub binary_search-asked-requires-clause-searchable : goal.binary_search-asked-requires-clause-searchable
binary_search-asked-requires-clause-searchable c = pages_searchable c.args.pages.now c.args.page c.requires.ascending

pub returns-clause-value : goal.returns-clause-value
returns-clause-value c = c.is_some.ensures ∙ listed_by_page _ c.args.pages.now c.args.page c.binary_search-asked.ensures.value
