use Rattle.std.proofs.Common.{sym, subst}
use Rattle.frame_records.specs.Bases.{IsSearchable}
use Rattle.frame_records.proofs.Searchable.{pages_searchable}
use Rattle.core_tests.proofs.probes.sought.Goals as goal

pub search-place-requires-clause-searchable : goal.search-place-requires-clause-searchable
search-place-requires-clause-searchable c = subst IsSearchable (sym c.beside-probe.ensures.orderings) (pages_searchable c.args.pages.now c.args.wanted c.requires.ascending)
