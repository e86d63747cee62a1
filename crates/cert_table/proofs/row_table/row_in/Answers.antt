use Rattle.frame_records.proofs.Searchable.{ids_searchable}
use Rattle.cert_table.specs.declared.row.Row.{Row}
use Rattle.cert_table.proofs.row_table.row_in.Goals as goal

pub binary_search-requires-clause-searchable : goal.binary_search-requires-clause-searchable
binary_search-requires-clause-searchable c = ids_searchable (λ (r : Row). r.id) c.args.rows.now c.args.id c.requires.ascending
