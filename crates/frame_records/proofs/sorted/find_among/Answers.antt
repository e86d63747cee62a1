use Rattle.frame_records.specs.declared.frame.Frame.{Frame}
use Rattle.frame_records.proofs.Searchable.{ids_searchable}
use Rattle.frame_records.proofs.sorted.find_among.Goals as goal

pub binary_search-requires-clause-searchable : goal.binary_search-requires-clause-searchable
binary_search-requires-clause-searchable c = ids_searchable (λ (f : Frame). f.id) c.args.frames.now c.args.id c.requires.ascending
