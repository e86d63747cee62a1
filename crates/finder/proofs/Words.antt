-- The names that the finder's proofs cite, passed on from one place. Declares nothing.
pub use Rattle.std.proofs.lemmas.Bool.{cases_eq, cases_lt, cases_order}
pub use Rattle.std.proofs.lemmas.Grind.{common_steps, get_or-set_at, reverse_onto}
pub use Rattle.std.proofs.lemmas.List.{append-nil, get_or-replicate, get_or-set_other, get_or_append_left, get_or_default, get_or_push, length-map, length-replicate, length-set}
pub use Rattle.std.proofs.lemmas.List.Elements.{All-contains, All-nil, All-push, All-replicate, All-set, AllWithin-more, Contains-append_left, Contains-push}
pub use Rattle.std.proofs.lemmas.List.Quantifiers.{Any-push, all_pairs_push}
pub use Rattle.std.proofs.lemmas.List.Sums.{count_by-le-length, sum_by-set}
pub use Rattle.std.proofs.lemmas.Option.{slice_get_cases, get_or_from_slice_get, same_Some, slice_get-get_or, slice_get-map, slice_get_read, slice_get_within}
pub use Rattle.std.specs.List.Sorted.{IsBinarySearchResult}
pub use Rattle.std.specs.List.{AllWithin}
pub use Rattle.page_ids.specs.Ids.{Id, id_cmp, id_eq}
pub use Rattle.page_ids.specs.IdLaws.{id_cmp_total, id_eq_refl, id_eq_same}
pub use Rattle.page_ids.specs.WayLaws.{place_at}
pub use Rattle.page_ids.specs.Ways.{way_at, way_key, way_place}
pub use Rattle.page_ids.specs.declared.key.Key.{Key}
pub use Rattle.page_ids.specs.declared.way.Way.{Way}
pub use Rattle.frame_records.proofs.Finds.{find_first, find_none, first_found}
pub use Rattle.frame_records.proofs.SortedFrames.{apart_at, ascending_sorted, found_at}
pub use Rattle.frame_records.specs.Bases.{BaseView, IsAscending, frame_among, frame_at}
pub use Rattle.frame_records.specs.Seek.{entry_of, is_open, seek, seek_entry, sought_of}
pub use Rattle.frame_records.specs.WayLaws.{found_sought, frame_id, going, offered_place}
pub use Rattle.frame_records.specs.Ways.{Leads, destination, destination_by, destination_of, missing_by, offered_by, sought, sought_by}
pub use Rattle.frame_records.specs.declared.frame.Frame.{Frame}
pub use Rattle.smallvec.specs.SmallVec.{SmallVec}
pub use Rattle.finder.specs.Loops.{AreMarked, IsDiscovery, IsDiscoveredSoFar, number, HasRank, IsClosed, IsSearch, AreNeighbours, HasNeighbour, AreJoined, IsListOf, AreRanks, IsFromEntry, AreNear, is_near}
pub use Rattle.finder.specs.Survey.{AreNamed, SurveyView, id_at}
pub use Rattle.finder.specs.Loops.Entries.{IsEntryNode}
pub use Rattle.finder.specs.Finds.{FindsReached, HasFirstPair, HasPair, IsBefore, IsFinding, Pair, PairLeads, RanksAreLeast, ScriptsLead, keys_along, keys_back, parent_by, parent_of, script, EntryIsFound, IsRank, IsReached, KeysLead, Walk, WalkIn, IsWithin, AreWithin, IsNear, has_id}
pub use Rattle.finder.specs.Loops.Walks.{Goes, IsNodeRank, NodeWalk, LeadsTo, IsStep, Comes, turned}
pub use Rattle.finder.specs.Loops.Noted.{AreNotes, IsNote, IsSeen, IsSought, target_at}
pub use Rattle.finder.specs.Loops.WayTargets.{aim_of, AreTargets, IsTarget, aim_at, node_of}
pub use Rattle.finder.specs.declared.discover.Discovery.{Discovery}
pub use Rattle.finder.specs.declared.found.Discovered.{Discovered}
pub use Rattle.finder.specs.declared.direction.Direction.{Direction}
pub use Rattle.finder.specs.declared.direction.Direction.TheVariants.{From, To}
pub use Rattle.finder.specs.declared.graph.Graph.{Graph}
pub use Rattle.finder.specs.declared.target.WayTarget.{WayTarget}
pub use Rattle.finder.specs.declared.target.WayTarget.TheVariants.{Closed, Missing, NotOffered, Outside}
