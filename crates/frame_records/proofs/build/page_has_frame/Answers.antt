use Rattle.std.proofs.Common.{◌∙◌, rules}
use Rattle.std.specs.Ordering.{nat_cmp}
use Rattle.std.specs.List.Sorted.{IsBinarySearchResult}
use Rattle.frame_records.specs.declared.frame.Frame.{Frame}
use Rattle.frame_records.proofs.SortedKeys.{by_key}
use Rattle.frame_records.proofs.SortedFrames.{key_found, pages_sorted}
use Rattle.frame_records.proofs.build.page_has_frame.Goals as goal

pub returns : goal.returns
returns c =
    let frames = c.args.frames.now in
    let r = c.binary_search_by_key.result in
    let found : IsBinarySearchResult (λ f. nat_cmp f.id.page c.args.page) frames r =
    by_key (λ (f : Frame). f.id.page) (λ key. IsBinarySearchResult (λ f. nat_cmp (key f) c.args.page) frames r) c.binary_search_by_key.ensures.position (λ a q k h. search rules) in
    c.is_ok.ensures.value ∙ key_found (λ f. f.id.page) c.args.page frames r (pages_sorted frames c.requires) c.binary_search_by_key.ensures.bound found
