use Rattle.std.proofs.Common.{◌∙◌, rules}
use Rattle.std.specs.Ordering.{nat_cmp}
use Rattle.std.specs.List.Sorted.{IsBinarySearchResult}
use Rattle.frame_records.proofs.SortedKeys.{by_key}
use Rattle.frame_records.proofs.SortedFrames.{key_found}
use Rattle.base_text.specs.declared.listed.Listed.{Listed}
use Rattle.base_text.proofs.ListedFrames.{pages_sorted, same_page}
use Rattle.base_text.proofs.whole.page_has_frame.Goals as goal

pub returns : goal.returns
returns c =
    let ps = c.args.frames.now in
    let r = c.binary_search_by_key.result in
    let found : IsBinarySearchResult (λ p. nat_cmp p.frame.id.page c.args.page) ps r =
    by_key (λ (p : Listed). p.frame.id.page) (λ key. IsBinarySearchResult (λ p. nat_cmp (key p) c.args.page) ps r) c.binary_search_by_key.ensures.position (λ a q k h. search rules) in
    c.is_ok.ensures.value ∙ key_found (λ p. p.frame.id.page) c.args.page ps r (pages_sorted ps c.requires) c.binary_search_by_key.ensures.bound found ∙ same_page ps c.args.page
