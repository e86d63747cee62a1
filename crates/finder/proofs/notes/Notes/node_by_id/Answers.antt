use Rattle.std.proofs.Common.{◌≡◌, Ok, Err, Some, rules, sym, ◌∙◌, ap, subst, option_map}
use Rattle.finder.proofs.Words.{IsBinarySearchResult, get_or_from_slice_get, id_cmp, Frame, IsAscending, frame_among, id_at}
use Rattle.frame_records.proofs.SortedKeys.{by_key}
use Rattle.finder.proofs.Lists.{at_within}
use Rattle.finder.proofs.Noted.{searched, unsearched}
use Rattle.finder.proofs.notes.Notes.node_by_id.Goals as goal

pub returns-in-Ok-clause-some : goal.returns-in-Ok-clause-some
returns-in-Ok-clause-some c =
    let frames = c.frames.result.now in
    let f = at_within frames c.in-Ok.node c.in-Ok.ensures.bound in
    let found : IsBinarySearchResult (λ g. id_cmp g.id c.args.id.now) frames (Ok c.in-Ok.node) =
    by_key (λ (g : Frame). g.id) (λ key. IsBinarySearchResult (λ g. id_cmp (key g) c.args.id.now) frames (Ok c.in-Ok.node)) c.in-Ok.ensures.position (λ a q k h. search rules) in
    let same = searched frames c.args.id.now c.in-Ok.node (subst IsAscending (sym c.frames.ensures.all) c.frames.ensures.valid.ascending) f.0 found c.in-Ok.ensures.bound (get_or_from_slice_get frames c.in-Ok.node f.0 f.0 f.1) in
    subst (λ fs. id_at fs c.in-Ok.node ≡ Some c.args.id.now) c.frames.ensures.all (ap (option_map (λ (g : Frame). g.id)) f.1 ∙ ap Some same)

pub returns-in-Err-clause-none : goal.returns-in-Err-clause-none
returns-in-Err-clause-none c =
    let frames = c.frames.result.now in
    let none : IsBinarySearchResult (λ g. id_cmp g.id c.args.id.now) frames (Err c.in-Err.field-0) =
    by_key (λ (g : Frame). g.id) (λ key. IsBinarySearchResult (λ g. id_cmp (key g) c.args.id.now) frames (Err c.in-Err.field-0)) c.in-Err.ensures.position (λ a q k h. search rules) in
    ap (λ fs. frame_among fs c.args.id.now) (sym c.frames.ensures.all) ∙ unsearched frames c.args.id.now c.in-Err.field-0 (subst IsAscending (sym c.frames.ensures.all) c.frames.ensures.valid.ascending) none
