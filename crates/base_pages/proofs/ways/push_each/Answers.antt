use Rattle.std.proofs.Common.{◌∙◌, ◌++◌, ◌∷◌, [], ℕ, List, sym, ap, append_assoc, append-nil, arith, rules, ◌≡◌}
use Rattle.std.specs.Prelude.{map}
use Rattle.std.specs.List.{flat_map, range_with_len}
use Rattle.std.proofs.lemmas.List.FromFn.{map-range_with_len_more}
use Rattle.std.proofs.lemmas.Grind.{flat_map-append}
use Rattle.page_ids.specs.declared.way.Way.{Way}
use Rattle.page_ids.specs.Ways.{way_at, way_key}
use Rattle.frame_records.specs.Ways.{destination_of}
use Rattle.screens.specs.Svg.{Piece, markup}
use Rattle.base_pages.specs.Ways.{way_pieces}
use Rattle.base_pages.proofs.Bytes.{markup_append}
use Rattle.base_pages.proofs.ways.push_each.Goals as goal

pub loop-place-preserved : goal.loop-place-preserved
loop-place-preserved c =
    let n = c.loop-place.place in
    let one : Way → List Piece = λ way. way_pieces c.args.part.now (way_key way) (destination_of c.args.groups.now c.args.base.now c.args.frame.now way) in
    let before : List Way = map way_at (range_with_len 0 n) in
    let start : List ℕ = c.args.out.now.items in
    let wrote : c.push_way.new.out.items ≡ c.loop-place.out.items ++ markup (one (way_at n)) = search rules in
    wrote
    ∙ ap (λ xs. xs ++ markup (one (way_at n))) c.loop-place.invariant
    ∙ append_assoc start (markup (flat_map one before)) (markup (one (way_at n)))
    ∙ ap (λ xs. start ++ xs) (sym (markup_append (flat_map one before) (one (way_at n))))
    ∙ ap (λ ps. start ++ markup (flat_map one before ++ ps)) (sym (append-nil (one (way_at n))))
    ∙ ap (λ ps. start ++ markup ps) (sym (flat_map-append one before (way_at n ∷ [])))
    ∙ ap (λ ws. start ++ markup (flat_map one ws)) (sym (map-range_with_len_more way_at 0 n n (omega arith)))
