use Rattle.std.proofs.Common.{◌∙◌, ◌++◌, ℕ, List, ap, drop, replicate}
use borrow.Rule.Slice.PartMut.{put_mid}
use Rattle.frame_screens.proofs.Cells.{placed}
use Rattle.frame_screens.proofs.header.with_rows.Goals as goal

pub returns : goal.returns
returns c =
    let rows = c.copy_from_slice-2.new.self in
    ap (λ (xs : List ℕ). put_mid 40 880 (xs ++ drop 40 (replicate 960 32)) rows) c.copy_from_slice.ensures.after
    ∙ placed c.args.top.now rows c.requires
    ∙ ap (λ (xs : List ℕ). (c.args.top.now ++ xs) ++ replicate 40 32) c.copy_from_slice-2.ensures.after
