use Rattle.std.proofs.Common.{◌∙◌, ℕ, List, ap, subst}
use Rattle.base_text.specs.Whole.{IsTextBase}
use Rattle.screen_files.specs.declared.filed.Filed.{Filed}
use Rattle.frame_edits.specs.Merging.{AreMerged, MergedView}
use Rattle.frame_edits.proofs.merging.merge_frames.Goals as goal

pub returns-in-Ok-base_read-clause-merged : goal.returns-in-Ok-base_read-clause-merged
returns-in-Ok-base_read-clause-merged c =
    let merged = c.in_ok-merged.merged in
    record {
      merge = subst (λ (frames : List Filed). AreMerged c.args.text.now c.args.guesses frames merged) c.frames.ensures.all c.in_ok-merged.ensures.merged;
      new = c.in-Ok-base_read.field-0;
      is = subst (λ (text : List ℕ). IsTextBase text c.in-Ok-base_read.field-0) (c.as_slice.ensures.value ∙ ap (λ (m : MergedView). m.text) c.merged.view_is) c.in-Ok-base_read.ensures.found;
    }
