use Rattle.std.proofs.Common.{◌≡◌, ◌+◌, ◌∷◌, ◌++◌, [], List, take, sym, ◌∙◌, ap, subst}
use Rattle.std.proofs.lemmas.List.{take_more}
use Rattle.std.proofs.lemmas.Option.{get_or_from_slice_get}
use Rattle.finder.specs.declared.found.Discovered.{Discovered}
use Rattle.abstract_paint.specs.declared.painting.Painted.{Painted}
use Rattle.abstract_paint.specs.Paint.{paint_of}
use Rattle.fault_scripts.specs.Loops.{row_if_clean, IsGathered}
use Rattle.fault_scripts.proofs.Gathering.{gathered_more}
use Rattle.fault_scripts.proofs.frames.Judge.frame.Goals as goal

pub returns : goal.returns
returns c =
    let found = c.args.survey.now.found in
    let base = c.args.survey.now.base in
    let i = c.args.index in
    let d = c.discovered_at-discovered.result.now in
    let listed = c.discovered_at-discovered.ensures in
    let frame = c.frame-frame.result.now in
    let at = c.frame-frame.ensures d listed in
    let more : take (i + 1) found ≡ take i found ++ d ∷ [] = take_more found i d c.requires.within ∙ ap (λ (x : Discovered). take i found ++ x ∷ []) (get_or_from_slice_get found i d d listed) in
    let painted : c.paint-painted.result ≡ paint_of frame.lead frame.body = c.paint-painted.ensures.computed ∙ ap (paint_of frame.lead) c.as_slice.ensures in
    record {
      reporting = c.in_ok-judge.ensures;
      gathered = subst (λ (f : List Discovered). IsGathered base f c.add.new.self) (sym more) (gathered_more base (take i found) d frame c.args.self.now.table c.add.new.self at c.requires.judged.gathered (c.in_ok-add.ensures.rows ∙ ap (λ (p : Painted). c.args.self.now.table.rows.items ++ row_if_clean d.id d.rank p) painted) c.in_ok-add.ensures.ceiling c.in_ok-add.ensures.keyings);
    }
