use Rattle.std.proofs.Common.{◌++◌, List, Result, Ok, Err, subst}
use Rattle.frame_records.specs.declared.frame.Frame.{Frame}
use Rattle.base_pages.specs.Sections.{sections}
use Rattle.base_pages.specs.Shell.{foot}
use Rattle.base_pages.specs.Pages.{front}
use Rattle.base_pages.specs.Loops.{IsStopped, book_view}
use Rattle.std.specs.Prelude.{OnOk, IfErr}
use Rattle.devices.specs.Devices.{WroteWhole}
use Rattle.base_pages.proofs.OnTheWay.{begins}
use Rattle.base_pages.specs.Tags.{HaveIds}
use Rattle.base_pages.proofs.pages.write_book.Goals as goal

-- what holds anyway holds of what was written
anyway : {A B : Type 0} (r : Result A B) (P : Type 0) → P → OnOk r P
anyway (Ok a) P h = h
anyway (Err e) P h = tt

pub returns-in-Ok-write_sections-clause-ids : goal.returns-in-Ok-write_sections-clause-ids
returns-in-Ok-write_sections-clause-ids g c =
    anyway c.write_foot.result _ (subst (HaveIds c.args.book.now.part.now) c.frames-frames.ensures.all c.in-Ok-write_sections.ensures.ids)

pub returns-in-Ok-write_sections-clause-whole : goal.returns-in-Ok-write_sections-clause-whole
returns-in-Ok-write_sections-clause-whole g c =
    let b = book_view c.args.book.now in
    let cover = c.args.cover.now in
    let start = g.S.Sink.seen c.args.sink.now in
    let before = front b.source.name b.base cover.policy.now cover.outcome.now in
    let way = begins start c.requires.open c.push_front.new.out.items c.new-kept.result.items before c.in-Ok.ensures c.new-kept.ensures.items in
    let written = c.write_foot.ensures.whole start (before ++ sections b c.frames-frames.result.now) (c.in-Ok-write_sections.ensures.taken start before way) in
    subst (λ (fs : List Frame). OnOk c.write_foot.result (WroteWhole start (g.S.Sink.seen c.write_foot.new.sink) ((before ++ sections b fs) ++ foot))) c.frames-frames.ensures.all written

pub returns-in-Ok-write_sections-clause-part : goal.returns-in-Ok-write_sections-clause-part
returns-in-Ok-write_sections-clause-part g c =
    let b = book_view c.args.book.now in
    let cover = c.args.cover.now in
    let start = g.S.Sink.seen c.args.sink.now in
    let before = front b.source.name b.base cover.policy.now cover.outcome.now in
    let way = begins start c.requires.open c.push_front.new.out.items c.new-kept.result.items before c.in-Ok.ensures c.new-kept.ensures.items in
    let written = c.write_foot.ensures.part start (before ++ sections b c.frames-frames.result.now) (c.in-Ok-write_sections.ensures.taken start before way) in
    subst (λ (fs : List Frame). IfErr c.write_foot.result (λ fault. IsStopped start (g.S.Sink.seen c.write_foot.new.sink) ((before ++ sections b fs) ++ foot) fault)) c.frames-frames.ensures.all written

pub returns-clause-part : goal.returns-clause-part
returns-clause-part g c =
    let b = book_view c.args.book.now in
    let cover = c.args.cover.now in
    let start = g.S.Sink.seen c.args.sink.now in
    let before = front b.source.name b.base cover.policy.now cover.outcome.now in
    let way = begins start c.requires.open c.push_front.new.out.items c.new-kept.result.items before c.in-Ok.ensures c.new-kept.ensures.items in
    let stop = c.in-Err-write_sections.ensures.part start before foot way in
    subst (λ (fs : List Frame). IsStopped start (g.S.Sink.seen c.write_sections.new.sink) ((before ++ sections b fs) ++ foot) c.in-Err-write_sections.fault) c.frames-frames.ensures.all stop
