use Rattle.std.proofs.Common.{◌++◌, ◌∷◌, []}
use Rattle.base_pages.specs.Sections.{sections}
use Rattle.base_pages.specs.Loops.{book_view}
use Rattle.devices.proofs.OnTheWay.{kept_more}
use Rattle.base_pages.proofs.pages.write_section.Goals as goal

pub returns-in-Ok-clause-taken : goal.returns-in-Ok-clause-taken
returns-in-Ok-clause-taken g c = λ start before way.
    let line = sections (book_view c.args.book.now) (c.args.frame.now ∷ []) in
    let more = kept_more start (g.S.Sink.seen c.args.sink.now) c.args.kept.now.items c.push_shown.new.out.items c.args.wrote before line c.in-Ok.ensures.text way in
    c.send.ensures.taken start (before ++ line) more

pub returns-in-Ok-clause-part : goal.returns-in-Ok-clause-part
returns-in-Ok-clause-part g c = λ start before rest way.
    let line = sections (book_view c.args.book.now) (c.args.frame.now ∷ []) in
    let more = kept_more start (g.S.Sink.seen c.args.sink.now) c.args.kept.now.items c.push_shown.new.out.items c.args.wrote before line c.in-Ok.ensures.text way in
    c.send.ensures.part start (before ++ line) rest more
