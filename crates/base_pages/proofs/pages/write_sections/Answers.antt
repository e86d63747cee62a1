use Rattle.std.proofs.Common.{rules, ◌≡◌, ◌∙◌, ◌+◌, ◌++◌, ◌∷◌, [], sym, ap, subst, drop, arith, append_assoc, refl}
use Rattle.std.proofs.lemmas.List.{drop_more, drop_all, take_all, append-nil}
use Rattle.std.proofs.lemmas.List.Elements.{All-more}
use Rattle.devices.specs.Devices.{IsOnItsWay}
use Rattle.base_pages.specs.Sections.{sections}
use Rattle.base_pages.specs.Tags.{HasId, HaveIds}
use Rattle.base_pages.specs.Loops.{book_view, IsStopped}
use Rattle.base_pages.proofs.OnTheWay.{first_section}
use Rattle.base_pages.proofs.pages.write_sections.Goals as goal

pub loop-frame-init : goal.loop-frame-init
loop-frame-init g c = record {
  unbroken = search rules;
  ids = search rules;
  way = λ start before way. (before, way, refl);
}

pub returns-in-Err-clause-part : goal.returns-in-Err-clause-part
returns-in-Err-clause-part g c = λ start before rest way.
    let frames = c.args.frames.now in
    let b = book_view c.args.book.now in
    let i = c.loop-frame.frame-index in
    let f = c.frame-item.result in
    let fs = drop (i + 1) frames in
    let held = c.loop-frame.invariant.way start before way in
    let line = sections b (f ∷ []) in
    let later = sections b fs in
    let left : drop i frames ≡ f ∷ fs = drop_more frames i f (omega arith) ∙ ap (λ x. x ∷ fs) (sym c.frame-item.is) in
    let whole : (held.0 ++ line) ++ later ≡ before ++ sections b frames =
    append_assoc held.0 line later ∙ ap (λ xs. held.0 ++ xs) (sym (first_section b f fs)) ∙ ap (λ xs. held.0 ++ sections b xs) (sym left) ∙ held.2 in
    let path = sym (append_assoc (held.0 ++ line) later rest) ∙ ap (λ xs. xs ++ rest) whole in
    subst (λ xs. IsStopped start (g.S.Sink.seen c.write_section.new.sink) xs c.in-Err.fault) path (c.in-Err.ensures.part start held.0 (later ++ rest) held.1)

pub loop-frame-preserved : goal.loop-frame-preserved
loop-frame-preserved g c = record {
  unbroken = search rules;
  ids =
      let Has = HasId c.args.book.now.part.now in
      let f = c.frame-item.result in
      All-more Has c.args.frames.now c.loop-frame.frame-index f (omega arith) c.loop-frame.invariant.ids (subst Has c.frame-item.is c.in-Ok.ensures.id);
  way = λ start before way.
      let frames = c.args.frames.now in
      let b = book_view c.args.book.now in
      let i = c.loop-frame.frame-index in
      let f = c.frame-item.result in
      let fs = drop (i + 1) frames in
      let held = c.loop-frame.invariant.way start before way in
      let line = sections b (f ∷ []) in
      let later = sections b fs in
      let left : drop i frames ≡ f ∷ fs = drop_more frames i f (omega arith) ∙ ap (λ x. x ∷ fs) (sym c.frame-item.is) in
      let whole : (held.0 ++ line) ++ later ≡ before ++ sections b frames =
      append_assoc held.0 line later ∙ ap (λ xs. held.0 ++ xs) (sym (first_section b f fs)) ∙ ap (λ xs. held.0 ++ sections b xs) (sym left) ∙ held.2 in
      (held.0 ++ line, c.in-Ok.ensures.taken start held.0 held.1, whole);
}

pub returns-clause-taken : goal.returns-clause-taken
returns-clause-taken g c = λ start before way.
    let b = book_view c.args.book.now in
    let held = c.loop-frame.invariant.way start before way in
    let none : drop c.loop-frame.frame-index c.args.frames.now ≡ [] = drop_all c.loop-frame.frame-index c.args.frames.now (omega arith) in
    let whole = sym (append-nil held.0) ∙ ap (λ xs. held.0 ++ sections b xs) (sym none) ∙ held.2 in
    subst (λ xs. IsOnItsWay start (g.S.Sink.seen c.loop-frame.sink) c.loop-frame.kept.items c.loop-frame.wrote xs) whole held.1

pub returns-clause-ids : goal.returns-clause-ids
returns-clause-ids g c = subst (HaveIds c.args.book.now.part.now) (take_all c.loop-frame.frame-index c.args.frames.now (omega arith)) c.loop-frame.invariant.ids
