use Rattle.std.proofs.Common.{rules, ◌≡◌, ◌∙◌, ◌+◌, ◌++◌, ◌∷◌, [], sym, ap, subst, drop, arith, append_assoc}
use Rattle.std.proofs.lemmas.List.{drop_more, drop_all, append-nil}
use Rattle.devices.specs.Devices.{WrotePart, IsOnItsWay}
use Rattle.audit_report.specs.Listing.{unreached_lines}
use Rattle.devices.proofs.OnTheWay.{kept_more}
use Rattle.audit_report.proofs.Others.{first_line}
use Rattle.audit_report.proofs.listing.write_others.Goals as goal

pub returns-in-Err-clause-part : goal.returns-in-Err-clause-part
returns-in-Err-clause-part g c = λ start before found knows way.
    let frames = c.args.frames.now in
    let i = c.loop-frame.frame-index in
    let f = c.frame-item.result in
    let fs = drop (i + 1) frames in
    let held = c.loop-frame.invariant.way start before found knows way in
    let line = unreached_lines c.args.form found (f ∷ []) in
    let rest = unreached_lines c.args.form found fs in
    let left : drop i frames ≡ f ∷ fs = drop_more frames i f (omega arith) ∙ ap (λ x. x ∷ fs) (sym c.frame-item.is) in
    let all : (held.0 ++ line) ++ rest ≡ before ++ unreached_lines c.args.form found frames =
    append_assoc held.0 line rest ∙ ap (λ xs. held.0 ++ xs) (sym (first_line c.args.form found f fs)) ∙ ap (λ xs. held.0 ++ unreached_lines c.args.form found xs) (sym left) ∙ held.2 in
    let more = kept_more start (g.S.Sink.seen c.loop-frame.sink) c.loop-frame.kept.items c.push_other.new.out.items c.loop-frame.taken held.0 line (c.push_other.ensures.items found knows) held.1 in
    subst (λ xs. WrotePart start (g.S.Sink.seen c.write_piece.new.sink) xs c.in-Err.fault.wrote) all (c.in-Err.ensures.part start (held.0 ++ line) rest more)

pub loop-frame-preserved : goal.loop-frame-preserved
loop-frame-preserved g c = record {
  unbroken = search rules;
  room = search rules;
  wide = search rules;
  count = search rules;
  way = λ start before found knows way.
      let frames = c.args.frames.now in
      let i = c.loop-frame.frame-index in
      let f = c.frame-item.result in
      let fs = drop (i + 1) frames in
      let held = c.loop-frame.invariant.way start before found knows way in
      let line = unreached_lines c.args.form found (f ∷ []) in
      let rest = unreached_lines c.args.form found fs in
      let left : drop i frames ≡ f ∷ fs = drop_more frames i f (omega arith) ∙ ap (λ x. x ∷ fs) (sym c.frame-item.is) in
      let all : (held.0 ++ line) ++ rest ≡ before ++ unreached_lines c.args.form found frames =
      append_assoc held.0 line rest ∙ ap (λ xs. held.0 ++ xs) (sym (first_line c.args.form found f fs)) ∙ ap (λ xs. held.0 ++ unreached_lines c.args.form found xs) (sym left) ∙ held.2 in
      let more = kept_more start (g.S.Sink.seen c.loop-frame.sink) c.loop-frame.kept.items c.push_other.new.out.items c.loop-frame.taken held.0 line (c.push_other.ensures.items found knows) held.1 in
      (held.0 ++ line, c.in-Ok.ensures.taken start (held.0 ++ line) more, all);
}

pub returns-clause-taken : goal.returns-clause-taken
returns-clause-taken g c = λ start before found knows way.
    let held = c.loop-frame.invariant.way start before found knows way in
    let none : drop c.loop-frame.frame-index c.args.frames.now ≡ [] = drop_all c.loop-frame.frame-index c.args.frames.now (omega arith) in
    let all = sym (append-nil held.0) ∙ ap (λ xs. held.0 ++ unreached_lines c.args.form found xs) (sym none) ∙ held.2 in
    subst (λ xs. IsOnItsWay start (g.S.Sink.seen c.loop-frame.sink) c.loop-frame.kept.items c.loop-frame.taken xs) all held.1
