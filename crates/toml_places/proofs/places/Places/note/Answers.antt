use Rattle.std.proofs.Common.{◌≡◌, ℕ, ◌+◌, ◌-◌, length, ap, Some, None, slice_get, refl, sym, ◌∙◌, arith}
use Rattle.std.proofs.lemmas.Option.{slice_get_read}
use Rattle.std.specs.Option.{option_copied}
use Rattle.toml_parser.specs.Reading.{path_view}
use Rattle.toml_places.specs.Places.{Mark, mark_in, spot_at, spot_of}
use Rattle.toml_places.specs.Loops.{frame_count, section_view}
use Rattle.toml_places.proofs.Firsts.{length-path, keeps_frame, keeps_top, ok_then, option_or-none}
use Rattle.toml_places.proofs.places.Places.note.Goals as goal

pub returns-then-section-clause-keeps : goal.returns-then-section-clause-keeps
returns-then-section-clause-keeps c =
    let frames = c.args.self.now.frames.items in
    let len : c.len-last.result ≡ frame_count c.args.self.now = c.len-last.ensures ∙ c.args.self.now.frames.ok.0 in
    let last : ℕ = c.len-last.result - 1 in
    let m : Mark = mark_in (section_view (frame_count c.args.self.now) c.args.section.now) (path_view c.args.own.now) (c.args.written.at, c.args.written.parts) in
    let at_frame : m.frame ≡ Some last = rw (c.if-section.true, len) refl in
    let some = c.requires c.if-section.true in
    let found : slice_get frames last ≡ Some c.index_mut.result.now =
    slice_get_read frames c.len-last.result last c.index_mut.result.now len (omega arith) c.index_mut.ensures.value in
    let one : option_copied c.part-one.result ≡ slice_get m.path 0 = rw c.deref.ensures.value at c.part-one.ensures in
    let two : option_copied c.part-two.result ≡ slice_get m.path 1 = rw c.deref-2.ensures.value at c.part-two.ensures in
    let size : c.len.result + length c.args.own.now ≡ length m.path =
    ap (λ n. n + length c.args.own.now) (c.len.ensures ∙ c.args.section.now.path.ok.0) ∙ sym (length-path c.args.section.now.path.items c.args.own.now) in
    ok_then c.note.result _ _ c.note.ensures λ noted ms h.
    keeps_frame c.args.self.now _ ms m last c.index_mut.result.now c.note.new.self h at_frame found refl refl (rw (one, two, size) at noted)

pub returns-in-Some-clause-keeps : goal.returns-in-Some-clause-keeps
returns-in-Some-clause-keeps c =
    let m : Mark = mark_in (section_view (frame_count c.args.self.now) c.args.section.now) (path_view c.args.own.now) (c.args.written.at, c.args.written.parts) in
    let at_top : m.frame ≡ None = rw c.if-section.false refl in
    let one : slice_get m.path 0 ≡ option_copied c.part-one.result = sym (rw c.deref.ensures.value at c.part-one.ensures) in
    let size : c.len.result + length c.args.own.now ≡ length m.path =
    ap (λ n. n + length c.args.own.now) (c.len.ensures ∙ c.args.section.now.path.ok.0) ∙ sym (length-path c.args.section.now.path.items c.args.own.now) in
    let spot : c.spot.result ≡ spot_of 0 m = c.spot.ensures ∙ ap (λ n. spot_at c.args.written.at c.args.written.parts n 0) size in
    ok_then c.note-in-Some.result _ _ c.note-in-Some.ensures λ noted ms h.
    keeps_top c.args.self.now _ ms m h at_top refl (λ q. rw (one, c.in-Some.is, ← spot) (noted q))

pub returns-in_default-clause-keeps : goal.returns-in_default-clause-keeps
returns-in_default-clause-keeps c ms h =
    let m : Mark = mark_in (section_view (frame_count c.args.self.now) c.args.section.now) (path_view c.args.own.now) (c.args.written.at, c.args.written.parts) in
    let at_top : m.frame ≡ None = rw c.if-section.false refl in
    let one : slice_get m.path 0 ≡ option_copied c.part-one.result = sym (rw c.deref.ensures.value at c.part-one.ensures) in
    keeps_top c.args.self.now c.args.self.now ms m h at_top refl (λ q. rw (one, c.in_default.is) (sym (option_or-none _)))
