use Rattle.std.proofs.Common.{◌≡◌, ◌==◌, ◌<◌, Some, true, false, length, subst, sym, rules, arith}
use Rattle.std.proofs.lemmas.Bool.{false≢true}
use Rattle.std.proofs.lemmas.Grind.{common_steps}
use Rattle.toml_parser.specs.Lexical.{skip_blank}
use Rattle.toml_parser.specs.Reading.{key_view}
use Rattle.toml_places.specs.Places.{Section}
use Rattle.toml_places.specs.Loops.{whole_line, frame_count, section_view, IsOpen, line_view}
use Rattle.toml_places.proofs.Walking.{section_open, walk_begins, walk_ends, walk_refused, walk_goes_on, walks_err}
use Rattle.toml_places.proofs.places.Places.walk.Goals as goal

pub lines-init : goal.lines-init
lines-init c = (
  search rules,
  c.skip_bom-rest.ensures.within,
  λ h. absurd (false≢true h),
  λ is_toml.
      let within = c.skip_bom-rest.ensures.within in
      let rest_is = c.skip_bom-rest.ensures.rest in
      rw (c.requires.none, c.new.ensures.items, rest_is)
      (walk_begins c.args.text.now c.args.self.now is_toml (rw rest_is at within) c.requires.kept),
)

pub returns-then-is_empty : goal.returns-then-is_empty
returns-then-is_empty c is_toml =
    let l = c.lines in
    let start_is = c.skip_blank-start.ensures.rest in
    let none : (length (skip_blank l.rest.now) == 0) ≡ true = grind (arith, common_steps) in
    walk_ends c.args.text.now l.self (section_view (frame_count l.self) l.section) l.rest.now (l.invariant.3 is_toml) none

pub returns-in_err-found : goal.returns-in_err-found
returns-in_err-found c =
    let l = c.lines in
    let start_is = c.skip_blank-start.ensures.rest in
    let other : (length (skip_blank l.rest.now) == 0) ≡ false = grind (arith, common_steps) in
    walks_err c.from_residual.result c.args.text.now l.self c.in_err-found.field-0.0 _ c.from_residual.ensures.1 (λ y p. p) λ refused.
    walk_refused c.args.text.now l.self (section_view (frame_count l.self) l.section) l.rest.now l.invariant.3 other
    (rw start_is at (c.in_err-found.ensures.value refused))

pub lines-preserved : goal.lines-preserved
lines-preserved c =
    let l = c.lines in
    let old : Section = section_view (frame_count l.self) l.section in
    let new : Section = section_view (frame_count c.write.new.self) c.write.new.section in
    let start_is = c.skip_blank-start.ensures.rest in
    let other : (length (skip_blank l.rest.now) == 0) ≡ false = grind (arith, common_steps) in
    let read : whole_line (skip_blank l.rest.now) ≡ Some (line_view c.in_ok-found.found, c.in_ok-found.after.now) = rw start_is at c.in_ok-found.ensures.value in
    let shorter = c.in_ok-found.ensures.shorter in
    let before = c.skip_blank-start.ensures.within in
    let less : length c.in_ok-found.after.now < length l.rest.now = omega arith in
    let wrote = c.in_ok-write.ensures in (
      search rules,
      omega (arith, l.invariant.1),
      subst (λ (s : Section). IsOpen s) (sym wrote.section) (section_open old (key_view c.in_ok-found.found.key) c.in_ok-found.found.sort l.invariant.2),
      λ is_toml.
          walk_goes_on c.args.text.now l.self c.write.new.self old new l.rest.now (line_view c.in_ok-found.found) c.in_ok-found.after.now (l.invariant.3 is_toml) other read
          (record { shorter = less; section = wrote.section; keeps = rw start_is at wrote.keeps }),
    )
