use Rattle.std.proofs.Common.{◌≡◌, ◌++◌, false, ℕ, List, drop, take}
use Rattle.devices.specs.Devices.{Seen, IsOnItsWay}
use Rattle.base_pages.specs.Sections.{sections}
use Rattle.base_pages.specs.Tags.{HaveIds}
use Rattle.base_pages.specs.Loops.{book_view}
use Rattle.base_pages.proofs.pages.write_sections.Given as goal

-- the sections so far are on their way, and those of the frames that are left follow
abbrev pub invariant-loop-frame : goal.invariant-loop-frame
invariant-loop-frame g l = record {
  ids : HaveIds l.book.part.now (take l.frame-index l.frames);
  unbroken : (g.S.Sink.seen l.sink).failed ≡ false;
  way : (start : Seen) (before : List ℕ) → IsOnItsWay start (g.S.Sink.seen l.initial.sink) l.fn.kept.items 0 before
      → (text : List ℕ) × IsOnItsWay start (g.S.Sink.seen l.sink) l.kept.items l.wrote text × (text ++ sections (book_view l.book) (drop l.frame-index l.frames) ≡ before ++ sections (book_view l.book) l.frames);
}
