use Rattle.std.proofs.Common.{◌≡◌, [], get_or, sym, ◌∙◌, length, refl, rules}
use Rattle.edition_checks.proofs.FolderReads.{later_then}
use Rattle.one_call.specs.Parts.{First}
use Rattle.one_call.proofs.Parts.{over_editions, with_byte, now_byte, served_byte}
use Rattle.one_call.proofs.Lines.{begin_stopped, so_far_none, to_hear, served_more, so_far_more, call_more, cut_by, given_one}
use Rattle.one_call.proofs.line.serve_line.Goals as goal

pub returns-in-Err : goal.returns-in-Err
returns-in-Err g c start later is =
    begin_stopped c.args.first.policy.groups start c.args.first (g.R.Source.seen c.args.source.now) (g.W.Sink.seen c.args.sink.now) (g.W.Sink.seen c.begin.new.sink) c.in-Err.fault (refl, is) c.in-Err.ensures

pub loop-init : goal.loop-init
loop-init g c = record {
  parts = First c.args.first [];
  so_far = so_far_none c.args.first.policy.groups c.args.first (g.R.Source.seen c.args.source.now) (g.W.Sink.seen c.args.sink.now) (g.W.Sink.seen c.begin.new.sink) c.in-Ok.ensures.1;
  call = c.in-Ok.ensures.0;
  now = refl;
  later = record { held = refl; same = λ held. refl };
  served = λ start later is. (refl, is);
  reads = c.requires.reads;
  writes = c.in-Ok.ensures.1.unbroken;
}

pub returns-in-Err-answer : goal.returns-in-Err-answer
returns-in-Err-answer g c start later is =
    let F = g.F.EditionFolder.seen in
    let R = g.R.Source.seen in
    let W = g.W.Sink.seen in
    let groups = c.args.first.policy.groups in
    let h = c.loop.invariant in
    let long : length c.read.new.into ≡ 1 = search rules in
    let b = get_or c.read.new.into 0 0 in
    let given = given_one (R c.loop.source) (R c.read.new.self) c.read.new.into c.in-Ok-read.field-0 long c.in-Ok-read.ensures.fits.0 c.in-Ok-read.field-0-test.1 c.in-Ok-read.ensures.bytes.0 in
    let renewed = c.renew.ensures.renewed in
    let reached = renewed.reached in
    let hear = to_hear groups (F c.loop.folder) (R c.args.source.now) (R c.loop.source) (R c.read.new.self) (W c.args.sink.now) (W c.loop.sink) h.parts c.loop.served c.renew.new.served c.loop.call b
    reached h.so_far h.now h.call (sym c.is_over.ensures ∙ c.if-is_over.false) given in
    cut_by groups start (R c.args.source.now) (R c.loop.source) (R c.read.new.self) (W c.args.sink.now) (W c.loop.sink) (W c.answer.new.sink)
    (over_editions h.parts reached.editions) c.renew.new.served c.loop.call b c.in-Err-answer.fault hear
    (served_more groups start (F c.loop.folder) h.parts c.loop.served c.renew.new.served renewed (h.served start later is) h.now (later_then start (F c.args.folder.now) (F c.loop.folder) later h.later))
    c.in-Err-answer.ensures

pub loop-preserved : goal.loop-preserved
loop-preserved g c =
    let F = g.F.EditionFolder.seen in
    let R = g.R.Source.seen in
    let W = g.W.Sink.seen in
    let groups = c.args.first.policy.groups in
    let h = c.loop.invariant in
    let long : length c.read.new.into ≡ 1 = search rules in
    let b = get_or c.read.new.into 0 0 in
    let given = given_one (R c.loop.source) (R c.read.new.self) c.read.new.into c.in-Ok-read.field-0 long c.in-Ok-read.ensures.fits.0 c.in-Ok-read.field-0-test.1 c.in-Ok-read.ensures.bytes.0 in
    let renewed = c.renew.ensures.renewed in
    let reached = renewed.reached in
    let over = over_editions h.parts reached.editions in
    let hear = to_hear groups (F c.loop.folder) (R c.args.source.now) (R c.loop.source) (R c.read.new.self) (W c.args.sink.now) (W c.loop.sink) h.parts c.loop.served c.renew.new.served c.loop.call b
    reached h.so_far h.now h.call (sym c.is_over.ensures ∙ c.if-is_over.false) given in
    record {
      parts = with_byte over b;
      so_far = so_far_more groups (R c.args.source.now) (R c.loop.source) (R c.read.new.self) (W c.args.sink.now) (W c.loop.sink) (W c.answer.new.sink) over c.renew.new.served c.loop.call b
          hear c.in-Ok-answer.ensures.1;
      call = call_more groups over c.renew.new.served c.loop.call c.answer.new.call b hear.now hear.call c.in-Ok-answer.ensures.0;
      now = hear.now ∙ sym (now_byte over b);
      later = later_then (F c.args.folder.now) (F c.loop.folder) (F c.renew.new.folder) h.later c.renew.ensures.later;
      served = λ start later is. served_byte groups start over b
          (served_more groups start (F c.loop.folder) h.parts c.loop.served c.renew.new.served renewed (h.served start later is) h.now
          (later_then start (F c.args.folder.now) (F c.loop.folder) later h.later));
      reads = c.in-Ok-read.ensures.flag ∙ h.reads;
      writes = c.in-Ok-answer.ensures.1.unbroken;
    }
