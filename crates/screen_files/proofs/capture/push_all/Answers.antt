use Rattle.std.proofs.Common.{◌≡◌, ◌∙◌, ◌++◌, ◌∷◌, List, Err, ap, append-nil, append_assoc, length, rules, sym}
use Rattle.std.proofs.lemmas.List.{nil_from_length}
use Rattle.screen_files.specs.declared.capture.Reel.{Reel}
use Rattle.screen_files.specs.declared.capture.Shot.{Shot}
use Rattle.screen_files.specs.Captures.{cleared, cleared_by, offset_in, reel_after, wound}
use Rattle.screen_files.proofs.Reels.{still_refused, cleared_more, wound_more, cleared_end, wound_end}
use Rattle.screen_files.proofs.capture.push_all.Goals as goal

pub loop-byte-preserved : goal.loop-byte-preserved
loop-byte-preserved c =
    let l = c.loop-byte in
    let size = length c.args.bytes.now in
    let b = c.in-Some.byte.now in
    let rest = c.in-Some.rest.now in
    let is : l.left.now ≡ b ∷ rest = search rules in
    let next : c.step.new.self ≡ reel_after l.reel (offset_in size l.left.now) b = search rules in
    let shots : c.push_cleared.new.shots.items ≡ l.shots.items ++ cleared_by l.reel b = c.in_ok-push_cleared.ensures.0 in
    record {
      shots = ap (λ (r : Reel). c.push_cleared.new.shots.items ++ cleared size r rest) next
          ∙ ap (λ (ss : List Shot). ss ++ cleared size (reel_after l.reel (offset_in size l.left.now) b) rest) shots
          ∙ append_assoc l.shots.items (cleared_by l.reel b) (cleared size (reel_after l.reel (offset_in size l.left.now) b) rest)
          ∙ sym (ap (λ (ss : List Shot). l.shots.items ++ ss) (cleared_more size l.reel l.left.now b rest is))
          ∙ l.invariant.shots;
      reel = ap (λ (r : Reel). wound size r rest) next ∙ sym (wound_more size l.reel l.left.now b rest is) ∙ l.invariant.reel;
      few = λ old. c.in_ok-push_cleared.ensures.1 (l.invariant.few old);
    }

pub returns-clause-shots : goal.returns-clause-shots
returns-clause-shots c =
    let l = c.loop-byte in
    let empty : length l.left.now ≡ 0 = search rules in
    let none = nil_from_length l.left.now empty in
    let shots = sym (append-nil l.shots.items)
    ∙ sym (ap (λ (ss : List Shot). l.shots.items ++ ss) (cleared_end (length c.args.bytes.now) l.reel l.left.now none))
    ∙ l.invariant.shots in (shots, l.invariant.few)

pub returns-clause-reel : goal.returns-clause-reel
returns-clause-reel c =
    let l = c.loop-byte in
    let empty : length l.left.now ≡ 0 = search rules in
    let none = nil_from_length l.left.now empty in
    sym (wound_end (length c.args.bytes.now) l.reel l.left.now none) ∙ l.invariant.reel

pub returns-in_err-push_cleared-clause-shots : goal.returns-in_err-push_cleared-clause-shots
returns-in_err-push_cleared-clause-shots c =
    let l = c.loop-byte in
    let size = length c.args.bytes.now in
    let b = c.in-Some.byte.now in
    let rest = c.in-Some.rest.now in
    let is : l.left.now ≡ b ∷ rest = search rules in
    let later = cleared size (reel_after l.reel (offset_in size l.left.now) b) rest in
    let all = sym (ap (λ (ss : List Shot). l.shots.items ++ ss) (cleared_more size l.reel l.left.now b rest is)) ∙ l.invariant.shots in
    let same : c.from_residual.result ≡ Err c.in_err-push_cleared.field-0.0 = search rules in
    rw same (still_refused c.in_err-push_cleared.field-0.0 c.args.shots.now.items c.push_cleared.new.shots.items l.shots.items c.push_cleared.new.shots.items (cleared_by l.reel b) later (cleared size c.args.reel.now c.args.bytes.now) all c.in_err-push_cleared.ensures)
