use Rattle.std.proofs.Common.{◌≡◌, ◌∙◌, ◌∷◌, ◌++◌, ◌≤◌, ◌<◌, List, ap, sym, rules, length, append-nil}
use Rattle.std.proofs.lemmas.List.{nil_from_length}
use Rattle.screen_files.specs.declared.filed.Filed.{Filed}
use Rattle.base_text.specs.declared.limits.TheConstants.{MOST_TEXT}
use Rattle.screen_files.specs.Album.{frames_text, first_over}
use Rattle.screen_files.proofs.Frames.{text_more, over_here, over_later}
use Rattle.screen_files.proofs.album.push_frames.Goals as goal

pub returns-then-len-gt-MOST_TEXT-clause-fault : goal.returns-then-len-gt-MOST_TEXT-clause-fault
returns-then-len-gt-MOST_TEXT-clause-fault c =
    let known = c.args.known.now in
    let f = c.in-Some.filed.now in
    let is : c.loop-filed.rest.now ≡ f ∷ c.in-Some.more.now = search rules in
    let past : MOST_TEXT < length c.push_filed.new.out.items = search rules in
    sym (c.loop-filed.invariant.1) ∙ over_here known c.loop-filed.out.items c.push_filed.new.out.items f c.in-Some.more.now c.loop-filed.rest.now is c.in-Ok.ensures past

pub loop-filed-preserved : goal.loop-filed-preserved
loop-filed-preserved c =
    let known = c.args.known.now in
    let f = c.in-Some.filed.now in
    let is : c.loop-filed.rest.now ≡ f ∷ c.in-Some.more.now = search rules in
    let within : length c.push_filed.new.out.items ≤ MOST_TEXT = search rules in (
      text_more known c.loop-filed.out.items c.push_filed.new.out.items f c.in-Some.more.now c.loop-filed.rest.now is c.in-Ok.ensures ∙ c.loop-filed.invariant.0,
      over_later known c.loop-filed.out.items c.push_filed.new.out.items f c.in-Some.more.now c.loop-filed.rest.now is c.in-Ok.ensures within ∙ c.loop-filed.invariant.1,
    )

pub returns-clause-text : goal.returns-clause-text
unfolding frames_text
returns-clause-text c =
    let known = c.args.known.now in
    let empty : length c.loop-filed.rest.now ≡ 0 = search rules in
    let none = nil_from_length c.loop-filed.rest.now empty in
    sym (append-nil c.loop-filed.out.items) ∙ ap (λ (fs : List Filed). c.loop-filed.out.items ++ frames_text known fs) (sym none) ∙ c.loop-filed.invariant.0

pub returns-clause-within : goal.returns-clause-within
unfolding first_over
returns-clause-within c =
    let known = c.args.known.now in
    let empty : length c.loop-filed.rest.now ≡ 0 = search rules in
    let none = nil_from_length c.loop-filed.rest.now empty in
    sym (c.loop-filed.invariant.1) ∙ ap (first_over known (length c.loop-filed.out.items)) none
