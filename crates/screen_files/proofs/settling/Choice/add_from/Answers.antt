use Rattle.std.proofs.Common.{◌≡◌, ◌∙◌, ◌-◌, ◌++◌, ◌∷◌, [], List, true, false, OnOk, ap, append_assoc, length, rules, subst, sym, take}
use Rattle.std.proofs.lemmas.List.{nil_from_length}
use Rattle.screen_files.specs.declared.filed.Filed.{Filed}
use Rattle.screen_files.specs.declared.filed.Twin.{Twin}
use Rattle.screen_files.specs.Settling.{has_same_id, chosen, kept_from, twins_among, twins_from}
use Rattle.screen_files.proofs.Groups.{more_within, more_there, more_taken, new_within, new_there, new_taken, kept_same, kept_other, twins_same, twins_other, kept_end, twins_end}
use Rattle.screen_files.proofs.settling.Choice.add_from.Goals as goal

pub loop-filed-preserved-then-has_same_id : goal.loop-filed-preserved-then-has_same_id
loop-filed-preserved-then-has_same_id c =
    let l = c.loop-filed in
    let f = c.in-Some.filed.now in
    let more = c.in-Some.more.now in
    let is : l.left.now ≡ f ∷ more = search rules in
    let same : has_same_id l.kept.now f ≡ true = search rules in
    let new : c.chosen-kept.result.now ≡ chosen l.kept.now f = c.chosen-kept.ensures in
    let group = take (length l.group.now - length l.left.now) l.group.now in
    record {
      there = more_there l.group.now l.left.now f more is l.invariant.within l.invariant.there;
      within = more_within l.group.now l.left.now f more is l.invariant.within l.invariant.there;
      frames = ap (λ (k : Filed). l.self.frames.items ++ kept_from k more) new
          ∙ sym (ap (λ (ks : List Filed). l.self.frames.items ++ ks) (kept_same l.kept.now l.left.now f more is same))
          ∙ l.invariant.frames;
      twins = ap (λ (k : Filed). l.self.twins.items ++ twins_from k (take (length l.group.now - length more) l.group.now) more) new
          ∙ ap (λ (g : List Filed). l.self.twins.items ++ twins_from (chosen l.kept.now f) g more) (more_taken l.group.now l.left.now f more is l.invariant.within l.invariant.there)
          ∙ sym (ap (λ (ts : List Twin). l.self.twins.items ++ ts) (twins_same l.kept.now l.left.now f more is group same))
          ∙ l.invariant.twins;
    }

pub loop-filed-preserved : goal.loop-filed-preserved
loop-filed-preserved c =
    let l = c.loop-filed in
    let f = c.in-Some.filed.now in
    let more = c.in-Some.more.now in
    let is : l.left.now ≡ f ∷ more = search rules in
    let other : has_same_id l.kept.now f ≡ false = search rules in
    let group = take (length l.group.now - length l.left.now) l.group.now in
    let frames : c.close.new.self.frames.items ≡ l.self.frames.items ++ l.kept.now ∷ [] = c.in_ok-close.ensures.frames in
    let twins : c.close.new.self.twins.items ≡ l.self.twins.items ++ twins_among l.kept.now group = c.in_ok-close.ensures.twins in
    record {
      there = new_there l.left.now f more is;
      within = new_within l.left.now f more is;
      frames = ap (λ (ks : List Filed). ks ++ kept_from f more) frames
          ∙ append_assoc l.self.frames.items (l.kept.now ∷ []) (kept_from f more)
          ∙ sym (ap (λ (ks : List Filed). l.self.frames.items ++ ks) (kept_other l.kept.now l.left.now f more is other))
          ∙ l.invariant.frames;
      twins = ap (λ (g : List Filed). c.close.new.self.twins.items ++ twins_from f g more) (new_taken l.left.now f more is)
          ∙ ap (λ (ts : List Twin). ts ++ twins_from f (f ∷ []) more) twins
          ∙ append_assoc l.self.twins.items (twins_among l.kept.now group) (twins_from f (f ∷ []) more)
          ∙ sym (ap (λ (ts : List Twin). l.self.twins.items ++ ts) (twins_other l.kept.now l.left.now f more is group other))
          ∙ l.invariant.twins;
    }

pub returns-clause-frames : goal.returns-clause-frames
returns-clause-frames c =
    let l = c.loop-filed in
    let empty : length l.left.now ≡ 0 = search rules in
    let none = nil_from_length l.left.now empty in
    let all = sym (ap (λ (ks : List Filed). l.self.frames.items ++ ks) (kept_end l.kept.now l.left.now none)) ∙ l.invariant.frames in
    subst (λ (ks : List Filed). OnOk c.close-2.result (c.close-2.new.self.frames.items ≡ ks)) all c.close-2.ensures.frames

pub returns-clause-twins : goal.returns-clause-twins
returns-clause-twins c =
    let l = c.loop-filed in
    let empty : length l.left.now ≡ 0 = search rules in
    let none = nil_from_length l.left.now empty in
    let group = take (length l.group.now - length l.left.now) l.group.now in
    let all = sym (ap (λ (ts : List Twin). l.self.twins.items ++ ts) (twins_end l.kept.now group l.left.now none)) ∙ l.invariant.twins in
    subst (λ (ts : List Twin). OnOk c.close-2.result (c.close-2.new.self.twins.items ≡ ts)) all c.close-2.ensures.twins
