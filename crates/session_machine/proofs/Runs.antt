-- Keys in turn.
use Rattle.std.proofs.Common.{◌≡◌, ℕ, List, [], ◌∷◌, ◌++◌, refl, sym, ◌∙◌, ap, append_assoc}
use Rattle.std.specs.List.{AllByRecursion}
use Rattle.page_ids.specs.declared.key.Key.{Key}
use Rattle.frame_records.specs.Bases.{BaseView}
use Rattle.session_machine.specs.declared.reply.Reply.{Reply}
use Rattle.session_machine.specs.declared.reply.Reply.TheVariants.{NotOffered}
use Rattle.session_machine.specs.Sessions.{SessionState, Left, key_step}
use Rattle.session_machine.specs.Runs.{state_after, replies_to, Part, state_over, replies_over}

pub state_in_turn : (caller : List ℕ) (base : BaseView) (from : SessionState) (keys more : List Key) → state_after caller base from (keys ++ more) ≡ state_after caller base (state_after caller base from keys) more
state_in_turn caller base from [] more = refl
state_in_turn caller base from (key ∷ keys) more = state_in_turn caller base (key_step caller base from key).0 keys more

pub replies_in_turn : (caller : List ℕ) (base : BaseView) (from : SessionState) (keys more : List Key) → replies_to caller base from (keys ++ more) ≡ replies_to caller base from keys ++ replies_to caller base (state_after caller base from keys) more
replies_in_turn caller base from [] more = refl
replies_in_turn caller base from (key ∷ keys) more = ap (λ (rest : List Reply). (key_step caller base from key).1 ∷ rest) (replies_in_turn caller base (key_step caller base from key).0 keys more)

pub away_state : (caller : List ℕ) (base : BaseView) (page : ℕ) (keys : List Key) → state_after caller base (Left page) keys ≡ Left page
away_state caller base page [] = refl
away_state caller base page (key ∷ keys) = away_state caller base page keys

pub away_replies : (caller : List ℕ) (base : BaseView) (page : ℕ) (keys : List Key) → AllByRecursion (λ reply. reply ≡ NotOffered) (replies_to caller base (Left page) keys)
away_replies caller base page [] = tt
away_replies caller base page (key ∷ keys) = (refl, away_replies caller base page keys)

pub parts_state : (caller : List ℕ) (parts : List Part) (from : SessionState) (more : List Part) → state_over caller from (parts ++ more) ≡ state_over caller (state_over caller from parts) more
parts_state caller [] from more = refl
parts_state caller (part ∷ parts) from more = parts_state caller parts _ more

pub parts_replies : (caller : List ℕ) (parts : List Part) (from : SessionState) (more : List Part) → replies_over caller from (parts ++ more) ≡ replies_over caller from parts ++ replies_over caller (state_over caller from parts) more
parts_replies caller [] from more = refl
parts_replies caller (part ∷ parts) from more = ap (λ (rest : List Reply). replies_to caller part.base from part.keys ++ rest) (parts_replies caller parts _ more) ∙ sym (append_assoc (replies_to caller part.base from part.keys) _ _)
