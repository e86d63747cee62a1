-- What a good certificate keeps along a session: the present id and each remembered id have rows.
use Rattle.std.proofs.Common.{◌≡◌, ℕ, zero, suc, ◌<◌, ◌≤◌, ◌⊎◌, inl, inr, Bool, true, false, cond, List, [], ◌∷◌, length, take, Option, Some, None, refl, sym, ◌∙◌, ap, subst, arith, is_some}
use Rattle.std.specs.List.{AllByRecursion}
use Rattle.page_ids.specs.Ids.{Id, id_eq}
use Rattle.page_ids.specs.IdLaws.{id_eq_same}
use Rattle.page_ids.specs.declared.key.Key.{Key}
use Rattle.page_ids.specs.declared.key.Key.TheVariants as key
use Rattle.page_ids.specs.declared.way.Way.{Way}
use Rattle.page_ids.specs.declared.way.Way.TheVariants.{Route, Next}
use Rattle.page_ids.specs.Ways.{way_key}
use Rattle.frame_records.specs.declared.frame.Frame.{Frame}
use Rattle.frame_records.specs.declared.base.Sought.{Sought}
use Rattle.frame_records.specs.declared.base.Sought.TheVariants as sought
use Rattle.frame_records.specs.declared.ways.Destination.{Destination}
use Rattle.frame_records.specs.declared.ways.Destination.TheVariants.{NotOffered, Outside}
use Rattle.frame_records.specs.Bases.{BaseView, frame_at, AreApart}
use Rattle.frame_records.specs.Seek.{seek, entry_of}
use Rattle.frame_records.specs.Ways as led
use Rattle.frame_records.specs.Ways.{sought_by, offered_by, destination_by, destination}
use Rattle.frame_records.specs.WayLaws.{goes}
use Rattle.session_machine.specs.declared.reply.Reply.TheVariants as reply
use Rattle.session_machine.specs.declared.reply.Reply.TheVariants.{Shown}
use Rattle.session_machine.specs.Sessions.{SessionState, At, Left, present, Outcome, key_step, way_step, by_way, prev_step, by_prev, by_update, update_step, remember, opening}
use Rattle.session_machine.specs.Runs.{state_after, replies_to, Regains, LeftOrRegains, IsFairReply, IsForward}
use Rattle.cert_table.specs.declared.row.Row.{Row}
use Rattle.cert_table.specs.Table.{row_among, CertView}
use Rattle.checker.specs.declared.policy.Policy.{Policy}
use Rattle.checker.specs.Good.{Good, IsGoodRow, LeadsOn, is_row_of}
use Rattle.checker.specs.Safe.{Safe, HasRows, IsCleanAt, IsCleanReply}

pub some_there : {A : Type 0} (o : Option A) → is_some o ≡ true → (x : A) × (o ≡ Some x)
some_there None h = cc
some_there (Some x) h = (x, refl)

all_take : {A : Type 0} (P : A → Type 0) (n : ℕ) (xs : List A) → AllByRecursion P xs → AllByRecursion P (take n xs)
all_take P zero xs h = tt
all_take P (suc n) [] h = tt
all_take P (suc n) (x ∷ xs) h = (h.0, all_take P n xs h.1)

row_by : (b : Bool) (x y : Row) (o : Option Row) → cond b (Some x) o ≡ Some y → ((b ≡ true) × (x ≡ y)) ⊎ (o ≡ Some y)
row_by true x y o h = inl (refl, cc)
row_by false x y o h = inr h

-- what a look-up finds is one of the rows, and has the id
pub row_is : (P : Row → Type 0) (rows : List Row) (id : Id) (row : Row) → AllByRecursion P rows → row_among rows id ≡ Some row → P row × (row.id ≡ id)
row_is P [] id row all e = cc
row_is P (r ∷ rs) id row all e =
    elim (row_by (id_eq r.id id) r row (row_among rs id) e) [
      | inl w ↦ subst (λ (x : Row). P x × (x.id ≡ id)) w.1 (all.0, id_eq_same r.id id w.0)
      | inr w ↦ row_is P rs id row all.1 w
    ]

-- an outcome that keeps the rows, with a reply that is fair and clean
pub record Kept (base : BaseView) (cert : CertView) (out : Outcome) : Type 0 where
  pub rows : HasRows cert.rows out.0
  pub fair : IsFairReply cert.ceiling out.1
  pub clean : IsCleanReply base out.1

module _ (base : BaseView) (policy : Policy) (cert : CertView) (apart : AreApart base) (good : Good base policy cert) where
  -- the row of an id is right
  pub row_at : (id : Id) (row : Row) → row_among cert.rows id ≡ Some row → IsGoodRow cert.groups base cert id row.rank row.cursor
  row_at id row e =
      let r = row_is (λ r. IsGoodRow cert.groups base cert r.id r.rank r.cursor) cert.rows id row good.rows e in
      subst (λ (i : Id). IsGoodRow cert.groups base cert i row.rank row.cursor) r.1 r.0

  good_row : (id : Id) → is_row_of cert.rows id ≡ true → (row : Row) × IsGoodRow cert.groups base cert id row.rank row.cursor
  good_row id h = let r = some_there (row_among cert.rows id) h in (r.0, row_at id r.0 r.1)

  -- a covered frame is found at a fair price, and is clean
  pub record IsFound (id : Id) : Type 0 where
    pub price : ℕ
    pub found : seek cert.groups base id ≡ sought.Found price
    pub fair : price ≤ cert.ceiling
    pub clean : IsCleanAt base id

  pub found_at : (id : Id) (row : Row) → IsGoodRow cert.groups base cert id row.rank row.cursor → IsFound id
  found_at id row g = record { price = g.frame.price; found = rw (g.found, g.admitted) refl; fair = g.price; clean = record { frame = g.frame; found = g.found; clean = g.clean } }

  pub covered_found : (id : Id) → is_row_of cert.rows id ≡ true → IsFound id
  covered_found id h = let g = good_row id h in found_at id g.0 g.1

  remembers : (id : Id) (remembered : List Id) → HasRows cert.rows (At id remembered) → AllByRecursion (λ r. is_row_of cert.rows r ≡ true) (remember id remembered)
  remembers id remembered h = all_take (λ r. is_row_of cert.rows r ≡ true) 3 (id ∷ remembered) h

  same : (id : Id) (remembered : List Id) → HasRows cert.rows (At id remembered) → Kept base cert (At id remembered, reply.NotOffered)
  same id remembered h = record { rows = h; fair = tt; clean = tt }

  keeps_way : (id : Id) (remembered : List Id) → HasRows cert.rows (At id remembered) → (way : Way) → Kept base cert (way_step cert.groups base id remembered way)
  keeps_way id remembered h way =
      let g = (good_row id h.0).1 in
      offered g.frame g.found (led.sought g.frame way) refl (λ to e. g.ways way to e) where
        -- a frame that is found
        shown : (to : Id) → is_row_of cert.rows to ≡ true → Kept base cert (by_way id remembered (sought_by base way to (seek cert.groups base to)))
        shown to cov =
            let f = covered_found to cov in
            subst (λ (x : Sought). Kept base cert (by_way id remembered (sought_by base way to x))) (sym f.found) (record { rows = (cov, remembers id remembered h); fair = f.fair; clean = f.clean })

        -- a way that leads on
        leads : (w : Way) → w ≡ way → (to : Id) → LeadsOn base cert.rows w to → Kept base cert (by_way id remembered (sought_by base way to (seek cert.groups base to)))
        leads (Route digit) is to (inl out) =
            let none : seek cert.groups base to ≡ sought.Missing = rw (apart to out) refl in
            let gone : sought_by base (Route digit) to sought.Missing ≡ Outside to.page = rw out refl in
            subst (λ (v : Way). Kept base cert (by_way id remembered (sought_by base v to (seek cert.groups base to)))) is
            (subst (λ (x : Sought). Kept base cert (by_way id remembered (sought_by base (Route digit) to x))) (sym none)
            (subst (λ (d : Destination). Kept base cert (by_way id remembered d)) (sym gone) (record { rows = tt; fair = tt; clean = tt })))
        leads (Route digit) is to (inr cov) = shown to cov
        leads Next is to cov = shown to cov

        offered : (f : Frame) → frame_at base id ≡ Some f → (o : Option Id) → led.sought f way ≡ o → ((to : Id) → led.sought f way ≡ Some to → LeadsOn base cert.rows way to) → Kept base cert (way_step cert.groups base id remembered way)
        offered f there None e all =
            let is : destination cert.groups base id way ≡ NotOffered = ap (destination_by cert.groups base way) there ∙ ap (offered_by cert.groups base way) e in
            subst (λ (d : Destination). Kept base cert (by_way id remembered d)) (sym is) (same id remembered h)
        offered f there (Some to) e all = subst (λ (d : Destination). Kept base cert (by_way id remembered d)) (sym (goes cert.groups base id f way to there e)) (leads way refl to (all to e))

  keeps_prev : (id : Id) (remembered : List Id) → HasRows cert.rows (At id remembered) → Kept base cert (prev_step cert.groups base id remembered)
  keeps_prev id [] h = same id [] h
  keeps_prev id (latest ∷ older) h =
      let s = covered_found latest h.1.0 in
      subst (λ (x : Sought). Kept base cert (by_prev id latest older x)) (sym s.found) (record { rows = (h.1.0, h.1.1); fair = s.fair; clean = s.clean })

  keeps_update : (id : Id) (remembered : List Id) → HasRows cert.rows (At id remembered) → Kept base cert (update_step cert.groups base id remembered)
  keeps_update id remembered h =
      let s = covered_found id h.0 in
      subst (λ (x : Sought). Kept base cert (by_update id remembered x)) (sym s.found) (record { rows = h; fair = s.fair; clean = s.clean })

  -- each key keeps the rows, and is answered fairly
  pub keeps : (s : SessionState) (k : Key) → HasRows cert.rows s → Kept base cert (key_step cert.groups base s k)
  keeps (At id remembered) (key.Route digit) h = keeps_way id remembered h (Route digit)
  keeps (At id remembered) key.Next h = keeps_way id remembered h Next
  keeps (At id remembered) key.Prev h = keeps_prev id remembered h
  keeps (At id remembered) key.Reprint h = record { rows = h; fair = tt; clean = (covered_found id h.0).clean }
  keeps (At id remembered) key.Update h = keeps_update id remembered h
  keeps (Left page) k h = record { rows = tt; fair = tt; clean = tt }

  -- so does each list of keys
  pub rows_after : (s : SessionState) (keys : List Key) → HasRows cert.rows s → HasRows cert.rows (state_after cert.groups base s keys)
  rows_after s [] h = h
  rows_after s (key ∷ keys) h = rows_after (key_step cert.groups base s key).0 keys (keeps s key h).rows

  pub fair_replies : (s : SessionState) (keys : List Key) → HasRows cert.rows s → AllByRecursion (IsFairReply cert.ceiling) (replies_to cert.groups base s keys)
  fair_replies s [] h = tt
  fair_replies s (key ∷ keys) h = let k = keeps s key h in (k.fair, fair_replies (key_step cert.groups base s key).0 keys k.rows)

  pub clean_replies : (s : SessionState) (keys : List Key) → HasRows cert.rows s → AllByRecursion (IsCleanReply base) (replies_to cert.groups base s keys)
  clean_replies s [] h = tt
  clean_replies s (key ∷ keys) h = let k = keeps s key h in (k.clean, clean_replies (key_step cert.groups base s key).0 keys k.rows)

  -- the key of a way whose frame is found leads there
  forward : (id to : Id) (remembered : List Id) (price : ℕ) (f : Frame) (way : Way) → frame_at base id ≡ Some f → led.sought f way ≡ Some to → seek cert.groups base to ≡ sought.Found price → (key_step cert.groups base (At id remembered) (way_key way) ≡ (At to (remember id remembered), Shown to price)) × IsForward (way_key way)
  forward id to remembered price f (Route digit) there offered found = (ap (by_way id remembered) (goes cert.groups base id f (Route digit) to there offered ∙ ap (sought_by base (Route digit) to) found), tt)
  forward id to remembered price f Next there offered found = (ap (by_way id remembered) (goes cert.groups base id f Next to there offered ∙ ap (sought_by base Next to) found), tt)

  -- a row's rank counts the keys of a way to the entry
  way_home : (n rank : ℕ) (id : Id) (remembered : List Id) (row : Row) → rank ≤ n → row.rank ≡ rank → IsGoodRow cert.groups base cert id row.rank row.cursor → Regains cert.groups base (At id remembered) rank
  way_home n zero id remembered row le is g = record { keys = []; few = omega arith; forward = tt; entry = ap Some (g.zero is) }
  way_home zero (suc rank) id remembered row le is g = absurd (omega arith)
  way_home (suc n) (suc rank) id remembered row le is g =
      let d = g.down (omega arith) in
      let lower = row_at d.to d.row d.covered in
      let f = found_at d.to d.row lower in
      let step = forward id d.to remembered f.price g.frame d.way g.found d.offered f.found in
      let lt : d.row.rank < row.rank = d.lower in
      let rest = way_home n d.row.rank d.to (remember id remembered) d.row (omega arith) refl lower in
      let few : length rest.keys ≤ d.row.rank = rest.few in
      record {
        keys = way_key d.way ∷ rest.keys;
        few = omega arith;
        forward = (step.1, rest.forward);
        entry = ap (λ (x : Outcome). present (state_after cert.groups base x.0 rest.keys)) step.0 ∙ rest.entry;
      }

  pub regains_at : (s : SessionState) → HasRows cert.rows s → LeftOrRegains cert.groups base cert.keyings s
  regains_at (Left page) h = tt
  regains_at (At id remembered) h =
      let r = good_row id h.0 in
      let w = way_home r.0.rank r.0.rank id remembered r.0 (omega arith) refl r.1 in
      let few : length w.keys ≤ r.0.rank = w.few in
      let most : r.0.rank ≤ cert.keyings = r.1.most in
      record { keys = w.keys; few = omega arith; forward = w.forward; entry = w.entry }

  pub opening_rows : HasRows cert.rows (opening base)
  opening_rows = (good.covered, tt)

  pub safe : Safe cert.groups base cert.ceiling cert.keyings
  safe =
      let f = covered_found (entry_of base) good.covered in
      record {
        session = record {
          price = f.price;
          found = f.found;
          fair_price = f.fair;
          fair = λ keys. fair_replies (opening base) keys opening_rows;
          regains = λ keys. regains_at (state_after cert.groups base (opening base) keys) (rows_after (opening base) keys opening_rows);
        };
        entry_clean = f.clean;
        clean = λ keys. clean_replies (opening base) keys opening_rows;
      }

  pub keeps_rows : (keys : List Key) → HasRows cert.rows (state_after cert.groups base (opening base) keys)
  keeps_rows keys = rows_after (opening base) keys opening_rows
