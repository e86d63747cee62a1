-- The ways of a frame, one after another.
use Rattle.std.proofs.Common.{◌≡◌, ◌∙◌, ap, ℕ, suc, ◌+◌, ◌-◌, ◌<◌, Bool, true, false, cond, List, [], ◌∷◌, ◌++◌, Option, append-nil, append_assoc, arith}
use Rattle.std.specs.Prelude.{map, filter, codes}
use Rattle.std.specs.List.{filter_map, cons_option, range_with_len}
use Rattle.page_ids.specs.Ids.{Id}
use Rattle.page_ids.specs.declared.key.Key.{Key}
use Rattle.page_ids.specs.declared.way.Way.{Way}
use Rattle.page_ids.specs.Keys.{key_word}
use Rattle.page_ids.specs.Ways.{way_at}
use Rattle.frame_records.specs.declared.frame.Frame.{Frame}
use Rattle.frame_records.specs.Ways.{sought}
use Rattle.base_map.specs.Edges.{seeks, spaced_keys}

-- the ways from a place on
abbrev pub ways_from : ℕ → List Way
ways_from n = map way_at (range_with_len n (11 - n))

one_more : (n : ℕ) → n < 11 → ways_from n ≡ way_at n ∷ ways_from (n + 1)
one_more n lt = let left : 11 - n ≡ suc (11 - (n + 1)) = omega (arith, lt) in ap (λ k. map way_at (range_with_len n k)) left

-- what they seek
pub sought_more : (f : Frame) (n : ℕ) (o : Option Id) → n < 11 → sought f (way_at n) ≡ o
    → filter_map (sought f) (ways_from n) ≡ cons_option o (filter_map (sought f) (ways_from (n + 1)))
sought_more f n o lt e = ap (filter_map (sought f)) (one_more n lt) ∙ ap (λ o. cons_option o (filter_map (sought f) (ways_from (n + 1)))) e

-- those that seek an id
pub seeking_more : (f : Frame) (to : Id) (n : ℕ) (b : Bool) → n < 11 → seeks f to (way_at n) ≡ b
    → filter (seeks f to) (ways_from n) ≡ cond b (way_at n ∷ filter (seeks f to) (ways_from (n + 1))) (filter (seeks f to) (ways_from (n + 1)))
seeking_more f to n b lt e =
    ap (filter (seeks f to)) (one_more n lt) ∙ ap (λ b. cond b (way_at n ∷ filter (seeks f to) (ways_from (n + 1))) (filter (seeks f to) (ways_from (n + 1)))) e

-- a key is written, after a space if it isn't the first
pub key_more : (first : Bool) (out mid new : List ℕ) (k : Key) (ks : List Key) → mid ≡ out ++ cond first [] (codes " ") → new ≡ mid ++ key_word k
    → new ++ spaced_keys false ks ≡ out ++ spaced_keys first (k ∷ ks)
key_more true out mid new k ks m n =
    ap (λ xs. xs ++ spaced_keys false ks) (n ∙ ap (λ xs. xs ++ key_word k) (m ∙ append-nil out)) ∙ append_assoc out (key_word k) (spaced_keys false ks)
key_more false out mid new k ks m n =
    ap (λ xs. xs ++ spaced_keys false ks) (n ∙ ap (λ xs. xs ++ key_word k) m)
    ∙ (append_assoc (out ++ codes " ") (key_word k) (spaced_keys false ks) ∙ append_assoc out (codes " ") (key_word k ++ spaced_keys false ks))
