-- The pairs of an inline table, one at a time.
use Rattle.std.proofs.Common.{◌≡◌, ℕ, zero, suc, ◌-◌, ◌<◌, List, [], ◌∷◌, ◌++◌, length, map, Some, None, refl, sym, ap, ◌∙◌, subst, arith, append_assoc, append-nil}
use Rattle.toml_places.specs.declared.tables.TablePlaces.{TablePlaces}
use Rattle.toml_places.specs.Values.{TablePair, next_pair, pairs_from}
use Rattle.toml_places.specs.Places.{Mark, pair_mark, TableKeeps}

module _ (size : ℕ) where
  abbrev pub marks_of : ℕ → List ℕ → List Mark
  marks_of n text = map (pair_mark size) (pairs_from n text)

  pub pairs_end : (m : ℕ) (text : List ℕ) → length text < m → next_pair text ≡ None → marks_of m text ≡ []
  unfolding pairs_from
  pairs_end zero text room none = absurd (omega arith)
  pairs_end (suc m) text room none = rw none refl

  pub pairs_more : (m : ℕ) (text : List ℕ) (p : TablePair) (next : List ℕ) → length text < m → next_pair text ≡ Some (p, next)
      → marks_of m text ≡ pair_mark size p ∷ marks_of (m - 1) next
  unfolding pairs_from
  pairs_more zero text p next room is = absurd (omega arith)
  pairs_more (suc m) text p next room is = let less : suc m - 1 ≡ m = omega arith in rw (is, less) refl

  -- the places keep the marks of the pairs before this text
  abbrev pub Noted : TablePlaces → List Mark → ℕ → List ℕ → List ℕ → Type 0
  Noted t ms n text rest = (m : ℕ) × (done : List Mark) × (length rest < m) × TableKeeps t (ms ++ done) × (marks_of n text ≡ done ++ marks_of m rest)

  pub noted_all : (t : TablePlaces) (ms : List Mark) (n : ℕ) (text rest : List ℕ) → Noted t ms n text rest → next_pair rest ≡ None → TableKeeps t (ms ++ marks_of n text)
  noted_all t ms n text rest h none =
      let (m, done, room, keeps, all) = h in
      let same : marks_of n text ≡ done = all ∙ ap (λ (l : List Mark). done ++ l) (pairs_end m rest room none) ∙ append-nil done in
      rw same keeps

  pub noted_more : (old new : TablePlaces) (ms : List Mark) (n : ℕ) (text rest next : List ℕ) (p : TablePair) → Noted old ms n text rest → next_pair rest ≡ Some (p, next)
      → length next < length rest → ((l : List Mark) → TableKeeps old l → TableKeeps new (l ++ pair_mark size p ∷ [])) → Noted new ms n text next
  noted_more old new ms n text rest next p h is shorter keep =
      let (m, done, room, keeps, all) = h in
      let one = pair_mark size p in (
        m - 1,
        done ++ one ∷ [],
        omega arith,
        subst (λ (l : List Mark). TableKeeps new l) (append_assoc ms done (one ∷ [])) (keep (ms ++ done) keeps),
        all ∙ ap (λ (l : List Mark). done ++ l) (pairs_more m rest p next room is) ∙ sym (append_assoc done (one ∷ []) (marks_of (m - 1) next)),
      )
