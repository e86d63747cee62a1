-- What one more way leads to is added.
use Rattle.std.proofs.Common.{◌≡◌, ◌<◌, ◌+◌, ◌*◌, ℕ, List, [], ◌∷◌, ◌++◌, get_or, set, All, Contains, refl, sym, ◌∙◌, ap, subst, ⊎_elim, arith}
use Rattle.finder.proofs.Words.{cases_eq, cases_lt, common_steps, get_or-set_at, get_or-set_other, All-push, Contains-push, Contains-append_left, SmallVec, Direction, From, To, Graph, Goes, LeadsTo, IsStep, turned, AreNeighbours, HasNeighbour, AreJoined}

-- what holds of both holds of the first in the order of a search
first_end : (P : ℕ → Type 0) (d : Direction) (f g : ℕ) → P f → P g → P (turned d f g).0
first_end P From f g pf pg = pf
first_end P To f g pf pg = pg

-- a way is a step between its ends
step_of : (graph : Graph) (f way g : ℕ) → Goes graph f way g
    → IsStep graph (turned graph.direction f g).0 (turned graph.direction f g).1
step_of graph f way g goes = by graph.direction where
  by : (d : Direction) → LeadsTo graph (turned d (turned d f g).0 (turned d f g).1).0 (turned d (turned d f g).0 (turned d f g).1).1
  by From = (way, goes)
  by To = (way, goes)

module _ (graph : Graph) (from way : ℕ) (lists : List (SmallVec ℕ)) (small : way < 11) (are : AreNeighbours graph (from * 11 + way) lists) where
  -- one of the ways so far, or the next one
  whole_more : (P : ℕ → ℕ → Type 0) → ((f k g : ℕ) → f * 11 + k < from * 11 + way → Goes graph f k g → P f g)
      → ((g : ℕ) → Goes graph from way g → P from g) → (f k g : ℕ) → f * 11 + k < from * 11 + way + 1 → Goes graph f k g
      → P f g
  whole_more P old here f k g lt goes =
      ⊎_elim (λ less. old f k g less goes) (λ more.
      let row : f ≡ from = omega (arith, more, lt, goes.is_way, small) in
      let column : k ≡ way = omega (arith, more, lt, row) in
      subst (λ h. P h g) (sym row) (here g (subst (λ h. Goes graph h way g) row (subst (λ w. Goes graph f w g) column goes)))) (cases_lt (f * 11 + k) (from * 11 + way))

  -- it leads to no node, or its ends are neighbours already
  pub passed : ((g : ℕ) → Goes graph from way g → AreJoined graph lists from g) → AreNeighbours graph (from * 11 + way + 1) lists
  passed here = record { nodes = are.nodes; lead = are.lead; whole = whole_more (AreJoined graph lists) are.whole here }

  module _ (node at next : ℕ) (old new : SmallVec ℕ) (goes : Goes graph from way node) (ends : (at, next) ≡ turned graph.direction from node) (here : old ≡ get_or lists at old) (push : new.items ≡ old.items ++ next ∷ []) where
    inside : at < graph.table.count
    inside = rw (ap (λ (p : ℕ × ℕ). p.0) ends) (first_end (λ g. g < graph.table.count) graph.direction from node goes.from goes.to)

    -- what holds of the changed list and of each other one
    at_set : (P : ℕ → List ℕ → Type 0) (d : SmallVec ℕ) → P at (old.items ++ next ∷ [])
        → ((g : ℕ) → (g ≡ at → ⊥) → P g (get_or lists g d).items) → (g : ℕ)
        → P g (get_or (set lists at new) g d).items
    at_set P d this others g =
        ⊎_elim (λ same.
        let is : get_or (set lists at new) g d ≡ new = get_or-set_at lists at g new d same (omega (arith, inside, are.nodes)) in
        subst (P g) (sym push ∙ sym (ap (λ (v : SmallVec ℕ). v.items) is)) (subst (λ h. P h (old.items ++ next ∷ [])) (sym same) this)) (λ other. subst (λ (v : SmallVec ℕ). P g v.items) (sym (get_or-set_other lists at g new d other)) (others g other)) (cases_eq g at)

    still : (f g : ℕ) → HasNeighbour lists f g → HasNeighbour (set lists at new) f g
    still f g has d = at_set (λ h gs. HasNeighbour lists h g → Contains gs g) d (λ l. Contains-append_left old.items (next ∷ []) g (subst (λ (v : SmallVec ℕ). Contains v.items g) (sym here) (l old))) (λ h apart l. l d) f has

    joined : HasNeighbour (set lists at new) at next
    joined d = at_set (λ h gs. at ≡ h → Contains gs next) d (λ same. Contains-push old.items next) (λ h apart same. absurd (apart (sym same))) at refl

    pub added : AreNeighbours graph (from * 11 + way + 1) (set lists at new)
    added = record {
      nodes = grind (arith, common_steps);
      lead = λ f d. at_set (λ h gs. h < graph.table.count → All (IsStep graph h) gs) d (λ lt. All-push (IsStep graph at) old.items next (subst (λ (v : SmallVec ℕ). All (IsStep graph at) v.items) (sym here) (are.lead at old inside)) (subst (λ (p : ℕ × ℕ). IsStep graph p.0 p.1) (sym ends) (step_of graph from way node goes))) (λ h apart. are.lead h d) f;
      whole = whole_more (AreJoined graph (set lists at new)) (λ f k g lt goes. still (turned graph.direction f g).0 (turned graph.direction f g).1 (are.whole f k g lt goes)) (λ g l. subst (AreJoined graph (set lists at new) from) (sym goes.target ∙ l.target) (subst (λ (p : ℕ × ℕ). HasNeighbour (set lists at new) p.0 p.1) ends joined));
    }
