use Rattle.std.proofs.Common.{◌≡◌, Some, None, sym, subst, arith}
use Rattle.finder.proofs.Words.{slice_get_within, BaseView, entry_of, IsEntryNode, IsFinding, id_at}
use Rattle.finder.proofs.Nodes.{id_there}
use Rattle.finder.proofs.Whole.{nothing}
use Rattle.finder.proofs.survey.Survey.of.Goals as goal

pub returns-in_default-clause-found : goal.returns-in_default-clause-found
returns-in_default-clause-found c =
    let notes = c.in_ok-notes in
    let here = subst (λ b. IsEntryNode notes.notes.groups.now b None) notes.ensures.base c.in_default.ensures in
    subst (IsFinding c.args.groups.now c.args.base.now) (sym c.empty.ensures.found) (nothing c.args.groups.now c.args.base.now (subst (λ g. IsEntryNode g c.args.base.now None) notes.ensures.groups here))

pub invariant_of-graph : goal.invariant_of-graph
invariant_of-graph c =
    let table = c.in_ok-table.table in
    let entry = c.in-Some.entry in
    let there : id_at table.base.now.frames entry ≡ Some (entry_of table.base.now) = subst (λ (b : BaseView). id_at b.frames entry ≡ Some (entry_of b)) (sym c.in_ok-table.ensures.base) c.in-Some.ensures.1 in
    let f = id_there table.base.now.frames entry (entry_of table.base.now) there in
    record { started = omega (arith, slice_get_within table.base.now.frames entry f.0 f.1, table.nodes) }
