use Rattle.std.proofs.Common.{List, sym, subst}
use Rattle.finder.specs.declared.found.Discovered.{Discovered}
use Rattle.fault_scripts.specs.Loops.{CanLead}
use Rattle.fault_scripts.proofs.reporter.Reporter.report.Goals as goal

pub seek_to-requires : goal.seek_to-requires
seek_to-requires c =
    subst (λ (f : List Discovered). CanLead f c.args.index c.args.self.now.at c.args.self.now.keys.items) (sym c.found.ensures) (record { within = c.requires.within; extends = c.requires.extends; script = c.requires.script })
