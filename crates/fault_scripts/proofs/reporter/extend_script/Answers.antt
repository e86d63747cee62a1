use Rattle.std.proofs.Common.{rules, ◌≡◌, ℕ, List, Option, Some, [], ◌∷◌, ◌++◌, sym, ◌∙◌, ap, subst}
use Rattle.page_ids.specs.declared.key.Key.{Key}
use Rattle.fault_scripts.specs.Loops.{HasScript}
use Rattle.fault_scripts.proofs.reporter.extend_script.Goals as goal

-- the parent's script and the key that led from it are the script
pub returns-in_ok-push-in-Some : goal.returns-in_ok-push-in-Some
returns-in_ok-push-in-Some c =
    let found = c.args.found.now in
    let key = c.in-Some.key in
    let same : c.args.at ≡ Some c.in-Some.parent = search rules in
    let here = subst (λ (a : Option ℕ). HasScript found a c.args.keys.now.items) same c.requires.script in
    let on = c.requires.extends c.args.index (c.in-Some.parent, key) (search rules) in
    let pushed : c.push.new.self.items ≡ c.args.keys.now.items ++ key ∷ [] = search rules in
    pushed ∙ ap (λ (k : List Key). k ++ key ∷ []) here ∙ sym on.1
