use Rattle.std.proofs.Common.{◌≡◌, ◌+◌, ◌*◌, ◌++◌, ◌∷◌, [], length, refl, ap, ◌∙◌, arith}
use Rattle.std.proofs.lemmas.List.{length-append}
use Rattle.toml_places.specs.Skips.{place_at}
use Rattle.toml_places.proofs.ScanTurns.{place_begins}
use Rattle.toml_places.proofs.TextTurns.{one_more}
use Rattle.toml_places.proofs.text_lines.places_of.Goals as goal

pub loop-step-init : goal.loop-step-init
loop-step-init c =
    let text = c.args.text.now in
    let one : c.push.new.self.items ≡ (1, 1) ∷ [] = c.in_ok-push.ensures.items ∙ rw c.new-places.ensures.items refl in
    let begins = place_begins text in
    (rw one refl, begins, rw (one, begins) (one_more (λ k. place_at text (k * 512)) [] (λ k below. absurd (omega arith))))

pub loop-step-preserved : goal.loop-step-preserved
loop-step-preserved c =
    let text = c.args.text.now in
    let xs = c.loop-step.places.items in
    let count : length xs ≡ c.loop-step.step + 1 = c.loop-step.invariant.0 in
    let here : c.place_from-place.result ≡ place_at text ((c.loop-step.step + 1) * 512) = c.place_from-place.ensures in
    let pushed : c.push-in-loop-step.new.self.items ≡ xs ++ c.place_from-place.result ∷ [] = c.in_ok-push-2.ensures.items in
    let more : c.push-in-loop-step.new.self.items ≡ xs ++ place_at text (length xs * 512) ∷ [] = pushed ∙ rw (count, here) refl in
    (rw more (length-append xs (place_at text (length xs * 512) ∷ []) ∙ ap (λ n. n + 1) count), here, rw more (one_more (λ k. place_at text (k * 512)) xs c.loop-step.invariant.2))
