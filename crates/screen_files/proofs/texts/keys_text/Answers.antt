use Rattle.std.proofs.Common.{◌∙◌, arith, sym}
use Rattle.std.proofs.lemmas.Grind.{common_steps}
use Rattle.screen_files.proofs.Lines.{key_hidden, key_shown, no_more_keys}
use Rattle.screen_files.proofs.texts.keys_text.Goals as goal
use Rattle.screen_files.proofs.texts.keys_text.Goals.{then-shows_key, else-shows_key}

pub loop-digit-preserved : goal.loop-digit-preserved
loop-digit-preserved c =
    elim c.if-shows_key.branch [
      | then-shows_key w ↦ record {
        rest = grind (arith, common_steps, key_shown c.args.looks.now c.loop-digit.text.items c.loop-digit.digit, c.loop-digit.invariant.rest);
        room = grind (arith, common_steps, c.loop-digit.invariant.room);
      }
      | else-shows_key w ↦ record {
        rest = grind (arith, common_steps, key_hidden c.args.looks.now c.loop-digit.digit, c.loop-digit.invariant.rest);
        room = grind (arith, common_steps, c.loop-digit.invariant.room);
      }
    ]

pub returns : goal.returns
returns c =
    sym (no_more_keys c.args.looks.now c.loop-digit.text.items c.loop-digit.digit (omega arith)) ∙ c.loop-digit.invariant.rest
