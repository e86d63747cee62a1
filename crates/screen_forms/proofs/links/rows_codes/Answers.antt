use Rattle.std.proofs.Common.{◌≡◌, Ok, Some, map, refl, arith}
use Rattle.base64.specs.Engines.{url_safe_no_pad}
use Rattle.base64.specs.GeneralPurpose.{decode_of, decoded_of}
use Rattle.screen_forms.specs.Links.{cells_of, rows_codes, usual_letter}
use Rattle.screen_forms.proofs.Letters.{decoded_ok}
use Rattle.screen_forms.proofs.links.rows_codes.Goals as goal

pub returns-in-Ok : goal.returns-in-Ok
returns-in-Ok c =
    let letters : c.as_slice.result.now ≡ map usual_letter c.args.letters.now = grind (arith, c.as_slice.ensures.value, c.in_ok-usual.ensures) in
    let bytes : decode_of url_safe_no_pad c.as_slice.result.now ≡ Ok c.in-Ok.bytes.items = c.in-Ok.ensures.ok in
    let decoded : decoded_of url_safe_no_pad (map usual_letter c.args.letters.now) ≡ Some c.in-Ok.bytes.items = rw letters at (decoded_ok c.as_slice.result.now c.in-Ok.bytes.items bytes) in
    let same : rows_codes c.args.letters.now ≡ cells_of (Some c.in-Ok.bytes.items) = rw decoded refl in
    rw (same, ← c.as_slice-in-Ok.ensures.value) c.cells_of.ensures
