-- Characters, by their code points, as bytes.
use Rattle.std.specs.Prelude.{ℕ, List, codes, ◌==◌, if◌then◌else◌}
use Rattle.std.specs.List.{flat_map}
use Rattle.std.specs.Char.{encode_utf8}
use Rattle.screens.specs.declared.writing.Writing.{Writing}
use Rattle.screens.specs.declared.writing.Writing.TheVariants.{Plain, Markup}

-- the five characters that mean something in markup: `<`, `>`, `&`, `"`, `'`
abbrev pub reference : ℕ → List ℕ
reference c =
    if c == 0x3C then codes "&lt;"
    else if c == 0x3E then codes "&gt;"
    else if c == 0x26 then codes "&amp;"
    else if c == 0x22 then codes "&quot;"
    else if c == 0x27 then codes "&#39;"
    else encode_utf8 c

abbrev pub char_bytes : Writing → ℕ → List ℕ
char_bytes Plain c = encode_utf8 c
char_bytes Markup c = reference c

abbrev pub written : Writing → List ℕ → List ℕ
written w cs = flat_map (char_bytes w) cs
