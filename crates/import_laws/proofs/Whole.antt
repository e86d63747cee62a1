-- TOML reads the text of a base that is made of frames as their members.
use Rattle.std.proofs.Common.{◌≡◌, ℕ, ◌^◌, ◌<◌, List, [], ◌∷◌, ◌++◌, codes, pos, Option, Some, None, refl, ap, ◌∙◌, arith}
use Rattle.std.proofs.lemmas.List.Elements.{All-head, All-tail}
use Rattle.std.specs.List.{All}
use Rattle.page_ids.specs.Ids.{Id}
use Rattle.screen_files.specs.declared.filed.Filed.{Filed}
use Rattle.screen_files.specs.Texts.{entry_key_line}
use Rattle.screen_files.specs.Album.{base_text, entry_or, frames_text, filed_lines, leads_on}
use Rattle.toml.specs.Data.{integer, no_members}
use Rattle.toml.specs.Parse.{skip_bom, lines, parse_document}
use Rattle.toml_parser.specs.Lexical.{skip_from}
use Rattle.import_laws.specs.Imported.{IsAsked, IsFiled, ImportsAreRead}
use Rattle.import_laws.proofs.Lines.{Reads, reads_blank, reads_append, reads_whole}
use Rattle.import_laws.proofs.Pairs.{pair}
use Rattle.import_laws.proofs.FrameLines.{frame_reads, entry_reads}
use Rattle.import_laws.proofs.Documents.{frames_pairs, base_made}

frames_read : (known : List Id) (page : ℕ) (frames : List Filed) → All IsFiled frames → Reads (frames_text known frames) (frames_pairs known page frames)
unfolding frames_text frames_pairs
frames_read known page [] filed = reads_blank [] (λ rest. refl)
frames_read known page (f ∷ rest) filed =
    let is = All-head IsFiled f rest filed in
    reads_append (filed_lines known f rest) (frames_text known rest) _ _ (frame_reads known f.frame (leads_on f.frame.id rest) is.id is.price is.screen)
    (frames_read known page rest (All-tail IsFiled f rest filed))

asked_small : (asked : Option ℕ) (page : ℕ) → IsAsked asked → page < 2 ^ 63 → entry_or asked page < 2 ^ 63
asked_small None page is small = small
asked_small (Some other) page is small = omega (arith, is)

none_read : parse_document [] ≡ Some no_members
unfolding parse_document lines skip_bom skip_from
none_read = refl

no_mark : (page : ℕ) (text : List ℕ) → skip_bom (entry_key_line page ++ text) ≡ entry_key_line page ++ text
unfolding skip_bom
no_mark page text = refl

pub read : ImportsAreRead
read asked known [] is_asked filed = none_read
read asked known (f ∷ rest) is_asked filed =
    let is = All-head IsFiled f rest filed in
    let page = entry_or asked f.frame.id.page in
    let small = asked_small asked f.frame.id.page is_asked (omega (arith, is.id.page)) in
    let lines_read = reads_append (entry_key_line page) (frames_text known (f ∷ rest)) (pair (codes "entry") (integer (pos page)) ∷ []) (frames_pairs known page (f ∷ rest))
    (entry_reads page small) (frames_read known page (f ∷ rest) filed) in
    let made = base_made known page f rest in
    reads_whole (base_text asked known (f ∷ rest)) _ made.made lines_read (no_mark page (frames_text known (f ∷ rest))) made.is
    ∙ ap Some made.closes
