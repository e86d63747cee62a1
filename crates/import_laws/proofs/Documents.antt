-- The document that the expressions of frames make.
use Rattle.std.proofs.Common.{◌≡◌, ℕ, Bool, true, false, pos, List, [], ◌∷◌, ◌++◌, codes, Option, Some, None, option_and_then, refl, sym, ap, ◌∙◌}
use Rattle.page_ids.specs.Ids.{Id, frame_text}
use Rattle.screens.specs.Looks.{looks}
use Rattle.screen_files.specs.declared.filed.Filed.{Filed}
use Rattle.screen_files.specs.declared.frame.ScreenFrame.{ScreenFrame}
use Rattle.screen_files.specs.Rows.{rows_of}
use Rattle.screen_files.specs.Album.{leads_on}
use Rattle.toml.specs.Data.{Data, string, integer, boolean, array, table, Items, no_items, item, push_item, Members, no_members, member}
use Rattle.toml.specs.Tables.{Nodes, no_nodes, node, value, open_array, along_header, along_dots, at_key, Document, Expression, define, close}
use Rattle.toml.proofs.ReadLines.{run}
use Rattle.toml.proofs.ReadValues.{item_join, item_join-none, item_join-push}
use Rattle.import_laws.specs.Imported.{with_price, with_next, row_items, route_members, frame_members, frame_items, members_with}
use Rattle.import_laws.proofs.Lines.{run_append}
use Rattle.import_laws.proofs.Pairs.{pair}
use Rattle.import_laws.proofs.FrameLines.{frame_header, price_pairs, next_pairs, body_pairs, frame_pairs}

-- The table of a frame.

abbrev price_nodes : Option ℕ → Nodes → Nodes
price_nodes None ns = ns
price_nodes (Some price) ns = node (codes "price") (value (integer (pos price))) ns

abbrev next_nodes : Bool → Nodes → Nodes
next_nodes true ns = node (codes "next") (value (boolean true)) ns
next_nodes false ns = ns

abbrev table_nodes : Data → Option ℕ → Bool → Data → Data → Nodes
table_nodes id price next routes rows =
    node (codes "id") (value id) (next_nodes next (price_nodes price (node (codes "routes") (value routes) (node (codes "rows") (value rows) no_nodes))))

table_closes : (id : Data) (price : Option ℕ) (next : Bool) (routes rows : Data)
    → close (table_nodes id price next routes rows)
    ≡ member (codes "id") id (with_next next (with_price price (member (codes "routes") routes (member (codes "rows") rows no_members))))
table_closes id None true routes rows = refl
table_closes id None false routes rows = refl
table_closes id (Some price) true routes rows = refl
table_closes id (Some price) false routes rows = refl

-- The root.

abbrev under_frame : List (List ℕ)
under_frame = codes "frame" ∷ []

-- some frames are complete, the last one may grow
abbrev root : ℕ → Items → Nodes → Nodes
root page done last = node (codes "entry") (value (integer (pos page))) (node (codes "frame") (open_array done last) no_nodes)

abbrev entry_alone : ℕ → Nodes
entry_alone page = node (codes "entry") (value (integer (pos page))) no_nodes

entry_made : (page : ℕ) → define (no_nodes, []) (pair (codes "entry") (integer (pos page))) ≡ Some (entry_alone page, [])
unfolding define along_header along_dots at_key
entry_made page = refl

first_made : (page : ℕ) → define (entry_alone page, []) frame_header ≡ Some (root page no_items no_nodes, under_frame)
unfolding define along_header at_key
first_made page = refl

next_made : (page : ℕ) (done : Items) (last : Nodes)
    → define (root page done last, under_frame) frame_header ≡ Some (root page (push_item done (table (close last))) no_nodes, under_frame)
unfolding define along_header at_key
next_made page done last = refl

filled : (page : ℕ) (done : Items) (id : Data) (price : Option ℕ) (next : Bool) (routes rows : Data)
    → run (root page done no_nodes, under_frame)
    (pair (codes "id") id ∷ (price_pairs price ++ (next_pairs next ++ (pair (codes "routes") routes ∷ pair (codes "rows") rows ∷ []))))
    ≡ Some (root page done (table_nodes id price next routes rows), under_frame)
unfolding define along_header along_dots at_key
filled page done id None true routes rows = refl
filled page done id None false routes rows = refl
filled page done id (Some price) true routes rows = refl
filled page done id (Some price) false routes rows = refl

-- Frames.

module _ (known : List Id) (page : ℕ) where
  abbrev frame_nodes : ScreenFrame → Bool → Nodes
  frame_nodes f next = table_nodes (string (frame_text f.id)) f.price next (table (route_members known f.id.page (looks f.codes) 10 0)) (array (row_items (rows_of f.codes)))

  frame_closes : (f : ScreenFrame) (next : Bool) → close (frame_nodes f next) ≡ frame_members known f next
  frame_closes f next =
      table_closes (string (frame_text f.id)) f.price next (table (route_members known f.id.page (looks f.codes) 10 0)) (array (row_items (rows_of f.codes)))

  -- after a header
  frame_filled : (f : ScreenFrame) (next : Bool) (doc : Document) (done : Items) → define doc frame_header ≡ Some (root page done no_nodes, under_frame)
      → run doc (frame_pairs known f next) ≡ Some (root page done (frame_nodes f next), under_frame)
  frame_filled f next doc done made =
      ap (option_and_then (λ (d : Document). run d (body_pairs known f next))) made
      ∙ filled page done (string (frame_text f.id)) f.price next (table (route_members known f.id.page (looks f.codes) 10 0)) (array (row_items (rows_of f.codes)))

  unfoldable pub frames_pairs : List Filed → List Expression
  frames_pairs [] = []
  frames_pairs (f ∷ rest) = frame_pairs known f.frame (leads_on f.frame.id rest) ++ frames_pairs rest

  -- a document whose members are these
  pub record Makes (doc : Option Document) (ms : Members) : Type 0 where
    pub made : Document
    pub is : doc ≡ Some made
    pub closes : close made.0 ≡ ms

  more_frames : (frames : List Filed) (done : Items) (last : Nodes)
      → Makes (run (root page done last, under_frame) (frames_pairs frames)) (members_with page (item_join (push_item done (table (close last))) (frame_items known frames)))
  unfolding frames_pairs
  more_frames [] done last = record {
    made = (root page done last, under_frame);
    is = refl;
    closes = ap (members_with page) (sym (item_join-none (push_item done (table (close last)))));
  }
  more_frames (f ∷ rest) done last =
      let next = leads_on f.frame.id rest in
      let so_far = push_item done (table (close last)) in
      let this = table (close (frame_nodes f.frame next)) in
      let all = more_frames rest so_far (frame_nodes f.frame next) in
      record {
        made = all.made;
        is = run_append (root page done last, under_frame) (frame_pairs known f.frame next) (frames_pairs rest)
            ∙ ap (option_and_then (λ (d : Document). run d (frames_pairs rest))) (frame_filled f.frame next (root page done last, under_frame) so_far (next_made page done last))
            ∙ all.is;
        closes = all.closes ∙ ap (members_with page) (item_join-push so_far this (frame_items known rest)
            ∙ ap (λ (ms : Members). item_join so_far (item (table ms) (frame_items known rest))) (frame_closes f.frame next));
      }

  -- the entry page, and frames
  pub base_made : (f : Filed) (rest : List Filed)
      → Makes (run (no_nodes, []) (pair (codes "entry") (integer (pos page)) ∷ frames_pairs (f ∷ rest))) (members_with page (frame_items known (f ∷ rest)))
  unfolding frames_pairs
  base_made f rest =
      let next = leads_on f.frame.id rest in
      let all = more_frames rest no_items (frame_nodes f.frame next) in
      record {
        made = all.made;
        is = ap (option_and_then (λ (d : Document). run d (frame_pairs known f.frame next ++ frames_pairs rest))) (entry_made page)
            ∙ run_append (entry_alone page, []) (frame_pairs known f.frame next) (frames_pairs rest)
            ∙ ap (option_and_then (λ (d : Document). run d (frames_pairs rest))) (frame_filled f.frame next (entry_alone page, []) no_items (first_made page))
            ∙ all.is;
        closes = all.closes
            ∙ ap (λ (ms : Members). members_with page (item (table ms) (frame_items known rest))) (frame_closes f.frame next);
      }
