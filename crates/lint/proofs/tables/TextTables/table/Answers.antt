use Rattle.std.proofs.Common.{◌≡◌, ◌∙◌, ℕ, List, Option, slice_get, ap, subst, refl}
use Rattle.std.proofs.Math.Path.{fun_ext}
use Rattle.std.specs.Option.{option_or}
use Rattle.toml_places.specs.declared.spans.Span.{Span}
use Rattle.toml_places.specs.declared.spans.KeyPlace.{KeyPlace}
use Rattle.toml_places.specs.Places.{Mark, key_in, routes_key}
use Rattle.lint.specs.declared.tables.TableSpots.{TableSpots}
use Rattle.lint.specs.Tables.{TableView, value_at, element_at, key_spot, list_key, whole, route_spot, table_at}
use Rattle.lint.specs.Loops.{KeysView, InlineKeeps, keys_of, seen_keys, table_seen}
use Rattle.lint.proofs.tables.TextTables.table.Goals as goal

same_fields : (text : List ℕ) (whole whole' : Span) (frame frame' : Option ℕ) (key key' route route' : List ℕ → Option KeyPlace) (item item' : ℕ → Option Span)
    → frame ≡ frame' → whole ≡ whole' → key ≡ key' → route ≡ route' → item ≡ item'
    → ◌≡◌ {A = TableView} (record { text = text; frame = frame; whole = whole; key = key; route = route; item = item })
    (record { text = text; frame = frame'; whole = whole'; key = key'; route = route'; item = item' })
same_fields text w w' f f' k k' r r' i i' ef ew ek er ei = rw (ef, ew, ek, er, ei) refl

-- what is known of a table are its keys, its routes and its items
same_table : (ms : List Mark) (frame : Option ℕ) (t : TableSpots) → t.whole ≡ whole t.text.now ms frame → seen_keys t.keys ≡ keys_of t.text.now ms frame
    → InlineKeeps t.text.now (value_at t.text.now (key_spot t.text.now ms frame routes_key)) t.routes
    → ((k : ℕ) → slice_get t.items.items k ≡ element_at t.text.now (key_spot t.text.now ms frame (list_key frame)) k)
    → table_seen t ≡ table_at t.text.now ms frame
same_table ms frame t is_whole keys routes items =
    same_fields t.text.now t.whole _ (seen_keys t.keys).frame frame (seen_keys t.keys).key _ (table_seen t).route (route_spot t.text.now ms frame) (table_seen t).item _
    (ap (λ (k : KeysView). k.frame) keys) is_whole (ap (λ (k : KeysView). k.key) keys)
    (fun_ext (λ q. ap (λ (k : KeysView). option_or (k.dotted q) (key_in t.routes q)) keys ∙ ap (option_or ((keys_of t.text.now ms frame).dotted q)) (routes.keys q)))
    (fun_ext items)

pub returns : goal.returns
returns c ms knows =
    let text = c.args.self.now.text.now in
    let frame = c.args.frame in
    let keys : seen_keys c.in_ok-keys.keys ≡ keys_of text ms frame = c.in_ok-keys.ensures ms knows in
    let value : c.value_at.result ≡ value_at text (key_spot text ms frame routes_key) =
    c.value_at.ensures ∙ ap (value_at text) (c.key.ensures ∙ ap (λ (k : KeysView). k.key routes_key) keys) in
    let list : c.key-2.result ≡ key_spot text ms frame (list_key frame) =
    c.key-2.ensures ∙ ap (λ (k : KeysView). k.key c.list_key.result.now) keys ∙ ap (key_spot text ms frame) c.list_key.ensures in
    let t : TableSpots = record {
      text = c.args.self.now.text;
      whole = c.whole.result;
      keys = c.in_ok-keys.keys;
      routes = c.in_ok-routes.routes;
      items = c.in_ok-items.items;
    } in
    same_table ms frame t (c.whole.ensures ms knows) keys (subst (λ s. InlineKeeps text s c.in_ok-routes.routes) value c.in_ok-routes.ensures)
    (λ k. c.in_ok-items.ensures k ∙ ap (λ s. element_at text s k) list)
