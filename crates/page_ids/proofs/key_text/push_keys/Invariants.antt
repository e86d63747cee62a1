use Rattle.std.proofs.Common.{◌≡◌, ◌++◌, drop, take}
use Rattle.page_ids.specs.Keys.{keys_text}
use Rattle.page_ids.proofs.key_text.push_keys.Given as goal

-- the text still begins as it did, and what is written and the words that are left are the whole text
abbrev pub invariant-loop-key : goal.invariant-loop-key
invariant-loop-key l =
    (take l.kept l.text.items ≡ l.fn.text.items) ×
    (l.text.items ++ keys_text (drop l.key-index l.keys) ≡ l.fn.text.items ++ keys_text l.keys)
