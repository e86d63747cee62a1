-- The words of keys, and what a text of keys is read as.
use Rattle.std.specs.Prelude.{◌≡◌, ℕ, ◌+◌, ◌<◌, ◌≤◌, List, [], ◌∷◌, ◌++◌, length, take, Result, Ok, Err, ◌⊎◌}
use Rattle.std.specs.List.{AllByRecursion}
use Rattle.page_ids.specs.declared.fault.IdFault.{IdFault}
use Rattle.page_ids.specs.declared.fault.IdFault.TheVariants.{BadPage, BadFrame, BadKey, Memory}
use Rattle.page_ids.specs.declared.key.Key.{Key}
use Rattle.page_ids.specs.declared.key.Key.TheVariants.{Route, Next, Prev, Reprint, Update}

-- `0` to `9`, `#`, `*#`, `*00`, `*09`: 48 is `0`, 57 is `9`, 35 is `#`, 42 is `*`
abbrev pub key_word : Key → List ℕ
key_word (Route digit) = (48 + digit) ∷ []
key_word Next = 35 ∷ []
key_word Prev = 42 ∷ 35 ∷ []
key_word Reprint = 42 ∷ 48 ∷ 48 ∷ []
key_word Update = 42 ∷ 48 ∷ 57 ∷ []

-- the words, one after the other
abbrev pub keys_text : List Key → List ℕ
keys_text [] = []
keys_text (key ∷ keys) = key_word key ++ keys_text keys

-- a digit is 0 to 9
abbrev pub IsKey : Key → Type 0
IsKey (Route digit) = digit < 10
IsKey Next = Unit {0}
IsKey Prev = Unit {0}
IsKey Reprint = Unit {0}
IsKey Update = Unit {0}

abbrev pub AreKeys : List Key → Type 0
AreKeys keys = AllByRecursion IsKey keys

-- the beginning of n bytes is made of words
abbrev pub IsReadable : List ℕ → ℕ → Type 0
IsReadable text n = (keys : List Key) × AreKeys keys × (take n text ≡ keys_text keys)

-- n is the length of the longest beginning that is made of words, and it isn't the whole text
pub record IsUnreadableAt (text : List ℕ) (n : ℕ) : Type 0 where
  pub within : n < length text
  pub readable : IsReadable text n
  pub longest : (m : ℕ) → m ≤ length text → IsReadable text m → m ≤ n

-- the one list whose words the text is, or that it can't be read; memory may be refused
abbrev pub IsReadFault : List ℕ → IdFault → Type 0
IsReadFault text BadPage = ⊥
IsReadFault text BadFrame = ⊥
IsReadFault text (BadKey n) = IsUnreadableAt text n
IsReadFault text Memory = Unit {0}

abbrev pub AreKeysRead : List ℕ → Result (List Key) IdFault → Type 0
AreKeysRead text (Ok keys) = AreKeys keys × (text ≡ keys_text keys)
AreKeysRead text (Err fault) = IsReadFault text fault

-- Texts of keys and lists of keys belong together one by one.

pub record KeysAreTexts : Type 0 where
  -- no word is the beginning of another: if two words begin one text they are one
  pub no_prefix : (a b : Key) (rest more : List ℕ) → IsKey a → IsKey b → key_word a ++ rest ≡ key_word b ++ more → (a ≡ b) × (rest ≡ more)
  -- a text has one list
  pub one_list : (keys others : List Key) → AreKeys keys → AreKeys others → keys_text keys ≡ keys_text others → keys ≡ others
  -- the text of a list is read as that list, unless memory is refused
  pub read_again : (keys : List Key) (read : Result (List Key) IdFault) → AreKeys keys → AreKeysRead (keys_text keys) read → (read ≡ Ok keys) ⊎ (read ≡ Err Memory)
