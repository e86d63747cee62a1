-- A string's content, from a place in it on.
use Rattle.std.specs.Prelude.{◌≡◌, ℕ, true, List, ◌++◌, Some}
use Rattle.std.specs.List.{count_by}
use Rattle.toml_parser.specs.Lexical.{first}
use Rattle.toml_parser.specs.Strings.{body}
use Rattle.toml_places.specs.Strings.{starts_char, is_multi}

-- from here on the string writes this content, by toml's grammar, and leaves the rest
abbrev pub Writes : List ℕ → List ℕ → List ℕ → List ℕ → Type 0
Writes string here content rest = (n : ℕ) × (body (first string) (is_multi string) n here ≡ Some (content, rest))

-- the content has k characters, then this one, then what follows it
pub record IsChar (content : List ℕ) (k : ℕ) (char after : List ℕ) : Type 0 where
  pub before : List ℕ
  pub all : content ≡ before ++ (char ++ after)
  pub index : count_by starts_char before ≡ k
  pub lead : starts_char (first char) ≡ true
  pub one : count_by starts_char char ≡ 1
