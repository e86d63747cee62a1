-- The letters: the dots of each, 10 rows of 6, and its outlines at single height, of its upper and of its lower half; `#` is a dot.
-- Written by tools/letter-outlines from letters.txt.
use Rattle.std.specs.Prelude.{ℕ, List, [], ◌∷◌, ◌==◌, nat_lt, if◌then◌else◌, codes}

pub record Letter : Type 0 where
  pub dots : List (List ℕ)
  pub single : List ℕ
  pub upper : List ℕ
  pub lower : List ℕ

abbrev pub blank_letter : Letter
blank_letter = record { dots = []; single = []; upper = []; lower = [] }

-- exclamation mark
abbrev pub letter_21 : Letter
letter_21 = record {
  dots =
      codes "......" ∷ codes "...#.." ∷ codes "...#.." ∷ codes "...#.." ∷ codes "...#.."
      ∷ codes "...#.." ∷ codes "......" ∷ codes "...#.." ∷ codes "......" ∷ codes "......" ∷ [];
  single = codes "m6 2h2v10h-2zm0 12h2v2h-2z";
  upper = codes "m6 4h2v16h-2z";
  lower = codes "m6 0h2v4h-2zm0 8h2v4h-2z";
}

-- double quote
abbrev pub letter_22 : Letter
letter_22 = record {
  dots =
      codes "......" ∷ codes "..#.#." ∷ codes "..#.#." ∷ codes "..#.#." ∷ codes "......"
      ∷ codes "......" ∷ codes "......" ∷ codes "......" ∷ codes "......" ∷ codes "......" ∷ [];
  single = codes "m4 2h2v6h-2zm4 0h2v6h-2z";
  upper = codes "m4 4h2v12h-2zm4 0h2v12h-2z";
  lower = codes "";
}

-- number sign
abbrev pub letter_5F : Letter
letter_5F = record {
  dots =
      codes "......" ∷ codes "..#.#." ∷ codes "..#.#." ∷ codes ".#####" ∷ codes "..#.#."
      ∷ codes ".#####" ∷ codes "..#.#." ∷ codes "..#.#." ∷ codes "......" ∷ codes "......" ∷ [];
  single = codes "m4 2h2v4h2v-4h2v4h2v2h-2v2h2v2h-2v4h-2v-4h-2v4h-2v-4h-2v-2h2v-2h-2v-2h2zm2 6v2h2v-2z";
  upper = codes "m4 4h2v8h2v-8h2v8h2v4h-2v4h-2v-4h-2v4h-2v-4h-2v-4h2z";
  lower = codes "m2 0h10v4h-2v8h-2v-8h-2v8h-2v-8h-2z";
}

-- dollar sign
abbrev pub letter_24 : Letter
letter_24 = record {
  dots =
      codes "......" ∷ codes "..###." ∷ codes ".#.#.#" ∷ codes ".#.#.." ∷ codes "..###."
      ∷ codes "...#.#" ∷ codes ".#.#.#" ∷ codes "..###." ∷ codes "......" ∷ codes "......" ∷ [];
  single = codes "m4 2h6v1h1v1h1v2h-2v-1h-1v-1h-1v4h2v1h1v1h1v4h-1v1h-1v1h-6v-1h-1v-1h-1v-2h2v1h1v1h1v-4h-2v-1h-1v-1h-1v-4h1v-1h1zm1 2v1h-1v2h1v1h1v-4zm3 6v4h1v-1h1v-2h-1v-1z";
  upper = codes "m4 4h6v2h1v2h1v4h-2v-2h-1v-2h-1v8h2v2h1v2h-7v-2h-1v-2h-1v-8h1v-2h1zm1 4v2h-1v4h1v2h1v-8z";
  lower = codes "m6 0h2v8h1v-2h1v-4h-1v-2h3v8h-1v2h-1v2h-6v-2h-1v-2h-1v-4h2v2h1v2h1z";
}

-- per cent sign
abbrev pub letter_25 : Letter
letter_25 = record {
  dots =
      codes "......" ∷ codes ".##..." ∷ codes ".##..#" ∷ codes "....#." ∷ codes "...#.."
      ∷ codes "..#..." ∷ codes ".#..##" ∷ codes "....##" ∷ codes "......" ∷ codes "......" ∷ [];
  single = codes "m2 2h4v4h-4zm8 2h2v2h-1v1h-1v1h-1v1h-1v1h-1v1h-1v1h-1v1h-1v1h-2v-2h1v-1h1v-1h1v-1h1v-1h1v-1h1v-1h1v-1h1zm-2 8h4v4h-4z";
  upper = codes "m2 4h4v8h-4zm8 4h2v4h-1v2h-1v2h-1v2h-1v2h-3v-2h1v-2h1v-2h1v-2h1v-2h1z";
  lower = codes "m4 0h3v2h-1v2h-1v2h-1v2h-2v-4h1v-2h1zm4 4h4v8h-4z";
}

-- ampersand
abbrev pub letter_26 : Letter
letter_26 = record {
  dots =
      codes "......" ∷ codes "..#..." ∷ codes ".#.#.." ∷ codes ".#.#.." ∷ codes "..#..."
      ∷ codes ".#.#.#" ∷ codes ".#..#." ∷ codes "..##.#" ∷ codes "......" ∷ codes "......" ∷ [];
  single = codes "m4 2h2v1h1v1h1v4h-1v2h1v1h2v-1h2v2h-1v2h1v2h-2v-1h-2v1h-4v-1h-1v-1h-1v-4h1v-2h-1v-4h1v-1h1zm0 3v2h2v-2zm0 6v2h1v1h2v-2h-1v-1z";
  upper = codes "m4 4h2v2h1v2h1v8h-1v4h-4v-4h-1v-8h1v-2h1zm0 6v4h2v-4z";
  lower = codes "m2 0h6v2h2v-2h2v4h-1v4h1v4h-2v-2h-2v2h-4v-2h-1v-2h-1zm2 2v4h1v2h2v-4h-1v-2z";
}

-- apostrophe
abbrev pub letter_27 : Letter
letter_27 = record {
  dots =
      codes "......" ∷ codes "...#.." ∷ codes "...#.." ∷ codes "..#..." ∷ codes "......"
      ∷ codes "......" ∷ codes "......" ∷ codes "......" ∷ codes "......" ∷ codes "......" ∷ [];
  single = codes "m6 2h2v4h-1v1h-1v1h-2v-2h1v-1h1z";
  upper = codes "m6 4h2v8h-1v2h-1v2h-2v-4h1v-2h1z";
  lower = codes "";
}

-- left bracket
abbrev pub letter_28 : Letter
letter_28 = record {
  dots =
      codes "......" ∷ codes "....#." ∷ codes "...#.." ∷ codes "..#..." ∷ codes "..#..."
      ∷ codes "..#..." ∷ codes "...#.." ∷ codes "....#." ∷ codes "......" ∷ codes "......" ∷ [];
  single = codes "m8 2h2v2h-1v1h-1v1h-1v1h-1v4h1v1h1v1h1v1h1v2h-2v-1h-1v-1h-1v-1h-1v-1h-1v-6h1v-1h1v-1h1v-1h1z";
  upper = codes "m8 4h2v4h-1v2h-1v2h-1v2h-1v6h-2v-8h1v-2h1v-2h1v-2h1z";
  lower = codes "m4 0h2v2h1v2h1v2h1v2h1v4h-2v-2h-1v-2h-1v-2h-1v-2h-1z";
}

-- right bracket
abbrev pub letter_29 : Letter
letter_29 = record {
  dots =
      codes "......" ∷ codes "..#..." ∷ codes "...#.." ∷ codes "....#." ∷ codes "....#."
      ∷ codes "....#." ∷ codes "...#.." ∷ codes "..#..." ∷ codes "......" ∷ codes "......" ∷ [];
  single = codes "m4 2h2v1h1v1h1v1h1v1h1v6h-1v1h-1v1h-1v1h-1v1h-2v-2h1v-1h1v-1h1v-1h1v-4h-1v-1h-1v-1h-1v-1h-1z";
  upper = codes "m4 4h2v2h1v2h1v2h1v2h1v8h-2v-6h-1v-2h-1v-2h-1v-2h-1z";
  lower = codes "m8 0h2v4h-1v2h-1v2h-1v2h-1v2h-2v-4h1v-2h1v-2h1v-2h1z";
}

-- asterisk
abbrev pub letter_2A : Letter
letter_2A = record {
  dots =
      codes "......" ∷ codes "...#.." ∷ codes ".#.#.#" ∷ codes "..###." ∷ codes "...#.."
      ∷ codes "..###." ∷ codes ".#.#.#" ∷ codes "...#.." ∷ codes "......" ∷ codes "......" ∷ [];
  single = codes "m6 2h2v4h1v-1h1v-1h2v2h-1v1h-1v1h-2v2h2v1h1v1h1v2h-2v-1h-1v-1h-1v4h-2v-4h-1v1h-1v1h-2v-2h1v-1h1v-1h2v-2h-2v-1h-1v-1h-1v-2h2v1h1v1h1z";
  upper = codes "m6 4h2v8h1v-2h1v-2h2v4h-1v2h-1v2h-2v4h-2v-4h-2v-2h-1v-2h-1v-4h2v2h1v2h1z";
  lower = codes "m4 0h6v2h1v2h1v4h-2v-2h-1v-2h-1v8h-2v-8h-1v2h-1v2h-2v-4h1v-2h1z";
}

-- plus sign
abbrev pub letter_2B : Letter
letter_2B = record {
  dots =
      codes "......" ∷ codes "......" ∷ codes "...#.." ∷ codes "...#.." ∷ codes ".#####"
      ∷ codes "...#.." ∷ codes "...#.." ∷ codes "......" ∷ codes "......" ∷ codes "......" ∷ [];
  single = codes "m6 4h2v4h4v2h-4v4h-2v-4h-4v-2h4z";
  upper = codes "m6 8h2v8h4v4h-10v-4h4z";
  lower = codes "m6 0h2v8h-2z";
}

-- comma
abbrev pub letter_2C : Letter
letter_2C = record {
  dots =
      codes "......" ∷ codes "......" ∷ codes "......" ∷ codes "......" ∷ codes "......"
      ∷ codes "......" ∷ codes "...#.." ∷ codes "...#.." ∷ codes "..#..." ∷ codes "......" ∷ [];
  single = codes "m6 12h2v4h-1v1h-1v1h-2v-2h1v-1h1z";
  upper = codes "";
  lower = codes "m6 4h2v8h-1v2h-1v2h-2v-4h1v-2h1z";
}

-- hyphen
abbrev pub letter_2D : Letter
letter_2D = record {
  dots =
      codes "......" ∷ codes "......" ∷ codes "......" ∷ codes "......" ∷ codes "..###."
      ∷ codes "......" ∷ codes "......" ∷ codes "......" ∷ codes "......" ∷ codes "......" ∷ [];
  single = codes "m4 8h6v2h-6z";
  upper = codes "m4 16h6v4h-6z";
  lower = codes "";
}

-- full stop
abbrev pub letter_2E : Letter
letter_2E = record {
  dots =
      codes "......" ∷ codes "......" ∷ codes "......" ∷ codes "......" ∷ codes "......"
      ∷ codes "......" ∷ codes "......" ∷ codes "...#.." ∷ codes "......" ∷ codes "......" ∷ [];
  single = codes "m6 14h2v2h-2z";
  upper = codes "";
  lower = codes "m6 8h2v4h-2z";
}

-- slash
abbrev pub letter_2F : Letter
letter_2F = record {
  dots =
      codes "......" ∷ codes "......" ∷ codes ".....#" ∷ codes "....#." ∷ codes "...#.."
      ∷ codes "..#..." ∷ codes ".#...." ∷ codes "......" ∷ codes "......" ∷ codes "......" ∷ [];
  single = codes "m10 4h2v2h-1v1h-1v1h-1v1h-1v1h-1v1h-1v1h-1v1h-1v1h-2v-2h1v-1h1v-1h1v-1h1v-1h1v-1h1v-1h1v-1h1z";
  upper = codes "m10 8h2v4h-1v2h-1v2h-1v2h-1v2h-3v-2h1v-2h1v-2h1v-2h1v-2h1z";
  lower = codes "m4 0h3v2h-1v2h-1v2h-1v2h-2v-4h1v-2h1z";
}

-- digit 0
abbrev pub letter_30 : Letter
letter_30 = record {
  dots =
      codes "......" ∷ codes "...#.." ∷ codes "..#.#." ∷ codes ".#...#" ∷ codes ".#...#"
      ∷ codes ".#...#" ∷ codes "..#.#." ∷ codes "...#.." ∷ codes "......" ∷ codes "......" ∷ [];
  single = codes "m6 2h2v1h1v1h1v1h1v1h1v6h-1v1h-1v1h-1v1h-1v1h-2v-1h-1v-1h-1v-1h-1v-1h-1v-6h1v-1h1v-1h1v-1h1zm0 3v1h-1v1h-1v4h1v1h1v1h2v-1h1v-1h1v-4h-1v-1h-1v-1z";
  upper = codes "m6 4h2v2h1v2h1v2h1v2h1v8h-2v-6h-1v-2h-1v-2h-2v2h-1v2h-1v6h-2v-8h1v-2h1v-2h1v-2h1z";
  lower = codes "m2 0h2v2h1v2h1v2h2v-2h1v-2h1v-2h2v4h-1v2h-1v2h-1v2h-1v2h-2v-2h-1v-2h-1v-2h-1v-2h-1z";
}

-- digit 1
abbrev pub letter_31 : Letter
letter_31 = record {
  dots =
      codes "......" ∷ codes "...#.." ∷ codes "..##.." ∷ codes "...#.." ∷ codes "...#.."
      ∷ codes "...#.." ∷ codes "...#.." ∷ codes "..###." ∷ codes "......" ∷ codes "......" ∷ [];
  single = codes "m6 2h2v12h2v2h-6v-2h2v-8h-2v-2h2z";
  upper = codes "m6 4h2v16h-2v-8h-2v-4h2z";
  lower = codes "m6 0h2v8h2v4h-6v-4h2z";
}

-- digit 2
abbrev pub letter_32 : Letter
letter_32 = record {
  dots =
      codes "......" ∷ codes "..###." ∷ codes ".#...#" ∷ codes ".....#" ∷ codes "...##."
      ∷ codes "..#..." ∷ codes ".#...." ∷ codes ".#####" ∷ codes "......" ∷ codes "......" ∷ [];
  single = codes "m4 2h6v1h1v1h1v4h-1v1h-1v1h-3v1h-1v1h-1v1h-1v1h8v2h-10v-4h1v-1h1v-1h1v-1h1v-1h3v-1h1v-2h-1v-1h-4v1h-1v1h-2v-2h1v-1h1z";
  upper = codes "m4 4h6v2h1v2h1v8h-1v2h-1v2h-5v-2h1v-2h3v-2h1v-4h-1v-2h-4v2h-1v2h-2v-4h1v-2h1z";
  lower = codes "m4 0h3v2h-1v2h-1v2h-1v2h8v4h-10v-8h1v-2h1z";
}

-- digit 3
abbrev pub letter_33 : Letter
letter_33 = record {
  dots =
      codes "......" ∷ codes ".#####" ∷ codes ".....#" ∷ codes "....#." ∷ codes "...##."
      ∷ codes ".....#" ∷ codes ".#...#" ∷ codes "..###." ∷ codes "......" ∷ codes "......" ∷ [];
  single = codes "m2 2h10v4h-1v1h-1v2h1v1h1v4h-1v1h-1v1h-6v-1h-1v-1h-1v-2h2v1h1v1h4v-1h1v-2h-1v-1h-3v-2h2v-2h1v-1h1v-1h-8z";
  upper = codes "m2 4h10v8h-1v2h-1v4h1v2h-5v-4h2v-4h1v-2h1v-2h-8z";
  lower = codes "m9 0h3v8h-1v2h-1v2h-6v-2h-1v-2h-1v-4h2v2h1v2h4v-2h1v-4h-1z";
}

-- digit 4
abbrev pub letter_34 : Letter
letter_34 = record {
  dots =
      codes "......" ∷ codes "....#." ∷ codes "...##." ∷ codes "..#.#." ∷ codes ".#..#."
      ∷ codes ".#####" ∷ codes "....#." ∷ codes "....#." ∷ codes "......" ∷ codes "......" ∷ [];
  single = codes "m8 2h2v8h2v2h-2v4h-2v-4h-6v-4h1v-1h1v-1h1v-1h1v-1h2zm-1 4v1h-1v1h-1v1h-1v1h4v-4z";
  upper = codes "m8 4h2v16h-2v-8h-1v2h-1v2h-1v2h-1v2h-2v-4h1v-2h1v-2h1v-2h1v-2h2z";
  lower = codes "m2 0h10v4h-2v8h-2v-8h-6z";
}

-- digit 5
abbrev pub letter_35 : Letter
letter_35 = record {
  dots =
      codes "......" ∷ codes ".#####" ∷ codes ".#...." ∷ codes ".####." ∷ codes ".....#"
      ∷ codes ".....#" ∷ codes ".#...#" ∷ codes "..###." ∷ codes "......" ∷ codes "......" ∷ [];
  single = codes "m2 2h10v2h-8v2h6v1h1v1h1v6h-1v1h-1v1h-6v-1h-1v-1h-1v-2h2v1h1v1h4v-1h1v-4h-1v-1h-7z";
  upper = codes "m2 4h10v4h-8v4h6v2h1v2h1v4h-2v-2h-1v-2h-7z";
  lower = codes "m10 0h2v8h-1v2h-1v2h-6v-2h-1v-2h-1v-4h2v2h1v2h4v-2h1z";
}

-- digit 6
abbrev pub letter_36 : Letter
letter_36 = record {
  dots =
      codes "......" ∷ codes "...##." ∷ codes "..#..." ∷ codes ".#...." ∷ codes ".####."
      ∷ codes ".#...#" ∷ codes ".#...#" ∷ codes "..###." ∷ codes "......" ∷ codes "......" ∷ [];
  single = codes "m6 2h4v2h-3v1h-1v1h-1v1h-1v1h6v1h1v1h1v4h-1v1h-1v1h-6v-1h-1v-1h-1v-8h1v-1h1v-1h1v-1h1zm-2 8v3h1v1h4v-1h1v-2h-1v-1z";
  upper = codes "m6 4h4v4h-3v2h-1v2h-1v2h-1v2h6v2h1v2h-9v-8h1v-2h1v-2h1v-2h1z";
  lower = codes "m2 0h2v6h1v2h4v-2h1v-4h-1v-2h3v8h-1v2h-1v2h-6v-2h-1v-2h-1z";
}

-- digit 7
abbrev pub letter_37 : Letter
letter_37 = record {
  dots =
      codes "......" ∷ codes ".#####" ∷ codes ".....#" ∷ codes "....#." ∷ codes "...#.."
      ∷ codes "..#..." ∷ codes "..#..." ∷ codes "..#..." ∷ codes "......" ∷ codes "......" ∷ [];
  single = codes "m2 2h10v4h-1v1h-1v1h-1v1h-1v1h-1v1h-1v5h-2v-6h1v-1h1v-1h1v-1h1v-1h1v-1h1v-1h-8z";
  upper = codes "m2 4h10v8h-1v2h-1v2h-1v2h-1v2h-3v-2h1v-2h1v-2h1v-2h1v-2h1v-2h-8z";
  lower = codes "m4 0h3v2h-1v10h-2z";
}

-- digit 8
abbrev pub letter_38 : Letter
letter_38 = record {
  dots =
      codes "......" ∷ codes "..###." ∷ codes ".#...#" ∷ codes ".#...#" ∷ codes "..###."
      ∷ codes ".#...#" ∷ codes ".#...#" ∷ codes "..###." ∷ codes "......" ∷ codes "......" ∷ [];
  single = codes "m4 2h6v1h1v1h1v4h-1v2h1v4h-1v1h-1v1h-6v-1h-1v-1h-1v-4h1v-2h-1v-4h1v-1h1zm1 2v1h-1v2h1v1h4v-1h1v-2h-1v-1zm0 6v1h-1v2h1v1h4v-1h1v-2h-1v-1z";
  upper = codes "m4 4h6v2h1v2h1v8h-1v4h-8v-4h-1v-8h1v-2h1zm1 4v2h-1v4h1v2h4v-2h1v-4h-1v-2z";
  lower = codes "m2 0h3v2h-1v4h1v2h4v-2h1v-4h-1v-2h3v8h-1v2h-1v2h-6v-2h-1v-2h-1z";
}

-- digit 9
abbrev pub letter_39 : Letter
letter_39 = record {
  dots =
      codes "......" ∷ codes "..###." ∷ codes ".#...#" ∷ codes ".#...#" ∷ codes "..####"
      ∷ codes ".....#" ∷ codes "....#." ∷ codes "..##.." ∷ codes "......" ∷ codes "......" ∷ [];
  single = codes "m4 2h6v1h1v1h1v8h-1v1h-1v1h-1v1h-1v1h-4v-2h3v-1h1v-1h1v-1h1v-1h-6v-1h-1v-1h-1v-4h1v-1h1zm1 2v1h-1v2h1v1h5v-3h-1v-1z";
  upper = codes "m4 4h6v2h1v2h1v12h-8v-2h-1v-2h-1v-8h1v-2h1zm1 4v2h-1v4h1v2h5v-6h-1v-2z";
  lower = codes "m10 0h2v4h-1v2h-1v2h-1v2h-1v2h-4v-4h3v-2h1v-2h1v-2h1z";
}

-- colon
abbrev pub letter_3A : Letter
letter_3A = record {
  dots =
      codes "......" ∷ codes "......" ∷ codes "......" ∷ codes "...#.." ∷ codes "......"
      ∷ codes "......" ∷ codes "......" ∷ codes "...#.." ∷ codes "......" ∷ codes "......" ∷ [];
  single = codes "m6 6h2v2h-2zm0 8h2v2h-2z";
  upper = codes "m6 12h2v4h-2z";
  lower = codes "m6 8h2v4h-2z";
}

-- semicolon
abbrev pub letter_3B : Letter
letter_3B = record {
  dots =
      codes "......" ∷ codes "......" ∷ codes "......" ∷ codes "...#.." ∷ codes "......"
      ∷ codes "......" ∷ codes "...#.." ∷ codes "...#.." ∷ codes "..#..." ∷ codes "......" ∷ [];
  single = codes "m6 6h2v2h-2zm0 6h2v4h-1v1h-1v1h-2v-2h1v-1h1z";
  upper = codes "m6 12h2v4h-2z";
  lower = codes "m6 4h2v8h-1v2h-1v2h-2v-4h1v-2h1z";
}

-- less than sign
abbrev pub letter_3C : Letter
letter_3C = record {
  dots =
      codes "......" ∷ codes "....#." ∷ codes "...#.." ∷ codes "..#..." ∷ codes ".#...."
      ∷ codes "..#..." ∷ codes "...#.." ∷ codes "....#." ∷ codes "......" ∷ codes "......" ∷ [];
  single = codes "m8 2h2v2h-1v1h-1v1h-1v1h-1v1h-1v2h1v1h1v1h1v1h1v1h1v2h-2v-1h-1v-1h-1v-1h-1v-1h-1v-1h-1v-1h-1v-2h1v-1h1v-1h1v-1h1v-1h1v-1h1z";
  upper = codes "m8 4h2v4h-1v2h-1v2h-1v2h-1v2h-1v4h-3v-4h1v-2h1v-2h1v-2h1v-2h1v-2h1z";
  lower = codes "m3 0h3v2h1v2h1v2h1v2h1v4h-2v-2h-1v-2h-1v-2h-1v-2h-1v-2h-1z";
}

-- equals sign
abbrev pub letter_3D : Letter
letter_3D = record {
  dots =
      codes "......" ∷ codes "......" ∷ codes "......" ∷ codes ".#####" ∷ codes "......"
      ∷ codes ".#####" ∷ codes "......" ∷ codes "......" ∷ codes "......" ∷ codes "......" ∷ [];
  single = codes "m2 6h10v2h-10zm0 4h10v2h-10z";
  upper = codes "m2 12h10v4h-10z";
  lower = codes "m2 0h10v4h-10z";
}

-- greater than sign
abbrev pub letter_3E : Letter
letter_3E = record {
  dots =
      codes "......" ∷ codes "..#..." ∷ codes "...#.." ∷ codes "....#." ∷ codes ".....#"
      ∷ codes "....#." ∷ codes "...#.." ∷ codes "..#..." ∷ codes "......" ∷ codes "......" ∷ [];
  single = codes "m4 2h2v1h1v1h1v1h1v1h1v1h1v1h1v2h-1v1h-1v1h-1v1h-1v1h-1v1h-1v1h-2v-2h1v-1h1v-1h1v-1h1v-1h1v-2h-1v-1h-1v-1h-1v-1h-1v-1h-1z";
  upper = codes "m4 4h2v2h1v2h1v2h1v2h1v2h1v2h1v4h-3v-4h-1v-2h-1v-2h-1v-2h-1v-2h-1z";
  lower = codes "m8 0h3v2h-1v2h-1v2h-1v2h-1v2h-1v2h-2v-4h1v-2h1v-2h1v-2h1z";
}

-- question mark
abbrev pub letter_3F : Letter
letter_3F = record {
  dots =
      codes "......" ∷ codes "..###." ∷ codes ".#...#" ∷ codes "....#." ∷ codes "...#.."
      ∷ codes "...#.." ∷ codes "......" ∷ codes "...#.." ∷ codes "......" ∷ codes "......" ∷ [];
  single = codes "m4 2h6v1h1v1h1v2h-1v1h-1v1h-1v1h-1v3h-2v-4h1v-1h1v-1h1v-2h-4v1h-1v1h-2v-2h1v-1h1zm2 12h2v2h-2z";
  upper = codes "m4 4h6v2h1v2h1v4h-1v2h-1v2h-1v2h-1v2h-2v-4h1v-2h1v-2h1v-4h-4v2h-1v2h-2v-4h1v-2h1z";
  lower = codes "m6 0h2v4h-2zm0 8h2v4h-2z";
}

-- at sign
abbrev pub letter_40 : Letter
letter_40 = record {
  dots =
      codes "......" ∷ codes "..###." ∷ codes ".#...#" ∷ codes ".#.###" ∷ codes ".#.#.#"
      ∷ codes ".#.###" ∷ codes ".#...." ∷ codes "..###." ∷ codes "......" ∷ codes "......" ∷ [];
  single = codes "m4 2h6v1h1v1h1v8h-6v-6h4v-1h-1v-1h-4v1h-1v8h1v1h5v2h-6v-1h-1v-1h-1v-10h1v-1h1zm4 6v2h2v-2z";
  upper = codes "m4 4h6v2h1v2h1v12h-2v-4h-2v4h-2v-8h4v-2h-1v-2h-4v2h-1v10h-2v-12h1v-2h1z";
  lower = codes "m2 0h2v6h1v2h5v4h-6v-2h-1v-2h-1zm4 0h6v4h-6z";
}

-- capital A
abbrev pub letter_41 : Letter
letter_41 = record {
  dots =
      codes "......" ∷ codes "...#.." ∷ codes "..#.#." ∷ codes ".#...#" ∷ codes ".#...#"
      ∷ codes ".#####" ∷ codes ".#...#" ∷ codes ".#...#" ∷ codes "......" ∷ codes "......" ∷ [];
  single = codes "m6 2h2v1h1v1h1v1h1v1h1v10h-2v-4h-6v4h-2v-10h1v-1h1v-1h1v-1h1zm0 3v1h-1v1h-1v3h6v-3h-1v-1h-1v-1z";
  upper = codes "m6 4h2v2h1v2h1v2h1v2h1v8h-2v-6h-1v-2h-1v-2h-2v2h-1v2h-1v6h-2v-8h1v-2h1v-2h1v-2h1z";
  lower = codes "m2 0h10v12h-2v-8h-6v8h-2z";
}

-- capital B
abbrev pub letter_42 : Letter
letter_42 = record {
  dots =
      codes "......" ∷ codes ".####." ∷ codes ".#...#" ∷ codes ".#...#" ∷ codes ".####."
      ∷ codes ".#...#" ∷ codes ".#...#" ∷ codes ".####." ∷ codes "......" ∷ codes "......" ∷ [];
  single = codes "m2 2h8v1h1v1h1v4h-1v2h1v4h-1v1h-1v1h-8zm2 2v4h5v-1h1v-2h-1v-1zm0 6v4h5v-1h1v-2h-1v-1z";
  upper = codes "m2 4h8v2h1v2h1v8h-1v4h-9zm2 4v8h5v-2h1v-4h-1v-2z";
  lower = codes "m2 0h2v8h5v-2h1v-4h-1v-2h3v8h-1v2h-1v2h-8z";
}

-- capital C
abbrev pub letter_43 : Letter
letter_43 = record {
  dots =
      codes "......" ∷ codes "..###." ∷ codes ".#...#" ∷ codes ".#...." ∷ codes ".#...."
      ∷ codes ".#...." ∷ codes ".#...#" ∷ codes "..###." ∷ codes "......" ∷ codes "......" ∷ [];
  single = codes "m4 2h6v1h1v1h1v2h-2v-1h-1v-1h-4v1h-1v8h1v1h4v-1h1v-1h2v2h-1v1h-1v1h-6v-1h-1v-1h-1v-10h1v-1h1z";
  upper = codes "m4 4h6v2h1v2h1v4h-2v-2h-1v-2h-4v2h-1v10h-2v-12h1v-2h1z";
  lower = codes "m2 0h2v6h1v2h4v-2h1v-2h2v4h-1v2h-1v2h-6v-2h-1v-2h-1z";
}

-- capital D
abbrev pub letter_44 : Letter
letter_44 = record {
  dots =
      codes "......" ∷ codes ".####." ∷ codes ".#...#" ∷ codes ".#...#" ∷ codes ".#...#"
      ∷ codes ".#...#" ∷ codes ".#...#" ∷ codes ".####." ∷ codes "......" ∷ codes "......" ∷ [];
  single = codes "m2 2h8v1h1v1h1v10h-1v1h-1v1h-8zm2 2v10h5v-1h1v-8h-1v-1z";
  upper = codes "m2 4h8v2h1v2h1v12h-2v-10h-1v-2h-5v12h-2z";
  lower = codes "m2 0h2v8h5v-2h1v-6h2v8h-1v2h-1v2h-8z";
}

-- capital E
abbrev pub letter_45 : Letter
letter_45 = record {
  dots =
      codes "......" ∷ codes ".#####" ∷ codes ".#...." ∷ codes ".#...." ∷ codes ".####."
      ∷ codes ".#...." ∷ codes ".#...." ∷ codes ".#####" ∷ codes "......" ∷ codes "......" ∷ [];
  single = codes "m2 2h10v2h-8v4h6v2h-6v4h8v2h-10z";
  upper = codes "m2 4h10v4h-8v8h6v4h-8z";
  lower = codes "m2 0h2v8h8v4h-10z";
}

-- capital F
abbrev pub letter_46 : Letter
letter_46 = record {
  dots =
      codes "......" ∷ codes ".#####" ∷ codes ".#...." ∷ codes ".#...." ∷ codes ".####."
      ∷ codes ".#...." ∷ codes ".#...." ∷ codes ".#...." ∷ codes "......" ∷ codes "......" ∷ [];
  single = codes "m2 2h10v2h-8v4h6v2h-6v6h-2z";
  upper = codes "m2 4h10v4h-8v8h6v4h-8z";
  lower = codes "m2 0h2v12h-2z";
}

-- capital G
abbrev pub letter_47 : Letter
letter_47 = record {
  dots =
      codes "......" ∷ codes "..###." ∷ codes ".#...#" ∷ codes ".#...." ∷ codes ".#...."
      ∷ codes ".#..##" ∷ codes ".#...#" ∷ codes "..####" ∷ codes "......" ∷ codes "......" ∷ [];
  single = codes "m4 2h6v1h1v1h1v2h-2v-1h-1v-1h-4v1h-1v8h1v1h5v-2h-2v-2h4v6h-8v-1h-1v-1h-1v-10h1v-1h1z";
  upper = codes "m4 4h6v2h1v2h1v4h-2v-2h-1v-2h-4v2h-1v10h-2v-12h1v-2h1z";
  lower = codes "m2 0h2v6h1v2h5v-4h-2v-4h4v12h-8v-2h-1v-2h-1z";
}

-- capital H
abbrev pub letter_48 : Letter
letter_48 = record {
  dots =
      codes "......" ∷ codes ".#...#" ∷ codes ".#...#" ∷ codes ".#...#" ∷ codes ".#####"
      ∷ codes ".#...#" ∷ codes ".#...#" ∷ codes ".#...#" ∷ codes "......" ∷ codes "......" ∷ [];
  single = codes "m2 2h2v6h6v-6h2v14h-2v-6h-6v6h-2z";
  upper = codes "m2 4h2v12h6v-12h2v16h-10z";
  lower = codes "m2 0h2v12h-2zm8 0h2v12h-2z";
}

-- capital I
abbrev pub letter_49 : Letter
letter_49 = record {
  dots =
      codes "......" ∷ codes "..###." ∷ codes "...#.." ∷ codes "...#.." ∷ codes "...#.."
      ∷ codes "...#.." ∷ codes "...#.." ∷ codes "..###." ∷ codes "......" ∷ codes "......" ∷ [];
  single = codes "m4 2h6v2h-2v10h2v2h-6v-2h2v-10h-2z";
  upper = codes "m4 4h6v4h-2v12h-2v-12h-2z";
  lower = codes "m6 0h2v8h2v4h-6v-4h2z";
}

-- capital J
abbrev pub letter_4A : Letter
letter_4A = record {
  dots =
      codes "......" ∷ codes ".....#" ∷ codes ".....#" ∷ codes ".....#" ∷ codes ".....#"
      ∷ codes ".....#" ∷ codes ".#...#" ∷ codes "..###." ∷ codes "......" ∷ codes "......" ∷ [];
  single = codes "m10 2h2v12h-1v1h-1v1h-6v-1h-1v-1h-1v-2h2v1h1v1h4v-1h1z";
  upper = codes "m10 4h2v16h-2z";
  lower = codes "m10 0h2v8h-1v2h-1v2h-6v-2h-1v-2h-1v-4h2v2h1v2h4v-2h1z";
}

-- capital K
abbrev pub letter_4B : Letter
letter_4B = record {
  dots =
      codes "......" ∷ codes ".#...#" ∷ codes ".#..#." ∷ codes ".#.#.." ∷ codes ".##..."
      ∷ codes ".#.#.." ∷ codes ".#..#." ∷ codes ".#...#" ∷ codes "......" ∷ codes "......" ∷ [];
  single = codes "m2 2h2v6h1v-1h1v-1h1v-1h1v-1h1v-1h1v-1h2v2h-1v1h-1v1h-1v1h-1v1h-1v2h1v1h1v1h1v1h1v1h1v2h-2v-1h-1v-1h-1v-1h-1v-1h-1v-1h-1v-1h-1v6h-2z";
  upper = codes "m2 4h2v12h1v-2h1v-2h1v-2h1v-2h1v-2h1v-2h2v4h-1v2h-1v2h-1v2h-1v2h-1v4h-5z";
  lower = codes "m2 0h2v12h-2zm3 0h3v2h1v2h1v2h1v2h1v4h-2v-2h-1v-2h-1v-2h-1v-2h-1v-2h-1z";
}

-- capital L
abbrev pub letter_4C : Letter
letter_4C = record {
  dots =
      codes "......" ∷ codes ".#...." ∷ codes ".#...." ∷ codes ".#...." ∷ codes ".#...."
      ∷ codes ".#...." ∷ codes ".#...." ∷ codes ".#####" ∷ codes "......" ∷ codes "......" ∷ [];
  single = codes "m2 2h2v12h8v2h-10z";
  upper = codes "m2 4h2v16h-2z";
  lower = codes "m2 0h2v8h8v4h-10z";
}

-- capital M
abbrev pub letter_4D : Letter
letter_4D = record {
  dots =
      codes "......" ∷ codes ".#...#" ∷ codes ".##.##" ∷ codes ".#.#.#" ∷ codes ".#.#.#"
      ∷ codes ".#...#" ∷ codes ".#...#" ∷ codes ".#...#" ∷ codes "......" ∷ codes "......" ∷ [];
  single = codes "m2 2h2v2h2v1h2v-1h2v-2h2v14h-2v-10h-1v1h-1v3h-2v-3h-1v-1h-1v10h-2z";
  upper = codes "m2 4h2v4h2v2h2v-2h2v-4h2v16h-2v-8h-1v2h-1v6h-2v-6h-1v-2h-1v8h-2z";
  lower = codes "m2 0h2v12h-2zm8 0h2v12h-2z";
}

-- capital N
abbrev pub letter_4E : Letter
letter_4E = record {
  dots =
      codes "......" ∷ codes ".#...#" ∷ codes ".#...#" ∷ codes ".##..#" ∷ codes ".#.#.#"
      ∷ codes ".#..##" ∷ codes ".#...#" ∷ codes ".#...#" ∷ codes "......" ∷ codes "......" ∷ [];
  single = codes "m2 2h2v4h2v1h1v1h1v1h1v1h1v-8h2v14h-2v-4h-2v-1h-1v-1h-1v-1h-1v-1h-1v8h-2z";
  upper = codes "m2 4h2v8h2v2h1v2h1v2h1v2h-3v-2h-1v-2h-1v4h-2zm8 0h2v16h-2z";
  lower = codes "m2 0h2v12h-2zm5 0h5v12h-2v-8h-2v-2h-1z";
}

-- capital O
abbrev pub letter_4F : Letter
letter_4F = record {
  dots =
      codes "......" ∷ codes "..###." ∷ codes ".#...#" ∷ codes ".#...#" ∷ codes ".#...#"
      ∷ codes ".#...#" ∷ codes ".#...#" ∷ codes "..###." ∷ codes "......" ∷ codes "......" ∷ [];
  single = codes "m4 2h6v1h1v1h1v10h-1v1h-1v1h-6v-1h-1v-1h-1v-10h1v-1h1zm1 2v1h-1v8h1v1h4v-1h1v-8h-1v-1z";
  upper = codes "m4 4h6v2h1v2h1v12h-2v-10h-1v-2h-4v2h-1v10h-2v-12h1v-2h1z";
  lower = codes "m2 0h2v6h1v2h4v-2h1v-6h2v8h-1v2h-1v2h-6v-2h-1v-2h-1z";
}

-- capital P
abbrev pub letter_50 : Letter
letter_50 = record {
  dots =
      codes "......" ∷ codes ".####." ∷ codes ".#...#" ∷ codes ".#...#" ∷ codes ".####."
      ∷ codes ".#...." ∷ codes ".#...." ∷ codes ".#...." ∷ codes "......" ∷ codes "......" ∷ [];
  single = codes "m2 2h8v1h1v1h1v4h-1v1h-1v1h-6v6h-2zm2 2v4h5v-1h1v-2h-1v-1z";
  upper = codes "m2 4h8v2h1v2h1v8h-1v2h-1v2h-8zm2 4v8h5v-2h1v-4h-1v-2z";
  lower = codes "m2 0h2v12h-2z";
}

-- capital Q
abbrev pub letter_51 : Letter
letter_51 = record {
  dots =
      codes "......" ∷ codes "..###." ∷ codes ".#...#" ∷ codes ".#...#" ∷ codes ".#...#"
      ∷ codes ".#.#.#" ∷ codes ".#..#." ∷ codes "..##.#" ∷ codes "......" ∷ codes "......" ∷ [];
  single = codes "m4 2h6v1h1v1h1v8h-1v2h1v2h-2v-1h-2v1h-4v-1h-1v-1h-1v-10h1v-1h1zm1 2v1h-1v8h1v1h2v-2h-1v-2h2v1h2v-6h-1v-1z";
  upper = codes "m4 4h6v2h1v2h1v12h-2v-10h-1v-2h-4v2h-1v10h-2v-12h1v-2h1z";
  lower = codes "m2 0h2v6h1v2h2v-4h-1v-4h2v2h2v-2h2v4h-1v4h1v4h-2v-2h-2v2h-4v-2h-1v-2h-1z";
}

-- capital R
abbrev pub letter_52 : Letter
letter_52 = record {
  dots =
      codes "......" ∷ codes ".####." ∷ codes ".#...#" ∷ codes ".#...#" ∷ codes ".####."
      ∷ codes ".#.#.." ∷ codes ".#..#." ∷ codes ".#...#" ∷ codes "......" ∷ codes "......" ∷ [];
  single = codes "m2 2h8v1h1v1h1v4h-1v1h-1v1h-2v1h1v1h1v1h1v1h1v2h-2v-1h-1v-1h-1v-1h-1v-1h-1v-2h-2v6h-2zm2 2v4h5v-1h1v-2h-1v-1z";
  upper = codes "m2 4h8v2h1v2h1v8h-1v2h-1v2h-8zm2 4v8h5v-2h1v-4h-1v-2z";
  lower = codes "m2 0h2v12h-2zm4 0h2v2h1v2h1v2h1v2h1v4h-2v-2h-1v-2h-1v-2h-1v-2h-1z";
}

-- capital S
abbrev pub letter_53 : Letter
letter_53 = record {
  dots =
      codes "......" ∷ codes "..###." ∷ codes ".#...#" ∷ codes ".#...." ∷ codes "..###."
      ∷ codes ".....#" ∷ codes ".#...#" ∷ codes "..###." ∷ codes "......" ∷ codes "......" ∷ [];
  single = codes "m4 2h6v1h1v1h1v2h-2v-1h-1v-1h-4v1h-1v2h1v1h5v1h1v1h1v4h-1v1h-1v1h-6v-1h-1v-1h-1v-2h2v1h1v1h4v-1h1v-2h-1v-1h-5v-1h-1v-1h-1v-4h1v-1h1z";
  upper = codes "m4 4h6v2h1v2h1v4h-2v-2h-1v-2h-4v2h-1v4h1v2h5v2h1v2h-7v-2h-1v-2h-1v-8h1v-2h1z";
  lower = codes "m9 0h3v8h-1v2h-1v2h-6v-2h-1v-2h-1v-4h2v2h1v2h4v-2h1v-4h-1z";
}

-- capital T
abbrev pub letter_54 : Letter
letter_54 = record {
  dots =
      codes "......" ∷ codes ".#####" ∷ codes "...#.." ∷ codes "...#.." ∷ codes "...#.."
      ∷ codes "...#.." ∷ codes "...#.." ∷ codes "...#.." ∷ codes "......" ∷ codes "......" ∷ [];
  single = codes "m2 2h10v2h-4v12h-2v-12h-4z";
  upper = codes "m2 4h10v4h-4v12h-2v-12h-4z";
  lower = codes "m6 0h2v12h-2z";
}

-- capital U
abbrev pub letter_55 : Letter
letter_55 = record {
  dots =
      codes "......" ∷ codes ".#...#" ∷ codes ".#...#" ∷ codes ".#...#" ∷ codes ".#...#"
      ∷ codes ".#...#" ∷ codes ".#...#" ∷ codes "..###." ∷ codes "......" ∷ codes "......" ∷ [];
  single = codes "m2 2h2v11h1v1h4v-1h1v-11h2v12h-1v1h-1v1h-6v-1h-1v-1h-1z";
  upper = codes "m2 4h2v16h-2zm8 0h2v16h-2z";
  lower = codes "m2 0h2v6h1v2h4v-2h1v-6h2v8h-1v2h-1v2h-6v-2h-1v-2h-1z";
}

-- capital V
abbrev pub letter_56 : Letter
letter_56 = record {
  dots =
      codes "......" ∷ codes ".#...#" ∷ codes ".#...#" ∷ codes ".#...#" ∷ codes "..#.#."
      ∷ codes "..#.#." ∷ codes "...#.." ∷ codes "...#.." ∷ codes "......" ∷ codes "......" ∷ [];
  single = codes "m2 2h2v5h1v1h1v3h2v-3h1v-1h1v-5h2v6h-1v1h-1v3h-1v1h-1v3h-2v-3h-1v-1h-1v-3h-1v-1h-1z";
  upper = codes "m2 4h2v10h1v2h1v4h-2v-2h-1v-2h-1zm8 0h2v12h-1v2h-1v2h-2v-4h1v-2h1z";
  lower = codes "m4 0h2v2h2v-2h2v4h-1v2h-1v6h-2v-6h-1v-2h-1z";
}

-- capital W
abbrev pub letter_57 : Letter
letter_57 = record {
  dots =
      codes "......" ∷ codes ".#...#" ∷ codes ".#...#" ∷ codes ".#...#" ∷ codes ".#.#.#"
      ∷ codes ".#.#.#" ∷ codes ".#.#.#" ∷ codes "..#.#." ∷ codes "......" ∷ codes "......" ∷ [];
  single = codes "m2 2h2v11h2v-5h2v5h2v-11h2v12h-1v1h-1v1h-2v-1h-2v1h-2v-1h-1v-1h-1z";
  upper = codes "m2 4h2v16h-2zm8 0h2v16h-2zm-4 12h2v4h-2z";
  lower = codes "m2 0h2v6h2v-6h2v6h2v-6h2v8h-1v2h-1v2h-2v-2h-2v2h-2v-2h-1v-2h-1z";
}

-- capital X
abbrev pub letter_58 : Letter
letter_58 = record {
  dots =
      codes "......" ∷ codes ".#...#" ∷ codes ".#...#" ∷ codes "..#.#." ∷ codes "...#.."
      ∷ codes "..#.#." ∷ codes ".#...#" ∷ codes ".#...#" ∷ codes "......" ∷ codes "......" ∷ [];
  single = codes "m2 2h2v3h1v1h1v1h2v-1h1v-1h1v-3h2v4h-1v1h-1v1h-1v2h1v1h1v1h1v4h-2v-3h-1v-1h-1v-1h-2v1h-1v1h-1v3h-2v-4h1v-1h1v-1h1v-2h-1v-1h-1v-1h-1z";
  upper = codes "m2 4h2v6h1v2h1v2h2v-2h1v-2h1v-6h2v8h-1v2h-1v2h-1v4h-4v-4h-1v-2h-1v-2h-1z";
  lower = codes "m4 0h6v2h1v2h1v8h-2v-6h-1v-2h-1v-2h-2v2h-1v2h-1v6h-2v-8h1v-2h1z";
}

-- capital Y
abbrev pub letter_59 : Letter
letter_59 = record {
  dots =
      codes "......" ∷ codes ".#...#" ∷ codes ".#...#" ∷ codes "..#.#." ∷ codes "...#.."
      ∷ codes "...#.." ∷ codes "...#.." ∷ codes "...#.." ∷ codes "......" ∷ codes "......" ∷ [];
  single = codes "m2 2h2v3h1v1h1v1h2v-1h1v-1h1v-3h2v4h-1v1h-1v1h-1v1h-1v7h-2v-7h-1v-1h-1v-1h-1v-1h-1z";
  upper = codes "m2 4h2v6h1v2h1v2h2v-2h1v-2h1v-6h2v8h-1v2h-1v2h-1v2h-1v2h-2v-2h-1v-2h-1v-2h-1v-2h-1z";
  lower = codes "m6 0h2v12h-2z";
}

-- capital Z
abbrev pub letter_5A : Letter
letter_5A = record {
  dots =
      codes "......" ∷ codes ".#####" ∷ codes ".....#" ∷ codes "....#." ∷ codes "...#.."
      ∷ codes "..#..." ∷ codes ".#...." ∷ codes ".#####" ∷ codes "......" ∷ codes "......" ∷ [];
  single = codes "m2 2h10v4h-1v1h-1v1h-1v1h-1v1h-1v1h-1v1h-1v1h-1v1h8v2h-10v-4h1v-1h1v-1h1v-1h1v-1h1v-1h1v-1h1v-1h1v-1h-8z";
  upper = codes "m2 4h10v8h-1v2h-1v2h-1v2h-1v2h-3v-2h1v-2h1v-2h1v-2h1v-2h1v-2h-8z";
  lower = codes "m4 0h3v2h-1v2h-1v2h-1v2h8v4h-10v-8h1v-2h1z";
}

-- small a
abbrev pub letter_61 : Letter
letter_61 = record {
  dots =
      codes "......" ∷ codes "......" ∷ codes "......" ∷ codes "..###." ∷ codes ".....#"
      ∷ codes "..####" ∷ codes ".#...#" ∷ codes "..####" ∷ codes "......" ∷ codes "......" ∷ [];
  single = codes "m4 6h6v1h1v1h1v8h-8v-1h-1v-1h-1v-2h1v-1h1v-1h6v-1h-1v-1h-5zm1 6v2h5v-2z";
  upper = codes "m4 12h6v2h1v2h1v4h-2v-2h-1v-2h-5z";
  lower = codes "m4 0h8v12h-8v-2h-1v-2h-1v-4h1v-2h1zm1 4v4h5v-4z";
}

-- small b
abbrev pub letter_62 : Letter
letter_62 = record {
  dots =
      codes "......" ∷ codes ".#...." ∷ codes ".#...." ∷ codes ".####." ∷ codes ".#...#"
      ∷ codes ".#...#" ∷ codes ".#...#" ∷ codes ".####." ∷ codes "......" ∷ codes "......" ∷ [];
  single = codes "m2 2h2v4h6v1h1v1h1v6h-1v1h-1v1h-8zm2 6v6h5v-1h1v-4h-1v-1z";
  upper = codes "m2 4h2v8h6v2h1v2h1v4h-2v-2h-1v-2h-5v4h-2z";
  lower = codes "m2 0h2v8h5v-2h1v-6h2v8h-1v2h-1v2h-8z";
}

-- small c
abbrev pub letter_63 : Letter
letter_63 = record {
  dots =
      codes "......" ∷ codes "......" ∷ codes "......" ∷ codes "..####" ∷ codes ".#...."
      ∷ codes ".#...." ∷ codes ".#...." ∷ codes "..####" ∷ codes "......" ∷ codes "......" ∷ [];
  single = codes "m4 6h8v2h-7v1h-1v4h1v1h7v2h-8v-1h-1v-1h-1v-6h1v-1h1z";
  upper = codes "m4 12h8v4h-7v2h-1v2h-2v-4h1v-2h1z";
  lower = codes "m2 0h2v6h1v2h7v4h-8v-2h-1v-2h-1z";
}

-- small d
abbrev pub letter_64 : Letter
letter_64 = record {
  dots =
      codes "......" ∷ codes ".....#" ∷ codes ".....#" ∷ codes "..####" ∷ codes ".#...#"
      ∷ codes ".#...#" ∷ codes ".#...#" ∷ codes "..####" ∷ codes "......" ∷ codes "......" ∷ [];
  single = codes "m10 2h2v14h-8v-1h-1v-1h-1v-6h1v-1h1v-1h6zm-5 6v1h-1v4h1v1h5v-6z";
  upper = codes "m10 4h2v16h-2v-4h-5v2h-1v2h-2v-4h1v-2h1v-2h6z";
  lower = codes "m2 0h2v6h1v2h5v-8h2v12h-8v-2h-1v-2h-1z";
}

-- small e
abbrev pub letter_65 : Letter
letter_65 = record {
  dots =
      codes "......" ∷ codes "......" ∷ codes "......" ∷ codes "..###." ∷ codes ".#...#"
      ∷ codes ".#####" ∷ codes ".#...." ∷ codes "..###." ∷ codes "......" ∷ codes "......" ∷ [];
  single = codes "m4 6h6v1h1v1h1v4h-8v1h1v1h5v2h-6v-1h-1v-1h-1v-6h1v-1h1zm1 2v1h-1v1h6v-1h-1v-1z";
  upper = codes "m4 12h6v2h1v2h1v4h-2v-2h-1v-2h-4v2h-1v2h-2v-4h1v-2h1z";
  lower = codes "m2 0h10v4h-8v2h1v2h5v4h-6v-2h-1v-2h-1z";
}

-- small f
abbrev pub letter_66 : Letter
letter_66 = record {
  dots =
      codes "......" ∷ codes "....#." ∷ codes "...#.." ∷ codes "...#.." ∷ codes "..###."
      ∷ codes "...#.." ∷ codes "...#.." ∷ codes "...#.." ∷ codes "......" ∷ codes "......" ∷ [];
  single = codes "m8 2h2v2h-1v1h-1v3h2v2h-2v6h-2v-6h-2v-2h2v-4h1v-1h1z";
  upper = codes "m8 4h2v4h-1v2h-1v6h2v4h-6v-4h2v-8h1v-2h1z";
  lower = codes "m6 0h2v12h-2z";
}

-- small g
abbrev pub letter_67 : Letter
letter_67 = record {
  dots =
      codes "......" ∷ codes "......" ∷ codes "......" ∷ codes "..####" ∷ codes ".#...#"
      ∷ codes ".#...#" ∷ codes ".#...#" ∷ codes "..####" ∷ codes ".....#" ∷ codes "..###." ∷ [];
  single = codes "m4 6h8v12h-1v1h-1v1h-6v-2h5v-1h1v-1h-6v-1h-1v-1h-1v-6h1v-1h1zm1 2v1h-1v4h1v1h5v-6z";
  upper = codes "m4 12h8v8h-2v-4h-5v2h-1v2h-2v-4h1v-2h1z";
  lower = codes "m2 0h2v6h1v2h5v-8h2v16h-1v2h-1v2h-6v-4h5v-2h1v-2h-6v-2h-1v-2h-1z";
}

-- small h
abbrev pub letter_68 : Letter
letter_68 = record {
  dots =
      codes "......" ∷ codes ".#...." ∷ codes ".#...." ∷ codes ".####." ∷ codes ".#...#"
      ∷ codes ".#...#" ∷ codes ".#...#" ∷ codes ".#...#" ∷ codes "......" ∷ codes "......" ∷ [];
  single = codes "m2 2h2v4h6v1h1v1h1v8h-2v-7h-1v-1h-5v8h-2z";
  upper = codes "m2 4h2v8h6v2h1v2h1v4h-2v-2h-1v-2h-5v4h-2z";
  lower = codes "m2 0h2v12h-2zm8 0h2v12h-2z";
}

-- small i
abbrev pub letter_69 : Letter
letter_69 = record {
  dots =
      codes "......" ∷ codes "...#.." ∷ codes "......" ∷ codes "..##.." ∷ codes "...#.."
      ∷ codes "...#.." ∷ codes "...#.." ∷ codes "..###." ∷ codes "......" ∷ codes "......" ∷ [];
  single = codes "m6 2h2v2h-2zm-2 4h4v8h2v2h-6v-2h2v-6h-2z";
  upper = codes "m6 4h2v4h-2zm-2 8h4v8h-2v-4h-2z";
  lower = codes "m6 0h2v8h2v4h-6v-4h2z";
}

-- small j
abbrev pub letter_6A : Letter
letter_6A = record {
  dots =
      codes "......" ∷ codes "...#.." ∷ codes "......" ∷ codes "...#.." ∷ codes "...#.."
      ∷ codes "...#.." ∷ codes "...#.." ∷ codes "...#.." ∷ codes "...#.." ∷ codes "..#..." ∷ [];
  single = codes "m6 2h2v2h-2zm0 4h2v12h-1v1h-1v1h-2v-2h1v-1h1z";
  upper = codes "m6 4h2v4h-2zm0 8h2v8h-2z";
  lower = codes "m6 0h2v16h-1v2h-1v2h-2v-4h1v-2h1z";
}

-- small k
abbrev pub letter_6B : Letter
letter_6B = record {
  dots =
      codes "......" ∷ codes "..#..." ∷ codes "..#..." ∷ codes "..#..#" ∷ codes "..#.#."
      ∷ codes "..##.." ∷ codes "..#.#." ∷ codes "..#..#" ∷ codes "......" ∷ codes "......" ∷ [];
  single = codes "m4 2h2v8h1v-1h1v-1h1v-1h1v-1h2v2h-1v1h-1v1h-1v2h1v1h1v1h1v2h-2v-1h-1v-1h-1v-1h-1v-1h-1v4h-2z";
  upper = codes "m4 4h2v16h-2zm6 8h2v4h-1v2h-1v2h-3v-2h1v-2h1v-2h1z";
  lower = codes "m4 0h5v4h1v2h1v2h1v4h-2v-2h-1v-2h-1v-2h-1v-2h-1v8h-2z";
}

-- small l
abbrev pub letter_6C : Letter
letter_6C = record {
  dots =
      codes "......" ∷ codes "..##.." ∷ codes "...#.." ∷ codes "...#.." ∷ codes "...#.."
      ∷ codes "...#.." ∷ codes "...#.." ∷ codes "..###." ∷ codes "......" ∷ codes "......" ∷ [];
  single = codes "m4 2h4v12h2v2h-6v-2h2v-10h-2z";
  upper = codes "m4 4h4v16h-2v-12h-2z";
  lower = codes "m6 0h2v8h2v4h-6v-4h2z";
}

-- small m
abbrev pub letter_6D : Letter
letter_6D = record {
  dots =
      codes "......" ∷ codes "......" ∷ codes "......" ∷ codes ".##.#." ∷ codes ".#.#.#"
      ∷ codes ".#.#.#" ∷ codes ".#.#.#" ∷ codes ".#.#.#" ∷ codes "......" ∷ codes "......" ∷ [];
  single = codes "m2 6h4v1h2v-1h2v1h1v1h1v8h-2v-7h-2v7h-2v-7h-1v-1h-1v8h-2z";
  upper = codes "m2 12h4v2h2v-2h2v2h1v2h1v4h-2v-2h-2v2h-2v-2h-1v-2h-1v4h-2z";
  lower = codes "m2 0h2v12h-2zm4 0h2v12h-2zm4 0h2v12h-2z";
}

-- small n
abbrev pub letter_6E : Letter
letter_6E = record {
  dots =
      codes "......" ∷ codes "......" ∷ codes "......" ∷ codes ".####." ∷ codes ".#...#"
      ∷ codes ".#...#" ∷ codes ".#...#" ∷ codes ".#...#" ∷ codes "......" ∷ codes "......" ∷ [];
  single = codes "m2 6h8v1h1v1h1v8h-2v-7h-1v-1h-5v8h-2z";
  upper = codes "m2 12h8v2h1v2h1v4h-2v-2h-1v-2h-5v4h-2z";
  lower = codes "m2 0h2v12h-2zm8 0h2v12h-2z";
}

-- small o
abbrev pub letter_6F : Letter
letter_6F = record {
  dots =
      codes "......" ∷ codes "......" ∷ codes "......" ∷ codes "..###." ∷ codes ".#...#"
      ∷ codes ".#...#" ∷ codes ".#...#" ∷ codes "..###." ∷ codes "......" ∷ codes "......" ∷ [];
  single = codes "m4 6h6v1h1v1h1v6h-1v1h-1v1h-6v-1h-1v-1h-1v-6h1v-1h1zm1 2v1h-1v4h1v1h4v-1h1v-4h-1v-1z";
  upper = codes "m4 12h6v2h1v2h1v4h-2v-2h-1v-2h-4v2h-1v2h-2v-4h1v-2h1z";
  lower = codes "m2 0h2v6h1v2h4v-2h1v-6h2v8h-1v2h-1v2h-6v-2h-1v-2h-1z";
}

-- small p
abbrev pub letter_70 : Letter
letter_70 = record {
  dots =
      codes "......" ∷ codes "......" ∷ codes "......" ∷ codes ".####." ∷ codes ".#...#"
      ∷ codes ".#...#" ∷ codes ".#...#" ∷ codes ".####." ∷ codes ".#...." ∷ codes ".#...." ∷ [];
  single = codes "m2 6h8v1h1v1h1v6h-1v1h-1v1h-6v4h-2zm2 2v6h5v-1h1v-4h-1v-1z";
  upper = codes "m2 12h8v2h1v2h1v4h-2v-2h-1v-2h-5v4h-2z";
  lower = codes "m2 0h2v8h5v-2h1v-6h2v8h-1v2h-1v2h-6v8h-2z";
}

-- small q
abbrev pub letter_71 : Letter
letter_71 = record {
  dots =
      codes "......" ∷ codes "......" ∷ codes "......" ∷ codes "..####" ∷ codes ".#...#"
      ∷ codes ".#...#" ∷ codes ".#...#" ∷ codes "..####" ∷ codes ".....#" ∷ codes ".....#" ∷ [];
  single = codes "m4 6h8v14h-2v-4h-6v-1h-1v-1h-1v-6h1v-1h1zm1 2v1h-1v4h1v1h5v-6z";
  upper = codes "m4 12h8v8h-2v-4h-5v2h-1v2h-2v-4h1v-2h1z";
  lower = codes "m2 0h2v6h1v2h5v-8h2v20h-2v-8h-6v-2h-1v-2h-1z";
}

-- small r
abbrev pub letter_72 : Letter
letter_72 = record {
  dots =
      codes "......" ∷ codes "......" ∷ codes "......" ∷ codes "..#.##" ∷ codes "..##.."
      ∷ codes "..#..." ∷ codes "..#..." ∷ codes "..#..." ∷ codes "......" ∷ codes "......" ∷ [];
  single = codes "m4 6h2v2h1v-1h1v-1h4v2h-3v1h-1v1h-2v6h-2z";
  upper = codes "m4 12h2v4h1v-2h1v-2h4v4h-3v2h-1v2h-4z";
  lower = codes "m4 0h2v12h-2z";
}

-- small s
abbrev pub letter_73 : Letter
letter_73 = record {
  dots =
      codes "......" ∷ codes "......" ∷ codes "......" ∷ codes "..####" ∷ codes ".#...."
      ∷ codes "..###." ∷ codes ".....#" ∷ codes ".####." ∷ codes "......" ∷ codes "......" ∷ [];
  single = codes "m4 6h8v2h-7v2h5v1h1v1h1v2h-1v1h-1v1h-8v-2h7v-2h-5v-1h-1v-1h-1v-2h1v-1h1z";
  upper = codes "m4 12h8v4h-7v4h-3v-4h1v-2h1z";
  lower = codes "m3 0h7v2h1v2h1v4h-1v2h-1v2h-8v-4h7v-4h-5v-2h-1z";
}

-- small t
abbrev pub letter_74 : Letter
letter_74 = record {
  dots =
      codes "......" ∷ codes "...#.." ∷ codes "...#.." ∷ codes "..###." ∷ codes "...#.."
      ∷ codes "...#.." ∷ codes "...#.." ∷ codes "....#." ∷ codes "......" ∷ codes "......" ∷ [];
  single = codes "m6 2h2v4h2v2h-2v5h1v1h1v2h-2v-1h-1v-1h-1v-6h-2v-2h2z";
  upper = codes "m6 4h2v8h2v4h-2v4h-2v-4h-2v-4h2z";
  lower = codes "m6 0h2v6h1v2h1v4h-2v-2h-1v-2h-1z";
}

-- small u
abbrev pub letter_75 : Letter
letter_75 = record {
  dots =
      codes "......" ∷ codes "......" ∷ codes "......" ∷ codes ".#...#" ∷ codes ".#...#"
      ∷ codes ".#...#" ∷ codes ".#...#" ∷ codes "..####" ∷ codes "......" ∷ codes "......" ∷ [];
  single = codes "m2 6h2v7h1v1h5v-8h2v10h-8v-1h-1v-1h-1z";
  upper = codes "m2 12h2v8h-2zm8 0h2v8h-2z";
  lower = codes "m2 0h2v6h1v2h5v-8h2v12h-8v-2h-1v-2h-1z";
}

-- small v
abbrev pub letter_76 : Letter
letter_76 = record {
  dots =
      codes "......" ∷ codes "......" ∷ codes "......" ∷ codes ".#...#" ∷ codes ".#...#"
      ∷ codes "..#.#." ∷ codes "..#.#." ∷ codes "...#.." ∷ codes "......" ∷ codes "......" ∷ [];
  single = codes "m2 6h2v3h1v1h1v3h2v-3h1v-1h1v-3h2v4h-1v1h-1v3h-1v1h-1v1h-2v-1h-1v-1h-1v-3h-1v-1h-1z";
  upper = codes "m2 12h2v6h1v2h-3zm8 0h2v8h-3v-2h1z";
  lower = codes "m3 0h3v6h2v-6h3v2h-1v6h-1v2h-1v2h-2v-2h-1v-2h-1v-6h-1z";
}

-- small w
abbrev pub letter_77 : Letter
letter_77 = record {
  dots =
      codes "......" ∷ codes "......" ∷ codes "......" ∷ codes ".#...#" ∷ codes ".#...#"
      ∷ codes ".#.#.#" ∷ codes ".#.#.#" ∷ codes "..#.#." ∷ codes "......" ∷ codes "......" ∷ [];
  single = codes "m2 6h2v7h2v-3h2v3h2v-7h2v8h-1v1h-1v1h-2v-1h-2v1h-2v-1h-1v-1h-1z";
  upper = codes "m2 12h2v8h-2zm8 0h2v8h-2z";
  lower = codes "m2 0h2v6h2v-6h2v6h2v-6h2v8h-1v2h-1v2h-2v-2h-2v2h-2v-2h-1v-2h-1z";
}

-- small x
abbrev pub letter_78 : Letter
letter_78 = record {
  dots =
      codes "......" ∷ codes "......" ∷ codes "......" ∷ codes ".#...#" ∷ codes "..#.#."
      ∷ codes "...#.." ∷ codes "..#.#." ∷ codes ".#...#" ∷ codes "......" ∷ codes "......" ∷ [];
  single = codes "m2 6h2v1h1v1h1v1h2v-1h1v-1h1v-1h2v2h-1v1h-1v1h-1v2h1v1h1v1h1v2h-2v-1h-1v-1h-1v-1h-2v1h-1v1h-1v1h-2v-2h1v-1h1v-1h1v-2h-1v-1h-1v-1h-1z";
  upper = codes "m2 12h2v2h1v2h1v2h2v-2h1v-2h1v-2h2v4h-1v2h-1v2h-6v-2h-1v-2h-1z";
  lower = codes "m5 0h4v4h1v2h1v2h1v4h-2v-2h-1v-2h-1v-2h-2v2h-1v2h-1v2h-2v-4h1v-2h1v-2h1z";
}

-- small y
abbrev pub letter_79 : Letter
letter_79 = record {
  dots =
      codes "......" ∷ codes "......" ∷ codes "......" ∷ codes ".#...#" ∷ codes ".#...#"
      ∷ codes ".#...#" ∷ codes ".#...#" ∷ codes "..####" ∷ codes ".....#" ∷ codes "..###." ∷ [];
  single = codes "m2 6h2v7h1v1h5v-8h2v12h-1v1h-1v1h-6v-2h5v-1h1v-1h-6v-1h-1v-1h-1z";
  upper = codes "m2 12h2v8h-2zm8 0h2v8h-2z";
  lower = codes "m2 0h2v6h1v2h5v-8h2v16h-1v2h-1v2h-6v-4h5v-2h1v-2h-6v-2h-1v-2h-1z";
}

-- small z
abbrev pub letter_7A : Letter
letter_7A = record {
  dots =
      codes "......" ∷ codes "......" ∷ codes "......" ∷ codes ".#####" ∷ codes "....#."
      ∷ codes "...#.." ∷ codes "..#..." ∷ codes ".#####" ∷ codes "......" ∷ codes "......" ∷ [];
  single = codes "m2 6h10v2h-2v2h-1v1h-1v1h-1v1h-1v1h6v2h-10v-2h2v-2h1v-1h1v-1h1v-1h1v-1h-6z";
  upper = codes "m2 12h10v4h-2v4h-3v-2h1v-2h-6z";
  lower = codes "m6 0h3v2h-1v2h-1v2h-1v2h6v4h-10v-4h2v-4h1v-2h1z";
}

-- pound sign
abbrev pub letter_23 : Letter
letter_23 = record {
  dots =
      codes "......" ∷ codes "...##." ∷ codes "..#..#" ∷ codes "..#..." ∷ codes ".###.."
      ∷ codes "..#..." ∷ codes "..#..." ∷ codes ".#####" ∷ codes "......" ∷ codes "......" ∷ [];
  single = codes "m6 2h4v1h1v1h1v2h-2v-1h-1v-1h-2v1h-1v3h2v2h-2v4h6v2h-10v-2h2v-4h-2v-2h2v-4h1v-1h1z";
  upper = codes "m6 4h4v2h1v2h1v4h-2v-2h-1v-2h-2v2h-1v6h2v4h-6v-4h2v-8h1v-2h1z";
  lower = codes "m4 0h2v8h6v4h-10v-4h2z";
}

-- one quarter
abbrev pub letter_7B : Letter
letter_7B = record {
  dots =
      codes "......" ∷ codes "..#..." ∷ codes "..#..." ∷ codes "..#..." ∷ codes "..#..."
      ∷ codes "..#..#" ∷ codes "....##" ∷ codes "...#.#" ∷ codes "...###" ∷ codes ".....#" ∷ [];
  single = codes "m4 2h2v10h-2zm6 8h2v10h-2v-2h-4v-4h1v-1h1v-1h2zm-1 4v1h-1v1h2v-2z";
  upper = codes "m4 4h2v16h-2z";
  lower = codes "m4 0h2v4h-2zm6 0h2v20h-2v-4h-4v-8h1v-2h1v-2h2zm-1 8v2h-1v2h2v-4z";
}

-- one half
abbrev pub letter_5C : Letter
letter_5C = record {
  dots =
      codes "......" ∷ codes ".#...." ∷ codes ".#...." ∷ codes ".#...." ∷ codes ".#...."
      ∷ codes ".#.##." ∷ codes ".....#" ∷ codes "....#." ∷ codes "...#.." ∷ codes "...###" ∷ [];
  single = codes "m2 2h2v10h-2zm4 8h4v1h1v1h1v2h-1v1h-1v1h-1v1h-1v1h4v2h-6v-4h1v-1h1v-1h1v-2h-3z";
  upper = codes "m2 4h2v16h-2z";
  lower = codes "m2 0h2v4h-2zm4 0h4v2h1v2h1v4h-1v2h-1v2h-1v2h-1v2h4v4h-6v-8h1v-2h1v-2h1v-4h-3z";
}

-- three quarters
abbrev pub letter_7D : Letter
letter_7D = record {
  dots =
      codes "......" ∷ codes ".##..." ∷ codes "...#.." ∷ codes ".##..." ∷ codes "...#.."
      ∷ codes ".##..#" ∷ codes "....##" ∷ codes "...#.#" ∷ codes "...###" ∷ codes ".....#" ∷ [];
  single = codes "m2 2h4v1h1v1h1v2h-1v2h1v2h-1v1h-1v1h-4v-2h3v-2h-3v-2h3v-2h-3zm8 8h2v10h-2v-2h-4v-4h1v-1h1v-1h2zm-1 4v1h-1v1h2v-2z";
  upper = codes "m2 4h4v2h1v2h1v4h-1v4h1v4h-3v-4h-3v-4h3v-4h-3z";
  lower = codes "m2 0h5v2h-1v2h-4zm8 0h2v20h-2v-4h-4v-8h1v-2h1v-2h2zm-1 8v2h-1v2h2v-4z";
}

-- division sign
abbrev pub letter_7E : Letter
letter_7E = record {
  dots =
      codes "......" ∷ codes "......" ∷ codes "...#.." ∷ codes "......" ∷ codes ".#####"
      ∷ codes "......" ∷ codes "...#.." ∷ codes "......" ∷ codes "......" ∷ codes "......" ∷ [];
  single = codes "m6 4h2v2h-2zm-4 4h10v2h-10zm4 4h2v2h-2z";
  upper = codes "m6 8h2v4h-2zm-4 8h10v4h-10z";
  lower = codes "m6 4h2v4h-2z";
}

-- long dash
abbrev pub letter_60 : Letter
letter_60 = record {
  dots =
      codes "......" ∷ codes "......" ∷ codes "......" ∷ codes "......" ∷ codes ".#####"
      ∷ codes "......" ∷ codes "......" ∷ codes "......" ∷ codes "......" ∷ codes "......" ∷ [];
  single = codes "m2 8h10v2h-10z";
  upper = codes "m2 16h10v4h-10z";
  lower = codes "";
}

-- double bar
abbrev pub letter_7C : Letter
letter_7C = record {
  dots =
      codes "......" ∷ codes "..#.#." ∷ codes "..#.#." ∷ codes "..#.#." ∷ codes "..#.#."
      ∷ codes "..#.#." ∷ codes "..#.#." ∷ codes "..#.#." ∷ codes "......" ∷ codes "......" ∷ [];
  single = codes "m4 2h2v14h-2zm4 0h2v14h-2z";
  upper = codes "m4 4h2v16h-2zm4 0h2v16h-2z";
  lower = codes "m4 0h2v12h-2zm4 0h2v12h-2z";
}

-- left arrow
abbrev pub letter_5B : Letter
letter_5B = record {
  dots =
      codes "......" ∷ codes "......" ∷ codes "...#.." ∷ codes "..#..." ∷ codes ".#####"
      ∷ codes "..#..." ∷ codes "...#.." ∷ codes "......" ∷ codes "......" ∷ codes "......" ∷ [];
  single = codes "m6 4h2v2h-1v1h-1v1h6v2h-6v1h1v1h1v2h-2v-1h-1v-1h-1v-2h-2v-2h2v-2h1v-1h1z";
  upper = codes "m6 8h2v4h-1v2h-1v2h6v4h-10v-4h2v-4h1v-2h1z";
  lower = codes "m4 0h2v2h1v2h1v4h-2v-2h-1v-2h-1z";
}

-- up arrow
abbrev pub letter_5E : Letter
letter_5E = record {
  dots =
      codes "......" ∷ codes "......" ∷ codes "...#.." ∷ codes "..###." ∷ codes ".#.#.#"
      ∷ codes "...#.." ∷ codes "...#.." ∷ codes "......" ∷ codes "......" ∷ codes "......" ∷ [];
  single = codes "m6 4h2v2h2v1h1v1h1v2h-2v-1h-1v-1h-1v6h-2v-6h-1v1h-1v1h-2v-2h1v-1h1v-1h2z";
  upper = codes "m6 8h2v4h2v2h1v2h1v4h-2v-2h-1v-2h-1v4h-2v-4h-1v2h-1v2h-2v-4h1v-2h1v-2h2z";
  lower = codes "m6 0h2v8h-2z";
}

-- right arrow
abbrev pub letter_5D : Letter
letter_5D = record {
  dots =
      codes "......" ∷ codes "......" ∷ codes "...#.." ∷ codes "....#." ∷ codes ".#####"
      ∷ codes "....#." ∷ codes "...#.." ∷ codes "......" ∷ codes "......" ∷ codes "......" ∷ [];
  single = codes "m6 4h2v1h1v1h1v2h2v2h-2v2h-1v1h-1v1h-2v-2h1v-1h1v-1h-6v-2h6v-1h-1v-1h-1z";
  upper = codes "m6 8h2v2h1v2h1v4h2v4h-10v-4h6v-2h-1v-2h-1z";
  lower = codes "m8 0h2v4h-1v2h-1v2h-2v-4h1v-2h1z";
}

-- full block
abbrev pub letter_7F : Letter
letter_7F = record {
  dots =
      codes "......" ∷ codes ".#####" ∷ codes ".#####" ∷ codes ".#####" ∷ codes ".#####"
      ∷ codes ".#####" ∷ codes ".#####" ∷ codes ".#####" ∷ codes "......" ∷ codes "......" ∷ [];
  single = codes "m2 2h10v14h-10z";
  upper = codes "m2 4h10v16h-10z";
  lower = codes "m2 0h10v12h-10z";
}

abbrev pub letters_1 : ℕ → Letter
letters_1 c =
    if c == 0x21 then letter_21
    else if c == 0x22 then letter_22
    else if c == 0x23 then letter_5F
    else if c == 0x24 then letter_24
    else if c == 0x25 then letter_25
    else if c == 0x26 then letter_26
    else if c == 0x27 then letter_27
    else if c == 0x28 then letter_28
    else if c == 0x29 then letter_29
    else if c == 0x2A then letter_2A
    else if c == 0x2B then letter_2B
    else if c == 0x2C then letter_2C
    else if c == 0x2D then letter_2D
    else if c == 0x2E then letter_2E
    else if c == 0x2F then letter_2F
    else if c == 0x30 then letter_30
    else if c == 0x31 then letter_31
    else if c == 0x32 then letter_32
    else if c == 0x33 then letter_33
    else blank_letter

abbrev pub letters_2 : ℕ → Letter
letters_2 c =
    if c == 0x34 then letter_34
    else if c == 0x35 then letter_35
    else if c == 0x36 then letter_36
    else if c == 0x37 then letter_37
    else if c == 0x38 then letter_38
    else if c == 0x39 then letter_39
    else if c == 0x3A then letter_3A
    else if c == 0x3B then letter_3B
    else if c == 0x3C then letter_3C
    else if c == 0x3D then letter_3D
    else if c == 0x3E then letter_3E
    else if c == 0x3F then letter_3F
    else if c == 0x40 then letter_40
    else if c == 0x41 then letter_41
    else if c == 0x42 then letter_42
    else if c == 0x43 then letter_43
    else if c == 0x44 then letter_44
    else if c == 0x45 then letter_45
    else if c == 0x46 then letter_46
    else blank_letter

abbrev pub letters_3 : ℕ → Letter
letters_3 c =
    if c == 0x47 then letter_47
    else if c == 0x48 then letter_48
    else if c == 0x49 then letter_49
    else if c == 0x4A then letter_4A
    else if c == 0x4B then letter_4B
    else if c == 0x4C then letter_4C
    else if c == 0x4D then letter_4D
    else if c == 0x4E then letter_4E
    else if c == 0x4F then letter_4F
    else if c == 0x50 then letter_50
    else if c == 0x51 then letter_51
    else if c == 0x52 then letter_52
    else if c == 0x53 then letter_53
    else if c == 0x54 then letter_54
    else if c == 0x55 then letter_55
    else if c == 0x56 then letter_56
    else if c == 0x57 then letter_57
    else if c == 0x58 then letter_58
    else if c == 0x59 then letter_59
    else blank_letter

abbrev pub letters_4 : ℕ → Letter
letters_4 c =
    if c == 0x5A then letter_5A
    else if c == 0x61 then letter_61
    else if c == 0x62 then letter_62
    else if c == 0x63 then letter_63
    else if c == 0x64 then letter_64
    else if c == 0x65 then letter_65
    else if c == 0x66 then letter_66
    else if c == 0x67 then letter_67
    else if c == 0x68 then letter_68
    else if c == 0x69 then letter_69
    else if c == 0x6A then letter_6A
    else if c == 0x6B then letter_6B
    else if c == 0x6C then letter_6C
    else if c == 0x6D then letter_6D
    else if c == 0x6E then letter_6E
    else if c == 0x6F then letter_6F
    else if c == 0x70 then letter_70
    else if c == 0x71 then letter_71
    else if c == 0x72 then letter_72
    else blank_letter

abbrev pub letters_5 : ℕ → Letter
letters_5 c =
    if c == 0x73 then letter_73
    else if c == 0x74 then letter_74
    else if c == 0x75 then letter_75
    else if c == 0x76 then letter_76
    else if c == 0x77 then letter_77
    else if c == 0x78 then letter_78
    else if c == 0x79 then letter_79
    else if c == 0x7A then letter_7A
    else if c == 0xA3 then letter_23
    else if c == 0xBC then letter_7B
    else if c == 0xBD then letter_5C
    else if c == 0xBE then letter_7D
    else if c == 0xF7 then letter_7E
    else if c == 0x2014 then letter_60
    else if c == 0x2016 then letter_7C
    else if c == 0x2190 then letter_5B
    else if c == 0x2191 then letter_5E
    else if c == 0x2192 then letter_5D
    else if c == 0x25A0 then letter_7F
    else blank_letter

-- the letter of a character; of any other a blank one
abbrev pub letter_drawn : ℕ → Letter
letter_drawn c =
    if nat_lt c 0x34 then letters_1 c
    else if nat_lt c 0x47 then letters_2 c
    else if nat_lt c 0x5A then letters_3 c
    else if nat_lt c 0x73 then letters_4 c
    else letters_5 c
