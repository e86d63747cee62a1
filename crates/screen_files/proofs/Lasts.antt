-- The last screen of a capture.
use Rattle.std.proofs.Common.{◌≡◌, ◌∙◌, ℕ, List, [], ◌∷◌, ◌++◌, length, map, take, refl, ap, arith}
use Rattle.std.proofs.lemmas.List.{length-append}
use Rattle.std.proofs.Math.Seq.{take-append_seam}
use Rattle.screen_files.specs.declared.capture.Shot.{Shot}
use Rattle.screen_files.specs.declared.filed.ScreenPlace.TheVariants.{Byte}
use Rattle.screen_files.specs.Files.{found_last, found_one, last_from, named_frame}

last_is : (s : Shot) (ss : List Shot) (last : Shot) → last_from s (ss ++ last ∷ []) ≡ last
last_is s [] last = refl
last_is s (r ∷ rs) last = last_is r rs last

before_is : (s : Shot) (ss : List Shot) (last : Shot) → take (length (ss ++ last ∷ [])) (s ∷ (ss ++ last ∷ [])) ≡ s ∷ ss
before_is s ss last =
    let count : length (ss ++ last ∷ []) ≡ length (s ∷ ss) = omega (arith, length-append ss (last ∷ [])) in
    ap (λ (n : ℕ). take n ((s ∷ ss) ++ last ∷ [])) count ∙ take-append_seam (s ∷ ss) (last ∷ [])

pub found_at : (path : List ℕ) (file : ℕ) (before : List Shot) (last : Shot)
    → found_last path file (before ++ last ∷ []) ≡ found_one file (Byte last.byte) (map (λ (s : Shot). s.byte) before) (named_frame path last.codes)
found_at path file [] last = refl
found_at path file (s ∷ ss) last =
    ap (λ (l : Shot). found_one file (Byte l.byte) (map (λ (r : Shot). r.byte) (take (length (ss ++ last ∷ [])) (s ∷ (ss ++ last ∷ [])))) (named_frame path l.codes)) (last_is s ss last)
    ∙ ap (λ (bs : List Shot). found_one file (Byte last.byte) (map (λ (r : Shot). r.byte) bs) (named_frame path last.codes)) (before_is s ss last)
