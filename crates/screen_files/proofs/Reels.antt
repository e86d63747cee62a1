-- One byte more of a capture.
use Rattle.std.proofs.Common.{◌≡◌, ◌∙◌, ℕ, List, [], ◌∷◌, ◌++◌, length, sym, ap, arith}
use Rattle.std.specs.Prelude.{Err}
use Rattle.std.proofs.lemmas.List.{length-append}
use Rattle.screen_files.specs.declared.capture.CaptureFault.{CaptureFault}
use Rattle.screen_files.specs.declared.capture.CaptureFault.TheVariants.{TooMany, Memory}
use Rattle.screen_files.specs.declared.capture.Reel.{Reel}
use Rattle.screen_files.specs.declared.capture.Shot.{Shot}
use Rattle.screen_files.specs.Captures.{cleared, cleared_by, offset_in, reel_after, wound}
use Rattle.screen_files.specs.Loops.{AreShotsAdded}

-- too many so far are too many in all
pub still_refused : (fault : CaptureFault) (old new so_far then more rest all : List Shot) → so_far ++ (more ++ rest) ≡ old ++ all
    → AreShotsAdded so_far then more (Err fault) → AreShotsAdded old new all (Err fault)
still_refused TooMany old new so_far then more rest all is over =
    omega (arith, over, ap (λ (ss : List Shot). length ss) is, length-append so_far more, length-append so_far (more ++ rest), length-append more rest, length-append old all)
still_refused Memory old new so_far then more rest all is over = tt

module _ (size : ℕ) (r : Reel) (left : List ℕ) (b : ℕ) (rest : List ℕ) (is : left ≡ b ∷ rest) where
  pub cleared_more : cleared size r left ≡ cleared_by r b ++ cleared size (reel_after r (offset_in size left) b) rest
  unfolding cleared
  cleared_more =
      ap (cleared size r) is
      ∙ sym (ap (λ (bs : List ℕ). cleared_by r b ++ cleared size (reel_after r (offset_in size bs) b) rest) is)

  pub wound_more : wound size r left ≡ wound size (reel_after r (offset_in size left) b) rest
  unfolding wound
  wound_more =
      ap (wound size r) is
      ∙ sym (ap (λ (bs : List ℕ). wound size (reel_after r (offset_in size bs) b) rest) is)

pub cleared_end : (size : ℕ) (r : Reel) (left : List ℕ) → left ≡ [] → cleared size r left ≡ []
unfolding cleared
cleared_end size r left is = ap (cleared size r) is

pub wound_end : (size : ℕ) (r : Reel) (left : List ℕ) → left ≡ [] → wound size r left ≡ r
unfolding wound
wound_end size r left is = ap (wound size r) is
