-- What each frame that a file gives has.
use Rattle.std.specs.Prelude.{◌<◌, ◌≤◌, ℕ, List, Ok, length}
use Rattle.std.specs.List.{All}
use Rattle.screen_files.specs.declared.file.FileFrames.{FileFrames}
use Rattle.screen_files.specs.declared.file.FileKind.{FileKind}
use Rattle.screen_files.specs.declared.filed.Filed.{Filed}
use Rattle.screen_files.specs.Files.{AreFileFrames, found_in}
use Rattle.screen_files.specs.Settling.{SettledView, IsSettled}
use Rattle.import_laws.specs.Imported.{IsFiled}

pub record FilesAreFiled : Type 0 where
  -- the frames of a file
  pub read : (kind : FileKind) (path : List ℕ) (file : ℕ) (bytes : List ℕ) (found : FileFrames) → All (λ b. b < 256) bytes
      → AreFileFrames (found_in kind path file bytes) (Ok found) → All IsFiled found.frames.frames
  -- those of several files, one of each id
  pub settled : (filed : List Filed) (settled : SettledView) → IsSettled filed settled → All IsFiled filed → All IsFiled settled.frames
  pub no_more : (filed : List Filed) (settled : SettledView) → IsSettled filed settled → length settled.frames ≤ length filed
