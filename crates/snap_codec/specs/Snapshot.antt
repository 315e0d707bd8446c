-- Bytes that are a snapshot.
use Rattle.std.specs.Prelude.{◌≡◌, ◌≤◌, ◌^◌, ℕ, List, length}
use Rattle.snap_codec.specs.Fitting.{IsImage}
use Rattle.snap_codec.specs.Spelling.{image_bytes}
use Rattle.snap_codec.specs.declared.image.Image.{Image}

-- the bytes are those of the image, which holds what an image may, and there are at most 2^32 of them
pub record IsSnapshotOf (bytes : List ℕ) (image : Image) : Type 0 where
  pub holds : IsImage image
  pub spelled : bytes ≡ image_bytes image
  pub size : length bytes ≤ 2 ^ 32
