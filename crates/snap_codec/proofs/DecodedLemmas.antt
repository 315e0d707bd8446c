-- What all bytes read as, once their parts are read.
use Rattle.std.proofs.Common.{◌≡◌, ℕ, ◌≤◌, ◌^◌, true, false, ltb, List, length, drop, Ok, refl}
use Rattle.std.specs.Prelude.{nat_eq}
use Rattle.std.specs.List.{starts_with}
use Rattle.std.proofs.lemmas.Bool.{le-ltb}
use Rattle.snap_codec.specs.Reading.{decoded, ended, parts_at}
use Rattle.snap_codec.specs.Spelling.{magic}
use Rattle.snap_codec.specs.declared.image.Image.{Image}

-- they are the image, where no byte is left
pub decoded_parts : (bytes parts : List ℕ) (image : Image) (rest : List ℕ) → parts ≡ drop 8 bytes → length bytes ≤ 2 ^ 32 → starts_with nat_eq bytes magic ≡ true
    → parts_at (length bytes) parts ≡ Ok (image, rest) → decoded bytes ≡ ended (length bytes) image rest
unfolding decoded
decoded_parts bytes parts image rest behind long begins read =
    let short : ltb (2 ^ 32) (length bytes) ≡ false = le-ltb _ _ long in
    rw (short, begins, ← behind, read) refl
