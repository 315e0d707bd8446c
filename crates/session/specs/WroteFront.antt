-- What has been written of a text.
use Rattle.std.specs.Prelude.{◌≡◌, ◌≤◌, ℕ, List, ◌++◌, length, take}
use Rattle.cay_host.specs.Output.{Wrote}
use Rattle.cay_host.specs.Told.{Told}

-- a front of the text was appended, or all of it
pub record WroteFront (text : List ℕ) (old new : Told) : Type 0 where
  pub size : ℕ
  pub within : size ≤ length text
  pub wrote : Wrote (take size text) old new

-- the later text goes on from the earlier one, and what it has beyond it was appended in this way
pub record Beyond (W : List ℕ → Told → Told → Type 0) (earlier later : List ℕ) (old new : Told) : Type 0 where
  pub more : List ℕ
  pub goes_on : later ≡ earlier ++ more
  pub wrote : W more old new
