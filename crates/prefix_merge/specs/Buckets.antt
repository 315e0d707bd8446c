-- Hashes of how waiting states are entered, and the states in buckets by them. No public clause cites this.
use Rattle.std.specs.Prelude.{◌≡◌, ℕ, ◌+◌, ◌-◌, ◌==◌, Bool, false, ◌&&◌, if◌then◌else◌, List, [], Option, None, Some, count_by, nat_eq}
use Rattle.std.specs.List.{fold}
use Rattle.std.specs.Option.{unwrap_or}
use Rattle.std.specs.Hash as fed
use Rattle.std.specs.HashMap.{HashMap, get}
use Rattle.std.specs.Hash.DefaultHasher as sip
use Rattle.std.specs.declared.hash.DefaultHasher.{DefaultHasher}
use Rattle.scalar_expr.specs.Hashes.{with_condition, with_projection, with_writes}
use Rattle.automaton.specs.declared.network.Entrance.{Entrance}
use Rattle.automaton.specs.declared.network.Entrance.TheVariants as entrance
use Rattle.automaton.specs.declared.step.Stage.{Stage}
use Rattle.automaton.specs.declared.step.Stage.TheVariants as stage
use Rattle.automaton.specs.declared.wait.Turn.{Turn}
use Rattle.automaton.specs.declared.wait.Wait.{Wait}
use Rattle.automaton.specs.States.{Net, entrance_at}

-- a hash that goes on with a stage
abbrev pub with_stage : DefaultHasher → Stage → DefaultHasher
with_stage hasher (stage.Keep condition) = with_condition hasher condition
with_stage hasher (stage.Make projection) = with_projection hasher projection

-- a hash that goes on with a rebind edge, where there is one
abbrev pub with_turn : DefaultHasher → Option Turn → DefaultHasher
with_turn hasher None = hasher
with_turn hasher (Some turn) = with_projection (with_condition hasher turn.on) turn.set

-- a hash that goes on with a wait
abbrev pub with_wait : DefaultHasher → Wait → DefaultHasher
with_wait hasher wait = with_turn (with_condition (with_writes hasher (fed.usize wait.stream)) wait.choose) wait.fold

-- the hash of a state that is entered from this one through such a step, and waits so
unfoldable pub hash_of : ℕ → List Stage → Wait → ℕ
hash_of before step wait = sip.finish (with_wait (fold with_stage (with_writes sip.initial (fed.usize before)) step) wait)

-- the states in the bucket of a hash
abbrev pub bucket_at : {S : Type 0} → HashMap ℕ (List ℕ) S → ℕ → List ℕ
bucket_at buckets hash = unwrap_or (get nat_eq buckets hash) []

-- how often a number stands in the bucket of a hash
abbrev pub copies_at : {S : Type 0} → HashMap ℕ (List ℕ) S → ℕ → ℕ → ℕ
copies_at buckets hash number = count_by (λ n. n == number) (bucket_at buckets hash)

-- whether a state that is entered so is a waiting state of the hash
abbrev pub has_hash : ℕ → Option Entrance → Bool
has_hash hash None = false
has_hash hash (Some (entrance.Root stream)) = false
has_hash hash (Some (entrance.Waiting before hop)) = hash_of before hop.step hop.wait == hash

-- in the bucket of each hash stands each waiting state of this hash, once, and nothing else
abbrev pub AreInBuckets : {S : Type 0} → HashMap ℕ (List ℕ) S → Net → Type 0
AreInBuckets buckets net = (hash number : ℕ) → copies_at buckets hash number ≡ (if has_hash hash (entrance_at net number) then 1 else 0)

-- a number stands once more in the bucket of a hash, and all else as before
abbrev pub IsPut : {S : Type 0} → ℕ → ℕ → HashMap ℕ (List ℕ) S → HashMap ℕ (List ℕ) S → Type 0
IsPut hash number old new = (other n : ℕ) → copies_at new other n ≡ copies_at old other n + (if hash == other && number == n then 1 else 0)

-- a number stands once less in the bucket of a hash, if it stood there, and all else as before
abbrev pub IsTakenOut : {S : Type 0} → ℕ → ℕ → HashMap ℕ (List ℕ) S → HashMap ℕ (List ℕ) S → Type 0
IsTakenOut hash number old new = (other n : ℕ) → copies_at new other n ≡ copies_at old other n - (if hash == other && number == n then 1 else 0)

-- a state stands once less in the bucket of each hash that it has, and all else as before
abbrev pub IsTakenFrom : {S : Type 0} → Net → ℕ → HashMap ℕ (List ℕ) S → HashMap ℕ (List ℕ) S → Type 0
IsTakenFrom net number old new = (other n : ℕ) → copies_at new other n ≡ copies_at old other n - (if has_hash other (entrance_at net number) && number == n then 1 else 0)

-- each number stands as often in the bucket of each hash
abbrev pub HaveSame : {S : Type 0} → HashMap ℕ (List ℕ) S → HashMap ℕ (List ℕ) S → Type 0
HaveSame old new = (hash number : ℕ) → copies_at new hash number ≡ copies_at old hash number
