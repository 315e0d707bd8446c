-- The tuples that are eligible for a binding, and the next ones among them.
use Rattle.std.specs.Prelude.{Bool, ◌&&◌, nat_lt, nat_le, List, Some}
use Rattle.std.specs.List.{list_all, filter}
use Rattle.event_types.specs.Tuple.{TupleView}
use Rattle.semantics.specs.Scalars.{Pr}
use Rattle.semantics.specs.Truth.{all_true}

-- the tuple starts after the binding's detection and meets the condition (EDBT 2006, conditional sequence)
abbrev pub is_eligible : List Pr → TupleView → TupleView → Bool
is_eligible condition binding tuple = nat_lt binding.at tuple.from && all_true condition tuple (Some binding)

-- no tuple of the list is detected before this one
abbrev pub is_earliest : List TupleView → TupleView → Bool
is_earliest tuples tuple = list_all (λ other. nat_le tuple.at other.at) tuples

-- the tuples of the list with the least detection time, each as often as it stands
abbrev pub earliest : List TupleView → List TupleView
earliest tuples = filter (is_earliest tuples) tuples

-- the eligible tuples that no eligible one precedes in detection (EDBT 2006, conditional sequence; that simultaneous ones all count is this project's profile)
abbrev pub nexts : List Pr → TupleView → List TupleView → List TupleView
nexts condition binding tuples = earliest (filter (is_eligible condition binding) tuples)
