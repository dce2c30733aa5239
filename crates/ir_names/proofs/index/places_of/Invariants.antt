use Rattle.std.proofs.Common.{◌≡◌, ◌+◌, ℕ, List, length}
use Rattle.std.specs.List.{position_from}
use Rattle.std.specs.Str.{bytes_eq}
use Rattle.ir_names.specs.Keys.{first_with}
use Rattle.ir_names.specs.Places.{keys_in, place_or, place_in}
use Rattle.ir_names.proofs.index.places_of.Given as goal

abbrev pub invariant-loop-rest : goal.invariant-loop-rest
invariant-loop-rest l = record {
  place : l.place + length l.rest ≡ length l.fn.keys;
  first : (q : List ℕ) → place_or (place_in l.places q) (position_from (bytes_eq q) l.place (keys_in l.rest)) ≡ first_with q (keys_in l.fn.keys);
}

abbrev pub decreases-loop-rest : goal.decreases-loop-rest
decreases-loop-rest l = length l.rest
