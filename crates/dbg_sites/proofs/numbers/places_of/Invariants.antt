use Rattle.std.proofs.Common.{◌≡◌, ◌+◌, ℕ, List, length}
use Rattle.std.specs.List.{position_from}
use Rattle.dbg_sites.specs.Read.{is_numbered, place_or, place_in}
use Rattle.dbg_sites.proofs.numbers.places_of.Given as goal

abbrev pub invariant-loop-rest : goal.invariant-loop-rest
invariant-loop-rest l = record {
  place : l.place + length l.rest ≡ length l.fn.nodes;
  first : (q : List ℕ) → place_or (place_in l.places q) (position_from (is_numbered q) l.place l.rest) ≡ position_from (is_numbered q) 0 l.fn.nodes;
}

abbrev pub decreases-loop-rest : goal.decreases-loop-rest
decreases-loop-rest l = length l.rest
