use Rattle.std.proofs.Common.{◌≡◌, map, slice_get}
use Rattle.std.specs.List.{range_with_len}
use Rattle.ir_type_numbers.specs.Numbering.{module_type}
use Rattle.ir_type_numbers.proofs.numbering.module_types.Given as goal

abbrev pub invariant-loop-own : goal.invariant-loop-own
invariant-loop-own l = l.entries.items ≡ map (λ n. module_type l.numbers n (slice_get l.types n)) (range_with_len 0 l.own)
