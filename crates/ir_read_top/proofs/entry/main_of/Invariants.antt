use Rattle.std.proofs.Common.{◌≡◌, ◌+◌, map, length}
use Rattle.std.specs.List.{position_from}
use Rattle.ir_functions.specs.Resolution.{spelled_function}
use Rattle.ir_read_top.specs.Functions.{is_main}
use Rattle.ir_read_top.proofs.entry.main_of.Given as goal

abbrev pub invariant-loop-rest : goal.invariant-loop-rest
invariant-loop-rest l =
    (position_from (is_main l.tokens.source l.types l.numbers) l.number (map spelled_function l.rest) ≡ position_from (is_main l.tokens.source l.types l.numbers) 0 (map spelled_function l.functions))
    × (l.number + length l.rest ≡ length l.functions)

abbrev pub decreases-loop-rest : goal.decreases-loop-rest
decreases-loop-rest l = length l.rest
