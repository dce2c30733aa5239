use Rattle.std.proofs.Common.{◌≡◌, ◌+◌, drop}
use Rattle.ir_check_flow.specs.Homes.{homes_in}
use Rattle.ir_check_flow.proofs.homes.homes_in.Given as goal

abbrev pub invariant-loop-i : goal.invariant-loop-i
invariant-loop-i l = homes_in l.block (l.first + l.i) l.homes (drop l.i l.insts) ≡ homes_in l.block l.first l.initial.homes l.insts
