use Rattle.std.proofs.Common.{◌≡◌, drop}
use Rattle.ir_check_flow.specs.Homes.{homes_from}
use Rattle.ir_check_flow.proofs.homes.set_homes.Given as goal

abbrev pub invariant-loop-b : goal.invariant-loop-b
invariant-loop-b l = homes_from l.insts l.b l.homes (drop l.b l.blocks) ≡ homes_from l.insts 0 l.initial.homes l.blocks
