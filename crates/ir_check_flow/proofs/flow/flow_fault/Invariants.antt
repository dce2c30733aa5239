use Rattle.std.proofs.Common.{take}
use Rattle.ir_check_flow.specs.Check.{IsAmong, IsFlowFaultOf}
use Rattle.ir_check_flow.specs.First.{IsFirstOf}
use Rattle.ir_check_flow.proofs.flow.flow_fault.Given as goal

abbrev pub invariant-loop-f : goal.invariant-loop-f
invariant-loop-f l = IsFirstOf (IsAmong IsFlowFaultOf (take l.f-index l.m.functions)) l.first
