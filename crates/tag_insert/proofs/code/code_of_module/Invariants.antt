use Rattle.std.proofs.Common.{◌≡◌, ◌++◌, drop}
use Rattle.mi_code.specs.Instrumentation.{functions_from, instrumented}
use Rattle.tag_insert.proofs.code.code_of_module.Given as goal

abbrev pub invariant-loop-f : goal.invariant-loop-f
invariant-loop-f l = record {
  number : l.func ≡ l.f-index;
  done : l.code ++ functions_from l.m l.func (drop l.f-index l.m.functions) ≡ instrumented l.m;
}
