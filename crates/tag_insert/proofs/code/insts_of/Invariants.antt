use Rattle.std.proofs.Common.{◌≡◌, ◌++◌, ◌≤◌, length, drop}
use Rattle.mi_code.specs.Instrumentation.{code_from, code_of_function}
use Rattle.tag_insert.specs.Functions.{EndBefore}
use Rattle.tag_insert.proofs.code.insts_of.Given as goal

abbrev pub invariant-loop-inst : goal.invariant-loop-inst
invariant-loop-inst l = record {
  number : l.i ≡ l.inst-index;
  within : l.here ≤ length l.f.blocks;
  before : EndBefore l.f.blocks l.here l.i;
  done : l.insts ++ code_from l.m l.f l.func l.i (drop l.inst-index l.f.insts) ≡ (code_of_function l.m l.func l.f).insts;
}
