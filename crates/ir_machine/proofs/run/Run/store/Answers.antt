use Rattle.std.proofs.Common.{◌≡◌, ◌^◌, ◌<◌, Some, subst, refl, sym, ap, ◌∙◌}
use Rattle.hw_base.specs.Bytes.{le_bytes}
use Rattle.hw_base.specs.declared.accesses.Access.TheVariants.{Write}
use Rattle.tbi_memory.specs.AddressSpace.{AddressSpace, write_fault}
use Rattle.ir_machine.specs.MemorySteps.{store_step}
use Rattle.ir_machine.specs.Operands.{bits_in, integer_in}
use Rattle.ir_machine.specs.RunStates.{RunState, IsPlainOutcome, only_task, shared_of}
use Rattle.ir_machine.specs.State.{MachineOutcome, MachineSeen}
use Rattle.ir_machine.specs.StepEnds.{goes_on, refused_at, with_write}
use Rattle.ir_machine.proofs.AccessLemmas.{fits-bytes, write-refused}
use Rattle.ir_machine.proofs.run.Run.store.Goals as goal

pub write-requires-clause-fits : goal.write-requires-clause-fits
write-requires-clause-fits c =
    fits-bytes c.integer-x.result (bits_in c.args.width) c.bytes_in-n.result
    (subst (λ n. c.integer-x.result < 2 ^ n) c.bits_in.ensures c.integer-x.ensures.below) c.bytes_in-n.ensures.bits

pub returns-in-Err : goal.returns-in-Err
unfolding store_step
returns-in-Err c =
    let seen = c.args.self.now.seen in
    let fault = c.in-Err.fault in
    let n = c.bytes_in-n.result in
    let number = c.pointer-number.result in
    let refused = c.in-Err.ensures.err fault refl in
    let memory : c.self.inside.memory ≡ seen.shared.memory = ap (λ (v : RunState). v.seen.shared.memory) c.self.view_is in
    let here : write_fault seen.shared.memory number n ≡ Some fault = subst (λ (space : AddressSpace). write_fault space number n ≡ Some fault) memory refused.0 in
    let outcome : with_write seen c.args.site number (le_bytes n (integer_in seen (bits_in c.args.width) c.args.value.now)) goes_on ≡ refused_at seen c.args.site Write n number fault =
    write-refused seen c.args.site number n (integer_in seen (bits_in c.args.width) c.args.value.now) fault here in
    let same = ap (λ (space : AddressSpace). only_task (shared_of space c.self.inside.globals c.self.inside.heap.state c.self.inside.stacks c.self.inside.births c.self.inside.drawn c.self.inside.chains) c.self.inside.calls c.self.inside.step) refused.1
    ∙ ap (λ (v : RunState). v.seen) c.self.view_is in
    let ended : IsPlainOutcome (refused_at seen c.args.site Write n number fault) c.refused.result c.refused.new.self =
    subst (λ (s : MachineSeen). IsPlainOutcome (refused_at s c.args.site Write n number fault) c.refused.result c.refused.new.self) same c.refused.ensures in
    rw (← c.pointer-number.ensures, ← c.bytes_in-n.ensures.bytes)
    (subst (λ (o : MachineOutcome). IsPlainOutcome o c.refused.result c.refused.new.self) (sym outcome) ended)
