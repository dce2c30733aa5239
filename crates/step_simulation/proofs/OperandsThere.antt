-- The machine's operands of an instruction of the module are the images of the source's.
use Rattle.std.proofs.Common.{◌≡◌, ℕ, ◌<◌, List, [], ◌∷◌, length, slice_get, Some, refl, ◌∙◌, ap, arith}
use Rattle.std.proofs.lemmas.List.FromFn.{length-enumerate_from}
use Rattle.std.proofs.lemmas.List.{length-map}
use Rattle.global_tags.specs.GlobalPlaces.{descriptors_of}
use Rattle.ir_core.specs.declared.ir_module.Function.{Function}
use Rattle.ir_core.specs.declared.ir_module.GlobalVar.{GlobalVar}
use Rattle.ir_core.specs.declared.ir_module.Inst.{Inst}
use Rattle.ir_core.specs.declared.ir_module.Module.{Module}
use Rattle.ir_core.specs.declared.operands.Operand.{Operand}
use Rattle.ir_core.specs.declared.operands.Operand.TheVariants.{Reg, Int as Literal, Null, Global}
use Rattle.ir_core.specs.declared.operands.Placed.{Placed}
use Rattle.ir_core.specs.NumberTypes.{type_of}
use Rattle.ir_core.specs.ResolvedBodies.{IsResolvedOperand, IsResolvedPlaced, IsResolvedOp, IsResolvedFunction}
use Rattle.ir_core.specs.Runnable.{IsRunnable}
use Rattle.ir_meaning.specs.InstructionStep as source
use Rattle.ir_machine.specs.State.{MachineSetting, MachineSeen}
use Rattle.ir_machine.proofs.BlockPlaces.{all-at}
use Rattle.mi_code.specs.MachineOperands.{operand_of}
use Rattle.tag_story.specs.ToldRun.{ToldSeen, source_seen}
use Rattle.simulation.specs.Relation.{HasGlobals, SeenLike}
use Rattle.step_simulation.proofs.OperandImages.{AreGlobals, IsOperandThere, operand-image, second-image}
use Rattle.step_simulation.proofs.ArithmeticFollows.{IsOperandOf, IsBitOf}

-- ---- operands

descriptors-count : (setting : MachineSetting) → length (descriptors_of setting.places setting.program.layouts setting.program.globals (setting.word 0)) ≡ length setting.program.globals
descriptors-count setting = length-map _ _ ∙ length-enumerate_from 0 setting.program.globals

globals-there : (setting : MachineSetting) (t : ToldSeen) (m : MachineSeen) (index : ℕ) → SeenLike setting t m → index < length setting.program.globals → AreGlobals t.shared.story.births m.shared.globals × (index < length m.shared.globals)
globals-there setting t m index like below = (by_globals setting.program.globals refl like.shared.globals, let count = ap length like.shared.descriptors in let same = descriptors-count setting in omega (arith, count, same, below))
  where
    by_globals : (globals : List GlobalVar) → setting.program.globals ≡ globals → HasGlobals globals t.shared.story.births m.shared.globals → AreGlobals t.shared.story.births m.shared.globals
    by_globals [] are has = let none = ap length are in absurd (omega (arith, none, below))
    by_globals (g ∷ globals) are has = record { birth = has.0; there = has.1; objects = has.3 }

operand-there : (setting : MachineSetting) (t : ToldSeen) (m : MachineSeen) (f : Function) (operand : Operand) → SeenLike setting t m → IsResolvedOperand setting.program f operand → IsOperandThere t.shared.story.births m.shared.globals operand
operand-there setting t m f (Reg r) like resolved = tt
operand-there setting t m f (Literal n) like resolved = tt
operand-there setting t m f Null like resolved = tt
operand-there setting t m f (Global index off) like resolved = globals-there setting t m index like resolved

-- the machine's operand is a number of the source's value
pub operand-of : (setting : MachineSetting) (t : ToldSeen) (m : MachineSeen) (f : Function) (placed : Placed) → SeenLike setting t m → IsResolvedPlaced setting.program f placed → IsOperandOf t m (operand_of placed) (source.value_of setting.program (source_seen t) placed)
operand-of setting t m f placed like resolved v is =
    operand-image t.shared.story.births m.shared.globals (type_of setting.program placed.ty) t.frame.registers m.frame.registers placed.operand v like.frame.registers
    (operand-there setting t m f placed.operand like resolved.operand) is

pub bit-of : (setting : MachineSetting) (t : ToldSeen) (m : MachineSeen) (placed : Placed) → SeenLike setting t m → IsBitOf m (operand_of placed) (source.value_of setting.program (source_seen t) placed)
bit-of setting t m placed like n bit is =
    second-image t.shared.story.births (type_of setting.program placed.ty) t.frame.registers m.frame.registers placed.operand n bit like.frame.registers is

-- what is resolved at an instruction of the module
pub resolved-at : (program : Module) (func i : ℕ) (f : Function) (inst : Inst) → IsRunnable program → slice_get program.functions func ≡ Some f → slice_get f.insts i ≡ Some inst → IsResolvedOp program f inst.op
resolved-at program func i f inst runnable function instruction =
    all-at (λ (x : Inst). IsResolvedOp program f x.op) f.insts i inst
    (all-at (IsResolvedFunction program) program.functions func f runnable.resolved.functions function).instructions instruction
