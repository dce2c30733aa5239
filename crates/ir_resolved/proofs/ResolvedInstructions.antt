-- Each number in the instructions of a function without a fault names a thing that is there.
use Rattle.std.proofs.Common.{◌≡◌, ℕ, ◌+◌, ◌≤◌, ◌<◌, List, [], ◌∷◌, length, length-append, Bool, true, false, All, if◌then◌else◌, arith, refl, sym, ap, ◌∙◌, subst}
use Rattle.std.proofs.lemmas.List.Elements.{All-nil, All-cons}
use Rattle.ir_core.specs.declared.ir_module.Function.{Function}
use Rattle.ir_core.specs.declared.ir_module.Inst.{Inst}
use Rattle.ir_core.specs.declared.ir_module.Module.{Module}
use Rattle.ir_core.specs.NumberTypes.{type_of}
use Rattle.ir_core.specs.ResolvedBodies.{IsType, HasAlignment, HasAtomicAlignment, IsResolvedOp}
use Rattle.ir_grammar.specs.declared.spelled_bodies.TypedOperand.{TypedOperand}
use Rattle.ir_grammar.specs.declared.spelled_bodies.SpelledOperation.{SpelledOperation}
use Rattle.ir_grammar.specs.declared.spelled_bodies.SpelledOperation.TheVariants as operations
use Rattle.ir_grammar.specs.declared.spelled_bodies.SpelledInstruction.{SpelledInstruction}
use Rattle.ir_grammar.specs.SoundStore.{Counts, IsSoundOperation, IsSoundInstruction}
use Rattle.ir_read_items.specs.Rows.{stated_in, Each}
use Rattle.ir_first_values.specs.Tables.{Tables}
use Rattle.ir_body_names.specs.BodyFaults.{Surroundings}
use Rattle.ir_functions.specs.Scope.{Scope, type_number, typed}
use Rattle.ir_functions.specs.Instructions.{alignment, atomic_alignment, has_register, instruction}
use Rattle.ir_functions.specs.Functions.{Spelled, scope_of, function_of, is_variable, instructions_from, made_sizes, variable_sizes, all_instructions}
use Rattle.ir_resolved.specs.Grounds.{HasSmallAlignment, HasGrounds, IsFaultless}
use Rattle.ir_resolved.proofs.Lists.{each_weaker, each_all}
use Rattle.ir_resolved.proofs.Alignments.{IsSmallStated, load_alignment, atomic_alignment_holds}
use Rattle.ir_resolved.proofs.Uses.{AreUsed, uses_there, each_instruction}
use Rattle.ir_resolved.proofs.Leads.{OperationLeads}
use Rattle.ir_resolved.proofs.UsesLead.{operation_leads}
use Rattle.ir_resolved.proofs.Operands.{typed-ty}
use Rattle.ir_resolved.proofs.Types.{register_types_there}
use Rattle.ir_resolved.proofs.Operations.{IsAligned, operation_there}

-- ---- alignments

typed_alignment : (s : Scope) (m : Module) (x : TypedOperand) (align : ℕ) → HasAlignment (type_of m (type_number s x.ty)) align → HasAlignment (type_of m (typed s x).ty) align
typed_alignment s m x align h = subst (λ ty. HasAlignment (type_of m ty) align) (sym (typed-ty s x)) h

typed_atomic : (s : Scope) (m : Module) (x : TypedOperand) (align : ℕ) → HasAtomicAlignment (type_of m (type_number s x.ty)) align
    → HasAtomicAlignment (type_of m (typed s x).ty) align
typed_atomic s m x align h = subst (λ ty. HasAtomicAlignment (type_of m ty) align) (sym (typed-ty s x)) h

is_aligned : (s : Scope) (m : Module) (counts : Counts) (o : SpelledOperation) → HasGrounds s m counts → IsSmallStated s (stated_in o) → IsAligned s m o
is_aligned s m counts (operations.Load ty pointer stated) g h = load_alignment s m counts (type_number s ty) stated g h
is_aligned s m counts (operations.Store value pointer stated) g h =
    typed_alignment s m value (alignment s (type_number s value.ty) stated) (load_alignment s m counts (type_number s value.ty) stated g h)
is_aligned s m counts (operations.AtomicRmw operator pointer value stated) g h =
    typed_atomic s m value (atomic_alignment s (type_number s value.ty) stated) (atomic_alignment_holds s m counts (type_number s value.ty) stated g h)
is_aligned s m counts (operations.CmpXchg pointer expected new stated) g h =
    typed_atomic s m new (atomic_alignment s (type_number s new.ty) stated) (atomic_alignment_holds s m counts (type_number s new.ty) stated g h)
is_aligned s m counts other g h = tt

-- ---- variables

sizes_made : (s : Scope) (o : SpelledOperation) → length (made_sizes s o) ≡ (if is_variable o then 1 else 0)
sizes_made s (operations.Alloca ty count stated) = refl
sizes_made s other = refl

this_variable : (b : Bool) (v n k total : ℕ) → n ≡ (if b then 1 else 0) + k → v + n ≤ total → b ≡ true → v < total
this_variable true v n k total e h is = omega arith
this_variable false v n k total e h is = absurd cc

later_variables : (b : Bool) (v n k total : ℕ) → n ≡ (if b then 1 else 0) + k → v + n ≤ total → (if b then v + 1 else v) + k ≤ total
later_variables true v n k total e h = omega arith
later_variables false v n k total e h = omega arith

more_sizes : (s : Scope) (i : SpelledInstruction) (rest : List SpelledInstruction)
    → length (variable_sizes s (i ∷ rest)) ≡ (if is_variable i.operation then 1 else 0) + length (variable_sizes s rest)
more_sizes s i rest = length-append (made_sizes s i.operation) (variable_sizes s rest) ∙ ap (λ n. n + length (variable_sizes s rest)) (sizes_made s i.operation)

-- ---- instructions

-- what is known of an instruction: its types and rows are there, its names lead to what is there, and its alignment is one
record IsFine (s : Scope) (m : Module) (counts : Counts) (fn : Function) (i : SpelledInstruction) : Type 0 where
  sound : IsSoundOperation counts i.operation
  leads : OperationLeads s fn i.operation
  aligned : IsAligned s m i.operation

all_there : (s : Scope) (m : Module) (counts : Counts) (fn : Function) → HasGrounds s m counts → (r v : ℕ) (is : List SpelledInstruction) → Each (IsFine s m counts fn) is
    → v + length (variable_sizes s is) ≤ length fn.allocas → All (λ (inst : Inst). IsResolvedOp m fn inst.op) (instructions_from s r v is)
all_there s m counts fn g r v [] h few = All-nil (λ (inst : Inst). IsResolvedOp m fn inst.op)
all_there s m counts fn g r v (i ∷ rest) h few =
    let r' : ℕ = if has_register s i then r + 1 else r in
    let v' : ℕ = if is_variable i.operation then v + 1 else v in
    let e = more_sizes s i rest in
    All-cons (λ (inst : Inst). IsResolvedOp m fn inst.op) (instruction s r v i) (instructions_from s r' v' rest)
    (operation_there s m counts fn g v i.word i.operation h.0.sound h.0.leads h.0.aligned
    (this_variable (is_variable i.operation) v (length (variable_sizes s (i ∷ rest))) (length (variable_sizes s rest)) (length fn.allocas) e few))
    (all_there s m counts fn g r' v' rest h.1
    (later_variables (is_variable i.operation) v (length (variable_sizes s (i ∷ rest))) (length (variable_sizes s rest)) (length fn.allocas) e few))

fine_each : (s : Scope) (m : Module) (counts : Counts) (fn : Function) → HasGrounds s m counts → (is : List SpelledInstruction)
    → Each (IsSoundInstruction counts) is → Each (HasSmallAlignment s) is → Each (λ (i : SpelledInstruction). OperationLeads s fn i.operation) is
    → Each (IsFine s m counts fn) is
fine_each s m counts fn g [] h k u = tt
fine_each s m counts fn g (i ∷ is) h k u =
    (record { sound = h.0.0; leads = u.0; aligned = is_aligned s m counts i.operation g k.0 }, fine_each s m counts fn g is h.1 k.1 u.1)

-- ---- functions

-- what was read of the instructions of a function is sound
sound_all : (names : Surroundings) (tables : Tables) (built m : Module) (counts : Counts) (f : Spelled) → HasGrounds (scope_of names tables built f) m counts
    → Each (IsSoundInstruction counts) (all_instructions names.bodies.instructions f.blocks)
sound_all names tables built m counts f g =
    each_instruction (IsSoundInstruction counts) names.bodies.instructions f.blocks (each_all (IsSoundInstruction counts) names.bodies.instructions g.bodies.instructions)

-- their names lead to what is there
leads_all : (names : Surroundings) (tables : Tables) (built : Module) (counts : Counts) (f : Spelled) → IsFaultless names counts f
    → Each (λ (i : SpelledInstruction). OperationLeads (scope_of names tables built f) (function_of names tables built f) i.operation)
    (all_instructions names.bodies.instructions f.blocks)
leads_all names tables built counts f h =
    each_weaker (AreUsed names f) (λ (i : SpelledInstruction). OperationLeads (scope_of names tables built f) (function_of names tables built f) i.operation)
    (λ (i : SpelledInstruction) u. operation_leads names tables built f h.some_block i.operation u)
    (all_instructions names.bodies.instructions f.blocks) (uses_there names f h.faultless)

-- each number in the instructions names a thing that is there
pub instructions_resolved : (names : Surroundings) (tables : Tables) (built m : Module) (counts : Counts) (f : Spelled)
    → HasGrounds (scope_of names tables built f) m counts → IsFaultless names counts f
    → All (λ (inst : Inst). IsResolvedOp m (function_of names tables built f) inst.op) (function_of names tables built f).insts
instructions_resolved names tables built m counts f g h =
    let s : Scope = scope_of names tables built f in
    let fn : Function = function_of names tables built f in
    let all : List SpelledInstruction = all_instructions names.bodies.instructions f.blocks in
    all_there s m counts fn g (length f.parameters) 0 all
    (fine_each s m counts fn g all (sound_all names tables built m counts f g)
    (each_instruction (HasSmallAlignment s) names.bodies.instructions f.blocks g.stated)
    (leads_all names tables built counts f h))
    (omega arith)

-- the types of registers are there
pub types_there : (names : Surroundings) (tables : Tables) (built m : Module) (counts : Counts) (f : Spelled)
    → HasGrounds (scope_of names tables built f) m counts → IsFaultless names counts f → All (IsType m) (function_of names tables built f).regs
types_there names tables built m counts f g h =
    let all : List SpelledInstruction = all_instructions names.bodies.instructions f.blocks in
    register_types_there (scope_of names tables built f) m counts g f.parameters all h.parameters
    (each_weaker (IsSoundInstruction counts) (λ (i : SpelledInstruction). IsSoundOperation counts i.operation) (λ (i : SpelledInstruction) sound. sound.0) all
    (sound_all names tables built m counts f g))

-- and so is that of the result
pub result_there : (names : Surroundings) (tables : Tables) (built m : Module) (counts : Counts) (f : Spelled)
    → HasGrounds (scope_of names tables built f) m counts → IsFaultless names counts f → IsType m (function_of names tables built f).result
result_there names tables built m counts f g h = g.below f.result h.result
