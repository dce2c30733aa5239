-- What holds if no rule is broken.
use Rattle.std.proofs.Common.{◌≡◌, ℕ, zero, suc, ◌+◌, ◌<◌, Bool, true, false, ◌&&◌, ◌||◌, ◌==◌, List, [], ◌∷◌, fold, inl, inr, length, get_or, slice_get, Option, Some, None, refl, sym, subst, ap, ◌∙◌, arith}
use Rattle.std.proofs.lemmas.Bool.{eqb-true}
use Rattle.std.specs.Bool.{IsTrue}
use Rattle.std.specs.List.{All}
use Rattle.ir_core.specs.declared.types.IrType.{IrType}
use Rattle.ir_core.specs.declared.types.IrType.TheVariants.{Void, Int, Ptr, Array, Struct, Opaque, Pair}
use Rattle.ir_core.specs.declared.faults.Fault.{Fault}
use Rattle.ir_core.specs.declared.faults.Fault.TheVariants.{Unsupported, BadType}
use Rattle.ir_core.specs.declared.refusals.Place.{Place}
use Rattle.ir_core.specs.declared.refusals.Refusal.{Refusal}
use Rattle.ir_core.specs.declared.operands.Placed.{Placed}
use Rattle.ir_core.specs.declared.operands.StartArg.{StartArg}
use Rattle.ir_core.specs.declared.lib_functions.Lib.{Lib}
use Rattle.ir_core.specs.declared.lib_functions.Lib.TheVariants.{PthreadCreate}
use Rattle.ir_core.specs.declared.operations.Op.{Op}
use Rattle.ir_core.specs.declared.operations.Op.TheVariants as op
use Rattle.ir_core.specs.declared.ir_module.Declare.{Declare}
use Rattle.ir_core.specs.declared.ir_module.Function.{Function}
use Rattle.ir_core.specs.declared.ir_module.Inst.{Inst}
use Rattle.ir_core.specs.declared.ir_module.Module.{Module}
use Rattle.ir_core.specs.NumberTypes.{type_of}
use Rattle.ir_core.specs.Operations.{is_number_type}
use Rattle.ir_core.specs.ResolvedBodies.{IsResolved, IsResolvedFunction, IsResolvedOp, HasAtomicAlignment, is_alignment, is_atomic_width}
use Rattle.ir_core.specs.Runnable.{IsRunnableOp, IsAccess, IsAtomic, HasArguments, IsStartFunction, StartsTask, StartsAsItIs}
use Rattle.ir_check_types.specs.Order.{earlier, first_among, unless}
use Rattle.ir_check_types.specs.Operands.{is_same, is_typed}
use Rattle.ir_check_types.specs.Instructions.{atomic_fault}
use Rattle.ir_check_types.specs.Calls.{call_fault, callee_fault, declared_fault, outside_call_fault, can_start, start_fault, third_fault, task_fault, started}
use Rattle.ir_check_types.specs.Signatures.{lib_parameters}
use Rattle.ir_check_types.specs.Rules.{operation_fault, instruction_fault, instructions_fault, function_fault, declare_fault, are_types, has_parameters, type_fault}
use Rattle.ir_check_types.specs.Passed.{InstructionsCanBeRun}

-- ---- no fault among several

pub none_first : (a b : Option Refusal) → earlier a b ≡ None → a ≡ None
none_first None b e = refl
none_first (Some a) None e = cc
none_first (Some a) (Some b) e = cc

pub none_second : (a b : Option Refusal) → earlier a b ≡ None → b ≡ None
none_second None b e = e
none_second (Some a) None e = cc
none_second (Some a) (Some b) e = cc

pub holds : (b : Bool) (fault : Fault) (place : Place) → unless b fault place ≡ None → b ≡ true
holds true fault place e = refl
holds false fault place e = cc

none_so_far : {A : Type 0} (fault : A → Option Refusal) (so_far : Option Refusal) (things : List A)
    → fold (λ (s : Option Refusal) (thing : A). earlier s (fault thing)) so_far things ≡ None → so_far ≡ None
none_so_far fault so_far [] e = e
none_so_far fault so_far (x ∷ things) e = none_first so_far (fault x) (none_so_far fault (earlier so_far (fault x)) things e)

none_from : {A : Type 0} (fault : A → Option Refusal) (so_far : Option Refusal) (things : List A)
    → fold (λ (s : Option Refusal) (thing : A). earlier s (fault thing)) so_far things ≡ None → All (λ (x : A). fault x ≡ None) things
none_from fault so_far [] e k d within = absurd (omega arith)
none_from fault so_far (x ∷ things) e zero d within = none_second so_far (fault x) (none_so_far fault (earlier so_far (fault x)) things e)
none_from fault so_far (x ∷ things) e (suc k) d within = none_from fault (earlier so_far (fault x)) things e k d (omega arith)

pub none_among : {A : Type 0} (fault : A → Option Refusal) (things : List A) → first_among fault things ≡ None → All (λ (x : A). fault x ≡ None) things
none_among fault things e = none_from fault None things e

pub all_at : {A : Type 0} (P : A → Type 0) (xs : List A) (n : ℕ) (x : A) → All P xs → slice_get xs n ≡ Some x → P x
all_at P [] n x all e = cc
all_at P (y ∷ xs) zero x all e = let same : y ≡ x = cc in subst P same (all 0 y (omega arith))
all_at P (y ∷ xs) (suc n) x all e = all_at P xs n x (λ k d h. all (suc k) d (omega arith)) e

-- ---- instructions

pub both : (a b : Bool) → (a && b) ≡ true → (a ≡ true) × (b ≡ true)
both true b e = (refl, e)
both false b e = cc

atomic_here : (type : IrType) (place : Place) (align : ℕ) → atomic_fault type place ≡ None → HasAtomicAlignment type align → IsAtomic type align
atomic_here Void place align e h = cc
atomic_here (Int width) place align e h = let w = holds (is_atomic_width width) Unsupported place e in (w, h.0 w)
atomic_here Ptr place align e h = cc
atomic_here (Array count item) place align e h = cc
atomic_here (Struct first count packed) place align e h = cc
atomic_here Opaque place align e h = cc
atomic_here (Pair width) place align e h = cc

same_atomic : (new expected : IrType) (place : Place) (align : ℕ) → is_same new expected ≡ true → atomic_fault expected place ≡ None → HasAtomicAlignment new align → IsAtomic new align
same_atomic new Void place align s e h = cc
same_atomic (Int width) (Int other) place align s e h =
    let same : width ≡ other = eqb-true width other s in
    atomic_here (Int width) place align (subst (λ (w : ℕ). atomic_fault (Int w) place ≡ None) (sym same) e) h
same_atomic new (Int other) place align s e h = cc
same_atomic new Ptr place align s e h = cc
same_atomic new (Array count item) place align s e h = cc
same_atomic new (Struct first count packed) place align s e h = cc
same_atomic new Opaque place align s e h = cc
same_atomic new (Pair width) place align s e h = cc

-- ---- calls

callee_counts : (m : Module) (f : Function) (place : Place) (found : Option Function) (result : ℕ) (args : List Placed) → callee_fault m f place found result args ≡ None
    → (callee : Function) → found ≡ Some callee → length args ≡ callee.params
callee_counts m f place None result args e callee is = cc
callee_counts m f place (Some g) result args e callee is =
    let rest = none_second (unless (is_same (type_of m result) (type_of m g.result)) BadType place) _ e in
    let count = none_first (unless (length args == g.params) BadType place) _ rest in
    let same : g ≡ callee = cc in
    eqb-true (length args) g.params (holds (length args == g.params) BadType place count) ∙ ap (λ (x : Function). x.params) same

-- ---- starting tasks

start_type : (type : IrType) → is_same type Ptr ≡ true → type ≡ Ptr
start_type Void e = cc
start_type (Int width) e = cc
start_type Ptr e = refl
start_type (Array count item) e = cc
start_type (Struct first count packed) e = cc
start_type Opaque e = cc
start_type (Pair width) e = cc

starts_with : (m : Module) (found : Option Function) (f : Function) → can_start m found ≡ true → found ≡ Some f → IsStartFunction m f
starts_with m None f e is = cc
starts_with m (Some g) f e is =
    let same : g ≡ f = cc in
    let one = both (is_same (type_of m g.result) Ptr) (g.params == 1 && is_same (type_of m (get_or g.regs 0 0)) Ptr) e in
    let two = both (g.params == 1) (is_same (type_of m (get_or g.regs 0 0)) Ptr) one.1 in
    subst (λ (x : Function). IsStartFunction m x) same
    (record { result = start_type (type_of m g.result) one.0; one_parameter = eqb-true g.params 1 two.0; parameter = start_type (type_of m (get_or g.regs 0 0)) two.1 })

same_count : (m : Module) (numbers : List ℕ) (types : List IrType) → are_types m numbers types ≡ true → length numbers ≡ length types
same_count m [] [] e = refl
same_count m [] (t ∷ types) e = cc
same_count m (n ∷ numbers) [] e = cc
same_count m (n ∷ numbers) (t ∷ types) e = let k = same_count m numbers types (both (is_same (type_of m n) t) (are_types m numbers types) e).1 in ap (λ i. suc i) k

-- `pthread_create` has four parameters
either_types : (a b : Bool) → (a || (false && b)) ≡ true → a ≡ true
either_types true b e = refl
either_types false b e = cc

four_parameters : (m : Module) (d : Declare) → d.lib ≡ PthreadCreate → has_parameters m d ≡ true → length d.params ≡ 4
four_parameters m d is e =
    let P : Lib → Type 0 = λ lib. has_parameters m (record d { lib = lib }) ≡ true in
    let k : has_parameters m (record d { lib = PthreadCreate }) ≡ true = subst P is e in
    same_count m d.params (Ptr ∷ Ptr ∷ Ptr ∷ Ptr ∷ []) (either_types (are_types m d.params (Ptr ∷ Ptr ∷ Ptr ∷ Ptr ∷ [])) (are_types m d.params (Int 64 ∷ Ptr ∷ Ptr ∷ Ptr ∷ Ptr ∷ [])) k)

no_third : (args : List Placed) → length args + 0 ≡ 4 → third_fault args ≡ None → ⊥
no_third [] e h = omega arith
no_third (a ∷ []) e h = omega arith
no_third (a ∷ b ∷ []) e h = omega arith
no_third (a ∷ b ∷ c ∷ args) e h = cc

starts_task : (m : Module) (d : Declare) (args : List Placed) (start : Option StartArg) → length args + started start ≡ length d.params → length d.params ≡ 4
    → start_fault m d args start ≡ None → StartsTask m start
starts_task m d args None count four e = no_third args (count ∙ four) e
starts_task m d args (Some start) count four e =
    let ok = holds (is_same (type_of m start.ty) (type_of m (get_or d.params 2 0)) && can_start m (slice_get m.functions start.func)) BadType start.place e in
    let two = both (is_same (type_of m start.ty) (type_of m (get_or d.params 2 0))) (can_start m (slice_get m.functions start.func)) ok in
    λ f at. starts_with m (slice_get m.functions start.func) f two.1 at

starts_as_it_is : (m : Module) (d : Declare) (lib : Lib) (args : List Placed) (start : Option StartArg) → d.lib ≡ lib → length args + started start ≡ length d.params
    → has_parameters m d ≡ true → task_fault m lib d args start ≡ None → StartsAsItIs m lib start
starts_as_it_is m d PthreadCreate args start is count types e = starts_task m d args start count (four_parameters m d is types) e
starts_as_it_is m d other args start is count types e = tt

declared_starts : (m : Module) (f : Function) (place : Place) (found : Option Declare) (result : ℕ) (args : List Placed) (start : Option StartArg)
    → declared_fault m f place found result args start ≡ None → (d : Declare) → has_parameters m d ≡ true → found ≡ Some d → StartsAsItIs m d.lib start
declared_starts m f place None result args start e d types is = cc
declared_starts m f place (Some g) result args start e d types is =
    let same : g ≡ d = cc in
    let rest = none_second (unless (is_same (type_of m result) (type_of m g.result)) BadType place) _ e in
    let count = none_first (unless (length args + started start == length g.params) BadType place) _ rest in
    let more = none_second (unless (length args + started start == length g.params) BadType place) _ rest in
    let last = none_second _ (task_fault m g.lib g args start) (none_second _ _ more) in
    let n : length args + started start ≡ length g.params =
    eqb-true (length args + started start) (length g.params) (holds (length args + started start == length g.params) BadType place count) in
    let typed : has_parameters m g ≡ true = subst (λ (x : Declare). has_parameters m x ≡ true) (sym same) types in
    subst (λ (x : Declare). StartsAsItIs m x.lib start) same (starts_as_it_is m g g.lib args start refl n typed last)

-- ---- each operation

abbrev pub AreDeclared : Module → Type 0
AreDeclared m = (d : Declare) (n : ℕ) → slice_get m.declares n ≡ Some d → has_parameters m d ≡ true

runnable : (m : Module) (f : Function) (place : Place) (o : Op) → AreDeclared m → IsResolvedOp m f o → operation_fault m f place o ≡ None → IsRunnableOp m o
runnable m f place (op.Load ty at align) declared h e =
    let n = holds (is_number_type (type_of m ty)) BadType place (none_first (unless (is_number_type (type_of m ty)) BadType place) _ e) in
    record { number = n; alignment = h.2 n }
runnable m f place (op.Store value at align) declared h e =
    let n = holds (is_number_type (type_of m value.ty)) BadType place (none_first (unless (is_number_type (type_of m value.ty)) BadType place) _ e) in
    record { number = n; alignment = h.2 n }
runnable m f place (op.Rmw kind at value align) declared h e = atomic_here (type_of m value.ty) place align (none_first (atomic_fault (type_of m value.ty) place) _ e) h.2
runnable m f place (op.CmpXchg at expected new align) declared h e =
    let first = none_first (atomic_fault (type_of m expected.ty) place) _ e in
    let rest = none_second (atomic_fault (type_of m expected.ty) place) _ e in
    let last = none_second _ _ (none_second _ _ rest) in
    let ok = holds (is_number_type (type_of m expected.ty) && (is_same (type_of m new.ty) (type_of m expected.ty) && is_typed m f new)) BadType new.place last in
    let same = both (is_same (type_of m new.ty) (type_of m expected.ty)) (is_typed m f new)
    (both (is_number_type (type_of m expected.ty)) (is_same (type_of m new.ty) (type_of m expected.ty) && is_typed m f new) ok).1 in
    same_atomic (type_of m new.ty) (type_of m expected.ty) place align same.0 first h.3
runnable m f place (op.Call func result args) declared h e = λ g at. callee_counts m f place (slice_get m.functions func) result args e g at
runnable m f place (op.CallLib declare result args start) declared h e =
    λ d at. declared_starts m f place (slice_get m.declares declare) result args start e d (declared d declare at) at
runnable m f place (op.Binary kind a b) declared h e = tt
runnable m f place (op.Icmp pred a b) declared h e = tt
runnable m f place (op.Cast kind a to) declared h e = tt
runnable m f place (op.Select cond a b) declared h e = tt
runnable m f place (op.Freeze a) declared h e = tt
runnable m f place (op.Phi ty entries) declared h e = tt
runnable m f place (op.Alloca index ty count) declared h e = tt
runnable m f place (op.Gep ty base indices) declared h e = tt
runnable m f place op.Fence declared h e = tt
runnable m f place (op.ExtractValue pair part) declared h e = tt
runnable m f place (op.Br block) declared h e = tt
runnable m f place (op.BrIf cond yes_block no_block) declared h e = tt
runnable m f place (op.Switch on other cases) declared h e = tt
runnable m f place (op.Ret value) declared h e = tt
runnable m f place op.Unreachable declared h e = tt

pub get_at : {A : Type 0} (xs : List A) (n : ℕ) (d : A) → n < length xs → slice_get xs n ≡ Some (get_or xs n d)
get_at [] n d h = absurd (omega arith)
get_at (x ∷ xs) zero d h = refl
get_at (x ∷ xs) (suc n) d h = get_at xs n d (omega arith)

function_runs : (m : Module) (f : Function) → AreDeclared m → IsResolvedFunction m f → function_fault m f ≡ None → All (λ (inst : Inst). IsRunnableOp m inst.op) f.insts
function_runs m f declared h e k d within =
    let all = none_among (instruction_fault m f) f.insts (none_second _ (instructions_fault m f f.insts) e) in
    let inst : Inst = get_or f.insts k d in
    runnable m f inst.place inst.op declared
    (all_at (λ (x : Inst). IsResolvedOp m f x.op) f.insts k inst h.instructions (get_at f.insts k d within))
    (none_second _ (operation_fault m f inst.place inst.op) (all k d within))

are_declared : (m : Module) → first_among (declare_fault m) m.declares ≡ None → AreDeclared m
are_declared m e d n at =
    let none : declare_fault m d ≡ None = all_at (λ (x : Declare). declare_fault m x ≡ None) m.declares n d (none_among (declare_fault m) m.declares e) at in
    (both _ (has_parameters m d) (holds _ BadType d.place none)).1

pub instructions_can_be_run : InstructionsCanBeRun
instructions_can_be_run m resolved e k d within =
    let rest = none_second _ _ (none_second _ _ e) in
    let declared = are_declared m (none_first (first_among (declare_fault m) m.declares) _ rest) in
    let functions = none_among (function_fault m) m.functions (none_second _ (first_among (function_fault m) m.functions) rest) in
    function_runs m (get_or m.functions k d) declared (resolved.functions k d within) (functions k d within)
