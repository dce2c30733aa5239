-- Code of tests: it has no end of a frame, so it has no return to ask for.
use Rattle.std.proofs.Common.{◌≡◌, ◌++◌, ◌∷◌, [], List, sym, subst, Result, Ok, Err}
use Rattle.std.specs.Prelude.{All, OnOk}
use Rattle.std.proofs.lemmas.List.Elements.{All-append, All-cons, All-head, All-nil, All-tail}
use Rattle.mi_code.specs.declared.code_functions.CodeFunction.{CodeFunction}
use Rattle.mi_code.specs.declared.code_functions.Mi.{Mi}
use Rattle.mi_code.specs.declared.operations.MiOp.{MiOp}
use Rattle.mi_code.specs.declared.operations.MiOp.TheVariants.{Leave}
use Rattle.ir_machine.specs.Built.{HasReturns, IsBuilt, IsBuiltCode, IsBuiltFunctionCode, IsBuiltOp, IsLeave}

no-leave : (o : MiOp) → IsBuiltOp o → IsLeave o → ⊥
no-leave Leave built leave = built
no-leave o built leave = absurd leave

pub returns_without_ends : (insts : List Mi) → All (λ (mi : Mi). IsBuiltOp mi.op) insts → HasReturns insts
returns_without_ends [] built = tt
returns_without_ends (mi ∷ insts) built = (
  (λ leave. absurd (no-leave mi.op (All-head (λ (m : Mi). IsBuiltOp m.op) mi insts built) leave)),
  returns_without_ends insts (All-tail (λ (m : Mi). IsBuiltOp m.op) mi insts built),
)

-- what follows of a call that went well
pub on_ok : {A E P Q : Type 0} (r : Result A E) → OnOk r P → (P → Q) → OnOk r Q
on_ok (Ok a) h f = f h
on_ok (Err e) h f = tt

pub add_built : (insts after : List Mi) (mi : Mi) → after ≡ insts ++ mi ∷ [] → All IsBuilt insts → IsBuilt mi → All IsBuilt after
add_built insts after mi same built one =
    subst (All IsBuilt) (sym same) (All-append IsBuilt insts (mi ∷ []) built (All-cons IsBuilt mi [] one (All-nil IsBuilt)))

pub add_code : (code after : List CodeFunction) (f : CodeFunction) → after ≡ code ++ f ∷ [] → IsBuiltCode code → IsBuiltFunctionCode f → IsBuiltCode after
add_code code after f same built one =
    subst IsBuiltCode (sym same) (All-append IsBuiltFunctionCode code (f ∷ []) built (All-cons IsBuiltFunctionCode f [] one (All-nil IsBuiltFunctionCode)))
