-- A function whose names are resolved has its registers and its variables.
use Rattle.std.proofs.Common.{◌≡◌, ℕ, zero, suc, ◌+◌, ◌^◌, ◌<◌, ◌≤◌, List, [], ◌∷◌, ◌++◌, length, map, get_or, Bool, true, false, ◌||◌, Option, Some, None, if◌then◌else◌, arith, refl, sym, ap, ◌∙◌, append_assoc, length-append}
use Rattle.std.proofs.lemmas.List.{length-map}
use Rattle.std.specs.List.{slice_get}
use Rattle.std.specs.Option.{is_some}
use Rattle.ir_core.specs.declared.ir_module.Inst.{Inst}
use Rattle.ir_core.specs.declared.ir_module.Module.{Module}
use Rattle.ir_core.specs.NumberTypes.{type_of}
use Rattle.ir_core.specs.Operations.{is_value_type, given_type}
use Rattle.ir_core.specs.Resolved.{HasLayouts}
use Rattle.ir_core.specs.ResolvedBodies.{HasRegisters, HasVariables}
use Rattle.ir_grammar.specs.declared.spelled.SpelledParameter.{SpelledParameter}
use Rattle.ir_grammar.specs.declared.spelled_bodies.SpelledInstruction.{SpelledInstruction}
use Rattle.ir_first_values.specs.Tables.{Tables}
use Rattle.ir_body_names.specs.Definitions.{is_void, has_value}
use Rattle.ir_body_names.specs.BodyFaults.{Surroundings}
use Rattle.ir_functions.specs.Promises.{HasTypes}
use Rattle.ir_functions.specs.Scope.{Scope, type_number}
use Rattle.ir_functions.specs.Instructions.{has_register, value_type, instruction, operation}
use Rattle.ir_functions.specs.Functions.{Spelled, is_variable, instructions_from, register_types, function_by}
use Rattle.ir_functions.proofs.RegisterTypes.{value_has_type, gives_has_value}
use Rattle.ir_functions.proofs.Registers.{results_within, results_each, results_once, HasResult}
use Rattle.ir_functions.proofs.Variables.{sizes_are, variables_numbered, keeps_sizes}

-- ---- a value has a register

some_if : (b : Bool) (r : ℕ) → b ≡ true → is_some (if b then Some r else None) ≡ true
some_if true r h = refl
some_if false r h = cc

or_right : (a b : Bool) → b ≡ true → (a || b) ≡ true
or_right true b h = refl
or_right false b h = h

has_its_register : (s : Scope) (m : Module) (r v : ℕ) (x : SpelledInstruction) → HasTypes s m
    → is_value_type (given_type m (instruction s r v x).op) ≡ true → is_some (instruction s r v x).result ≡ true
has_its_register s m r v x h e =
    some_if (has_register s x) r (or_right (is_some x.result) (has_value (is_void s.names.types s.names.numbers) x.operation) (gives_has_value s m v x.word x.operation h e))

given_register : (s : Scope) (m : Module) (r v : ℕ) (is : List SpelledInstruction) (i : ℕ) (inst : Inst) → HasTypes s m
    → slice_get (instructions_from s r v is) i ≡ Some inst → is_value_type (given_type m inst.op) ≡ true → is_some inst.result ≡ true
given_register s m r v [] i inst h g e = absurd (let f : None ≡ Some inst = g in cc)
given_register s m r v (x ∷ rest) zero inst h g e =
    let same : instruction s r v x ≡ inst = cc in
    sym (ap (λ (y : Inst). is_some y.result) same) ∙ has_its_register s m r v x h (ap (λ (y : Inst). is_value_type (given_type m y.op)) same ∙ e)
given_register s m r v (x ∷ rest) (suc i) inst h g e = given_register s m (if has_register s x then r + 1 else r) (if is_variable x.operation then v + 1 else v) rest i inst h g e

-- ---- its register has the value's type

index_at : (front : List ℕ) (t : ℕ) (rest : List ℕ) → get_or (front ++ t ∷ rest) (length front) 0 ≡ t
index_at [] t rest = refl
index_at (x ∷ front) t rest = index_at front t rest

head_type : (b : Bool) (s : Scope) (m : Module) (r v n : ℕ) (x : SpelledInstruction) (front rest : List ℕ) → HasTypes s m → length front ≡ r
    → (if b then Some r else None) ≡ Some n → is_value_type (given_type m (operation s v x.word x.operation)) ≡ true
    → type_of m (get_or (front ++ (if b then value_type s x.operation ∷ rest else rest)) n 0) ≡ given_type m (operation s v x.word x.operation)
head_type true s m r v n x front rest h l e g =
    let same : r ≡ n = cc in
    let at : get_or (front ++ value_type s x.operation ∷ rest) n 0 ≡ value_type s x.operation =
    sym (ap (λ k. get_or (front ++ value_type s x.operation ∷ rest) k 0) (l ∙ same)) ∙ index_at front (value_type s x.operation) rest in
    ap (λ k. type_of m k) at ∙ value_has_type s m v x.word x.operation h g
head_type false s m r v n x front rest h l e g = cc

moved : (b : Bool) (front : List ℕ) (t : ℕ) (rest : List ℕ) → (front ++ (if b then t ∷ [] else [])) ++ rest ≡ front ++ (if b then t ∷ rest else rest)
moved true front t rest = append_assoc front (t ∷ []) rest
moved false front t rest = append_assoc front [] rest

moved_length : (b : Bool) (front : List ℕ) (t r : ℕ) → length front ≡ r → length (front ++ (if b then t ∷ [] else [])) ≡ (if b then r + 1 else r)
moved_length true front t r h = let e = length-append front (t ∷ []) in omega arith
moved_length false front t r h = let e = length-append {A = ℕ} front [] in omega arith

register_type : (s : Scope) (m : Module) (r v : ℕ) (is : List SpelledInstruction) (front : List ℕ) (i n : ℕ) (inst : Inst) → HasTypes s m → length front ≡ r
    → slice_get (instructions_from s r v is) i ≡ Some inst → inst.result ≡ Some n → is_value_type (given_type m inst.op) ≡ true
    → type_of m (get_or (front ++ register_types s is) n 0) ≡ given_type m inst.op
register_type s m r v [] front i n inst h l g e k = absurd (let f : None ≡ Some inst = g in cc)
register_type s m r v (x ∷ rest) front zero n inst h l g e k =
    let same : instruction s r v x ≡ inst = cc in
    head_type (has_register s x) s m r v n x front (register_types s rest) h l (ap (λ (y : Inst). y.result) same ∙ e) (ap (λ (y : Inst). is_value_type (given_type m y.op)) same ∙ k)
    ∙ ap (λ (y : Inst). given_type m y.op) same
register_type s m r v (x ∷ rest) front (suc i) n inst h l g e k =
    let t : ℕ = value_type s x.operation in
    sym (ap (λ xs. type_of m (get_or xs n 0)) (moved (has_register s x) front (value_type s x.operation) (register_types s rest)))
    ∙ register_type s m (if has_register s x then r + 1 else r) (if is_variable x.operation then v + 1 else v) rest
    (front ++ (if has_register s x then value_type s x.operation ∷ [] else [])) i n inst h (moved_length (has_register s x) front (value_type s x.operation) r l) g e k

-- ---- functions

parameter_types : Scope → List SpelledParameter → List ℕ
parameter_types s parameters = map (λ (p : SpelledParameter). type_number s p.ty) parameters

many : (s : Scope) (parameters : List SpelledParameter) (is : List SpelledInstruction)
    → length (map (λ (p : SpelledParameter). type_number s p.ty) parameters ++ register_types s is) ≡ length parameters + length (register_types s is)
many s parameters is =
    let a = length-append (map (λ (p : SpelledParameter). type_number s p.ty) parameters) (register_types s is) in
    let b = length-map parameters (λ (p : SpelledParameter). type_number s p.ty) in omega arith

pub has_registers : (s : Scope) (m : Module) (f : Spelled) (is : List SpelledInstruction) → HasTypes s m → length (function_by s f is).regs < 2 ^ 30 → HasRegisters m (function_by s f is)
has_registers s m f is h few =
    let total = many s f.parameters is in
    record {
      few = few;
      parameters = omega arith;
      result = λ i r inst g e. let w = results_within s (length f.parameters) 0 is i r inst g e in (w.0, omega (arith, w.1));
      each = λ r low high. let x = results_each s (length f.parameters) 0 is r low (omega arith) in (x.at, x.inst, x.there, x.result);
      once = λ i j r inst other gi gj ei ej. results_once s (length f.parameters) 0 is i j r inst other gi gj ei ej;
      given = λ i inst g e. given_register s m (length f.parameters) 0 is i inst h g e;
      types = λ i r inst g e k. register_type s m (length f.parameters) 0 is (map (λ (p : SpelledParameter). type_number s p.ty) f.parameters) i r inst h (length-map f.parameters (λ (p : SpelledParameter). type_number s p.ty)) g e k;
    }

pub has_variables : (s : Scope) (m : Module) (f : Spelled) (is : List SpelledInstruction) → HasLayouts s.built → m.types ≡ s.built.types → m.fields ≡ s.built.fields → HasVariables m (function_by s f is)
has_variables s m f is h types fields = record {
  sizes = sizes_are s m (length f.parameters) 0 is (keeps_sizes s.built m h types fields);
  numbers = λ k index g. let n = variables_numbered s (length f.parameters) 0 is k index g in omega arith;
}
