-- What is at a place of a function's code.
use Rattle.std.proofs.Common.{◌≡◌, ℕ, zero, suc, ◌+◌, ◌<◌, true, false, List, [], ◌∷◌, ◌++◌, length, take, drop, Some, refl, sym, ◌∙◌, ap, arith, zero-add}
use Rattle.std.specs.Prelude.{slice_get}
use Rattle.ir_core.specs.declared.operations.Op.{Op}
use Rattle.ir_core.specs.declared.operations.Op.TheVariants as source
use Rattle.ir_core.specs.declared.ir_module.Inst.{Inst}
use Rattle.ir_core.specs.declared.ir_module.Function.{Function}
use Rattle.ir_core.specs.declared.ir_module.Module.{Module}
use Rattle.ir_core.specs.Operations.{is_phi}
use Rattle.mi_code.specs.declared.code_functions.Mi.{Mi}
use Rattle.mi_code.specs.TagChecks.{added_code, enter_code}
use Rattle.mi_code.specs.Instrumentation.{own_length, instruction_length, code_length, place_of, code_of_instruction, code_from, code_of_function, functions_from, instrumented}
use Rattle.mi_code.proofs.CodePlaces.{drop-code_of_function}

-- ---- lists

get-drop : {A : Type 0} (xs : List A) (n j : ℕ) → slice_get (drop n xs) j ≡ slice_get xs (n + j)
get-drop xs zero j = ap (slice_get xs) (sym (zero-add j))
get-drop [] (suc n) j = refl
get-drop (x ∷ xs) (suc n) j =
    let e : suc n + j ≡ suc (n + j) = omega arith in get-drop xs n j ∙ ap (slice_get (x ∷ xs)) (sym e)

drop-at : {A : Type 0} (xs : List A) (i : ℕ) (x : A) → slice_get xs i ≡ Some x → drop i xs ≡ x ∷ drop (suc i) xs
drop-at [] i x h = absurd (cc)
drop-at (y ∷ ys) zero x h = let e : y ≡ x = cc in ap (λ z. z ∷ ys) e
drop-at (y ∷ ys) (suc i) x h = drop-at ys i x h

pub get-below : {A : Type 0} (xs : List A) (i : ℕ) → i < length xs → (x : A) × (slice_get xs i ≡ Some x)
get-below [] i h = absurd (omega arith)
get-below (x ∷ xs) zero h = (x, refl)
get-below (x ∷ xs) (suc i) h = get-below xs i (omega arith)

-- ---- code

code_from-cons : (m : Module) (f : Function) (func i : ℕ) (inst : Inst) (insts : List Inst) → code_from m f func i (inst ∷ insts) ≡ code_of_instruction m f (record { func = func; inst = i }) inst ++ code_from m f func (suc i) insts
unfolding code_from
code_from-cons m f func i inst insts = refl

-- the code from the beginning of an instruction's code on
pub code-drop : (m : Module) (f : Function) (func i : ℕ) (inst : Inst) → slice_get f.insts i ≡ Some inst → drop (place_of m f i) (code_of_function m func f).insts ≡ code_of_instruction m f (record { func = func; inst = i }) inst ++ code_from m f func (suc i) (drop (suc i) f.insts)
code-drop m f func i inst h =
    drop-code_of_function m f func i
    ∙ (ap (code_from m f func i) (drop-at f.insts i inst h)
    ∙ code_from-cons m f func i inst (drop (suc i) f.insts))

-- what is j places after the beginning of an instruction's code
pub code-get : (m : Module) (f : Function) (func i j : ℕ) (inst : Inst) → slice_get f.insts i ≡ Some inst → slice_get (code_of_function m func f).insts (place_of m f i + j) ≡ slice_get (code_of_instruction m f (record { func = func; inst = i }) inst ++ code_from m f func (suc i) (drop (suc i) f.insts)) j
code-get m f func i j inst h =
    sym (get-drop (code_of_function m func f).insts (place_of m f i) j)
    ∙ ap (λ (xs : List Mi). slice_get xs j) (code-drop m f func i inst h)

functions-get : (m : Module) (from : ℕ) (fs : List Function) (n : ℕ) (f : Function) → slice_get fs n ≡ Some f → slice_get (functions_from m from fs) n ≡ Some (code_of_function m (from + n) f)
unfolding functions_from
functions-get m from [] n f h = absurd (cc)
functions-get m from (g ∷ fs) zero f h = let e : g ≡ f = cc in let n : from ≡ from + 0 = omega arith in ap (λ (x : Function). Some (code_of_function m from x)) e ∙ ap (λ (k : ℕ). Some (code_of_function m k f)) n
functions-get m from (g ∷ fs) (suc n) f h =
    let e : suc from + n ≡ from + suc n = omega arith in
    functions-get m (suc from) fs n f h ∙ ap (λ (k : ℕ). Some (code_of_function m k f)) e

-- the code of a function that is there
pub instrumented-get : (m : Module) (n : ℕ) (f : Function) → slice_get m.functions n ≡ Some f → slice_get (instrumented m) n ≡ Some (code_of_function m n f)
instrumented-get m n f h = functions-get m 0 m.functions n f h ∙ ap (λ (k : ℕ). Some (code_of_function m k f)) (zero-add n)

-- ---- places

code_length-next : (m : Module) (sizes : List ℕ) (insts : List Inst) (i : ℕ) (inst : Inst) → slice_get insts i ≡ Some inst → code_length m sizes (take (suc i) insts) ≡ code_length m sizes (take i insts) + instruction_length m sizes inst
unfolding code_length
code_length-next m sizes [] i inst h = absurd (cc)
code_length-next m sizes (x ∷ insts) zero inst h =
    let same : x ≡ inst = cc in
    let e : instruction_length m sizes x ≡ instruction_length m sizes inst = ap (instruction_length m sizes) same in
    omega (arith, e)
code_length-next m sizes (x ∷ insts) (suc i) inst h =
    let rest = code_length-next m sizes insts i inst h in omega (arith, rest)

-- the place of the next instruction
pub place-next : (m : Module) (f : Function) (i : ℕ) (inst : Inst) → slice_get f.insts i ≡ Some inst → place_of m f (suc i) ≡ place_of m f i + instruction_length m f.allocas inst
place-next m f i inst h = let rest = code_length-next m f.allocas f.insts i inst h in omega (arith, rest)

-- a phi has no code
phi-length : (m : Module) (sizes : List ℕ) (op : Op) → is_phi op ≡ true → length (added_code m sizes op) + own_length op ≡ 0
phi-length m sizes (source.Phi ty entries) h = refl
phi-length m sizes other h = absurd (cc)

pub place-phi : (m : Module) (f : Function) (i : ℕ) (inst : Inst) → slice_get f.insts i ≡ Some inst → is_phi inst.op ≡ true → place_of m f (suc i) ≡ place_of m f i
place-phi m f i inst h phi =
    let next = place-next m f i inst h in
    let none = phi-length m f.allocas inst.op phi in
    omega (arith, next, none)

pub own-one : (op : Op) → is_phi op ≡ false → own_length op ≡ 1
own-one (source.Phi ty entries) h = absurd (cc)
own-one other h = refl

pub place-code : (m : Module) (f : Function) (i : ℕ) (inst : Inst) → slice_get f.insts i ≡ Some inst → is_phi inst.op ≡ false → place_of m f (suc i) ≡ place_of m f i + length (added_code m f.allocas inst.op) + 1
place-code m f i inst h phi =
    let next = place-next m f i inst h in
    let one = own-one inst.op phi in
    omega (arith, next, one)

-- the first instruction's code follows the entry
pub place-zero : (m : Module) (f : Function) → place_of m f 0 ≡ length (enter_code f.allocas)
unfolding code_length
place-zero m f = omega arith
