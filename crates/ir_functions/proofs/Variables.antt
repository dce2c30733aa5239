-- A function has one size for each variable, and its variables are numbered in order of the text.
use Rattle.std.proofs.Common.{◌≡◌, ℕ, zero, suc, ◌+◌, ◌*◌, ◌≤◌, ◌⊎◌, inl, inr, min, List, [], ◌∷◌, ◌++◌, Bool, true, false, Option, Some, None, if◌then◌else◌, arith, refl, sym, ap, ◌∙◌}
use Rattle.std.proofs.Math.Nat.{mul-le-mul_right, mul-le-mul_left}
use Rattle.std.specs.List.{filter_map, slice_get, cons_option}
use Rattle.std.specs.Option.{option_map}
use Rattle.ir_core.specs.declared.types.TypeLayout.{TypeLayout}
use Rattle.ir_core.specs.declared.types.TypeLayout.TheVariants.{Known, NoSize, Loop}
use Rattle.ir_core.specs.declared.token.Token.{Token}
use Rattle.ir_core.specs.declared.ir_module.Inst.{Inst}
use Rattle.ir_core.specs.declared.ir_module.Module.{Module}
use Rattle.ir_core.specs.Layout.{size_cap, capped, layout_at, layout_size, exact_layouts, alloc_size_of}
use Rattle.ir_core.specs.NumberTypes.{alloc_size}
use Rattle.ir_core.specs.Resolved.{HasLayouts}
use Rattle.ir_core.specs.ResolvedBodies.{variable_number, made_size}
use Rattle.ir_core.proofs.Capping.{layout_at-capped}
use Rattle.ir_grammar.specs.declared.spelled_bodies.TypedOperand.{TypedOperand}
use Rattle.ir_grammar.specs.declared.spelled_bodies.SpelledOperation.{SpelledOperation}
use Rattle.ir_grammar.specs.declared.spelled_bodies.SpelledOperation.TheVariants as operations
use Rattle.ir_grammar.specs.declared.spelled_bodies.SpelledInstruction.{SpelledInstruction}
use Rattle.ir_functions.specs.Scope.{Scope, type_number, typed}
use Rattle.ir_functions.specs.Instructions.{call_of, operation, has_register}
use Rattle.ir_functions.specs.Functions.{is_variable, instructions_from, made_sizes, variable_sizes}

-- ---- numbers

call_makes_none : (s : Scope) (ty : ℕ) (xs : List TypedOperand) (defined declared : Option ℕ) → variable_number (call_of s ty xs defined declared) ≡ None
call_makes_none s ty xs (Some func) declared = refl
call_makes_none s ty xs None None = refl
call_makes_none s ty xs None (Some declare) = refl

made_number : (s : Scope) (v : ℕ) (word : Token) (o : SpelledOperation) → variable_number (operation s v word o) ≡ (if is_variable o then Some v else None)
made_number s v word (operations.Binary a b) = refl
made_number s v word (operations.Icmp p a b) = refl
made_number s v word (operations.Cast a to) = refl
made_number s v word (operations.Freeze a) = refl
made_number s v word (operations.Select condition a b) = refl
made_number s v word (operations.Phi ty first count) = refl
made_number s v word (operations.Alloca ty count stated) = refl
made_number s v word (operations.Load ty pointer stated) = refl
made_number s v word (operations.Store value pointer stated) = refl
made_number s v word (operations.GetElementPtr of base first count) = refl
made_number s v word operations.Fence = refl
made_number s v word (operations.AtomicRmw operator pointer value stated) = refl
made_number s v word (operations.CmpXchg pointer expected new stated) = refl
made_number s v word (operations.ExtractValue of value part) = refl
made_number s v word (operations.Call name result first count) = call_makes_none s _ _ _ _
made_number s v word (operations.Return ty value) = refl
made_number s v word (operations.Jump block) = refl
made_number s v word (operations.Branch condition yes_block no_block) = refl
made_number s v word (operations.Switch value other first count) = refl
made_number s v word operations.Unreachable = refl

abbrev pub numbers_of : Scope → (r v : ℕ) → List SpelledInstruction → List ℕ
numbers_of s r v is = filter_map (λ (inst : Inst). variable_number inst.op) (instructions_from s r v is)

abbrev pub next_register : Scope → ℕ → SpelledInstruction → ℕ
next_register s r i = if has_register s i then r + 1 else r

numbered_by : (s : Scope) (r v : ℕ) (rest : List SpelledInstruction) (b : Bool) (k index : ℕ)
    → ((w j : ℕ) → slice_get (numbers_of s r w rest) j ≡ Some index → index ≡ w + j)
    → slice_get (cons_option (if b then Some v else None) (numbers_of s r (if b then v + 1 else v) rest)) k ≡ Some index → index ≡ v + k
numbered_by s r v rest false k index more h = more v k h
numbered_by s r v rest true zero index more h = let same : v ≡ index = cc in omega arith
numbered_by s r v rest true (suc k) index more h = let same : index ≡ (v + 1) + k = more (v + 1) k h in omega arith

pub variables_numbered : (s : Scope) (r v : ℕ) (is : List SpelledInstruction) (k index : ℕ) → slice_get (numbers_of s r v is) k ≡ Some index → index ≡ v + k
variables_numbered s r v [] k index h = cc
variables_numbered s r v (i ∷ rest) k index h =
    numbered_by s (next_register s r i) v rest (is_variable i.operation) k index
    (λ w j e. variables_numbered s (next_register s r i) w rest j index e)
    (sym (ap (λ o. slice_get (cons_option o (numbers_of s (next_register s r i) (if is_variable i.operation then v + 1 else v) rest)) k) (made_number s v i.word i.operation)) ∙ h)

-- ---- sizes

-- the sizes that one module keeps are those of another's types, as far as they count
abbrev pub KeepsSizes : Module → Module → Type 0
KeepsSizes kept m = (count ty : ℕ) → min (count * alloc_size kept ty) size_cap ≡ min (count * alloc_size_of m.types m.fields ty) size_cap

call_makes_no_size : (s : Scope) (m : Module) (ty : ℕ) (xs : List TypedOperand) (defined declared : Option ℕ) → made_size m (call_of s ty xs defined declared) ≡ None
call_makes_no_size s m ty xs (Some func) declared = refl
call_makes_no_size s m ty xs None None = refl
call_makes_no_size s m ty xs None (Some declare) = refl

made_by : (s : Scope) (m : Module) (v : ℕ) (word : Token) (o : SpelledOperation) (xs : List ℕ) → KeepsSizes s.built m
    → made_sizes s o ++ xs ≡ cons_option (made_size m (operation s v word o)) xs
made_by s m v word (operations.Binary a b) xs h = refl
made_by s m v word (operations.Icmp p a b) xs h = refl
made_by s m v word (operations.Cast a to) xs h = refl
made_by s m v word (operations.Freeze a) xs h = refl
made_by s m v word (operations.Select condition a b) xs h = refl
made_by s m v word (operations.Phi ty first count) xs h = refl
made_by s m v word (operations.Alloca ty count stated) xs h = ap (λ n. n ∷ xs) (h _ (type_number s ty))
made_by s m v word (operations.Load ty pointer stated) xs h = refl
made_by s m v word (operations.Store value pointer stated) xs h = refl
made_by s m v word (operations.GetElementPtr of base first count) xs h = refl
made_by s m v word operations.Fence xs h = refl
made_by s m v word (operations.AtomicRmw operator pointer value stated) xs h = refl
made_by s m v word (operations.CmpXchg pointer expected new stated) xs h = refl
made_by s m v word (operations.ExtractValue of value part) xs h = refl
made_by s m v word (operations.Call name result first count) xs h = sym (ap (λ o. cons_option o xs) (call_makes_no_size s m _ _ _ _))
made_by s m v word (operations.Return ty value) xs h = refl
made_by s m v word (operations.Jump block) xs h = refl
made_by s m v word (operations.Branch condition yes_block no_block) xs h = refl
made_by s m v word (operations.Switch value other first count) xs h = refl
made_by s m v word operations.Unreachable xs h = refl

pub sizes_are : (s : Scope) (m : Module) (r v : ℕ) (is : List SpelledInstruction) → KeepsSizes s.built m
    → variable_sizes s is ≡ filter_map (λ (inst : Inst). made_size m inst.op) (instructions_from s r v is)
sizes_are s m r v [] h = refl
sizes_are s m r v (i ∷ rest) h =
    ap (λ xs. made_sizes s i.operation ++ xs) (sizes_are s m (next_register s r i) (if is_variable i.operation then v + 1 else v) rest h)
    ∙ made_by s m v i.word i.operation _ h

-- ---- kept sizes

-- a size above the cap, once or more, is above it too
capped_more : (count size cap : ℕ) → cap ≤ size → (count ≡ 0) ⊎ (1 ≤ count) → min (count * cap) cap ≡ min (count * size) cap
capped_more count size cap h (inl none) = let a : count * cap ≡ 0 = rw none (omega arith) in let b : count * size ≡ 0 = rw none (omega arith) in omega arith
capped_more count size cap h (inr some) =
    let a : 1 * cap ≤ count * cap = mul-le-mul_right cap some in let b : count * cap ≤ count * size = mul-le-mul_left count h in omega arith

capped_product : (count size cap : ℕ) → (size ≤ cap) ⊎ (cap ≤ size) → min (count * min size cap) cap ≡ min (count * size) cap
capped_product count size cap (inl less) = let e : min size cap ≡ size = omega arith in ap (λ n. min (count * n) cap) e
capped_product count size cap (inr more) = let e : min size cap ≡ cap = omega arith in ap (λ n. min (count * n) cap) e ∙ capped_more count size cap more (some_or_none count)
  where
    some_or_none : (n : ℕ) → (n ≡ 0) ⊎ (1 ≤ n)
    some_or_none n = search arith

capped_layout : (l : TypeLayout) (count cap : ℕ) → cap ≡ size_cap → min (count * layout_size (capped l)) cap ≡ min (count * layout_size l) cap
capped_layout (Known size align) count cap e = rw (sym e) (capped_product count size cap (search arith))
capped_layout NoSize count cap e = refl
capped_layout Loop count cap e = refl

pub keeps_sizes : (kept m : Module) → HasLayouts kept → m.types ≡ kept.types → m.fields ≡ kept.fields → KeepsSizes kept m
keeps_sizes kept m h types fields count ty =
    let exact : layout_at kept.layouts ty ≡ capped (layout_at (exact_layouts kept.types kept.fields) ty) =
    ap (λ ls. layout_at ls ty) h ∙ layout_at-capped (exact_layouts kept.types kept.fields) ty in
    let one = ap (λ l. min (count * layout_size l) size_cap) exact in
    let two = capped_layout (layout_at (exact_layouts kept.types kept.fields) ty) count size_cap refl in
    one ∙ two ∙ ap (λ n. min (count * n) size_cap) (ap (λ ts. alloc_size_of ts kept.fields ty) (sym types) ∙ ap (λ fs. alloc_size_of m.types fs ty) (sym fields))
