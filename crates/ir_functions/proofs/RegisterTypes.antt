-- An instruction that gives a value has a register, of the type of that value.
use Rattle.std.proofs.Common.{◌≡◌, ℕ, zero, suc, ◌+◌, ◌≤◌, List, [], ◌∷◌, Bool, true, false, not, ◌||◌, Option, Some, None, if◌then◌else◌, arith, refl, sym, ap, ◌∙◌}
use Rattle.std.specs.List.{slice_get}
use Rattle.std.specs.Option.{is_some}
use Rattle.std.specs.Prelude.{nat_le, codes}
use Rattle.std.specs.Str.{bytes_eq}
use Rattle.std.proofs.lemmas.Bool.Decides.{nat_tests}
use Rattle.ir_core.specs.declared.token.Token.{Token}
use Rattle.ir_core.specs.declared.refusals.Place.{Place}
use Rattle.ir_core.specs.declared.types.IrType.{IrType}
use Rattle.ir_core.specs.declared.types.IrType.TheVariants.{Void, Int, Ptr, Array, Struct, Opaque, Pair}
use Rattle.ir_core.specs.declared.operands.Operand.{Operand}
use Rattle.ir_core.specs.declared.ir_module.Module.{Module}
use Rattle.ir_core.specs.Progress.{type_at}
use Rattle.ir_core.specs.NumberTypes.{type_of}
use Rattle.ir_core.specs.Operations.{is_value_type, given_type}
use Rattle.ir_core.specs.Operations as operations_of
use Rattle.ir_core.specs.Externals.{IsWidth}
use Rattle.ir_text.specs.TokenText.{significant}
use Rattle.ir_grammar.specs.declared.spelled.SpelledType.{SpelledType}
use Rattle.ir_grammar.specs.declared.spelled.SpelledType.TheVariants as spelled
use Rattle.ir_grammar.specs.declared.spelled_bodies.SpelledOperand.{SpelledOperand}
use Rattle.ir_grammar.specs.declared.spelled_bodies.SpelledOperand.TheVariants as operands
use Rattle.ir_grammar.specs.declared.spelled_bodies.TypedOperand.{TypedOperand}
use Rattle.ir_grammar.specs.declared.spelled_bodies.SpelledOperation.{SpelledOperation}
use Rattle.ir_grammar.specs.declared.spelled_bodies.SpelledOperation.TheVariants as operations
use Rattle.ir_grammar.specs.declared.spelled_bodies.SpelledInstruction.{SpelledInstruction}
use Rattle.ir_first_values.specs.Operands.{constant_operand}
use Rattle.ir_body_names.specs.Definitions.{is_void_type, is_void, has_value, defines_register}
use Rattle.ir_functions.specs.Given.{is_given_width, pair_number, void_number, pair_of, part_of, part_number, integer_number}
use Rattle.ir_functions.specs.Promises.{HasGivenTypes, HasTypes}
use Rattle.ir_functions.specs.Scope.{Scope, spelled_types, type_number, placed_constant, placed, typed}
use Rattle.ir_functions.specs.Instructions.{token_bytes, without_sign, pair_part, call_of, pair_type, operation, value_type, has_register}

-- ---- operands keep their type

constant-ty : (ty : ℕ) (place : Place) (o : Option Operand) → (placed_constant ty place o).ty ≡ ty
constant-ty ty place None = refl
constant-ty ty place (Some operand) = refl

placed-ty : (s : Scope) (ty : ℕ) (x : SpelledOperand) → (placed s ty x).ty ≡ ty
placed-ty s ty (operands.Register name) = refl
placed-ty s ty (operands.Constant first number) = constant-ty ty first.place (constant_operand s.tables ty number)

typed-ty : (s : Scope) (m : Module) (x : TypedOperand) → type_of m (type_number s x.ty) ≡ type_of m (typed s x).ty
typed-ty s m x = ap (λ n. type_of m n) (sym (placed-ty s (type_number s x.ty) x.value))

-- ---- the type at a number

type_or_void : Option IrType → IrType
type_or_void None = Void
type_or_void (Some t) = t

at_of : (types : List IrType) (n : ℕ) → type_at types n ≡ type_or_void (slice_get types n)
unfolding type_or_void
at_of [] n = refl
at_of (t ∷ types) zero = refl
at_of (t ∷ types) (suc n) = at_of types n

not_value : (t : IrType) → t ≡ Void → is_value_type t ≡ true → ⊥
not_value t e h = let f : is_value_type Void ≡ true = sym (ap (λ x. is_value_type x) e) ∙ h in cc

width_given : (width : ℕ) → IsWidth width → is_given_width width ≡ true
width_given width h = grind (arith, nat_tests, h.most)

-- ---- pairs

pair_by : (s : Scope) (m : Module) (o : Option IrType) → HasTypes s m → ((width : ℕ) → o ≡ Some (Int width) → IsWidth width)
    → type_of m (pair_of (spelled_types s) o) ≡ operations_of.pair_of (type_or_void o)
unfolding type_or_void
pair_by s m None h w = h.given.void
pair_by s m (Some Void) h w = h.given.void
pair_by s m (Some (Int width)) h w =
    let is : IsWidth width = w width refl in
    let e : pair_of (spelled_types s) (Some (Int width)) ≡ pair_number (spelled_types s) width = rw (width_given width is) in
    ap (λ n. type_of m n) e ∙ h.given.pairs width is.some is.most
pair_by s m (Some Ptr) h w = h.given.void
pair_by s m (Some (Array count item)) h w = h.given.void
pair_by s m (Some (Struct first count packed)) h w = h.given.void
pair_by s m (Some Opaque) h w = h.given.void
pair_by s m (Some (Pair width)) h w = h.given.void

pair_at : (s : Scope) (m : Module) (ty : ℕ) → HasTypes s m → type_of m (pair_type s ty) ≡ operations_of.pair_of (type_of m (type_number s ty))
pair_at s m ty h =
    let one : pair_type s ty ≡ pair_of (spelled_types s) (slice_get m.types (type_number s ty)) = ap (λ ts. pair_of (spelled_types s) (slice_get ts (type_number s ty))) h.same in
    ap (λ n. type_of m n) one
    ∙ pair_by s m (slice_get m.types (type_number s ty)) h (λ width e. h.widths (type_number s ty) width e)
    ∙ ap (λ t. operations_of.pair_of t) (sym (at_of m.types (type_number s ty)))

-- ---- parts of pairs

-- the part that is named, or none
data IsPart : Option ℕ → Type 0 where
  number : IsPart (Some 0)
  bit : IsPart (Some 1)
  neither : IsPart None

part_by : (b c : Bool) → IsPart (if b then Some 0 else (if c then Some 1 else None))
part_by true c = number
part_by false true = bit
part_by false false = neither

part_is : (text : List ℕ) → IsPart (pair_part text)
part_is text = part_by (bytes_eq (significant (without_sign text)) []) (bytes_eq (significant text) (codes "1"))

first_part : (s : Scope) (m : Module) (o : Option IrType) → HasTypes s m → ((width : ℕ) → o ≡ Some (Int width) → IsWidth width)
    → is_value_type (operations_of.part_of (Some 0) (operations_of.pair_of (type_or_void o))) ≡ true
    → type_of m (part_of (spelled_types s) (Some 0) o) ≡ operations_of.part_of (Some 0) (operations_of.pair_of (type_or_void o))
unfolding type_or_void
first_part s m None h w v = cc
first_part s m (Some Void) h w v = cc
first_part s m (Some (Int width)) h w v =
    let is : IsWidth width = w width refl in
    let e : part_of (spelled_types s) (Some 0) (Some (Int width)) ≡ integer_number (spelled_types s) width = rw (width_given width is) in
    ap (λ n. type_of m n) e ∙ h.given.integers width is.some is.most
first_part s m (Some Ptr) h w v = cc
first_part s m (Some (Array count item)) h w v = cc
first_part s m (Some (Struct first count packed)) h w v = cc
first_part s m (Some Opaque) h w v = cc
first_part s m (Some (Pair width)) h w v = cc

second_part : (s : Scope) (m : Module) (o : Option IrType) → HasTypes s m → ((width : ℕ) → o ≡ Some (Int width) → IsWidth width)
    → is_value_type (operations_of.part_of (Some 1) (operations_of.pair_of (type_or_void o))) ≡ true
    → type_of m (part_of (spelled_types s) (Some 1) o) ≡ operations_of.part_of (Some 1) (operations_of.pair_of (type_or_void o))
unfolding type_or_void
second_part s m None h w v = cc
second_part s m (Some Void) h w v = cc
second_part s m (Some (Int width)) h w v =
    let is : IsWidth width = w width refl in
    let e : part_of (spelled_types s) (Some 1) (Some (Int width)) ≡ integer_number (spelled_types s) 1 = rw (width_given width is) in
    ap (λ n. type_of m n) e ∙ h.given.integers 1 (omega arith) (omega arith)
second_part s m (Some Ptr) h w v = cc
second_part s m (Some (Array count item)) h w v = cc
second_part s m (Some (Struct first count packed)) h w v = cc
second_part s m (Some Opaque) h w v = cc
second_part s m (Some (Pair width)) h w v = cc

part_at : (s : Scope) (m : Module) (o : Option IrType) (part : Option ℕ) → IsPart part → HasTypes s m → ((width : ℕ) → o ≡ Some (Int width) → IsWidth width)
    → is_value_type (operations_of.part_of part (operations_of.pair_of (type_or_void o))) ≡ true
    → type_of m (part_of (spelled_types s) part o) ≡ operations_of.part_of part (operations_of.pair_of (type_or_void o))
part_at s m o part number h w v = first_part s m o h w v
part_at s m o part bit h w v = second_part s m o h w v
part_at s m o part neither h w v = cc

-- ---- values

abbrev IsValue : Module → IrType → Type 0
IsValue m t = is_value_type t ≡ true

call_value : (s : Scope) (m : Module) (ty : ℕ) (xs : List TypedOperand) (defined declared : Option ℕ) → is_value_type (given_type m (call_of s ty xs defined declared)) ≡ true
    → type_of m ty ≡ given_type m (call_of s ty xs defined declared)
call_value s m ty xs (Some func) declared v = refl
call_value s m ty xs None None v = cc
call_value s m ty xs None (Some declare) v = refl

-- the pair that an `extractvalue` takes apart
pair_operand : (s : Scope) (m : Module) (of : ℕ) (value : SpelledOperand) → HasTypes s m
    → type_of m (placed s (pair_type s of) value).ty ≡ operations_of.pair_of (type_or_void (slice_get m.types (type_number s of)))
pair_operand s m of value h =
    ap (λ n. type_of m n) (placed-ty s (pair_type s of) value) ∙ (pair_at s m of h ∙ ap (λ t. operations_of.pair_of t) (at_of m.types (type_number s of)))

extracted : (s : Scope) (m : Module) (of : ℕ) (value : SpelledOperand) (part : Option ℕ) → IsPart part → HasTypes s m
    → is_value_type (operations_of.part_of part (type_of m (placed s (pair_type s of) value).ty)) ≡ true
    → type_of m (part_of (spelled_types s) part (slice_get s.tables.types (type_number s of))) ≡ operations_of.part_of part (type_of m (placed s (pair_type s of) value).ty)
extracted s m of value part is h v =
    let o : Option IrType = slice_get m.types (type_number s of) in
    let e = pair_operand s m of value h in
    let there : is_value_type (operations_of.part_of part (operations_of.pair_of (type_or_void o))) ≡ true = sym (ap (λ t. is_value_type (operations_of.part_of part t)) e) ∙ v in
    ap (λ ts. type_of m (part_of (spelled_types s) part (slice_get ts (type_number s of)))) h.same
    ∙ part_at s m o part is h (λ width f. h.widths (type_number s of) width f) there
    ∙ sym (ap (λ t. operations_of.part_of part t) e)

pub value_has_type : (s : Scope) (m : Module) (v : ℕ) (word : Token) (o : SpelledOperation) → HasTypes s m
    → is_value_type (given_type m (operation s v word o)) ≡ true → type_of m (value_type s o) ≡ given_type m (operation s v word o)
value_has_type s m v word (operations.Binary a b) h e = typed-ty s m a
value_has_type s m v word (operations.Icmp p a b) h e = h.given.integers 1 (omega arith) (omega arith)
value_has_type s m v word (operations.Cast a to) h e = refl
value_has_type s m v word (operations.Freeze a) h e = typed-ty s m a
value_has_type s m v word (operations.Select condition a b) h e = typed-ty s m a
value_has_type s m v word (operations.Phi ty first count) h e = refl
value_has_type s m v word (operations.Alloca ty count stated) h e = h.given.pointer
value_has_type s m v word (operations.Load ty pointer stated) h e = refl
value_has_type s m v word (operations.Store value pointer stated) h e = cc
value_has_type s m v word (operations.GetElementPtr of base first count) h e = h.given.pointer
value_has_type s m v word operations.Fence h e = cc
value_has_type s m v word (operations.AtomicRmw operator pointer value stated) h e = typed-ty s m value
value_has_type s m v word (operations.CmpXchg pointer expected new stated) h e = pair_at s m new.ty h ∙ ap (λ t. operations_of.pair_of t) (typed-ty s m new)
value_has_type s m v word (operations.ExtractValue of value part) h e = extracted s m of value (pair_part (token_bytes s part)) (part_is (token_bytes s part)) h e
value_has_type s m v word (operations.Call name result first count) h e = call_value s m _ _ _ _ e
value_has_type s m v word (operations.Return ty value) h e = cc
value_has_type s m v word (operations.Jump block) h e = cc
value_has_type s m v word (operations.Branch condition yes_block no_block) h e = cc
value_has_type s m v word (operations.Switch value other first count) h e = cc
value_has_type s m v word operations.Unreachable h e = cc

-- ---- an instruction that gives a value has a register

-- a spelled type that is `void` is `void` in the module
void_type : (o : Option SpelledType) → is_void_type o ≡ true → o ≡ Some spelled.Void
void_type None h = cc
void_type (Some spelled.Void) h = refl
void_type (Some spelled.Ptr) h = cc
void_type (Some (spelled.Int width)) h = cc
void_type (Some spelled.Opaque) h = cc
void_type (Some spelled.Metadata) h = cc
void_type (Some (spelled.Named name)) h = cc
void_type (Some (spelled.Array count item)) h = cc
void_type (Some (spelled.Struct first count packed)) h = cc

is_void_there : (s : Scope) (m : Module) (ty : ℕ) → HasTypes s m → is_void s.names.types s.names.numbers ty ≡ true → type_of m (type_number s ty) ≡ Void
is_void_there s m ty h e =
    let f : is_void s.names.types s.tables.numbers ty ≡ true = sym (ap (λ ns. is_void s.names.types ns ty) h.numbers) ∙ e in
    h.voids (type_number s ty) (void_type (slice_get s.names.types (type_number s ty)) f)

valued : (b : Bool) (t : IrType) → (b ≡ true → t ≡ Void) → is_value_type t ≡ true → not b ≡ true
valued true t h e = absurd (not_value t (h refl) e)
valued false t h e = refl

spelled_valued : (s : Scope) (m : Module) (ty : ℕ) → HasTypes s m → is_value_type (type_of m (type_number s ty)) ≡ true → not (is_void s.names.types s.names.numbers ty) ≡ true
spelled_valued s m ty h e = valued (is_void s.names.types s.names.numbers ty) (type_of m (type_number s ty)) (λ f. is_void_there s m ty h f) e

typed_valued : (s : Scope) (m : Module) (x : TypedOperand) → HasTypes s m → is_value_type (type_of m (typed s x).ty) ≡ true → not (is_void s.names.types s.names.numbers x.ty) ≡ true
typed_valued s m x h e = spelled_valued s m x.ty h (ap (λ t. is_value_type t) (typed-ty s m x) ∙ e)

call_valued : (s : Scope) (m : Module) (ty : ℕ) (xs : List TypedOperand) (defined declared : Option ℕ) → HasTypes s m
    → is_value_type (given_type m (call_of s (type_number s ty) xs defined declared)) ≡ true → not (is_void s.names.types s.names.numbers ty) ≡ true
call_valued s m ty xs (Some func) declared h e = spelled_valued s m ty h e
call_valued s m ty xs None None h e = cc
call_valued s m ty xs None (Some declare) h e = spelled_valued s m ty h e

pub gives_has_value : (s : Scope) (m : Module) (v : ℕ) (word : Token) (o : SpelledOperation) → HasTypes s m
    → is_value_type (given_type m (operation s v word o)) ≡ true → has_value (is_void s.names.types s.names.numbers) o ≡ true
gives_has_value s m v word (operations.Binary a b) h e = typed_valued s m a h e
gives_has_value s m v word (operations.Icmp p a b) h e = refl
gives_has_value s m v word (operations.Cast a to) h e = spelled_valued s m to h e
gives_has_value s m v word (operations.Freeze a) h e = typed_valued s m a h e
gives_has_value s m v word (operations.Select condition a b) h e = typed_valued s m a h e
gives_has_value s m v word (operations.Phi ty first count) h e = spelled_valued s m ty h e
gives_has_value s m v word (operations.Alloca ty count stated) h e = refl
gives_has_value s m v word (operations.Load ty pointer stated) h e = spelled_valued s m ty h e
gives_has_value s m v word (operations.Store value pointer stated) h e = cc
gives_has_value s m v word (operations.GetElementPtr of base first count) h e = refl
gives_has_value s m v word operations.Fence h e = cc
gives_has_value s m v word (operations.AtomicRmw operator pointer value stated) h e = typed_valued s m value h e
gives_has_value s m v word (operations.CmpXchg pointer expected new stated) h e = refl
gives_has_value s m v word (operations.ExtractValue of value part) h e = refl
gives_has_value s m v word (operations.Call name result first count) h e = call_valued s m result _ _ _ h e
gives_has_value s m v word (operations.Return ty value) h e = cc
gives_has_value s m v word (operations.Jump block) h e = cc
gives_has_value s m v word (operations.Branch condition yes_block no_block) h e = cc
gives_has_value s m v word (operations.Switch value other first count) h e = cc
gives_has_value s m v word operations.Unreachable h e = cc
