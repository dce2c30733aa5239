-- What the functions of a module rely on of its types: spelled ones that are no structs are kept, and the given ones come last.
use Rattle.std.proofs.Common.{◌≡◌, ℕ, zero, suc, ◌+◌, ◌<◌, ◌≤◌, List, [], ◌∷◌, ◌++◌, map, length, length-append, get_or, set, slice_get, Option, Some, None, arith, refl, sym, ◌∙◌, ap}
use Rattle.std.specs.List.{range_with_len}
use Rattle.std.proofs.lemmas.List.{get_or-append-add}
use Rattle.std.proofs.lemmas.List.FromFn.{length-map-range_with_len, get_or-map-range_with_len}
use Rattle.std.proofs.lemmas.Option.{slice_get_within, slice_get-get_or, get_or_from_slice_get}
use Rattle.std.proofs.Math.ListN.{get_or-append}
use Rattle.ir_core.specs.declared.types.IrType.{IrType}
use Rattle.ir_core.specs.declared.types.IrType.TheVariants.{Void, Int, Pair}
use Rattle.ir_core.specs.declared.lib_functions.Lib.{Lib}
use Rattle.ir_core.specs.declared.lib_functions.Lib.TheVariants as libs
use Rattle.ir_core.specs.Progress.{type_at}
use Rattle.ir_grammar.specs.declared.spelled.SpelledType.{SpelledType}
use Rattle.ir_grammar.specs.declared.spelled.SpelledItem.{SpelledItem}
use Rattle.ir_grammar.specs.declared.spelled.SpelledItem.TheVariants as items
use Rattle.ir_grammar.specs.declared.spelled_bodies.SpelledInstruction.{SpelledInstruction}
use Rattle.ir_grammar.specs.declared.spelled_bodies.SpelledOperation.{SpelledOperation}
use Rattle.ir_grammar.specs.declared.spelled_bodies.SpelledOperation.TheVariants as operations
use Rattle.ir_functions.specs.Given.{given_types}
use Rattle.ir_functions.specs.Promises.{HasGivenTypes}
use Rattle.ir_type_numbers.specs.Numbering.{module_type, module_types}
use Rattle.ir_read_top.specs.Module.{pair_of, set_pair, with_pair, with_pairs, with_call, with_calls, all_pairs}

-- ---- spelled types

set_another : (types : List IrType) (k n : ℕ) (ty : IrType) → (k ≡ n → ⊥) → slice_get (set types k ty) n ≡ slice_get types n
set_another [] k n ty other = refl
set_another (t ∷ types) zero zero ty other = absurd (other refl)
set_another (t ∷ types) zero (suc n) ty other = refl
set_another (t ∷ types) (suc k) zero ty other = refl
set_another (t ∷ types) (suc k) (suc n) ty other = set_another types k n ty (λ e. other (ap (λ m. suc m) e))

pair_keeps : (types : List IrType) (k n : ℕ) (width : Option ℕ) → (k ≡ n → width ≡ None) → slice_get (set_pair types k width) n ≡ slice_get types n
pair_keeps types k n None h = refl
pair_keeps types k n (Some width) h = set_another types k n (Pair width) (λ e. let f : Some width ≡ None = h e in cc)

-- the spelled type with this number makes no pair
abbrev pub MakesNoPair : List SpelledType → ℕ → Type 0
MakesNoPair found n = (types : List IrType) (fields : List ℕ) → pair_of types fields (slice_get found n) ≡ None

item_keeps : (found : List SpelledType) (fields : List ℕ) (types : List IrType) (item : SpelledItem) (lib : Option Lib) (n : ℕ) → MakesNoPair found n
    → slice_get (with_pair found fields types item lib) n ≡ slice_get types n
item_keeps found fields types items.Skipped lib n h = refl
item_keeps found fields types (items.Type name ty) lib n h = refl
item_keeps found fields types (items.Global name constant ty value) lib n h = refl
item_keeps found fields types items.Used lib n h = refl
item_keeps found fields types (items.Declare name ty first count) None n h = refl
item_keeps found fields types (items.Declare name ty first count) (Some (libs.Overflow op width)) n h =
    pair_keeps types ty n (pair_of types fields (slice_get found ty)) (λ e. ap (λ k. pair_of types fields (slice_get found k)) e ∙ h types fields)
item_keeps found fields types (items.Declare name ty first count) (Some other) n h = refl
item_keeps found fields types (items.Define name ty first count entry blocks) lib n h = refl
item_keeps found fields types (items.Node number) lib n h = refl
item_keeps found fields types (items.NodeList name) lib n h = refl

pairs_keep : (found : List SpelledType) (fields : List ℕ) (types : List IrType) (rest : List SpelledItem) (functions : List (Option Lib)) (n : ℕ)
    → MakesNoPair found n
    → slice_get (with_pairs found fields types rest functions) n ≡ slice_get types n
pairs_keep found fields types [] functions n h = refl
pairs_keep found fields types (item ∷ rest) [] n h = refl
pairs_keep found fields types (item ∷ rest) (lib ∷ functions) n h =
    pairs_keep found fields (with_pair found fields types item lib) rest functions n h ∙ item_keeps found fields types item lib n h

call_keeps : (found : List SpelledType) (fields : List ℕ) (types : List IrType) (o : SpelledOperation) (n : ℕ) → MakesNoPair found n
    → slice_get (with_call found fields types o) n ≡ slice_get types n
call_keeps found fields types (operations.Binary a b) n h = refl
call_keeps found fields types (operations.Icmp predicate a b) n h = refl
call_keeps found fields types (operations.Cast a to) n h = refl
call_keeps found fields types (operations.Freeze a) n h = refl
call_keeps found fields types (operations.Select condition a b) n h = refl
call_keeps found fields types (operations.Phi ty first count) n h = refl
call_keeps found fields types (operations.Alloca ty count alignment) n h = refl
call_keeps found fields types (operations.Load ty pointer alignment) n h = refl
call_keeps found fields types (operations.Store value pointer alignment) n h = refl
call_keeps found fields types (operations.GetElementPtr of base first count) n h = refl
call_keeps found fields types operations.Fence n h = refl
call_keeps found fields types (operations.AtomicRmw operator pointer value alignment) n h = refl
call_keeps found fields types (operations.CmpXchg pointer expected new alignment) n h = refl
call_keeps found fields types (operations.ExtractValue of value part) n h = refl
call_keeps found fields types (operations.Call name result first count) n h =
    pair_keeps types result n (pair_of types fields (slice_get found result)) (λ e. ap (λ k. pair_of types fields (slice_get found k)) e ∙ h types fields)
call_keeps found fields types (operations.Return ty value) n h = refl
call_keeps found fields types (operations.Jump block) n h = refl
call_keeps found fields types (operations.Branch condition yes_block no_block) n h = refl
call_keeps found fields types (operations.Switch value other first count) n h = refl
call_keeps found fields types operations.Unreachable n h = refl

calls_keep : (found : List SpelledType) (fields : List ℕ) (types : List IrType) (is : List SpelledInstruction) (n : ℕ) → MakesNoPair found n
    → slice_get (with_calls found fields types is) n ≡ slice_get types n
calls_keep found fields types [] n h = refl
calls_keep found fields types (i ∷ is) n h =
    calls_keep found fields (with_call found fields types i.operation) is n h ∙ call_keeps found fields types i.operation n h

spelled_at : (found : List SpelledType) (numbers : List ℕ) (n : ℕ) → n < length found
    → slice_get (module_types found numbers) n ≡ Some (module_type numbers n (slice_get found n))
spelled_at found numbers n h =
    let f : ℕ → IrType = λ m. module_type numbers m (slice_get found m) in
    let many : length (map f (range_with_len 0 (length found))) ≡ length found = length-map-range_with_len f 0 (length found) in
    let inside : n < length (map f (range_with_len 0 (length found))) = omega arith in
    slice_get-get_or (map f (range_with_len 0 (length found))) n Void inside
    ∙ ap (λ t. Some t) (get_or-map-range_with_len f 0 (length found) n n Void h (omega arith))

front_at : (front back : List IrType) (n : ℕ) (t : IrType) → slice_get front n ≡ Some t → type_at (front ++ back) n ≡ t
front_at front back n t h = get_or-append front back Void n (slice_get_within front n t h) ∙ get_or_from_slice_get front n t Void h

-- a spelled type that makes no pair is kept in the module
pub type_kept : (found : List SpelledType) (numbers fields : List ℕ) (rest : List SpelledItem) (functions : List (Option Lib)) (is : List SpelledInstruction) (n : ℕ) (t : SpelledType)
    → slice_get found n ≡ Some t → MakesNoPair found n
    → type_at (all_pairs found fields (module_types found numbers) rest functions is ++ given_types) n ≡ module_type numbers n (Some t)
type_kept found numbers fields rest functions is n t e h =
    front_at (all_pairs found fields (module_types found numbers) rest functions is) given_types n (module_type numbers n (Some t))
    (calls_keep found fields (with_pairs found fields (module_types found numbers) rest functions) is n h
    ∙ (pairs_keep found fields (module_types found numbers) rest functions n h
    ∙ (spelled_at found numbers n (slice_get_within found n t e) ∙ ap (λ o. Some (module_type numbers n o)) e)))

-- ---- given types

pub length-given : length given_types ≡ 258
length-given =
    let a = length-append (map Int (range_with_len 1 128)) (map Pair (range_with_len 1 128)) in
    let b = length-map-range_with_len Int 1 128 in
    let c = length-map-range_with_len Pair 1 128 in
    omega arith

given_at : (front : List IrType) (after k : ℕ) → length front ≡ after → type_at (front ++ given_types) (after + k) ≡ type_at given_types k
given_at front after k e = ap (λ n. type_at (front ++ given_types) (n + k)) (sym e) ∙ get_or-append-add front given_types k Void

integer_given : (w : ℕ) → w < 128 → type_at given_types (suc (suc w)) ≡ Int (suc w)
integer_given w h =
    let many : length (map Int (range_with_len 1 128)) ≡ 128 = length-map-range_with_len Int 1 128 in
    let inside : w < length (map Int (range_with_len 1 128)) = omega arith in
    get_or-append (map Int (range_with_len 1 128)) (map Pair (range_with_len 1 128)) Void w inside
    ∙ get_or-map-range_with_len Int 1 128 w (suc w) Void h (omega arith)

pair_given : (w : ℕ) → w < 128 → type_at given_types (suc (suc (128 + w))) ≡ Pair (suc w)
pair_given w h =
    let many : length (map Int (range_with_len 1 128)) ≡ 128 = length-map-range_with_len Int 1 128 in
    let at : 128 + w ≡ length (map Int (range_with_len 1 128)) + w = omega arith in
    ap (λ n. get_or (map Int (range_with_len 1 128) ++ map Pair (range_with_len 1 128)) n Void) at
    ∙ (get_or-append-add (map Int (range_with_len 1 128)) (map Pair (range_with_len 1 128)) w Void ∙ get_or-map-range_with_len Pair 1 128 w (suc w) Void h (omega arith))

integer_after : (front : List IrType) (after width : ℕ) → length front ≡ after → 1 ≤ width → width ≤ 128
    → type_at (front ++ given_types) (after + 1 + width) ≡ Int width
integer_after front after zero e low high = absurd (omega arith)
integer_after front after (suc w) e low high =
    let at : after + 1 + suc w ≡ after + suc (suc w) = omega arith in
    ap (λ n. type_at (front ++ given_types) n) at ∙ (given_at front after (suc (suc w)) e ∙ integer_given w (omega arith))

pair_after : (front : List IrType) (after width : ℕ) → length front ≡ after → 1 ≤ width → width ≤ 128
    → type_at (front ++ given_types) (after + 129 + width) ≡ Pair width
pair_after front after zero e low high = absurd (omega arith)
pair_after front after (suc w) e low high =
    let at : after + 129 + suc w ≡ after + suc (suc (128 + w)) = omega arith in
    ap (λ n. type_at (front ++ given_types) n) at ∙ (given_at front after (suc (suc (128 + w))) e ∙ pair_given w (omega arith))

-- the given types come after so many
pub given_there : (front : List IrType) (after : ℕ) → length front ≡ after → HasGivenTypes (front ++ given_types) after
given_there front after e = record {
  pointer = let at : after ≡ after + 0 = omega arith in ap (λ n. type_at (front ++ given_types) n) at ∙ given_at front after 0 e;
  void = given_at front after 1 e;
  integers = λ width low high. integer_after front after width e low high;
  pairs = λ width low high. pair_after front after width e low high;
}
