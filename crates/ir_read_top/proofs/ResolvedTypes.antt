-- What the types and fields of a module hold is there, with pairs among them.
use Rattle.std.proofs.Common.{◌≡◌, ℕ, zero, suc, ◌+◌, ◌<◌, ◌≤◌, Bool, true, false, cond, eqb, List, [], ◌∷◌, ◌++◌, map, length, length-append, get_or, take, drop, slice_get, Option, Some, None, IfSome, All, arith, refl, sym, ◌∙◌, subst}
use Rattle.std.specs.List.{range_with_len}
use Rattle.std.proofs.lemmas.List.{length-set}
use Rattle.std.proofs.lemmas.List.Elements.{All-head, All-tail, All-cons, All-append, All-weaker, All-get_or, All-map, All-set}
use Rattle.std.proofs.lemmas.List.FromFn.{length-range_with_len, get_or-range_with_len, length-map-range_with_len}
use Rattle.std.proofs.lemmas.Option.{slice_get_within}
use Rattle.ir_core.specs.declared.types.IrType.{IrType}
use Rattle.ir_core.specs.declared.types.IrType.TheVariants.{Void, Int, Ptr, Array, Struct, Opaque, Pair}
use Rattle.ir_core.specs.declared.lib_functions.Lib.{Lib}
use Rattle.ir_core.specs.declared.lib_functions.Lib.TheVariants as libs
use Rattle.ir_core.specs.Externals.{IsWidth}
use Rattle.ir_grammar.specs.declared.spelled.SpelledType.{SpelledType}
use Rattle.ir_grammar.specs.declared.spelled.SpelledType.TheVariants as spelled
use Rattle.ir_grammar.specs.declared.spelled.SpelledItem.{SpelledItem}
use Rattle.ir_grammar.specs.declared.spelled.SpelledItem.TheVariants as items
use Rattle.ir_grammar.specs.declared.spelled_bodies.SpelledInstruction.{SpelledInstruction}
use Rattle.ir_grammar.specs.declared.spelled_bodies.SpelledOperation.{SpelledOperation}
use Rattle.ir_grammar.specs.declared.spelled_bodies.SpelledOperation.TheVariants as operations
use Rattle.ir_grammar.specs.SoundStore.{IsSoundType}
use Rattle.ir_functions.specs.Given.{given_types}
use Rattle.ir_type_numbers.specs.Numbering.{number_at, far_leads, is_no_name, led_to, stands_for, module_type, module_types, module_fields}
use Rattle.ir_read_top.specs.Module.{pair_width, pair_by, pair_of, set_pair, with_pair, with_pairs, with_call, with_calls, all_pairs}

-- what holds of all holds of the one at a place
pub got_holds : {A : Type 0} (P : A → Type 0) (xs : List A) (i : ℕ) → All P xs → IfSome (slice_get xs i) P
got_holds P [] i h = tt
got_holds P (x ∷ xs) zero h = All-head P x xs h
got_holds P (x ∷ xs) (suc i) h = got_holds P xs i (All-tail P x xs h)

-- ---- what spelled types stand for

-- each of so many numbers is below a bound
abbrev pub AreBelow : List ℕ → ℕ → ℕ → Type 0
AreBelow numbers count bound = (n : ℕ) → n < count → number_at numbers n < bound

there_by : (types : List SpelledType) (n : ℕ) (o : Option SpelledType) → slice_get types n ≡ o → is_no_name o ≡ true → n < length types
there_by types n None e h = cc
there_by types n (Some ty) e h = slice_get_within types n ty e

led_below : (types : List SpelledType) (own end : ℕ) (b : Bool) → is_no_name (slice_get types end) ≡ b → own < length types → cond b end own < length types
led_below types own end true e h = there_by types end (slice_get types end) refl e
led_below types own end false e h = h

range_below : (n k d : ℕ) → k < length (range_with_len 0 n) → get_or (range_with_len 0 n) k d < n
range_below n k d h =
    let l : length (range_with_len 0 n) ≡ n = length-range_with_len 0 n in
    let e : get_or (range_with_len 0 n) k d ≡ 0 + k = get_or-range_with_len 0 n k d (omega arith) in
    omega arith

all_below : (types : List SpelledType) (leads : List ℕ) → All (λ n. n < length types) (stands_for types leads)
all_below types leads =
    All-map (λ n. n < length types) (λ n. led_to types n (number_at (far_leads leads) n)) (range_with_len 0 (length types))
    (λ k d h.
    let own : ℕ = get_or (range_with_len 0 (length types)) k d in
    let end : ℕ = number_at (far_leads leads) own in
    led_below types own end (is_no_name (slice_get types end)) refl (range_below (length types) k d h))

-- each type stands for one that is there
pub stands_below : (types : List SpelledType) (leads : List ℕ) → AreBelow (stands_for types leads) (length types) (length types)
stands_below types leads n h =
    let same : length (stands_for types leads) ≡ length types = length-map-range_with_len (λ m. led_to types m (number_at (far_leads leads) m)) 0 (length types) in
    All-get_or (λ m. m < length types) (stands_for types leads) n 0 (subst (λ m. n < m) (sym same) h) (all_below types leads)

-- ---- types

-- what a type holds is among so many types and fields. An integer has an accepted width
abbrev pub IsAmong : ℕ → ℕ → IrType → Type 0
IsAmong n m (Int width) = IsWidth width
IsAmong n m (Array count item) = item < n
IsAmong n m (Struct first count packed) = first + count ≤ m
IsAmong n m (Pair width) = IsWidth width
IsAmong n m other = Unit {0}

type_among : (numbers : List ℕ) (n m own : ℕ) (o : Option SpelledType) → AreBelow numbers n n → own < n → IfSome o (IsSoundType n m) → IsAmong n m (module_type numbers own o)
type_among numbers n m own None below h sound = tt
type_among numbers n m own (Some (spelled.Named name)) below h sound = below own h
type_among numbers n m own (Some spelled.Void) below h sound = tt
type_among numbers n m own (Some spelled.Ptr) below h sound = tt
type_among numbers n m own (Some (spelled.Int width)) below h sound = record { some = sound.0; most = sound.1 }
type_among numbers n m own (Some spelled.Opaque) below h sound = tt
type_among numbers n m own (Some spelled.Metadata) below h sound = tt
type_among numbers n m own (Some (spelled.Array count item)) below h sound = below item sound.1
type_among numbers n m own (Some (spelled.Struct first count packed)) below h sound = sound

-- so many types, each of which holds what is among so many types and fields
pub record AreAmong (n m : ℕ) (types : List IrType) : Type 0 where
  pub same : length types ≡ n
  pub each : All (IsAmong n m) types

-- the types of a module, without pairs
pub types_among : (types : List SpelledType) (numbers : List ℕ) (m : ℕ) → AreBelow numbers (length types) (length types) → All (IsSoundType (length types) m) types → AreAmong (length types) m (module_types types numbers)
types_among types numbers m below sound = record {
  same = length-map-range_with_len (λ n. module_type numbers n (slice_get types n)) 0 (length types);
  each = All-map (IsAmong (length types) m) (λ n. module_type numbers n (slice_get types n)) (range_with_len 0 (length types))
      (λ k d h.
      let own : ℕ = get_or (range_with_len 0 (length types)) k d in
      type_among numbers (length types) m own (slice_get types own) below (range_below (length types) k d h) (got_holds (IsSoundType (length types) m) types own sound));
}

-- the types of the fields
pub fields_below : (fields numbers : List ℕ) (n : ℕ) → AreBelow numbers n n → All (λ k. k < n) fields → All (λ k. k < n) (module_fields fields numbers)
fields_below fields numbers n below h = All-map (λ k. k < n) (number_at numbers) fields (λ k d inside. below (get_or fields k d) (h k d inside))

-- ---- pairs

if_one : (b : Bool) (width : ℕ) → IsWidth width → IfSome (cond b (Some width) None) IsWidth
if_one true width h = h
if_one false width h = tt

second_width : (width : ℕ) (b : Option IrType) → IsWidth width → IfSome (pair_width (Some (Int width)) b) IsWidth
second_width width None h = tt
second_width width (Some Void) h = tt
second_width width (Some (Int bit)) h = if_one (eqb bit 1) width h
second_width width (Some Ptr) h = tt
second_width width (Some (Array count item)) h = tt
second_width width (Some (Struct first count packed)) h = tt
second_width width (Some Opaque) h = tt
second_width width (Some (Pair bit)) h = tt

first_width : (n m : ℕ) (a b : Option IrType) → IfSome a (IsAmong n m) → IfSome (pair_width a b) IsWidth
first_width n m None b h = tt
first_width n m (Some Void) b h = tt
first_width n m (Some (Int width)) b h = second_width width b h
first_width n m (Some Ptr) b h = tt
first_width n m (Some (Array count item)) b h = tt
first_width n m (Some (Struct first count packed)) b h = tt
first_width n m (Some Opaque) b h = tt
first_width n m (Some (Pair width)) b h = tt

width_by : (n m : ℕ) (types : List IrType) (numbers : List ℕ) → All (IsAmong n m) types → IfSome (pair_by types numbers) IsWidth
width_by n m types [] h = tt
width_by n m types (a ∷ []) h = tt
width_by n m types (a ∷ b ∷ []) h = first_width n m (slice_get types a) (slice_get types b) (got_holds (IsAmong n m) types a h)
width_by n m types (a ∷ b ∷ c ∷ more) h = tt

if_unpacked : (packed : Bool) (width : Option ℕ) → IfSome width IsWidth → IfSome (cond packed None width) IsWidth
if_unpacked true width h = tt
if_unpacked false width h = h

width_of : (n m : ℕ) (types : List IrType) (fields : List ℕ) (o : Option SpelledType) → All (IsAmong n m) types → IfSome (pair_of types fields o) IsWidth
width_of n m types fields None h = tt
width_of n m types fields (Some (spelled.Named name)) h = tt
width_of n m types fields (Some spelled.Void) h = tt
width_of n m types fields (Some spelled.Ptr) h = tt
width_of n m types fields (Some (spelled.Int width)) h = tt
width_of n m types fields (Some spelled.Opaque) h = tt
width_of n m types fields (Some spelled.Metadata) h = tt
width_of n m types fields (Some (spelled.Array count item)) h = tt
width_of n m types fields (Some (spelled.Struct first count packed)) h =
    if_unpacked packed (pair_by types (take count (drop first fields))) (width_by n m types (take count (drop first fields)) h)

pair_set : (n m : ℕ) (types : List IrType) (k : ℕ) (width : Option ℕ) → IfSome width IsWidth → AreAmong n m types → AreAmong n m (set_pair types k width)
pair_set n m types k None w h = h
pair_set n m types k (Some width) w h = record { same = length-set types k (Pair width) ∙ h.same; each = All-set (IsAmong n m) types k (Pair width) w h.each }

-- the lib is no intrinsic with overflow, or a pair is set
pair_by_lib : (n m : ℕ) (found : List SpelledType) (fields : List ℕ) (types : List IrType) (item : SpelledItem) (lib : Option Lib) → AreAmong n m types → AreAmong n m (with_pair found fields types item lib)
pair_by_lib n m found fields types items.Skipped lib h = h
pair_by_lib n m found fields types (items.Type name ty) lib h = h
pair_by_lib n m found fields types (items.Global name constant ty value) lib h = h
pair_by_lib n m found fields types items.Used lib h = h
pair_by_lib n m found fields types (items.Declare name ty first count) None h = h
pair_by_lib n m found fields types (items.Declare name ty first count) (Some (libs.Overflow op width)) h =
    pair_set n m types ty (pair_of types fields (slice_get found ty)) (width_of n m types fields (slice_get found ty) h.each) h
pair_by_lib n m found fields types (items.Declare name ty first count) (Some other) h = h
pair_by_lib n m found fields types (items.Define name ty first count entry blocks) lib h = h
pair_by_lib n m found fields types (items.Node number) lib h = h
pair_by_lib n m found fields types (items.NodeList name) lib h = h

-- the types of a module, with pairs
pairs_among : (n m : ℕ) (found : List SpelledType) (fields : List ℕ) (types : List IrType) (rest : List SpelledItem) (functions : List (Option Lib)) → AreAmong n m types → AreAmong n m (with_pairs found fields types rest functions)
pairs_among n m found fields types [] functions h = h
pairs_among n m found fields types (item ∷ rest) [] h = h
pairs_among n m found fields types (item ∷ rest) (lib ∷ functions) h =
    pairs_among n m found fields (with_pair found fields types item lib) rest functions (pair_by_lib n m found fields types item lib h)

call_among : (n m : ℕ) (found : List SpelledType) (fields : List ℕ) (types : List IrType) (o : SpelledOperation) → AreAmong n m types → AreAmong n m (with_call found fields types o)
call_among n m found fields types (operations.Binary a b) h = h
call_among n m found fields types (operations.Icmp predicate a b) h = h
call_among n m found fields types (operations.Cast a to) h = h
call_among n m found fields types (operations.Freeze a) h = h
call_among n m found fields types (operations.Select condition a b) h = h
call_among n m found fields types (operations.Phi ty first count) h = h
call_among n m found fields types (operations.Alloca ty count alignment) h = h
call_among n m found fields types (operations.Load ty pointer alignment) h = h
call_among n m found fields types (operations.Store value pointer alignment) h = h
call_among n m found fields types (operations.GetElementPtr of base first count) h = h
call_among n m found fields types operations.Fence h = h
call_among n m found fields types (operations.AtomicRmw operator pointer value alignment) h = h
call_among n m found fields types (operations.CmpXchg pointer expected new alignment) h = h
call_among n m found fields types (operations.ExtractValue of value part) h = h
call_among n m found fields types (operations.Call name result first count) h =
    pair_set n m types result (pair_of types fields (slice_get found result)) (width_of n m types fields (slice_get found result) h.each) h
call_among n m found fields types (operations.Return ty value) h = h
call_among n m found fields types (operations.Jump block) h = h
call_among n m found fields types (operations.Branch condition yes_block no_block) h = h
call_among n m found fields types (operations.Switch value other first count) h = h
call_among n m found fields types operations.Unreachable h = h

calls_among : (n m : ℕ) (found : List SpelledType) (fields : List ℕ) (types : List IrType) (is : List SpelledInstruction) → AreAmong n m types → AreAmong n m (with_calls found fields types is)
calls_among n m found fields types [] h = h
calls_among n m found fields types (i ∷ is) h =
    calls_among n m found fields (with_call found fields types i.operation) is (call_among n m found fields types i.operation h)

pub all_pairs_among : (n m : ℕ) (found : List SpelledType) (fields : List ℕ) (types : List IrType) (rest : List SpelledItem) (functions : List (Option Lib)) (is : List SpelledInstruction)
    → AreAmong n m types → AreAmong n m (all_pairs found fields types rest functions is)
all_pairs_among n m found fields types rest functions is h =
    calls_among n m found fields (with_pairs found fields types rest functions) is (pairs_among n m found fields types rest functions h)

-- ---- types whose spelling is no part of a text

range_inside : (k d : ℕ) → k < length (range_with_len 1 128) → IsWidth (get_or (range_with_len 1 128) k d)
range_inside k d h =
    let l : length (range_with_len 1 128) ≡ 128 = length-range_with_len 1 128 in
    let e : get_or (range_with_len 1 128) k d ≡ 1 + k = get_or-range_with_len 1 128 k d (omega arith) in
    record { some = omega arith; most = omega arith }

pub given_among : (n m : ℕ) → All (IsAmong n m) given_types
given_among n m =
    All-cons (IsAmong n m) Ptr (Void ∷ (map Int (range_with_len 1 128) ++ map Pair (range_with_len 1 128))) tt
    (All-cons (IsAmong n m) Void (map Int (range_with_len 1 128) ++ map Pair (range_with_len 1 128)) tt
    (All-append (IsAmong n m) (map Int (range_with_len 1 128)) (map Pair (range_with_len 1 128))
    (All-map (IsAmong n m) Int (range_with_len 1 128) range_inside)
    (All-map (IsAmong n m) Pair (range_with_len 1 128) range_inside)))

among_more : (n n' m : ℕ) → n ≤ n' → (ty : IrType) → IsAmong n m ty → IsAmong n' m ty
among_more n n' m le Void h = tt
among_more n n' m le (Int width) h = h
among_more n n' m le Ptr h = tt
among_more n n' m le (Array count item) h = let g : item < n = h in omega arith
among_more n n' m le (Struct first count packed) h = h
among_more n n' m le Opaque h = tt
among_more n n' m le (Pair width) h = h

-- all types of a module, with those whose spelling is no part of a text
pub all_among : (n m : ℕ) (types : List IrType) → AreAmong n m types → All (IsAmong (length (types ++ given_types)) m) (types ++ given_types)
all_among n m types h =
    let whole : ℕ = length (types ++ given_types) in
    let l : whole ≡ length types + length given_types = length-append types given_types in
    let same : length types ≡ n = h.same in
    All-append (IsAmong whole m) types given_types
    (All-weaker (IsAmong n m) (IsAmong whole m) (among_more n whole m (omega arith)) types h.each)
    (given_among whole m)
