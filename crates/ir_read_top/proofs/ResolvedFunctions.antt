-- The functions of an accepted text have their names resolved.
use Rattle.std.proofs.Common.{◌≡◌, ℕ, suc, ◌+◌, ◌^◌, ◌<◌, ◌≤◌, ◌⊎◌, inl, inr, Bool, true, false, cond, if◌then◌else◌, ◌&&◌, List, [], ◌∷◌, ◌++◌, map, length, length-append, take, drop, slice_get, Option, Some, None, IfSome, Result, Ok, Err, All, arith, refl, sym, ◌∙◌, ap, subst, append-nil}
use Rattle.std.specs.Prelude.{IfOk, codes}
use Rattle.std.specs.List.{position_from, slice_index}
use Rattle.std.specs.Option.{option_map}
use Rattle.std.specs.Str.{bytes_eq}
use Rattle.std.proofs.lemmas.Bool.{eqb-true, and_parts}
use Rattle.std.proofs.lemmas.List.{length-map, length-take, length-drop}
use Rattle.std.proofs.lemmas.List.Elements.{All-head, All-tail, All-take, All-drop}
use Rattle.std.proofs.lemmas.Option.{slice_get_within, slice_get-map}
use Rattle.hw_base.specs.declared.numbers.TheConstants.{MOST_TEXT}
use Rattle.ir_core.specs.declared.types.IrType.{IrType}
use Rattle.ir_core.specs.declared.types.IrType.TheVariants.{Int, Ptr}
use Rattle.ir_core.specs.declared.lib_functions.Lib.{Lib}
use Rattle.ir_core.specs.declared.refusals.ReadError.{ReadError}
use Rattle.ir_core.specs.declared.ir_module.Declare.{Declare}
use Rattle.ir_core.specs.declared.ir_module.Function.{Function}
use Rattle.ir_core.specs.declared.ir_module.Module.{Module}
use Rattle.ir_core.specs.Externals.{IsWidth}
use Rattle.ir_core.specs.NumberTypes.{type_of}
use Rattle.ir_core.specs.Progress.{type_at}
use Rattle.ir_core.specs.Resolved.{IsResolvedType, IsResolvedOutside}
use Rattle.ir_core.specs.ResolvedBodies.{IsResolvedFunction, IsMain, IsResolved}
use Rattle.ir_core.specs.Tokens.{bytes_of}
use Rattle.ir_core.specs.Tokenisation.{place_after}
use Rattle.ir_text.specs.Names.{global_name}
use Rattle.ir_grammar.specs.declared.spelled.SpelledType.{SpelledType}
use Rattle.ir_grammar.specs.declared.spelled.SpelledType.TheVariants as spelled_types
use Rattle.ir_grammar.specs.declared.spelled.SpelledItem.{SpelledItem}
use Rattle.ir_grammar.specs.declared.spelled.SpelledItem.TheVariants as items
use Rattle.ir_grammar.specs.declared.spelled.SpelledParameter.{SpelledParameter}
use Rattle.ir_grammar.specs.declared.spelled_bodies.SpelledInstruction.{SpelledInstruction}
use Rattle.ir_grammar.specs.declared.spelled_bodies.SpelledBlock.{SpelledBlock}
use Rattle.ir_grammar.specs.Grammar.{nesting_limit}
use Rattle.ir_grammar.specs.Spelled.{Store}
use Rattle.ir_grammar.specs.SoundStore.{Counts, counts_of, IsSoundItem, IsSoundParameter, IsSoundStore, size_of}
use Rattle.ir_grammar.proofs.Ranged.{text_ranged}
use Rattle.ir_lex.proofs.Few.{few_tokens}
use Rattle.ir_read_items.specs.ItemReading.{spelled as spelled_by}
use Rattle.ir_read_items.specs.Rows.{IsEnded, AreRows, HasBlocks, Each, IsInRows}
use Rattle.ir_read_items.proofs.Runs.{each_append}
use Rattle.ir_read_items.proofs.ItemRows.{module_in_rows}
use Rattle.ir_read_items.proofs.Spelled.{spelled_sound, module_spelled}
use Rattle.ir_names.specs.First.{first_fault}
use Rattle.ir_names.specs.Keys.{global_key}
use Rattle.ir_names.specs.Faults.{name_faults}
use Rattle.ir_names.specs.Meanings.{leads_of}
use Rattle.ir_names.proofs.First.{none_of_none}
use Rattle.ir_type_numbers.specs.Numbering.{number_at, module_type, module_types}
use Rattle.ir_first_values.specs.Tables.{Tables}
use Rattle.ir_first_values.proofs.TextBytes.{IsByte}
use Rattle.ir_body_names.specs.Definitions.{instructions_of}
use Rattle.ir_body_names.specs.BodyFaults.{Surroundings, body_faults}
use Rattle.ir_functions.specs.Given.{given_types}
use Rattle.ir_functions.specs.Promises.{HasGivenTypes, HasTypes}
use Rattle.ir_functions.specs.Scope.{Scope, type_number}
use Rattle.ir_functions.specs.Instructions.{has_register, value_type}
use Rattle.ir_functions.specs.Functions.{Spelled, scope_of, register_types, all_instructions, function_of}
use Rattle.ir_resolved.specs.Grounds.{HasGrounds, IsFaultless}
use Rattle.ir_resolved.proofs.Blocks.{some_rows_end}
use Rattle.ir_resolved.proofs.Lists.{all_made, append_none}
use Rattle.ir_resolved.proofs.Resolved.{function_resolved}
use Rattle.ir_resolved.proofs.StatedAlignments.{IsSmallToken, small_text}
use Rattle.ir_read_top.specs.Module.{pair_of, declare_of, declares_of, all_pairs}
use Rattle.ir_read_top.specs.Functions.{numbers_of, spelled_in, spelled_functions, functions_in, declare_key, declare_keys, surroundings, function_faults, is_i32, is_ptr, type_behind, are_of_main, is_main}
use Rattle.ir_read_top.specs.Globals.{tables}
use Rattle.ir_read_top.specs.Texts.{sentence, fields_of, without_functions, IsAccepted, ReadsText}
use Rattle.ir_read_top.proofs.ConstantAddresses.{constant_variable}
use Rattle.ir_read_top.proofs.KeptTypes.{type_kept, length-given, given_there}
use Rattle.ir_read_top.proofs.Phases.{length-text, small_enough}
use Rattle.ir_read_top.proofs.ResolvedModule.{variables_named, resolved_module}
use Rattle.ir_read_top.proofs.ResolvedTypes.{got_holds, AreBelow, stands_below, AreAmong, types_among, all_pairs_among}
use Rattle.ir_read_top.proofs.Shorts.{few_instructions}

-- ---- what was read

-- what an accepted text spells is sound, and lies in rows, and there is little of it
record IsWellRead (text : List ℕ) (store : Store) : Type 0 where
  sound : IsSoundStore store
  small : size_of store < 2 ^ 28
  rows : IsInRows (IsSmallToken text) store

well_read : (text : List ℕ) (m : Module) → (a : IsAccepted text m) → IsWellRead text a.store
well_read text m a =
    let ts = sentence text a.tokens in
    let whole : spelled_by ts ≡ Ok a.store = subst (λ v. spelled_by v ≡ Ok a.store) (append-nil ts) (module_spelled ts [] a.store a.read.derived) in
    let read = spelled_sound ts a.store (text_ranged text a.tokens (place_after text)) whole in
    let many : length ts ≡ length a.tokens + 1 = length-text text a.tokens (place_after text) in
    let few : length a.tokens ≤ length text = few_tokens text (Ok (record { source = text; tokens = a.tokens })) (refl, a.read.cut) in
    let short : length text ≤ MOST_TEXT = a.read.short in
    record {
      sound = read.sound;
      small = small_enough (size_of a.store) (length ts) read.small (omega arith);
      rows = module_in_rows (IsSmallToken text) nesting_limit ts a.store (small_text text a.tokens (place_after text) a.read.cut) a.read.derived;
    }

-- ---- what is around functions

abbrev names_in : (text : List ℕ) (m : Module) → IsAccepted text m → Surroundings
names_in text m a = surroundings text a.tokens a.store a.libs

abbrev tables_in : (text : List ℕ) (m : Module) → IsAccepted text m → Tables
tables_in text m a = tables text a.store (numbers_of text a.store) a.spelled.classes m

abbrev scope_in : (text : List ℕ) (m : Module) → IsAccepted text m → Spelled → Scope
scope_in text m a f = scope_of (names_in text m a) (tables_in text m a) (without_functions m) f

abbrev function_in : (text : List ℕ) (m : Module) → IsAccepted text m → Spelled → Function
function_in text m a f = function_of (names_in text m a) (tables_in text m a) (without_functions m) f

-- the types of a module before the given ones
abbrev front_types : (text : List ℕ) (m : Module) → IsAccepted text m → List IrType
front_types text m a =
    all_pairs a.store.types (fields_of text a.store) (module_types a.store.types (numbers_of text a.store)) a.store.items a.libs a.store.bodies.instructions

front_many : (text : List ℕ) (m : Module) (a : IsAccepted text m) → IsSoundStore a.store → length (front_types text m a) ≡ length a.store.types
front_many text m a sound =
    let found : List SpelledType = a.store.types in
    let numbers : List ℕ = numbers_of text a.store in
    let below : AreBelow numbers (length found) (length found) = stands_below found (leads_of text a.store.items a.store) in
    let plain : AreAmong (length found) (length a.store.fields) (module_types found numbers) =
    types_among found numbers (length a.store.fields) below sound.types in
    (all_pairs_among (length found) (length a.store.fields) found (fields_of text a.store) (module_types found numbers) a.store.items a.libs a.store.bodies.instructions plain).same

-- a spelled type that makes no pair is kept
kept_in : (text : List ℕ) (m : Module) (a : IsAccepted text m) (n : ℕ) (t : SpelledType) → slice_get a.store.types n ≡ Some t
    → ((types : List IrType) (fields : List ℕ) → pair_of types fields (Some t) ≡ None)
    → type_at m.types n ≡ module_type (numbers_of text a.store) n (Some t)
kept_in text m a n t e none =
    ap (λ ts. type_at ts n) a.spelled.types
    ∙ type_kept a.store.types (numbers_of text a.store) (fields_of text a.store) a.store.items a.libs a.store.bodies.instructions n t e (λ types fields. ap (λ o. pair_of types fields o) e ∙ none types fields)

width_there : (m : Module) (n width : ℕ) → All (IsResolvedType m) m.types → slice_get m.types n ≡ Some (Int width) → IsWidth width
width_there m n width all e = subst (λ (o : Option IrType). IfSome o (IsResolvedType m)) e (got_holds (IsResolvedType m) m.types n all)

types_hold : (text : List ℕ) (m : Module) (a : IsAccepted text m) (f : Spelled) → IsResolvedOutside m → IsSoundStore a.store
    → HasTypes (scope_in text m a f) m
types_hold text m a f outside sound = record {
  same = refl;
  numbers = refl;
  given = subst (λ ts. HasGivenTypes ts (length a.store.types)) (sym a.spelled.types) (given_there (front_types text m a) (length a.store.types) (front_many text m a sound));
  widths = λ n width e. width_there m n width outside.types e;
  voids = λ n e. kept_in text m a n spelled_types.Void e (λ types fields. refl);
}

-- one declare is made for each key
one_declare : (text numbers : List ℕ) (parameters : List SpelledParameter) (item : SpelledItem) (lib : Option Lib)
    → length (declare_key text item lib) ≡ length (declare_of numbers parameters item lib)
one_declare text numbers parameters items.Skipped lib = refl
one_declare text numbers parameters (items.Type name ty) lib = refl
one_declare text numbers parameters (items.Global name constant ty value) lib = refl
one_declare text numbers parameters items.Used lib = refl
one_declare text numbers parameters (items.Declare name ty first count) None = refl
one_declare text numbers parameters (items.Declare name ty first count) (Some lib) = refl
one_declare text numbers parameters (items.Define name ty first count entry blocks) lib = refl
one_declare text numbers parameters (items.Node number) lib = refl
one_declare text numbers parameters (items.NodeList name) lib = refl

many_declares : (text numbers : List ℕ) (parameters : List SpelledParameter) (rest : List SpelledItem) (functions : List (Option Lib))
    → length (declare_keys text rest functions) ≡ length (declares_of numbers parameters rest functions)
many_declares text numbers parameters [] functions = refl
many_declares text numbers parameters (item ∷ rest) [] = refl
many_declares text numbers parameters (item ∷ rest) (lib ∷ functions) =
    let own = one_declare text numbers parameters item lib in
    let more = many_declares text numbers parameters rest functions in
    let keys = length-append (declare_key text item lib) (declare_keys text rest functions) in
    let declares = length-append (declare_of numbers parameters item lib) (declares_of numbers parameters rest functions) in
    omega arith

many_functions : (text : List ℕ) (m : Module) (a : IsAccepted text m) → length m.functions ≡ length (functions_in a.store)
many_functions text m a = ap (λ (fs : List Function). length fs) a.spelled.functions ∙ length-map (functions_in a.store) (function_in text m a)

grounds : (text : List ℕ) (m : Module) (a : IsAccepted text m) (f : Spelled) → IsResolvedOutside m → IsWellRead text a.store
    → HasGrounds (scope_in text m a f) m (counts_of a.store)
grounds text m a f outside w =
    let found : List SpelledType = a.store.types in
    let numbers : List ℕ = numbers_of text a.store in
    let below : AreBelow numbers (length found) (length found) = stands_below found (leads_of text a.store.items a.store) in
    let front : length (front_types text m a) ≡ length found = front_many text m a w.sound in
    let whole : length m.types ≡ length (front_types text m a) + length given_types =
    ap (λ (ts : List IrType). length ts) a.spelled.types ∙ length-append (front_types text m a) given_types in
    let given : length given_types ≡ 258 = length-given in
    record {
      types = types_hold text m a f outside w.sound;
      many = omega arith;
      below = λ ty h. let b : number_at numbers ty < length found = below ty h in omega arith;
      layouts = a.spelled.layouts;
      same_types = refl;
      same_fields = refl;
      bodies = w.sound.bodies;
      stated = w.rows.stated;
      globals = λ ty constant index off e. constant_variable (tables_in text m a) (length m.globals) ty constant index off (variables_named text m a) e;
      functions = length-map (functions_in a.store) (λ (g : Spelled). global_key text g.name) ∙ sym (many_functions text m a);
      declares = many_declares text numbers a.store.parameters a.store.items a.libs ∙ sym (ap (λ (ds : List Declare). length ds) a.spelled.declares);
    }

-- ---- functions as they are spelled

-- blocks that end where they should, and one of them; types and parameters that are there
record IsWellSpelled (instructions : List SpelledInstruction) (counts : Counts) (f : Spelled) : Type 0 where
  rows : Each (λ (b : SpelledBlock). IsEnded (instructions_of instructions b)) f.blocks
  some_block : 1 ≤ length f.blocks
  result : f.result < counts.types
  parameters : All (IsSoundParameter counts) f.parameters

some_taken : {A : Type 0} (xs : List A) (entry n : ℕ) → 1 ≤ n → entry + n ≤ length xs → 1 ≤ length (take n (drop entry xs))
some_taken xs entry n some inside =
    let a = length-take n (drop entry xs) in
    let b = length-drop entry xs in
    omega arith

item_spelled : (store : Store) (item : SpelledItem) → IsSoundStore store → AreRows 0 store.bodies.instructions store.bodies.blocks
    → IsSoundItem (counts_of store) item → HasBlocks item
    → Each (IsWellSpelled store.bodies.instructions (counts_of store)) (spelled_in store item)
item_spelled store items.Skipped sound rows h some = tt
item_spelled store (items.Type name ty) sound rows h some = tt
item_spelled store (items.Global name constant ty value) sound rows h some = tt
item_spelled store items.Used sound rows h some = tt
item_spelled store (items.Declare name ty first count) sound rows h some = tt
item_spelled store (items.Define name ty first count entry blocks) sound rows h some = (
  record {
    rows = some_rows_end store.bodies.instructions store.bodies.blocks entry blocks rows;
    some_block = some_taken store.bodies.blocks entry blocks some h.2;
    result = h.0;
    parameters = All-take (IsSoundParameter (counts_of store)) count (drop first store.parameters) (All-drop (IsSoundParameter (counts_of store)) first store.parameters sound.parameters);
  },
  tt,
)
item_spelled store (items.Node number) sound rows h some = tt
item_spelled store (items.NodeList name) sound rows h some = tt

functions_spelled : (store : Store) (rest : List SpelledItem) → IsSoundStore store → AreRows 0 store.bodies.instructions store.bodies.blocks
    → All (IsSoundItem (counts_of store)) rest → Each HasBlocks rest
    → Each (IsWellSpelled store.bodies.instructions (counts_of store)) (spelled_functions store rest)
functions_spelled store [] sound rows h some = tt
functions_spelled store (item ∷ rest) sound rows h some =
    each_append (IsWellSpelled store.bodies.instructions (counts_of store)) (spelled_in store item) (spelled_functions store rest)
    (item_spelled store item sound rows (All-head (IsSoundItem (counts_of store)) item rest h) some.0)
    (functions_spelled store rest sound rows (All-tail (IsSoundItem (counts_of store)) item rest h) some.1)

faultless_by : (names : Surroundings) (counts : Counts) (fs : List Spelled) → function_faults names fs ≡ []
    → Each (IsWellSpelled names.bodies.instructions counts) fs → Each (IsFaultless names counts) fs
faultless_by names counts [] e h = tt
faultless_by names counts (f ∷ fs) e (own, more) =
    let none = append_none (body_faults names f.parameters f.blocks) (function_faults names fs) e in (
      record { faultless = ap first_fault none.0; rows = own.rows; some_block = own.some_block; result = own.result; parameters = own.parameters },
      faultless_by names counts fs none.1 more,
    )

all_faultless : (text : List ℕ) (m : Module) (a : IsAccepted text m) → IsWellRead text a.store
    → Each (IsFaultless (names_in text m a) (counts_of a.store)) (functions_in a.store)
all_faultless text m a w =
    let none = none_of_none (name_faults text a.store.items a.store ++ function_faults (names_in text m a) (functions_in a.store)) a.named in
    faultless_by (names_in text m a) (counts_of a.store) (functions_in a.store)
    (append_none (name_faults text a.store.items a.store) (function_faults (names_in text m a) (functions_in a.store)) none).1
    (functions_spelled a.store a.store.items w.sound w.rows.rows w.sound.items w.rows.blocks)

-- ---- registers

one_register : (b : Bool) (ty n : ℕ) (rest : List ℕ) → length rest ≤ n → length (if b then ty ∷ rest else rest) ≤ suc n
one_register true ty n rest h = omega arith
one_register false ty n rest h = omega arith

few_types : (s : Scope) (is : List SpelledInstruction) → length (register_types s is) ≤ length is
few_types s [] = omega arith
few_types s (i ∷ is) = one_register (has_register s i) (value_type s i.operation) (length is) (register_types s is) (few_types s is)

few_registers : (names : Surroundings) (t : Tables) (built : Module) (f : Spelled)
    → length f.parameters + length (all_instructions names.bodies.instructions f.blocks) < 2 ^ 28
    → length (function_of names t built f).regs < 2 ^ 30
few_registers names t built f h =
    let s : Scope = scope_of names t built f in
    let is : List SpelledInstruction = all_instructions names.bodies.instructions f.blocks in
    let own = few_types s is in
    let parameters = length-map f.parameters (λ (p : SpelledParameter). type_number s p.ty) in
    let both = length-append (map (λ (p : SpelledParameter). type_number s p.ty) f.parameters) (register_types s is) in
    omega arith

-- each function has its names resolved
functions_there : (text : List ℕ) (m : Module) (a : IsAccepted text m) → IsResolvedOutside m → IsWellRead text a.store
    → All (IsResolvedFunction m) m.functions
functions_there text m a outside w =
    subst (All (IsResolvedFunction m)) (sym a.spelled.functions)
    (all_made (IsFaultless (names_in text m a) (counts_of a.store)) (λ (f : Spelled). length f.parameters + length (all_instructions a.store.bodies.instructions f.blocks) < 2 ^ 28)
    (IsResolvedFunction m) (function_in text m a)
    (λ f h few.
    function_resolved (names_in text m a) (tables_in text m a) (without_functions m) m (counts_of a.store) f (grounds text m a f outside w) h
    (few_registers (names_in text m a) (tables_in text m a) (without_functions m) f few))
    (functions_in a.store) (all_faultless text m a w)
    (few_instructions (names_in text m a) a.store a.store.items refl w.rows.rows w.small))

-- ---- main

record Found {A : Type 0} (test : A → Bool) (i k : ℕ) (xs : List A) : Type 0 where
  at : ℕ
  is : k ≡ i + at
  one : A
  there : slice_get xs at ≡ Some one
  passes : test one ≡ true

found_by : {A : Type 0} (test : A → Bool) (i k : ℕ) (x : A) (xs : List A) (b : Bool) → test x ≡ b
    → (position_from test (i + 1) xs ≡ Some k → Found test (i + 1) k xs)
    → cond b (Some i) (position_from test (i + 1) xs) ≡ Some k → Found test i k (x ∷ xs)
found_by test i k x xs true e more h = record { at = 0; is = let same : i ≡ k = cc in omega arith; one = x; there = refl; passes = e }
found_by test i k x xs false e more h =
    let f = more h in
    let is : k ≡ i + 1 + f.at = f.is in
    record { at = suc f.at; is = omega arith; one = f.one; there = f.there; passes = f.passes }

found_at : {A : Type 0} (test : A → Bool) (i k : ℕ) (xs : List A) → position_from test i xs ≡ Some k → Found test i k xs
found_at test i k [] h = absurd (let e : None ≡ Some k = h in cc)
found_at test i k (x ∷ xs) h = found_by test i k x xs (test x) refl (λ e. found_at test (i + 1) k xs e) h

bits_32 : (o : Option SpelledType) → is_i32 o ≡ true → o ≡ Some (spelled_types.Int 32)
bits_32 None h = cc
bits_32 (Some (spelled_types.Int width)) h = ap (λ w. Some (spelled_types.Int w)) (eqb-true width 32 h)
bits_32 (Some spelled_types.Void) h = cc
bits_32 (Some spelled_types.Ptr) h = cc
bits_32 (Some spelled_types.Opaque) h = cc
bits_32 (Some spelled_types.Metadata) h = cc
bits_32 (Some (spelled_types.Named name)) h = cc
bits_32 (Some (spelled_types.Array count item)) h = cc
bits_32 (Some (spelled_types.Struct first count packed)) h = cc

pointer_is : (o : Option SpelledType) → is_ptr o ≡ true → o ≡ Some spelled_types.Ptr
pointer_is None h = cc
pointer_is (Some (spelled_types.Int width)) h = cc
pointer_is (Some spelled_types.Void) h = cc
pointer_is (Some spelled_types.Ptr) h = refl
pointer_is (Some spelled_types.Opaque) h = cc
pointer_is (Some spelled_types.Metadata) h = cc
pointer_is (Some (spelled_types.Named name)) h = cc
pointer_is (Some (spelled_types.Array count item)) h = cc
pointer_is (Some (spelled_types.Struct first count packed)) h = cc

i32_there : (text : List ℕ) (m : Module) (a : IsAccepted text m) (n : ℕ) → is_i32 (slice_get a.store.types n) ≡ true → type_of m n ≡ Int 32
i32_there text m a n h = kept_in text m a n (spelled_types.Int 32) (bits_32 (slice_get a.store.types n) h) (λ types fields. refl)

ptr_there : (text : List ℕ) (m : Module) (a : IsAccepted text m) (n : ℕ) → is_ptr (slice_get a.store.types n) ≡ true → type_of m n ≡ Ptr
ptr_there text m a n h = kept_in text m a n spelled_types.Ptr (pointer_is (slice_get a.store.types n) h) (λ types fields. refl)

-- `main` has no parameters, or these
abbrev HasMainParameters : Module → (count : ℕ) → (registers : List ℕ) → Type 0
HasMainParameters m count registers =
    (count ≡ 0) ⊎ ((count ≡ 2) × (type_of m (slice_index registers 0) ≡ Int 32) × (type_of m (slice_index registers 1) ≡ Ptr))

main_parameters : (text : List ℕ) (m : Module) (a : IsAccepted text m) (parameters : List SpelledParameter) (rest : List ℕ)
    → are_of_main a.store.types (numbers_of text a.store) parameters ≡ true
    → HasMainParameters m (length parameters) (map (λ (p : SpelledParameter). number_at (numbers_of text a.store) p.ty) parameters ++ rest)
main_parameters text m a [] rest h = inl refl
main_parameters text m a (p ∷ []) rest h = absurd (let e : false ≡ true = h in cc)
main_parameters text m a (p ∷ q ∷ []) rest h =
    let numbers : List ℕ = numbers_of text a.store in
    let both = and_parts (is_i32 (type_behind a.store.types numbers p.ty)) (is_ptr (type_behind a.store.types numbers q.ty)) h in
    inr (refl, i32_there text m a (number_at numbers p.ty) both.0, ptr_there text m a (number_at numbers q.ty) both.1)
main_parameters text m a (p ∷ q ∷ r ∷ more) rest h = absurd (let e : false ≡ true = h in cc)

is_its_main : (text : List ℕ) (m : Module) (a : IsAccepted text m) (f : Spelled) → is_main text a.store.types (numbers_of text a.store) f ≡ true
    → IsMain m (function_in text m a f)
is_its_main text m a f h =
    let found : List SpelledType = a.store.types in
    let numbers : List ℕ = numbers_of text a.store in
    let named =
    and_parts (bytes_eq (global_name (bytes_of text f.name)) (codes "main")) (is_i32 (type_behind found numbers f.result) && are_of_main found numbers f.parameters) h in
    let both = and_parts (is_i32 (type_behind found numbers f.result)) (are_of_main found numbers f.parameters) named.1 in
    record {
      result = i32_there text m a (number_at numbers f.result) both.0;
      parameters = main_parameters text m a f.parameters (register_types (scope_in text m a f) (all_instructions a.store.bodies.instructions f.blocks)) both.1;
    }

found_main : (text : List ℕ) (m : Module) (a : IsAccepted text m)
    → Found (is_main text a.store.types (numbers_of text a.store)) 0 m.main (functions_in a.store)
found_main text m a = found_at (is_main text a.store.types (numbers_of text a.store)) 0 m.main (functions_in a.store) a.main

main_holds : (text : List ℕ) (m : Module) (a : IsAccepted text m) (f : Function) → slice_get m.functions m.main ≡ Some f → IsMain m f
main_holds text m a f h =
    let found = found_main text m a in
    let at : m.main ≡ found.at = let is : m.main ≡ 0 + found.at = found.is in omega arith in
    let there : slice_get m.functions m.main ≡ Some (function_in text m a found.one) =
    ap (λ (fs : List Function). slice_get fs m.main) a.spelled.functions
    ∙ (ap (λ n. slice_get (map (function_in text m a) (functions_in a.store)) n) at
    ∙ (slice_get-map (function_in text m a) (functions_in a.store) found.at ∙ ap (λ o. option_map (function_in text m a) o) found.there)) in
    let same : function_in text m a found.one ≡ f = let e : Some (function_in text m a found.one) ≡ Some f = sym there ∙ h in cc in
    subst (λ (g : Function). IsMain m g) same (is_its_main text m a found.one found.passes)

-- ---- the module

-- each number in the module of an accepted text names a thing that is there, in the bodies of functions too
pub resolved_whole : (text : List ℕ) (m : Module) → All IsByte text → IsAccepted text m → IsResolved m
resolved_whole text m bytes a =
    let outside : IsResolvedOutside m = resolved_module text m bytes a in
    let w : IsWellRead text a.store = well_read text m a in
    let found = found_main text m a in
    let inside : found.at < length (functions_in a.store) = slice_get_within (functions_in a.store) found.at found.one found.there in
    let many : length m.functions ≡ length (functions_in a.store) = many_functions text m a in
    let is : m.main ≡ 0 + found.at = found.is in
    record {
      outside = outside;
      functions = functions_there text m a outside w;
      main_there = omega arith;
      main = λ f h. main_holds text m a f h;
    }

-- the same of what reading a text answers
pub resolved_answer : (text : List ℕ) (answer : Result Module ReadError) → All IsByte text → ReadsText text answer → IfOk answer IsResolved
resolved_answer text (Ok m) bytes h = resolved_whole text m bytes h
resolved_answer text (Err error) bytes h = tt
