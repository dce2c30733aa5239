-- A text has few enough functions, definitions and instructions to number them.
use Rattle.std.proofs.Common.{◌≡◌, ℕ, ◌+◌, ◌^◌, ◌<◌, ◌≤◌, Bool, true, false, cond, List, [], ◌∷◌, length, take, drop, map, Option, Some, None, sym, ◌∙◌, ap, arith, length-append}
use Rattle.std.specs.List.{flat_map, sum_by}
use Rattle.std.proofs.lemmas.List.{length-map, length-take, length-drop}
use Rattle.std.proofs.lemmas.List.Sums.{sum_by-cons, sum_by-take-drop, sum_by-take-le}
use Rattle.ir_core.specs.declared.lib_functions.Lib.{Lib}
use Rattle.ir_grammar.specs.declared.spelled.SpelledItem.{SpelledItem}
use Rattle.ir_grammar.specs.declared.spelled.SpelledItem.TheVariants as items
use Rattle.ir_grammar.specs.declared.spelled_bodies.SpelledInstruction.{SpelledInstruction}
use Rattle.ir_grammar.specs.declared.spelled_bodies.SpelledBlock.{SpelledBlock}
use Rattle.ir_grammar.specs.Spelled.{Store}
use Rattle.ir_grammar.specs.SoundStore.{size_of}
use Rattle.ir_read_items.specs.Rows.{AreRows, Each}
use Rattle.ir_read_items.proofs.Runs.{each_append}
use Rattle.ir_body_names.specs.Definitions.{defines_register, result_definitions, instructions_of, block_definitions, parameter_definition, is_void}
use Rattle.ir_body_names.specs.BodyFaults.{Surroundings}
use Rattle.ir_body_names.specs.declared.definitions.Definition.{Definition}
use Rattle.ir_functions.specs.Functions.{Spelled, all_instructions}
use Rattle.ir_read_top.specs.Functions.{spelled_in, spelled_functions, declare_key, declare_keys, IsShort}

-- how many instructions blocks have
abbrev counts : List SpelledBlock → ℕ
counts bs = sum_by (λ (b : SpelledBlock). b.count) bs

counts-cons : (b : SpelledBlock) (bs : List SpelledBlock) → counts (b ∷ bs) ≡ b.count + counts bs
counts-cons b bs = sum_by-cons (λ (b : SpelledBlock). b.count) b bs

-- rows have as many as there are
rows_count : (from : ℕ) (is : List SpelledInstruction) (bs : List SpelledBlock) → AreRows from is bs → counts bs ≡ length is
rows_count from is [] e = ap length (sym e)
rows_count from is (b ∷ bs) (own, more, e, row, rest) =
    let h : counts bs ≡ length more = rows_count (from + length own) more bs rest in
    let c : b.count ≡ length own = row.count in
    let l : length is ≡ length own + length more = ap length e ∙ length-append own more in
    let s = counts-cons b bs in
    omega arith

-- some of the blocks have no more
part_count : (bs : List SpelledBlock) (entry n : ℕ) → counts (take n (drop entry bs)) ≤ counts bs
part_count bs entry n =
    let a : counts (take n (drop entry bs)) ≤ counts (drop entry bs) = sum_by-take-le (λ (b : SpelledBlock). b.count) (drop entry bs) n in
    let b = sum_by-take-drop (λ (b : SpelledBlock). b.count) bs entry in
    omega arith

part_length : {A : Type 0} (xs : List A) (first n : ℕ) → length (take n (drop first xs)) ≤ length xs
part_length xs first n =
    let a = length-take n (drop first xs) in
    let b = length-drop first xs in
    omega arith

own_length : (all : List SpelledInstruction) (b : SpelledBlock) → length (instructions_of all b) ≤ b.count
own_length all b = let a = length-take b.count (drop b.first all) in omega arith

instructions_length : (all : List SpelledInstruction) (bs : List SpelledBlock) → length (flat_map (instructions_of all) bs) ≤ counts bs
instructions_length all [] = omega arith
instructions_length all (b ∷ bs) =
    let h = instructions_length all bs in
    let o = own_length all b in
    let l = length-append (instructions_of all b) (flat_map (instructions_of all) bs) in
    let s = counts-cons b bs in
    omega arith

one_result : (void : ℕ → Bool) (i : SpelledInstruction) (b : Bool) → length (cond b (record { name = i.result; is_block = false } ∷ []) (let none : List Definition = [] in none)) ≤ 1
one_result void i true = omega arith
one_result void i false = omega arith

results_length : (void : ℕ → Bool) (is : List SpelledInstruction) → length (flat_map (result_definitions void) is) ≤ length is
results_length void [] = omega arith
results_length void (i ∷ is) =
    let h = results_length void is in
    let o = one_result void i (defines_register void i) in
    let l = length-append (result_definitions void i) (flat_map (result_definitions void) is) in
    omega arith

blocks_length : (void : ℕ → Bool) (all : List SpelledInstruction) (bs : List SpelledBlock) → length (flat_map (block_definitions void all) bs) ≤ length bs + counts bs
blocks_length void all [] = omega arith
blocks_length void all (b ∷ bs) =
    let h = blocks_length void all bs in
    let r = results_length void (instructions_of all b) in
    let o = own_length all b in
    let l = length-append (block_definitions void all b) (flat_map (block_definitions void all) bs) in
    let s = counts-cons b bs in
    omega arith

-- ---- functions

record AreSmall (store : Store) (f : Spelled) : Type 0 where
  parameters : length f.parameters ≤ length store.parameters
  blocks : length f.blocks ≤ length store.bodies.blocks
  count : counts f.blocks ≤ counts store.bodies.blocks

small_in : (store : Store) (item : SpelledItem) → Each (AreSmall store) (spelled_in store item)
small_in store items.Skipped = tt
small_in store (items.Type name ty) = tt
small_in store (items.Global name constant ty value) = tt
small_in store items.Used = tt
small_in store (items.Declare name ty first count) = tt
small_in store (items.Define name ty first count entry blocks) = (
  record {
    parameters = part_length store.parameters first count;
    blocks = part_length store.bodies.blocks entry blocks;
    count = part_count store.bodies.blocks entry blocks;
  },
  tt,
)
small_in store (items.Node number) = tt
small_in store (items.NodeList name) = tt

small_functions : (store : Store) (rest : List SpelledItem) → Each (AreSmall store) (spelled_functions store rest)
small_functions store [] = tt
small_functions store (item ∷ rest) = each_append (AreSmall store) (spelled_in store item) (spelled_functions store rest) (small_in store item) (small_functions store rest)

short_one : (names : Surroundings) (store : Store) (f : Spelled) → names.bodies ≡ store.bodies → counts store.bodies.blocks ≡ length store.bodies.instructions → size_of store < 2 ^ 28 → AreSmall store f → IsShort names f
short_one names store f same whole small a =
    let p = a.parameters in
    let b = a.blocks in
    let c = a.count in
    let void : ℕ → Bool = is_void names.types names.numbers in
    let all : List SpelledInstruction = names.bodies.instructions in
    let d = blocks_length void all f.blocks in
    let i = instructions_length all f.blocks in
    let m = length-map f.parameters parameter_definition in
    let l = length-append (map parameter_definition f.parameters) (flat_map (block_definitions void all) f.blocks) in
    record { few = omega arith; short = omega arith }

each_of : {A : Type 0} (P Q : A → Type 0) (xs : List A) → ((x : A) → P x → Q x) → Each P xs → Each Q xs
each_of P Q [] f h = tt
each_of P Q (x ∷ xs) f h = (f x h.0, each_of P Q xs f h.1)

-- each function of a text is short
pub short_functions : (names : Surroundings) (store : Store) (rest : List SpelledItem) → names.bodies ≡ store.bodies → AreRows 0 store.bodies.instructions store.bodies.blocks → size_of store < 2 ^ 28
    → Each (IsShort names) (spelled_functions store rest)
short_functions names store rest same rows small =
    each_of (AreSmall store) (IsShort names) (spelled_functions store rest)
    (λ f. short_one names store f same (rows_count 0 store.bodies.instructions store.bodies.blocks rows) small)
    (small_functions store rest)

-- a function has fewer than 2^28 registers, each a parameter or the result of one of its instructions
small_one : (names : Surroundings) (store : Store) (f : Spelled) → names.bodies ≡ store.bodies → counts store.bodies.blocks ≡ length store.bodies.instructions
    → size_of store < 2 ^ 28 → AreSmall store f → length f.parameters + length (all_instructions names.bodies.instructions f.blocks) < 2 ^ 28
small_one names store f same whole small a =
    let p = a.parameters in
    let c = a.count in
    let i = instructions_length names.bodies.instructions f.blocks in
    omega arith

pub few_instructions : (names : Surroundings) (store : Store) (rest : List SpelledItem) → names.bodies ≡ store.bodies → AreRows 0 store.bodies.instructions store.bodies.blocks → size_of store < 2 ^ 28
    → Each (λ (f : Spelled). length f.parameters + length (all_instructions names.bodies.instructions f.blocks) < 2 ^ 28) (spelled_functions store rest)
few_instructions names store rest same rows small =
    each_of (AreSmall store) (λ (f : Spelled). length f.parameters + length (all_instructions names.bodies.instructions f.blocks) < 2 ^ 28) (spelled_functions store rest)
    (λ f. small_one names store f same (rows_count 0 store.bodies.instructions store.bodies.blocks rows) small)
    (small_functions store rest)

-- ---- how many functions there are

one_function : (store : Store) (item : SpelledItem) → length (spelled_in store item) ≤ 1
one_function store items.Skipped = omega arith
one_function store (items.Type name ty) = omega arith
one_function store (items.Global name constant ty value) = omega arith
one_function store items.Used = omega arith
one_function store (items.Declare name ty first count) = omega arith
one_function store (items.Define name ty first count entry blocks) = omega arith
one_function store (items.Node number) = omega arith
one_function store (items.NodeList name) = omega arith

pub few_functions : (store : Store) (rest : List SpelledItem) → length (spelled_functions store rest) ≤ length rest
few_functions store [] = omega arith
few_functions store (item ∷ rest) =
    let h = few_functions store rest in
    let o = one_function store item in
    let l = length-append (spelled_in store item) (spelled_functions store rest) in
    omega arith

one_key : (source : List ℕ) (item : SpelledItem) (lib : Option Lib) → length (declare_key source item lib) ≤ 1
one_key source items.Skipped lib = omega arith
one_key source (items.Type name ty) lib = omega arith
one_key source (items.Global name constant ty value) lib = omega arith
one_key source items.Used lib = omega arith
one_key source (items.Declare name ty first count) None = omega arith
one_key source (items.Declare name ty first count) (Some lib) = omega arith
one_key source (items.Define name ty first count entry blocks) lib = omega arith
one_key source (items.Node number) lib = omega arith
one_key source (items.NodeList name) lib = omega arith

pub few_declares : (source : List ℕ) (rest : List SpelledItem) (libs : List (Option Lib)) → length (declare_keys source rest libs) ≤ length rest
few_declares source [] libs = omega arith
few_declares source (item ∷ rest) [] = omega arith
few_declares source (item ∷ rest) (lib ∷ libs) =
    let h = few_declares source rest libs in
    let o = one_key source item lib in
    let l = length-append (declare_key source item lib) (declare_keys source rest libs) in
    omega arith
