-- The number of a definition is below how many there are of its kind: registers, and blocks. A block that isn't the first one
-- has a number above 0.
use Rattle.std.proofs.Common.{◌≡◌, ℕ, zero, suc, ◌+◌, ◌<◌, ◌≤◌, List, [], ◌∷◌, ◌++◌, map, length, slice_get, Bool, true, false, not, ◌&&◌, ◌==◌, Option, Some, None, if◌then◌else◌, arith, refl, ap, ◌∙◌}
use Rattle.std.specs.List.{flat_map}
use Rattle.std.proofs.lemmas.Bool.{not-true, eqb-false, and_parts}
use Rattle.ir_core.specs.declared.token.Token.{Token}
use Rattle.ir_grammar.specs.declared.spelled.SpelledParameter.{SpelledParameter}
use Rattle.ir_grammar.specs.declared.spelled_bodies.SpelledInstruction.{SpelledInstruction}
use Rattle.ir_grammar.specs.declared.spelled_bodies.SpelledBlock.{SpelledBlock}
use Rattle.ir_type_numbers.specs.Numbering.{number_at}
use Rattle.ir_body_names.specs.declared.definitions.Definition.{Definition}
use Rattle.ir_body_names.specs.Definitions.{is_void, parameter_definition, result_definitions, block_definitions, instructions_of}
use Rattle.ir_body_names.specs.BodyFaults.{is_register, is_block, definition_at, is_place}
use Rattle.ir_functions.specs.Scope.{Scope, definition_numbers, number_by}
use Rattle.ir_functions.specs.Instructions.{has_register, value_type}
use Rattle.ir_functions.specs.Functions.{register_types, blocks_from}

-- how many of definitions are registers, and how many blocks
abbrev pub registers_in : List Definition → ℕ
registers_in [] = 0
registers_in (d ∷ ds) = if d.is_block then registers_in ds else registers_in ds + 1

abbrev pub blocks_in : List Definition → ℕ
blocks_in [] = 0
blocks_in (d ∷ ds) = if d.is_block then blocks_in ds + 1 else blocks_in ds

-- ---- below

first_register : (k : Bool) (r b n : ℕ) → not k ≡ true → (if k then b else r) < r + (if k then n else n + 1)
first_register true r b n h = absurd (let e : false ≡ true = h in cc)
first_register false r b n h = omega arith

later_register : (k : Bool) (r n x : ℕ) → x < (if k then r else r + 1) + n → x < r + (if k then n else n + 1)
later_register true r n x h = h
later_register false r n x h = omega arith

register_below : (ds : List Definition) (r b place : ℕ) → is_register (slice_get ds place) ≡ true
    → number_at (definition_numbers r b ds) place < r + registers_in ds
register_below [] r b place h = absurd (let e : false ≡ true = h in cc)
register_below (d ∷ ds) r b zero h = first_register d.is_block r b (registers_in ds) h
register_below (d ∷ ds) r b (suc place) h =
    later_register d.is_block r (registers_in ds) (number_at (definition_numbers (if d.is_block then r else r + 1) (if d.is_block then b + 1 else b) ds) place)
    (register_below ds (if d.is_block then r else r + 1) (if d.is_block then b + 1 else b) place h)

first_block : (k : Bool) (r b n : ℕ) → k ≡ true → (b ≤ (if k then b else r)) × ((if k then b else r) < b + (if k then n + 1 else n))
first_block true r b n h = (omega arith, omega arith)
first_block false r b n h = absurd cc

later_block : (k : Bool) (b n x : ℕ) → ((if k then b + 1 else b) ≤ x) × (x < (if k then b + 1 else b) + n) → (b ≤ x) × (x < b + (if k then n + 1 else n))
later_block true b n x h = (omega (arith, h.0), omega (arith, h.1))
later_block false b n x h = h

block_within : (ds : List Definition) (r b place : ℕ) → is_block (slice_get ds place) ≡ true
    → (b ≤ number_at (definition_numbers r b ds) place) × (number_at (definition_numbers r b ds) place < b + blocks_in ds)
block_within [] r b place h = absurd (let e : false ≡ true = h in cc)
block_within (d ∷ ds) r b zero h = first_block d.is_block r b (blocks_in ds) h
block_within (d ∷ ds) r b (suc place) h =
    later_block d.is_block b (blocks_in ds) (number_at (definition_numbers (if d.is_block then r else r + 1) (if d.is_block then b + 1 else b) ds) place)
    (block_within ds (if d.is_block then r else r + 1) (if d.is_block then b + 1 else b) place h)

pub register_at : (ds : List Definition) (o : Option ℕ) → is_register (definition_at ds o) ≡ true → number_by (definition_numbers 0 0 ds) o < registers_in ds
register_at ds None h = absurd (let e : false ≡ true = h in cc)
register_at ds (Some place) h = let b = register_below ds 0 0 place h in omega arith

pub block_at : (ds : List Definition) (o : Option ℕ) → is_block (definition_at ds o) ≡ true → number_by (definition_numbers 0 0 ds) o < blocks_in ds
block_at ds None h = absurd (let e : false ≡ true = h in cc)
block_at ds (Some place) h = let b = (block_within ds 0 0 place h).1 in omega arith

-- ---- the first block

after_first : (ps : List SpelledParameter) (label : Option Token) (ds : List Definition) (r place : ℕ)
    → is_block (slice_get (map parameter_definition ps ++ record { name = label; is_block = true } ∷ ds) place) ≡ true → (place ≡ length ps → ⊥)
    → 1 ≤ number_at (definition_numbers r 0 (map parameter_definition ps ++ record { name = label; is_block = true } ∷ ds)) place
after_first [] label ds r zero h other = absurd (other refl)
after_first [] label ds r (suc place) h other = (block_within ds r 1 place h).0
after_first (p ∷ ps) label ds r zero h other = absurd (let e : false ≡ true = h in cc)
after_first (p ∷ ps) label ds r (suc place) h other = after_first ps label ds (r + 1) place h (λ e. other (ap suc e))

pub later_at : (ps : List SpelledParameter) (label : Option Token) (ds : List Definition) (o : Option ℕ)
    → is_block (definition_at (map parameter_definition ps ++ record { name = label; is_block = true } ∷ ds) o) && not (is_place (length ps) o) ≡ true
    → 0 < number_by (definition_numbers 0 0 (map parameter_definition ps ++ record { name = label; is_block = true } ∷ ds)) o
later_at ps label ds None h = absurd (let e : false ≡ true = h in cc)
later_at ps label ds (Some place) h =
    let both = and_parts (is_block (slice_get (map parameter_definition ps ++ record { name = label; is_block = true } ∷ ds) place)) (not (place == length ps)) h in
    let b = after_first ps label ds 0 place both.0 (eqb-false place (length ps) (not-true (place == length ps) both.1)) in omega arith

-- ---- how many there are

more_registers : (k : Bool) (n a b : ℕ) → n ≡ a + b → (if k then n else n + 1) ≡ (if k then a else a + 1) + b
more_registers true n a b h = h
more_registers false n a b h = omega arith

registers-append : (xs ys : List Definition) → registers_in (xs ++ ys) ≡ registers_in xs + registers_in ys
registers-append [] ys = omega arith
registers-append (d ∷ xs) ys = more_registers d.is_block (registers_in (xs ++ ys)) (registers_in xs) (registers_in ys) (registers-append xs ys)

more_blocks : (k : Bool) (n a b : ℕ) → n ≡ a + b → (if k then n + 1 else n) ≡ (if k then a + 1 else a) + b
more_blocks true n a b h = omega arith
more_blocks false n a b h = h

blocks-append : (xs ys : List Definition) → blocks_in (xs ++ ys) ≡ blocks_in xs + blocks_in ys
blocks-append [] ys = omega arith
blocks-append (d ∷ xs) ys = more_blocks d.is_block (blocks_in (xs ++ ys)) (blocks_in xs) (blocks_in ys) (blocks-append xs ys)

registers-parameters : (ps : List SpelledParameter) → registers_in (map parameter_definition ps) ≡ length ps
registers-parameters [] = refl
registers-parameters (p ∷ ps) = let h = registers-parameters ps in omega arith

blocks-parameters : (ps : List SpelledParameter) → blocks_in (map parameter_definition ps) ≡ 0
blocks-parameters [] = refl
blocks-parameters (p ∷ ps) = blocks-parameters ps

-- what an instruction defines, by whether it defines a register
abbrev definition_if : Bool → Option Token → List Definition
definition_if b name = if b then record { name = name; is_block = false } ∷ [] else []

result_if : (b : Bool) (name : Option Token) (ds : List Definition) (t : ℕ) (ts : List ℕ) → registers_in ds ≡ length ts
    → registers_in (definition_if b name ++ ds) ≡ length (if b then t ∷ ts else ts)
result_if true name ds t ts h = omega arith
result_if false name ds t ts h = h

registers-results : (s : Scope) (is : List SpelledInstruction)
    → registers_in (flat_map (result_definitions (is_void s.names.types s.names.numbers)) is) ≡ length (register_types s is)
registers-results s [] = refl
registers-results s (i ∷ is) =
    result_if (has_register s i) i.result (flat_map (result_definitions (is_void s.names.types s.names.numbers)) is) (value_type s i.operation) (register_types s is)
    (registers-results s is)

no_block_if : (b : Bool) (name : Option Token) (ds : List Definition) → blocks_in (definition_if b name ++ ds) ≡ blocks_in ds
no_block_if true name ds = refl
no_block_if false name ds = refl

blocks-results : (s : Scope) (is : List SpelledInstruction) → blocks_in (flat_map (result_definitions (is_void s.names.types s.names.numbers)) is) ≡ 0
blocks-results s [] = refl
blocks-results s (i ∷ is) =
    let one = no_block_if (has_register s i) i.result (flat_map (result_definitions (is_void s.names.types s.names.numbers)) is) in
    one ∙ blocks-results s is

more_types : (b : Bool) (t : ℕ) (ts : List ℕ) (xs ys : ℕ) → xs ≡ length ts + ys → (us : List ℕ) → length us ≡ xs
    → length (if b then t ∷ us else us) ≡ length (if b then t ∷ ts else ts) + ys
more_types true t ts xs ys h us e = omega arith
more_types false t ts xs ys h us e = omega arith

types-append : (s : Scope) (xs ys : List SpelledInstruction) → length (register_types s (xs ++ ys)) ≡ length (register_types s xs) + length (register_types s ys)
types-append s [] ys = omega arith
types-append s (i ∷ xs) ys =
    more_types (has_register s i) (value_type s i.operation) (register_types s xs) (length (register_types s (xs ++ ys))) (length (register_types s ys)) (types-append s xs ys)
    (register_types s (xs ++ ys)) refl

registers-blocks : (s : Scope) (all : List SpelledInstruction) (bs : List SpelledBlock)
    → registers_in (flat_map (block_definitions (is_void s.names.types s.names.numbers) all) bs) ≡ length (register_types s (flat_map (instructions_of all) bs))
registers-blocks s all [] = refl
registers-blocks s all (b ∷ bs) =
    let own : List Definition = flat_map (result_definitions (is_void s.names.types s.names.numbers)) (instructions_of all b) in
    let more : List Definition = flat_map (block_definitions (is_void s.names.types s.names.numbers) all) bs in
    let parts : registers_in (own ++ more) ≡ registers_in own + registers_in more = registers-append own more in
    let here = registers-results s (instructions_of all b) in
    let rest = registers-blocks s all bs in
    let types = types-append s (instructions_of all b) (flat_map (instructions_of all) bs) in
    omega arith

blocks-blocks : (s : Scope) (all : List SpelledInstruction) (bs : List SpelledBlock)
    → blocks_in (flat_map (block_definitions (is_void s.names.types s.names.numbers) all) bs) ≡ length bs
blocks-blocks s all [] = refl
blocks-blocks s all (b ∷ bs) =
    let own : List Definition = flat_map (result_definitions (is_void s.names.types s.names.numbers)) (instructions_of all b) in
    let more : List Definition = flat_map (block_definitions (is_void s.names.types s.names.numbers) all) bs in
    let parts : blocks_in (own ++ more) ≡ blocks_in own + blocks_in more = blocks-append own more in
    let here = blocks-results s (instructions_of all b) in
    let rest = blocks-blocks s all bs in
    omega arith

pub length-blocks_from : (all : List SpelledInstruction) (first : ℕ) (bs : List SpelledBlock) → length (blocks_from all first bs) ≡ length bs
length-blocks_from all first [] = refl
length-blocks_from all first (b ∷ bs) = ap suc (length-blocks_from all (first + length (instructions_of all b)) bs)

pub registers-all : (s : Scope) (all : List SpelledInstruction) (ps : List SpelledParameter) (bs : List SpelledBlock)
    → registers_in (map parameter_definition ps ++ flat_map (block_definitions (is_void s.names.types s.names.numbers) all) bs)
    ≡ length ps + length (register_types s (flat_map (instructions_of all) bs))
registers-all s all ps bs =
    let parts = registers-append (map parameter_definition ps) (flat_map (block_definitions (is_void s.names.types s.names.numbers) all) bs) in
    let a = registers-parameters ps in let b = registers-blocks s all bs in omega arith

pub blocks-all : (s : Scope) (all : List SpelledInstruction) (ps : List SpelledParameter) (bs : List SpelledBlock)
    → blocks_in (map parameter_definition ps ++ flat_map (block_definitions (is_void s.names.types s.names.numbers) all) bs) ≡ length bs
blocks-all s all ps bs =
    let parts = blocks-append (map parameter_definition ps) (flat_map (block_definitions (is_void s.names.types s.names.numbers) all) bs) in
    let a = blocks-parameters ps in let b = blocks-blocks s all bs in omega arith
