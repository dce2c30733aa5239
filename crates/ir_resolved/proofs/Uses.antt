-- In a body without a fault each name that an instruction uses is there.
use Rattle.std.proofs.Common.{◌≡◌, ℕ, List, [], ◌∷◌, length, take, drop, Bool, true, false, not, None, refl}
use Rattle.std.specs.List.{flat_map}
use Rattle.ir_core.specs.declared.faults.Fault.TheVariants.{Unknown}
use Rattle.ir_core.specs.declared.token.Token.{Token}
use Rattle.ir_grammar.specs.declared.spelled_bodies.SpelledInstruction.{SpelledInstruction}
use Rattle.ir_grammar.specs.declared.spelled_bodies.SpelledBlock.{SpelledBlock}
use Rattle.ir_read_items.specs.Rows.{Each}
use Rattle.ir_names.specs.First.{first_fault}
use Rattle.ir_names.specs.Faults.{fault_if}
use Rattle.ir_names.proofs.First.{none_of_none}
use Rattle.ir_body_names.specs.declared.definitions.Definition.{Definition}
use Rattle.ir_body_names.specs.Definitions.{definition_keys, instructions_of}
use Rattle.ir_body_names.specs.Uses.{operation_uses, attachment_uses, instruction_uses, block_uses, uses}
use Rattle.ir_body_names.specs.BodyFaults.{Surroundings, is_there, used_token, use_faults, definitions_of, definitions_faults, body_faults}
use Rattle.ir_functions.specs.Functions.{Spelled, all_instructions}
use Rattle.ir_resolved.proofs.Lists.{AllPass, append_none, pass_split, pass_parts, each_append, each_whole, each_take, each_drop, each_weaker}

-- what a function defines, and its keys
abbrev pub defined_in : Surroundings → Spelled → List Definition
defined_in names f = definitions_of names f.parameters f.blocks

abbrev pub keys_in : Surroundings → Spelled → List (List ℕ)
keys_in names f = definition_keys names.source (defined_in names f)

-- what the names in an instruction are used for is there, beside its attachments
abbrev pub AreUsed : Surroundings → Spelled → SpelledInstruction → Type 0
AreUsed names f i = AllPass (is_there names (keys_in names f) (defined_in names f) (length f.parameters)) (operation_uses names.bodies i.operation)

-- ---- one use

there_by : (b : Bool) (token : Token) → fault_if (not b) Unknown token ≡ [] → b ≡ true
there_by true token h = refl
there_by false token h = cc

each_there : {A : Type 0} (test : A → Bool) (token : A → Token) (us : List A) → flat_map (λ (u : A). fault_if (not (test u)) Unknown (token u)) us ≡ [] → AllPass test us
each_there test token [] h = tt
each_there {A} test token (u ∷ us) h =
    let p = append_none (fault_if (not (test u)) Unknown (token u)) (flat_map (λ (x : A). fault_if (not (test x)) Unknown (token x)) us) h in
    (there_by (test u) (token u) p.0, each_there test token us p.1)

-- ---- the uses of a body

-- the same of each instruction of a block, with its attachments
abbrev AllUsed : Surroundings → Spelled → SpelledInstruction → Type 0
AllUsed names f i = AllPass (is_there names (keys_in names f) (defined_in names f) (length f.parameters)) (instruction_uses names.source names.bodies i)

used_in : (names : Surroundings) (f : Spelled) (blocks : List SpelledBlock)
    → AllPass (is_there names (keys_in names f) (defined_in names f) (length f.parameters)) (uses names.source names.bodies blocks)
    → Each (AllUsed names f) (all_instructions names.bodies.instructions blocks)
used_in names f blocks h =
    let all : List SpelledInstruction = names.bodies.instructions in
    each_whole (AllUsed names f) (instructions_of all) blocks
    (each_weaker
    (λ (b : SpelledBlock). AllPass (is_there names (keys_in names f) (defined_in names f) (length f.parameters)) (block_uses names.source names.bodies b))
    (λ (b : SpelledBlock). Each (AllUsed names f) (instructions_of all b))
    (λ (b : SpelledBlock) u.
    pass_parts (is_there names (keys_in names f) (defined_in names f) (length f.parameters)) (instruction_uses names.source names.bodies) (instructions_of all b) u)
    blocks
    (pass_parts (is_there names (keys_in names f) (defined_in names f) (length f.parameters)) (block_uses names.source names.bodies) blocks h))

pub uses_there : (names : Surroundings) (f : Spelled) → first_fault (body_faults names f.parameters f.blocks) ≡ None
    → Each (AreUsed names f) (all_instructions names.bodies.instructions f.blocks)
uses_there names f h =
    let keys : List (List ℕ) = keys_in names f in
    let defined : List Definition = defined_in names f in
    let none = none_of_none (body_faults names f.parameters f.blocks) h in
    let used = append_none (definitions_faults names.source keys 0 [] defined)
    (flat_map (use_faults names keys defined (length f.parameters)) (uses names.source names.bodies f.blocks)) none in
    each_weaker (AllUsed names f) (AreUsed names f)
    (λ (i : SpelledInstruction) u.
    (pass_split (is_there names keys defined (length f.parameters)) (operation_uses names.bodies i.operation)
    (flat_map (attachment_uses names.source) (take i.count (drop i.first names.bodies.attachments))) u).0)
    (all_instructions names.bodies.instructions f.blocks)
    (used_in names f f.blocks
    (each_there (is_there names keys defined (length f.parameters)) used_token (uses names.source names.bodies f.blocks) used.1))

-- what holds of each instruction that was read holds of those of blocks
pub each_instruction : (P : SpelledInstruction → Type 0) (all : List SpelledInstruction) (blocks : List SpelledBlock)
    → Each P all → Each P (all_instructions all blocks)
each_instruction P all [] h = tt
each_instruction P all (b ∷ rest) h =
    each_append P (instructions_of all b) (all_instructions all rest) (each_take P b.count (drop b.first all) (each_drop P b.first all h))
    (each_instruction P all rest h)
