-- Each step of reading bodies keeps what was read sound.
use Rattle.std.proofs.Common.{ℕ, ◌+◌, List, [], ◌∷◌, ◌++◌, length, ◌≤◌, ◌<◌, ◌≡◌, Option, All, arith, length-append}
use Rattle.ir_core.specs.declared.token.Token.{Token}
use Rattle.ir_grammar.specs.declared.terminal.Terminal.{Terminal}
use Rattle.ir_grammar.specs.declared.spelled.SpelledConstant.{SpelledConstant}
use Rattle.ir_grammar.specs.declared.spelled_bodies.SpelledOperand.{SpelledOperand}
use Rattle.ir_grammar.specs.declared.spelled_bodies.TypedOperand.{TypedOperand}
use Rattle.ir_grammar.specs.declared.spelled_bodies.SpelledIncoming.{SpelledIncoming}
use Rattle.ir_grammar.specs.declared.spelled_bodies.SpelledCase.{SpelledCase}
use Rattle.ir_grammar.specs.declared.spelled_bodies.SpelledAttachment.{SpelledAttachment}
use Rattle.ir_grammar.specs.declared.spelled_bodies.SpelledOperation.{SpelledOperation}
use Rattle.ir_grammar.specs.declared.spelled_bodies.SpelledInstruction.{SpelledInstruction}
use Rattle.ir_grammar.specs.declared.spelled_bodies.SpelledBlock.{SpelledBlock}
use Rattle.ir_grammar.specs.declared.spelled.SpelledParameter.{SpelledParameter}
use Rattle.ir_grammar.specs.declared.spelled.SpelledItem.TheVariants as items
use Rattle.ir_grammar.specs.Rules.{nothing, base, list}
use Rattle.ir_grammar.specs.Spelled.{Store}
use Rattle.ir_grammar.specs.SpelledBodies.{add_operand, with_operands, with_incoming, with_cases, with_attachments, with_instructions, with_blocks, with_parameters, add_define, add_phi, add_step, add_call, add_switch, add_instruction, add_block}
use Rattle.ir_grammar.specs.Names.{Base, Carrier, operand, typed, incoming, case, operation, instruction, block, parameter, shared}
use Rattle.ir_grammar.specs.SoundStore.{counts_of, IsSoundConstant, IsSoundOperand, IsSoundTyped, IsSoundIncoming, IsSoundCase, IsSoundOperation, IsSoundInstruction, IsSoundBlock, IsSoundParameter, IsSoundStore, size_of}
use Rattle.std.proofs.lemmas.List.Elements.{All-append, All-cons, All-nil}
use Rattle.ir_grammar.proofs.Kept.{SoundValue, Kept, sound_later}
use Rattle.ir_grammar.proofs.SoundBodies.{all_more, same_bodies, operand_stays, typed_stays, incoming_stays, case_stays, operation_stays, instruction_stays, block_stays}
use Rattle.ir_grammar.proofs.SoundSteps.{SoundIn, Grown, grown_on, below, reading, lists_stay, parameters_sound, kept_constant, kept_item}

-- a sound list of values is sound one by one
list_sound : (b : Base) (xs : List (Carrier b)) (st : Store) → SoundValue shared reading (list (base b)) xs st → All (λ x. SoundIn b x st) xs
list_sound b [] st h = All-nil (λ x. SoundIn b x st)
list_sound b (x ∷ xs) st h = All-cons (λ x. SoundIn b x st) x xs h.0 (list_sound b xs st h.1)

-- a constant of one token is added
pub kept_operand : (t : Terminal) (c : SpelledConstant) (st : Store) (budget : ℕ) → IsSoundStore st → IsSoundConstant (counts_of st) c → size_of st + 1 ≤ budget
    → Kept shared reading (base operand) (add_operand t c st).0 st (add_operand t c st).1 budget
kept_operand t c st budget good h le =
    let k = kept_constant c st budget good h le in
    record { good = k.good; grows = k.grows; sound = k.sound; light = k.light }

-- the store behind these operands is sound
operands_in : (found : List TypedOperand) (st : Store) → IsSoundStore st → SoundValue shared reading (list (base typed)) found st → IsSoundStore (with_operands found st) × Grown st (with_operands found st)
operands_in found st good h =
    let mid : Store = with_operands found st in
    let longer : length (st.bodies.operands ++ found) ≡ length st.bodies.operands + length found = length-append st.bodies.operands found in
    let g : Grown st mid = record { types = omega arith; fields = omega arith; constants = omega arith; elements = omega arith; indices = omega arith; parameters = omega arith; bodies = record { operands = omega (arith, longer); incoming = omega arith; cases = omega arith; attachments = omega arith; instructions = omega arith; blocks = omega arith } } in
    let s = lists_stay st mid good g in (
      record {
        types = s.types;
        fields = s.fields;
        constants = s.constants;
        elements = s.elements;
        indices = s.indices;
        parameters = s.parameters;
        items = s.items;
        bodies = record {
          operands = All-append (IsSoundTyped (counts_of mid)) st.bodies.operands found s.bodies.operands (all_more (IsSoundTyped (counts_of st)) (IsSoundTyped (counts_of mid)) found (typed_stays (counts_of st) (counts_of mid) (below st mid g)) (list_sound typed found st h));
          incoming = s.bodies.incoming;
          cases = s.bodies.cases;
          instructions = s.bodies.instructions;
          blocks = s.bodies.blocks;
        };
      },
      g,
    )

-- the store behind these entries of a phi is sound
incoming_in : (found : List SpelledIncoming) (st : Store) → IsSoundStore st → SoundValue shared reading (list (base incoming)) found st → IsSoundStore (with_incoming found st) × Grown st (with_incoming found st)
incoming_in found st good h =
    let mid : Store = with_incoming found st in
    let longer : length (st.bodies.incoming ++ found) ≡ length st.bodies.incoming + length found = length-append st.bodies.incoming found in
    let g : Grown st mid = record { types = omega arith; fields = omega arith; constants = omega arith; elements = omega arith; indices = omega arith; parameters = omega arith; bodies = record { operands = omega arith; incoming = omega (arith, longer); cases = omega arith; attachments = omega arith; instructions = omega arith; blocks = omega arith } } in
    let s = lists_stay st mid good g in (
      record {
        types = s.types;
        fields = s.fields;
        constants = s.constants;
        elements = s.elements;
        indices = s.indices;
        parameters = s.parameters;
        items = s.items;
        bodies = record {
          operands = s.bodies.operands;
          incoming = All-append (IsSoundIncoming (counts_of mid)) st.bodies.incoming found s.bodies.incoming (all_more (IsSoundIncoming (counts_of st)) (IsSoundIncoming (counts_of mid)) found (incoming_stays (counts_of st) (counts_of mid) (below st mid g)) (list_sound incoming found st h));
          cases = s.bodies.cases;
          instructions = s.bodies.instructions;
          blocks = s.bodies.blocks;
        };
      },
      g,
    )

-- the store behind these cases is sound
cases_in : (found : List SpelledCase) (st : Store) → IsSoundStore st → SoundValue shared reading (list (base case)) found st → IsSoundStore (with_cases found st) × Grown st (with_cases found st)
cases_in found st good h =
    let mid : Store = with_cases found st in
    let longer : length (st.bodies.cases ++ found) ≡ length st.bodies.cases + length found = length-append st.bodies.cases found in
    let g : Grown st mid = record { types = omega arith; fields = omega arith; constants = omega arith; elements = omega arith; indices = omega arith; parameters = omega arith; bodies = record { operands = omega arith; incoming = omega arith; cases = omega (arith, longer); attachments = omega arith; instructions = omega arith; blocks = omega arith } } in
    let s = lists_stay st mid good g in (
      record {
        types = s.types;
        fields = s.fields;
        constants = s.constants;
        elements = s.elements;
        indices = s.indices;
        parameters = s.parameters;
        items = s.items;
        bodies = record {
          operands = s.bodies.operands;
          incoming = s.bodies.incoming;
          cases = All-append (IsSoundCase (counts_of mid)) st.bodies.cases found s.bodies.cases (all_more (IsSoundCase (counts_of st)) (IsSoundCase (counts_of mid)) found (case_stays (counts_of st) (counts_of mid) (below st mid g)) (list_sound case found st h));
          instructions = s.bodies.instructions;
          blocks = s.bodies.blocks;
        };
      },
      g,
    )

-- the store behind these instructions is sound
instructions_in : (found : List SpelledInstruction) (st : Store) → IsSoundStore st → SoundValue shared reading (list (base instruction)) found st → IsSoundStore (with_instructions found st) × Grown st (with_instructions found st)
instructions_in found st good h =
    let mid : Store = with_instructions found st in
    let longer : length (st.bodies.instructions ++ found) ≡ length st.bodies.instructions + length found = length-append st.bodies.instructions found in
    let g : Grown st mid = record { types = omega arith; fields = omega arith; constants = omega arith; elements = omega arith; indices = omega arith; parameters = omega arith; bodies = record { operands = omega arith; incoming = omega arith; cases = omega arith; attachments = omega arith; instructions = omega (arith, longer); blocks = omega arith } } in
    let s = lists_stay st mid good g in (
      record {
        types = s.types;
        fields = s.fields;
        constants = s.constants;
        elements = s.elements;
        indices = s.indices;
        parameters = s.parameters;
        items = s.items;
        bodies = record {
          operands = s.bodies.operands;
          incoming = s.bodies.incoming;
          cases = s.bodies.cases;
          instructions = All-append (IsSoundInstruction (counts_of mid)) st.bodies.instructions found s.bodies.instructions (all_more (IsSoundInstruction (counts_of st)) (IsSoundInstruction (counts_of mid)) found (instruction_stays (counts_of st) (counts_of mid) (below st mid g)) (list_sound instruction found st h));
          blocks = s.bodies.blocks;
        };
      },
      g,
    )

-- the store behind these attachments is sound
attachments_in : (found : List SpelledAttachment) (st : Store) → IsSoundStore st → IsSoundStore (with_attachments found st) × Grown st (with_attachments found st)
attachments_in found st good =
    let mid : Store = with_attachments found st in
    let longer : length (st.bodies.attachments ++ found) ≡ length st.bodies.attachments + length found = length-append st.bodies.attachments found in
    let g : Grown st mid = record { types = omega arith; fields = omega arith; constants = omega arith; elements = omega arith; indices = omega arith; parameters = omega arith; bodies = record { operands = omega arith; incoming = omega arith; cases = omega arith; attachments = omega (arith, longer); instructions = omega arith; blocks = omega arith } } in
    let s = lists_stay st mid good g in (
      record {
        types = s.types;
        fields = s.fields;
        constants = s.constants;
        elements = s.elements;
        indices = s.indices;
        parameters = s.parameters;
        items = s.items;
        bodies = record {
          operands = s.bodies.operands;
          incoming = s.bodies.incoming;
          cases = s.bodies.cases;
          instructions = s.bodies.instructions;
          blocks = s.bodies.blocks;
        };
      },
      g,
    )

-- a phi is added
pub kept_phi : (ty : ℕ) (found : List SpelledIncoming) (st : Store) (budget : ℕ) → IsSoundStore st → ty < length st.types → SoundValue shared reading (list (base incoming)) found st → size_of st + length found ≤ budget
    → Kept shared reading (base operation) (add_phi ty found st).0 st (add_phi ty found st).1 budget
kept_phi ty found st budget good ht h le =
    let longer : length (st.bodies.incoming ++ found) ≡ length st.bodies.incoming + length found = length-append st.bodies.incoming found in
    let (good', g) = incoming_in found st good h in
    record { good = good'; grows = g; sound = (ht, omega (arith, longer)); light = omega (arith, longer) }

-- a `getelementptr` is added
pub kept_step : (of : ℕ) (start : SpelledOperand) (found : List TypedOperand) (st : Store) (budget : ℕ) → IsSoundStore st → of < length st.types → IsSoundOperand (counts_of st) start
    → SoundValue shared reading (list (base typed)) found st → size_of st + length found ≤ budget → Kept shared reading (base operation) (add_step of start found st).0 st (add_step of start found st).1 budget
kept_step of start found st budget good ht hs h le =
    let longer : length (st.bodies.operands ++ found) ≡ length st.bodies.operands + length found = length-append st.bodies.operands found in
    let (good', g) = operands_in found st good h in
    record { good = good'; grows = g; sound = (ht, operand_stays (counts_of st) (counts_of (with_operands found st)) (below st (with_operands found st) g) start hs, omega (arith, longer)); light = omega (arith, longer) }

-- a call is added
pub kept_call : (name : Token) (ty : ℕ) (found : List TypedOperand) (st : Store) (budget : ℕ) → IsSoundStore st → ty < length st.types → SoundValue shared reading (list (base typed)) found st → size_of st + length found ≤ budget
    → Kept shared reading (base operation) (add_call name ty found st).0 st (add_call name ty found st).1 budget
kept_call name ty found st budget good ht h le =
    let longer : length (st.bodies.operands ++ found) ≡ length st.bodies.operands + length found = length-append st.bodies.operands found in
    let (good', g) = operands_in found st good h in
    record { good = good'; grows = g; sound = (ht, omega (arith, longer)); light = omega (arith, longer) }

-- a switch is added
pub kept_switch : (value : TypedOperand) (other : Token) (found : List SpelledCase) (st : Store) (budget : ℕ) → IsSoundStore st → IsSoundTyped (counts_of st) value → SoundValue shared reading (list (base case)) found st
    → size_of st + length found ≤ budget → Kept shared reading (base operation) (add_switch value other found st).0 st (add_switch value other found st).1 budget
kept_switch value other found st budget good hv h le =
    let longer : length (st.bodies.cases ++ found) ≡ length st.bodies.cases + length found = length-append st.bodies.cases found in
    let (good', g) = cases_in found st good h in
    record { good = good'; grows = g; sound = (typed_stays (counts_of st) (counts_of (with_cases found st)) (below st (with_cases found st) g) value hv, omega (arith, longer)); light = omega (arith, longer) }

-- an instruction is added
pub kept_instruction : (result : Option Token) (word : Token) (o : SpelledOperation) (found : List SpelledAttachment) (st : Store) (budget : ℕ) → IsSoundStore st → IsSoundOperation (counts_of st) o
    → size_of st + length found ≤ budget → Kept shared reading (base instruction) (add_instruction result word o found st).0 st (add_instruction result word o found st).1 budget
kept_instruction result word o found st budget good ho le =
    let longer : length (st.bodies.attachments ++ found) ≡ length st.bodies.attachments + length found = length-append st.bodies.attachments found in
    let (good', g) = attachments_in found st good in
    record { good = good'; grows = g; sound = (operation_stays (counts_of st) (counts_of (with_attachments found st)) (below st (with_attachments found st) g) o ho, omega (arith, longer)); light = omega (arith, longer) }

-- a block is added
pub kept_block : (label : Option Token) (found : List SpelledInstruction) (st : Store) (budget : ℕ) → IsSoundStore st → SoundValue shared reading (list (base instruction)) found st → 1 ≤ length found → size_of st + length found ≤ budget
    → Kept shared reading (base block) (add_block label found st).0 st (add_block label found st).1 budget
kept_block label found st budget good h full le =
    let longer : length (st.bodies.instructions ++ found) ≡ length st.bodies.instructions + length found = length-append st.bodies.instructions found in
    let (good', g) = instructions_in found st good h in
    record { good = good'; grows = g; sound = (omega (arith, longer), full); light = omega (arith, longer) }

-- the store behind these blocks is sound
blocks_in : (found : List SpelledBlock) (st : Store) → IsSoundStore st → SoundValue shared reading (list (base block)) found st → IsSoundStore (with_blocks found st) × Grown st (with_blocks found st)
blocks_in found st good h =
    let mid : Store = with_blocks found st in
    let longer : length (st.bodies.blocks ++ found) ≡ length st.bodies.blocks + length found = length-append st.bodies.blocks found in
    let g : Grown st mid = record { types = omega arith; fields = omega arith; constants = omega arith; elements = omega arith; indices = omega arith; parameters = omega arith; bodies = record { operands = omega arith; incoming = omega arith; cases = omega arith; attachments = omega arith; instructions = omega arith; blocks = omega (arith, longer) } } in
    let s = lists_stay st mid good g in (
      record {
        types = s.types;
        fields = s.fields;
        constants = s.constants;
        elements = s.elements;
        indices = s.indices;
        parameters = s.parameters;
        items = s.items;
        bodies = record {
          operands = s.bodies.operands;
          incoming = s.bodies.incoming;
          cases = s.bodies.cases;
          instructions = s.bodies.instructions;
          blocks = All-append (IsSoundBlock (counts_of mid)) st.bodies.blocks found s.bodies.blocks (all_more (IsSoundBlock (counts_of st)) (IsSoundBlock (counts_of mid)) found (block_stays (counts_of st) (counts_of mid) (below st mid g)) (list_sound block found st h));
        };
      },
      g,
    )

-- the store behind these parameters is sound
parameters_in : (found : List SpelledParameter) (st : Store) → IsSoundStore st → SoundValue shared reading (list (base parameter)) found st → IsSoundStore (with_parameters found st) × Grown st (with_parameters found st)
parameters_in found st good h =
    let mid : Store = with_parameters found st in
    let longer : length (st.parameters ++ found) ≡ length st.parameters + length found = length-append st.parameters found in
    let g : Grown st mid = record { types = omega arith; fields = omega arith; constants = omega arith; elements = omega arith; indices = omega arith; parameters = omega (arith, longer); bodies = same_bodies st.bodies } in
    let s = lists_stay st mid good g in (
      record {
        types = s.types;
        fields = s.fields;
        constants = s.constants;
        elements = s.elements;
        indices = s.indices;
        parameters = All-append (IsSoundParameter (counts_of mid)) st.parameters found s.parameters (all_more (IsSoundParameter (counts_of st)) (IsSoundParameter (counts_of mid)) found (λ x p. p) (parameters_sound found st h));
        items = s.items;
        bodies = s.bodies;
      },
      g,
    )

-- a definition is added, behind its parameters and blocks
pub kept_define : (name : Token) (ty : ℕ) (found : List SpelledParameter) (blocks : List SpelledBlock) (st : Store) (budget : ℕ) → IsSoundStore st → ty < length st.types → SoundValue shared reading (list (base parameter)) found st
    → SoundValue shared reading (list (base block)) blocks st → size_of st + length found + length blocks + 1 ≤ budget → Kept shared reading nothing (add_define name ty found blocks st).0 st (add_define name ty found blocks st).1 budget
kept_define name ty found blocks st budget good ht h hb le =
    let mid : Store = with_parameters found st in
    let last : Store = with_blocks blocks mid in
    let longer : length (st.parameters ++ found) ≡ length st.parameters + length found = length-append st.parameters found in
    let more : length (st.bodies.blocks ++ blocks) ≡ length st.bodies.blocks + length blocks = length-append st.bodies.blocks blocks in
    let (good', g) = parameters_in found st good h in
    let (good'', g') = blocks_in blocks mid good' (sound_later shared reading (list (base block)) blocks st mid g hb) in
    let k = kept_item (items.Define name ty (length st.parameters) (length found) (length st.bodies.blocks) (length blocks)) last budget good'' (ht, omega (arith, longer), omega (arith, more)) (omega (arith, longer, more)) in
    record { good = k.good; grows = grown_on st last (add_define name ty found blocks st).1 (grown_on st mid last g g') k.grows; sound = tt; light = k.light }
