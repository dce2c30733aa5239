-- What was read of bodies stays sound among more.
use Rattle.std.proofs.Common.{List, length, get_or, ◌≤◌, All, Option, None, Some, arith}
use Rattle.ir_grammar.specs.declared.spelled_bodies.SpelledOperand.{SpelledOperand}
use Rattle.ir_grammar.specs.declared.spelled_bodies.SpelledOperand.TheVariants as operands
use Rattle.ir_grammar.specs.declared.spelled_bodies.TypedOperand.{TypedOperand}
use Rattle.ir_grammar.specs.declared.spelled_bodies.SpelledIncoming.{SpelledIncoming}
use Rattle.ir_grammar.specs.declared.spelled_bodies.SpelledCase.{SpelledCase}
use Rattle.ir_grammar.specs.declared.spelled_bodies.SpelledOperation.{SpelledOperation}
use Rattle.ir_grammar.specs.declared.spelled_bodies.SpelledOperation.TheVariants as operations
use Rattle.ir_grammar.specs.declared.spelled_bodies.SpelledInstruction.{SpelledInstruction}
use Rattle.ir_grammar.specs.declared.spelled_bodies.SpelledBlock.{SpelledBlock}
use Rattle.ir_grammar.specs.BodyStore.{BodyStore}
use Rattle.ir_grammar.specs.SoundStore.{Counts, IsSoundOperand, IsSoundTyped, IsSoundCount, IsSoundReturned, IsSoundIncoming, IsSoundCase, IsSoundOperation, IsSoundInstruction, IsSoundBlock, IsSoundBodies}

pub all_more : {A : Type 0} (P Q : A → Type 0) (xs : List A) → ((x : A) → P x → Q x) → All P xs → All Q xs
all_more P Q xs f h k d below = f (get_or xs k d) (h k d below)

-- so many things are no less
pub record IsBelow (n m : Counts) : Type 0 where
  pub types : n.types ≤ m.types
  pub constants : n.constants ≤ m.constants
  pub elements : n.elements ≤ m.elements
  pub indices : n.indices ≤ m.indices
  pub parameters : n.parameters ≤ m.parameters
  pub operands : n.operands ≤ m.operands
  pub incoming : n.incoming ≤ m.incoming
  pub cases : n.cases ≤ m.cases
  pub attachments : n.attachments ≤ m.attachments
  pub instructions : n.instructions ≤ m.instructions
  pub blocks : n.blocks ≤ m.blocks

-- there is no less of anything in bodies
pub record GrownBodies (before after : BodyStore) : Type 0 where
  pub operands : length before.operands ≤ length after.operands
  pub incoming : length before.incoming ≤ length after.incoming
  pub cases : length before.cases ≤ length after.cases
  pub attachments : length before.attachments ≤ length after.attachments
  pub instructions : length before.instructions ≤ length after.instructions
  pub blocks : length before.blocks ≤ length after.blocks

pub same_bodies : (b : BodyStore) → GrownBodies b b
same_bodies b = record { operands = omega arith; incoming = omega arith; cases = omega arith; attachments = omega arith; instructions = omega arith; blocks = omega arith }

pub bodies_on : (a b c : BodyStore) → GrownBodies a b → GrownBodies b c → GrownBodies a c
bodies_on a b c g h = record {
  operands = let p = g.operands in let q = h.operands in omega arith;
  incoming = let p = g.incoming in let q = h.incoming in omega arith;
  cases = let p = g.cases in let q = h.cases in omega arith;
  attachments = let p = g.attachments in let q = h.attachments in omega arith;
  instructions = let p = g.instructions in let q = h.instructions in omega arith;
  blocks = let p = g.blocks in let q = h.blocks in omega arith;
}

pub operand_stays : (n m : Counts) → IsBelow n m → (x : SpelledOperand) → IsSoundOperand n x → IsSoundOperand m x
operand_stays n m b (operands.Register t) h = tt
operand_stays n m b (operands.Constant t c) h = let p = b.constants in omega arith

pub typed_stays : (n m : Counts) → IsBelow n m → (x : TypedOperand) → IsSoundTyped n x → IsSoundTyped m x
typed_stays n m b x h = let p = b.types in let h0 = h.0 in (omega arith, operand_stays n m b x.value h.1)

count_stays : (n m : Counts) → IsBelow n m → (x : Option TypedOperand) → IsSoundCount n x → IsSoundCount m x
count_stays n m b None h = tt
count_stays n m b (Some x) h = typed_stays n m b x h

returned_stays : (n m : Counts) → IsBelow n m → (x : Option SpelledOperand) → IsSoundReturned n x → IsSoundReturned m x
returned_stays n m b None h = tt
returned_stays n m b (Some x) h = operand_stays n m b x h

pub incoming_stays : (n m : Counts) → IsBelow n m → (x : SpelledIncoming) → IsSoundIncoming n x → IsSoundIncoming m x
incoming_stays n m b x h = operand_stays n m b x.value h

pub case_stays : (n m : Counts) → IsBelow n m → (x : SpelledCase) → IsSoundCase n x → IsSoundCase m x
case_stays n m b x h = typed_stays n m b x.value h

pub operation_stays : (n m : Counts) → IsBelow n m → (x : SpelledOperation) → IsSoundOperation n x → IsSoundOperation m x
operation_stays n m b (operations.Binary x y) h = (typed_stays n m b x h.0, operand_stays n m b y h.1)
operation_stays n m b (operations.Icmp p x y) h = (typed_stays n m b x h.0, operand_stays n m b y h.1)
operation_stays n m b (operations.Cast x to) h = let p = b.types in let h1 = h.1 in (typed_stays n m b x h.0, omega arith)
operation_stays n m b (operations.Freeze x) h = typed_stays n m b x h
operation_stays n m b (operations.Select c x y) h = (operand_stays n m b c h.0, typed_stays n m b x h.1, typed_stays n m b y h.2)
operation_stays n m b (operations.Phi ty first count) h = let p = b.types in let q = b.incoming in let h0 = h.0 in let h1 = h.1 in (omega arith, omega arith)
operation_stays n m b (operations.Alloca ty count a) h = let p = b.types in let h0 = h.0 in (omega arith, count_stays n m b count h.1)
operation_stays n m b (operations.Load ty at a) h = let p = b.types in let h0 = h.0 in (omega arith, operand_stays n m b at h.1)
operation_stays n m b (operations.Store x at a) h = (typed_stays n m b x h.0, operand_stays n m b at h.1)
operation_stays n m b (operations.GetElementPtr of base first count) h =
    let p = b.types in let q = b.operands in let h0 = h.0 in let h2 = h.2 in (omega arith, operand_stays n m b base h.1, omega arith)
operation_stays n m b operations.Fence h = tt
operation_stays n m b (operations.AtomicRmw o at x a) h = (operand_stays n m b at h.0, typed_stays n m b x h.1)
operation_stays n m b (operations.CmpXchg at x y a) h = (operand_stays n m b at h.0, typed_stays n m b x h.1, typed_stays n m b y h.2)
operation_stays n m b (operations.ExtractValue of x part) h = let p = b.types in let h0 = h.0 in (omega arith, operand_stays n m b x h.1)
operation_stays n m b (operations.Call name result first count) h = let p = b.types in let q = b.operands in let h0 = h.0 in let h1 = h.1 in (omega arith, omega arith)
operation_stays n m b (operations.Return ty x) h = let p = b.types in let h0 = h.0 in (omega arith, returned_stays n m b x h.1)
operation_stays n m b (operations.Jump block) h = tt
operation_stays n m b (operations.Branch c _ _) h = operand_stays n m b c h
operation_stays n m b (operations.Switch x other first count) h = let q = b.cases in let h1 = h.1 in (typed_stays n m b x h.0, omega arith)
operation_stays n m b operations.Unreachable h = tt

pub instruction_stays : (n m : Counts) → IsBelow n m → (x : SpelledInstruction) → IsSoundInstruction n x → IsSoundInstruction m x
instruction_stays n m b x h = let q = b.attachments in let h1 = h.1 in (operation_stays n m b x.operation h.0, omega arith)

pub block_stays : (n m : Counts) → IsBelow n m → (x : SpelledBlock) → IsSoundBlock n x → IsSoundBlock m x
block_stays n m b x h = let q = b.instructions in let h0 = h.0 in (omega arith, h.1)

pub bodies_stay : (n m : Counts) → IsBelow n m → (bodies : BodyStore) → IsSoundBodies n bodies → IsSoundBodies m bodies
bodies_stay n m b bodies h = record {
  operands = all_more (IsSoundTyped n) (IsSoundTyped m) bodies.operands (typed_stays n m b) h.operands;
  incoming = all_more (IsSoundIncoming n) (IsSoundIncoming m) bodies.incoming (incoming_stays n m b) h.incoming;
  cases = all_more (IsSoundCase n) (IsSoundCase m) bodies.cases (case_stays n m b) h.cases;
  instructions = all_more (IsSoundInstruction n) (IsSoundInstruction m) bodies.instructions (instruction_stays n m b) h.instructions;
  blocks = all_more (IsSoundBlock n) (IsSoundBlock m) bodies.blocks (block_stays n m b) h.blocks;
}
