-- How what is read of bodies lies in its lists: the instructions of blocks one block after the other, each block's last one its
-- only terminator (LLVM Language Reference, "Functions").
use Rattle.std.specs.Prelude.{ℕ, ◌+◌, ◌≡◌, ◌≤◌, Bool, true, false, List, [], ◌∷◌, ◌++◌, length, Option, None, Some}
use Rattle.ir_core.specs.declared.token.Token.{Token}
use Rattle.ir_grammar.specs.declared.spelled.SpelledItem.{SpelledItem}
use Rattle.ir_grammar.specs.declared.spelled.SpelledItem.TheVariants as items
use Rattle.ir_grammar.specs.declared.spelled_bodies.SpelledOperation.{SpelledOperation}
use Rattle.ir_grammar.specs.declared.spelled_bodies.SpelledOperation.TheVariants as operations
use Rattle.ir_grammar.specs.declared.spelled_bodies.SpelledInstruction.{SpelledInstruction}
use Rattle.ir_grammar.specs.declared.spelled_bodies.SpelledBlock.{SpelledBlock}
use Rattle.ir_grammar.specs.Spelled.{Store}

-- the operation ends a block
abbrev pub ends_block : SpelledOperation → Bool
ends_block (operations.Return ty value) = true
ends_block (operations.Jump block) = true
ends_block (operations.Branch condition yes_block no_block) = true
ends_block (operations.Switch value other_block first count) = true
ends_block operations.Unreachable = true
ends_block other = false

-- of this instruction and those after it the last is the only terminator
abbrev pub IsEndedAfter : SpelledInstruction → List SpelledInstruction → Type 0
IsEndedAfter i [] = ends_block i.operation ≡ true
IsEndedAfter i (j ∷ rest) = (ends_block i.operation ≡ false) × IsEndedAfter j rest

-- there is a terminator, and it is the last
abbrev pub IsEnded : List SpelledInstruction → Type 0
IsEnded [] = ⊥
IsEnded (i ∷ rest) = IsEndedAfter i rest

-- these are a block's own instructions, which are numbered from this number on
pub record IsRow (from : ℕ) (b : SpelledBlock) (own : List SpelledInstruction) : Type 0 where
  pub first : b.first ≡ from
  pub count : b.count ≡ length own
  pub ended : IsEnded own

-- these are the instructions of blocks, one block after the other, numbered from this number on
abbrev pub AreRows : (from : ℕ) → List SpelledInstruction → List SpelledBlock → Type 0
AreRows from instructions [] = instructions ≡ []
AreRows from instructions (b ∷ rest) =
    (own : List SpelledInstruction) × (more : List SpelledInstruction) × (instructions ≡ own ++ more) × IsRow from b own × AreRows (from + length own) more rest

-- a definition of a function has a block
abbrev pub HasBlocks : SpelledItem → Type 0
HasBlocks (items.Define name result first count entry blocks) = 1 ≤ blocks
HasBlocks other = Unit {0}

-- the token of the alignment that an access to memory states, if it states one
abbrev pub stated_in : SpelledOperation → Option Token
stated_in (operations.Load ty pointer stated) = stated
stated_in (operations.Store value pointer stated) = stated
stated_in (operations.AtomicRmw operator pointer value stated) = stated
stated_in (operations.CmpXchg pointer expected new stated) = stated
stated_in other = None

-- this is so of the token, if it is there
abbrev pub IsStated : (Token → Type 0) → Option Token → Type 0
IsStated P None = Unit {0}
IsStated P (Some token) = P token

-- it holds of each
abbrev pub Each : {A : Type 0} → (A → Type 0) → List A → Type 0
Each P [] = Unit {0}
Each P (x ∷ xs) = P x × Each P xs

-- what was read lies in rows, and this is so of each alignment that is stated
pub record IsInRows (P : Token → Type 0) (store : Store) : Type 0 where
  pub rows : AreRows 0 store.bodies.instructions store.bodies.blocks
  pub blocks : Each HasBlocks store.items
  pub stated : Each (λ (i : SpelledInstruction). IsStated P (stated_in i.operation)) store.bodies.instructions
