-- The access rule: what a read, a write or a free through a pointer is (LLVM Language Reference, "Pointer Aliasing Rules",
-- "'load' Instruction" and "'store' Instruction", which leave an access outside its object undefined; ISO C, "The free
-- function"; the kinds are named as the public sanitizers name their reports). It looks at a few things of an object and not
-- at its bytes, so that steps, stores and reports of causes share it. The first line that applies decides, and `off + count`
-- is the exact sum.
use Rattle.std.specs.Prelude.{ℕ, zero, suc, ◌+◌, ◌%◌, Bool, true, false, ◌==◌, nat_le, if◌then◌else◌, List, Option, Some, None}
use Rattle.hw_base.specs.declared.accesses.Access.{Access}
use Rattle.hw_base.specs.declared.accesses.Access.TheVariants.{Read, Write, Free}
use Rattle.hw_base.specs.declared.accesses.Kind.{Kind}
use Rattle.hw_base.specs.declared.accesses.Kind.TheVariants.{HeapOverflow, UseAfterFree, StackOverflow, UseAfterReturn, GlobalOverflow, NoObject, DoubleFree, BadFree}
use Rattle.hw_base.specs.declared.accesses.Reason.{Reason}
use Rattle.hw_base.specs.declared.accesses.Reason.TheVariants.{Misaligned}
use Rattle.hw_base.specs.declared.pointers.Base.{Base}
use Rattle.hw_base.specs.declared.pointers.Base.TheVariants.{Null, Object}
use Rattle.ir_meaning.specs.Births.{Region, Globals, Stack, Heap, is_living, SourceObject, Birth, get_object, region_of}

-- What the rule says: the access is fine, it is a violation, it writes to a constant, or it is outside the profile of programs of
-- which something is claimed. It says nothing of what no run reaches: an object that wasn't born, or a global that died.
pub data AccessAnswer : Type 0 where
  Fine : AccessAnswer
  Violates : Kind → AccessAnswer
  WritesConstant : AccessAnswer
  IsOutside : Reason → AccessAnswer
  NoAnswer : AccessAnswer

-- what the rule looks at in an object: its region, its size in bytes, whether it is a constant, and whether it lives
pub record Accessed : Type 0 where
  pub region : Region
  pub size : ℕ
  pub constant : Bool
  pub living : Bool

-- what a pointer is based on: null, an object, or none that was born
pub data AccessBase : Type 0 where
  OnNull : AccessBase
  OnObject : Accessed → AccessBase
  OnNothing : AccessBase

-- ---- reads and writes of at least one byte, aligned as stated

-- an access past the end, by the object's region
abbrev pub overflow_kind : Region → Kind
overflow_kind Globals = GlobalOverflow
overflow_kind (Stack func) = StackOverflow
overflow_kind Heap = HeapOverflow

-- an access to what is dead: a variable of a frame, or a block
abbrev pub dead_answer : Region → AccessAnswer
dead_answer Globals = NoAnswer
dead_answer (Stack func) = Violates UseAfterReturn
dead_answer Heap = Violates UseAfterFree

-- an access within a living object: all is fine but a write to a constant
abbrev pub inside_answer : Access → (constant : Bool) → AccessAnswer
inside_answer Write true = WritesConstant
inside_answer access constant = Fine

abbrev pub living_answer : Access → Accessed → (off count : ℕ) → AccessAnswer
living_answer access x off count =
    if nat_le (off + count) x.size then inside_answer access x.constant else Violates (overflow_kind x.region)

abbrev pub object_answer : Access → Accessed → (off count : ℕ) → AccessAnswer
object_answer access x off count = if x.living then living_answer access x off count else dead_answer x.region

abbrev pub base_answer : Access → AccessBase → (off count : ℕ) → AccessAnswer
base_answer access OnNull off count = Violates NoObject
base_answer access (OnObject x) off count = object_answer access x off count
base_answer access OnNothing off count = NoAnswer

-- an access of no bytes is fine, and any other one is aligned
abbrev pub bytes_answer : Access → AccessBase → (off count align : ℕ) → AccessAnswer
bytes_answer access base off zero align = Fine
bytes_answer access base off (suc count) align =
    if off % align == 0 then base_answer access base off (suc count) else IsOutside Misaligned

-- ---- frees

-- a free at the start of a block
abbrev pub block_free : (living : Bool) → AccessAnswer
block_free true = Fine
block_free false = Violates DoubleFree

-- a free at the start of an object: only a block can be freed
abbrev pub start_free : Region → (living : Bool) → AccessAnswer
start_free Globals living = Violates BadFree
start_free (Stack func) living = Violates BadFree
start_free Heap living = block_free living

-- null and a living block at its start are fine; a dead block at its start is freed twice
abbrev pub free_answer : AccessBase → (off : ℕ) → AccessAnswer
free_answer OnNull off = if off == 0 then Fine else Violates BadFree
free_answer (OnObject x) off = if off == 0 then start_free x.region x.living else Violates BadFree
free_answer OnNothing off = NoAnswer

-- ---- the rule

-- The access rule, for so many bytes at an offset from a base, at the stated alignment in bytes. A free has no bytes.
unfoldable pub access_rule : Access → AccessBase → (off count align : ℕ) → AccessAnswer
access_rule Read base off count align = bytes_answer Read base off count align
access_rule Write base off count align = bytes_answer Write base off count align
access_rule Free base off count align = free_answer base off

-- what the rule looks at in an object of a run
abbrev pub accessed_in : Region → Option SourceObject → AccessBase
accessed_in region None = OnNothing
accessed_in region (Some x) = OnObject (record { region = region; size = x.size; constant = x.constant; living = is_living x.life })

abbrev pub accessed : List Birth → Base → AccessBase
accessed births Null = OnNull
accessed births (Object o) = accessed_in (region_of births o) (get_object births o)

-- the access rule for a pointer of a run
abbrev pub access_answer : List Birth → Access → Base → (off count align : ℕ) → AccessAnswer
access_answer births access base off count align = access_rule access (accessed births base) off count align
