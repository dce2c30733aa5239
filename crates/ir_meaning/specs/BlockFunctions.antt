-- The functions that make and free heap blocks (the C standard, "Memory management functions"). A block is zero when it is
-- born, and no call fails for lack of room: that the simulated heap can be full is no matter of the source semantics. Both
-- are this project's choice. A free is an access, which is taken before.
use Rattle.std.specs.Prelude.{ℕ, ◌*◌, List, [], ◌∷◌, ◌++◌, length, take, Option}
use Rattle.hw_base.specs.declared.pointers.Base.{Base}
use Rattle.hw_base.specs.declared.pointers.Base.TheVariants.{Null, Object}
use Rattle.hw_base.specs.declared.pointers.Obj.{Obj}
use Rattle.ir_meaning.specs.Values.{Value, Address}
use Rattle.ir_meaning.specs.Births.{Heap, Birth, fresh_birth, get_object, bytes_in, put_bytes, after_death}
use Rattle.ir_meaning.specs.State.{News, Born, Died, SourceSeen, SourceOutcome, nothing_happened, telling}
use Rattle.ir_meaning.specs.Operands.{argument, with_integer, with_pointer}
use Rattle.ir_meaning.specs.StepEnds.{chain_of, goes_on, gives_with}

-- the block of a birth
abbrev pub block_of : (birth : ℕ) → Obj
block_of birth = record { birth = birth; index = 0 }

-- the start of a block
abbrev pub block_pointer : (birth : ℕ) → Value
block_pointer birth = Address (Object (block_of birth)) 0

-- the state with other births
abbrev pub with_births : SourceSeen → List Birth → SourceSeen
with_births s births = record s { shared = record s.shared { births = births } }

-- ---- births

-- the births with a new block, which gets the next number
abbrev pub births_with : SourceSeen → (size : ℕ) → List Birth
births_with s size = s.shared.births ++ fresh_birth Heap s.task (chain_of s) (size ∷ []) ∷ []

abbrev pub block_news : SourceSeen → (size : ℕ) → News
block_news s size = Born (length s.shared.births) Heap s.task (chain_of s) (size ∷ [])

-- a new block is the result
abbrev pub allocated : SourceSeen → Option ℕ → (size : ℕ) → SourceOutcome
allocated s result size =
    gives_with (with_births s (births_with s size)) result (block_pointer (length s.shared.births)) (telling (block_news s size ∷ []))

-- `ptr malloc(i64 n)`
unfoldable pub malloc_step : SourceSeen → Option ℕ → List (Option Value) → SourceOutcome
malloc_step s result values = with_integer 64 (argument values 0) (λ n. allocated s result n)

-- `ptr calloc(i64 n, i64 m)`: the size is the exact product
unfoldable pub calloc_step : SourceSeen → Option ℕ → List (Option Value) → SourceOutcome
calloc_step s result values =
    with_integer 64 (argument values 0) (λ n. with_integer 64 (argument values 1) (λ m. allocated s result (n * m)))

-- ---- deaths

abbrev pub death_of : SourceSeen → (birth : ℕ) → News
death_of s birth = Died birth s.task (chain_of s)

-- the block of a pointer dies; nothing is done for null
abbrev pub freed : SourceSeen → Base → SourceOutcome
freed s Null = goes_on s nothing_happened
freed s (Object o) =
    goes_on (with_births s (after_death s.shared.births o.birth s.task (chain_of s))) (telling (death_of s o.birth ∷ []))

-- `void free(ptr p)`
unfoldable pub free_step : SourceSeen → List (Option Value) → SourceOutcome
free_step s values = with_pointer (argument values 0) (λ base off. freed s base)

-- ---- a new size

-- the births once a new block is born for an object, with the first bytes that both have
abbrev pub births_copied : SourceSeen → Obj → (size : ℕ) → List Birth
births_copied s o size =
    put_bytes (births_with s size) (Object (block_of (length s.shared.births))) 0 (take size (bytes_in (get_object s.shared.births o)))

-- the births after a block got a new size: a new block is born, the bytes are copied, and the old block dies
abbrev pub births_resized : SourceSeen → Obj → (size : ℕ) → List Birth
births_resized s o size = after_death (births_copied s o size) o.birth s.task (chain_of s)

-- as `malloc` for null
abbrev pub resized : SourceSeen → Option ℕ → Base → (size : ℕ) → SourceOutcome
resized s result Null size = allocated s result size
resized s result (Object o) size =
    gives_with (with_births s (births_resized s o size)) result (block_pointer (length s.shared.births))
    (telling (block_news s size ∷ death_of s o.birth ∷ []))

-- `ptr realloc(ptr p, i64 n)`
unfoldable pub realloc_step : SourceSeen → Option ℕ → List (Option Value) → SourceOutcome
realloc_step s result values =
    with_pointer (argument values 0) (λ base off. with_integer 64 (argument values 1) (λ size. resized s result base size))
