-- The objects of a run of the source program (LLVM Language Reference, "Memory Access and Addressing Operations" and
-- "Object Lifetime"): global variables, variables of frames and heap blocks. They are born together in births, which are
-- numbered from 0 in order and are never forgotten. That a birth is all globals, one frame, or one block is this project's
-- choice.
use Rattle.std.specs.Prelude.{ℕ, zero, suc, Bool, true, false, List, [], ◌∷◌, map, replicate, take, drop, slice_get, slice_set, Option, Some, None, if◌then◌else◌, ◌+◌}
use Rattle.hw_base.specs.declared.pointers.Base.{Base}
use Rattle.hw_base.specs.declared.pointers.Base.TheVariants.{Null, Object}
use Rattle.hw_base.specs.declared.pointers.Obj.{Obj}
use Rattle.hw_base.specs.declared.pointers.Site.{Site}
use Rattle.ir_meaning.specs.Values.{SourceByte, Data}

-- what a birth is: all global variables, the frame of the function with this number, or a heap block
pub data Region : Type 0 where
  Globals : Region
  Stack : ℕ → Region
  Heap : Region

-- an object lives, or it is dead: by which task it ended, and at which chain of sites
pub data Life : Type 0 where
  Living : Life
  Dead : ℕ → List Site → Life

abbrev pub is_living : Life → Bool
is_living Living = true
is_living (Dead task chain) = false

-- an object: its size in bytes, whether it is a constant, its life, and its bytes. A living object has as many bytes as its
-- size, and a dead one has none
pub record SourceObject : Type 0 where
  pub size : ℕ
  pub constant : Bool
  pub life : Life
  pub bytes : List SourceByte

-- a birth: what it is, by which task and at which chain of sites it came, and its objects by their index
pub record Birth : Type 0 where
  pub region : Region
  pub task : ℕ
  pub born : List Site
  pub objects : List SourceObject

-- ---- objects by their numbers

abbrev pub object_in : Option Birth → ℕ → Option SourceObject
object_in None index = None
object_in (Some birth) index = slice_get birth.objects index

abbrev pub get_object : List Birth → Obj → Option SourceObject
get_object births o = object_in (slice_get births o.birth) o.index

abbrev pub region_in : Option Birth → Region
region_in None = Heap
region_in (Some birth) = birth.region

-- the region of an object that was born
abbrev pub region_of : List Birth → Obj → Region
region_of births o = region_in (slice_get births o.birth)

abbrev pub bytes_in : Option SourceObject → List SourceByte
bytes_in None = []
bytes_in (Some x) = x.bytes

abbrev pub size_in : Option SourceObject → ℕ
size_in None = 0
size_in (Some x) = x.size

-- ---- births and deaths

-- a new object that is no constant: all its bytes are zero
abbrev pub fresh_object : ℕ → SourceObject
fresh_object size = record { size = size; constant = false; life = Living; bytes = replicate size (Data 0) }

-- a birth of objects of these sizes
abbrev pub fresh_birth : Region → (task : ℕ) → (born : List Site) → (sizes : List ℕ) → Birth
fresh_birth region task born sizes = record { region = region; task = task; born = born; objects = map fresh_object sizes }

-- a list with f of the item at a place, if there is one
unfoldable pub changed_at : {X : Type 0} → (X → X) → List X → ℕ → List X
changed_at f [] i = []
changed_at f (x ∷ xs) zero = f x ∷ xs
changed_at f (x ∷ xs) (suc i) = x ∷ changed_at f xs i

-- what lives ends, and its bytes are gone; what is dead stays as it is
abbrev pub ended_object : ℕ → List Site → SourceObject → SourceObject
ended_object task chain x = if is_living x.life then record x { life = Dead task chain; bytes = [] } else x

abbrev pub ended_birth : ℕ → List Site → Birth → Birth
ended_birth task chain birth = record birth { objects = map (ended_object task chain) birth.objects }

-- the births after all objects of one of them ended, by a task and at a chain of sites
abbrev pub after_death : List Birth → (number task : ℕ) → List Site → List Birth
after_death births number task chain = changed_at (ended_birth task chain) births number

-- ---- bytes of objects

-- bytes written one after the other from a place on
unfoldable pub written_from : List SourceByte → ℕ → List SourceByte → List SourceByte
written_from bytes off [] = bytes
written_from bytes off (byte ∷ more) = written_from (slice_set bytes off byte) (off + 1) more

-- an object after a write: only a living one is written
abbrev pub written_object : ℕ → List SourceByte → SourceObject → SourceObject
written_object off bytes x = if is_living x.life then record x { bytes = written_from x.bytes off bytes } else x

abbrev pub written_birth : (index off : ℕ) → List SourceByte → Birth → Birth
written_birth index off bytes birth = record birth { objects = changed_at (written_object off bytes) birth.objects index }

-- the births after a write through a pointer; nothing is written through one based on null
abbrev pub put_bytes : List Birth → Base → ℕ → List SourceByte → List Birth
put_bytes births Null off bytes = births
put_bytes births (Object o) off bytes = changed_at (written_birth o.index off bytes) births o.birth

-- so many bytes through a pointer
abbrev pub bytes_at : List Birth → Base → (off count : ℕ) → List SourceByte
bytes_at births Null off count = []
bytes_at births (Object o) off count = take count (drop off (bytes_in (get_object births o)))
