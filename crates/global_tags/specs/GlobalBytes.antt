-- The first bytes and tags of globals in memory: the pieces of each initializer, little endian, with the tagged addresses of
-- the globals that it names; all other bytes are zero (LLVM Language Reference, "Global Variables" and "Data Layout").
use Rattle.std.specs.Prelude.{ℕ, ◌+◌, List, [], ◌∷◌}
use Rattle.hw_base.specs.AddressMap.{AddressMap}
use Rattle.hw_base.specs.Bytes.{le_bytes}
use Rattle.ir_core.specs.declared.ir_module.GlobalVar.{GlobalVar}
use Rattle.ir_core.specs.declared.operands.Operand.{Operand}
use Rattle.ir_core.specs.declared.operands.Operand.TheVariants.{Reg, Int, Null, Global}
use Rattle.ir_core.specs.declared.operands.Part.{Part}
use Rattle.ir_core.specs.declared.types.TypeLayout.{TypeLayout}
use Rattle.tbi_memory.specs.AddressSpace.{AddressSpace, space_at_start, with_bytes}
use Rattle.tbi_memory.specs.ObjectMemory.{tag_object}
use Rattle.global_tags.specs.declared.descriptor.Descriptor.{Descriptor}
use Rattle.global_tags.specs.GlobalPlaces.{layout_of, descriptors_of, global_number}

-- the number that a piece of an initializer stores; it is never a register
abbrev pub piece_number : List Descriptor → Operand → ℕ
piece_number descriptors (Reg r) = 0
piece_number descriptors (Int n) = n
piece_number descriptors Null = 0
piece_number descriptors (Global global off) = global_number descriptors global off

-- memory with the pieces of an initializer at a place, constants too
unfoldable pub with_pieces : List Descriptor → AddressSpace → ℕ → List Part → AddressSpace
with_pieces descriptors space place [] = space
with_pieces descriptors space place (piece ∷ pieces) =
    with_pieces descriptors (with_bytes space (place + piece.at) (le_bytes piece.size (piece_number descriptors piece.value))) place pieces

-- memory with a global: its pieces, and then its tags
abbrev pub with_global : List Descriptor → AddressSpace → Descriptor → GlobalVar → AddressSpace
with_global descriptors space descriptor global =
    tag_object (with_pieces descriptors space descriptor.at global.init) descriptor.at descriptor.size descriptor.tag

-- memory with globals, each beside its descriptor
unfoldable pub with_globals : List Descriptor → AddressSpace → List Descriptor → List GlobalVar → AddressSpace
with_globals descriptors space [] globals = space
with_globals descriptors space (first ∷ rest) [] = space
with_globals descriptors space (first ∷ rest) (global ∷ globals) =
    with_globals descriptors (with_global descriptors space first global) rest globals

-- memory at the start of a run, when the globals are there, for the one tag word of all globals
abbrev pub loaded : AddressMap → List TypeLayout → List GlobalVar → ℕ → AddressSpace
loaded places layouts globals word =
    with_globals (descriptors_of places layouts globals word) (space_at_start places (layout_of places layouts globals))
    (descriptors_of places layouts globals word) globals
