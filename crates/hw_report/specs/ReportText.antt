-- The lines of a report of a failing check: what was done and where, the call chain, and what was found. This project's choice,
-- after the reports of Clang's HardwareAssistedAddressSanitizer.
use Rattle.std.specs.Prelude.{ℕ, ◌-◌, ◌^◌, List, [], ◌++◌, codes, false, Option, Some, None}
use Rattle.std.specs.Fmt.{decimal, digits, padded_integral, format_spec}
use Rattle.hw_base.specs.declared.accesses.Access.{Access}
use Rattle.hw_base.specs.declared.accesses.Access.TheVariants.{Read, Write, Free}
use Rattle.dbg_sites.specs.ChainTable.{ChainEntry, chain_of}
use Rattle.hw_shadow.specs.declared.mismatch.Mismatch.{Mismatch}
use Rattle.hw_shadow.specs.declared.mismatch.Mismatch.TheVariants.{Unmapped, Tags}
use Rattle.ir_core.specs.declared.ir_module.Module.{Module}
use Rattle.ir_machine.specs.declared.found.Found.{Found}
use Rattle.ir_machine.specs.declared.found.Found.TheVariants.{Memory, Block}
use Rattle.ir_machine.specs.declared.found.Raw.{Raw}
use Rattle.hw_report.specs.Sites.{chain_lines}

-- a number in lower-case hexadecimal, with zeros in front to so many digits
abbrev pub hexadecimal : (width number : ℕ) → List ℕ
hexadecimal width number = padded_integral (format_spec 32 0 4 width (2 ^ 64 - 1)) false [] (digits 16 false number)

-- ---- the access

-- what was done, and to how many bytes; a free has no size
unfoldable pub access_text : Access → (size : ℕ) → List ℕ
access_text Read size = codes "hwasan: read of " ++ decimal size
access_text Write size = codes "hwasan: write of " ++ decimal size
access_text Free size = codes "hwasan: free"

-- the pointer with its tag
unfoldable pub number_text : (number : ℕ) → List ℕ
number_text number = codes " at " ++ hexadecimal 16 number

unfoldable pub place_text : (task step : ℕ) → List ℕ
place_text task step = codes " in task " ++ decimal task ++ codes ", step " ++ decimal step ++ codes "\n"

-- the access, its pointer, and the task and the step in which it was made
abbrev pub access_line : Access → (size number task step : ℕ) → List ℕ
access_line access size number task step = access_text access size ++ number_text number ++ place_text task step

-- ---- what was found

unfoldable pub pointer_text : (pointer : ℕ) → List ℕ
pointer_text pointer = codes "tags: pointer " ++ hexadecimal 2 pointer

unfoldable pub memory_text : (memory : ℕ) → List ℕ
memory_text memory = codes ", memory " ++ hexadecimal 2 memory

-- the last byte of the granule, and the end of the access in it
unfoldable pub end_text : (last end : ℕ) → List ℕ
end_text last end = codes ", last " ++ hexadecimal 2 last ++ codes ", end " ++ decimal end

unfoldable pub granule_text : (granule : ℕ) → List ℕ
granule_text granule = codes ", granule " ++ hexadecimal 16 granule ++ codes "\n"

-- tags that don't agree
abbrev pub tags_line : (granule pointer memory last end : ℕ) → List ℕ
tags_line granule pointer memory last end = pointer_text pointer ++ memory_text memory ++ end_text last end ++ granule_text granule

-- the first address of the access that isn't mapped
unfoldable pub unmapped_line : (address : ℕ) → List ℕ
unmapped_line address = codes "unmapped: " ++ hexadecimal 16 address ++ codes "\n"

abbrev pub mismatch_line : Mismatch → List ℕ
mismatch_line (Unmapped address) = unmapped_line address
mismatch_line (Tags granule pointer memory last end) = tags_line granule pointer memory last end

-- the tag of the living block that begins at the address of a free, or that there is none
unfoldable pub block_line : Option ℕ → List ℕ
block_line None = codes "block: none\n"
block_line (Some tag) = codes "block: tag " ++ hexadecimal 2 tag ++ codes "\n"

abbrev pub found_line : Found → List ℕ
found_line (Memory mismatch) = mismatch_line mismatch
found_line (Block mismatch) = block_line mismatch.block

-- ---- the report

-- the report of a failing check: the access, the sites of its chain, innermost first, and what was found
abbrev pub report_lines : Module → List ChainEntry → Raw → List ℕ
report_lines m chains raw =
    access_line raw.access raw.size raw.number raw.task raw.step ++ chain_lines m (chain_of chains raw.chain) ++ found_line raw.found
