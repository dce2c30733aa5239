-- The places and tags of globals (Clang, "Hardware-assisted AddressSanitizer Design Documentation", "Globals"). That constants
-- come first and variables on a new page, and the tags' formula, are this project's choice. A global's size is the alloc
-- size of its type (LLVM Language Reference, "Data Layout").
use Rattle.std.specs.Prelude.{ℕ, ◌+◌, List, [], ◌∷◌, map, take, sum_by, if◌then◌else◌, Option, Some, None, slice_get}
use Rattle.std.specs.List.{enumerate_from}
use Rattle.hw_base.specs.AddressMap.{AddressMap, rounded_size}
use Rattle.hw_base.specs.declared.numbers.TheConstants.{PAGE}
use Rattle.hw_base.specs.TaggedAddress.{tagged_address}
use Rattle.hw_tags.specs.Tag.{global_tag_of}
use Rattle.ir_core.specs.declared.ir_module.GlobalVar.{GlobalVar}
use Rattle.ir_core.specs.declared.types.TypeLayout.{TypeLayout}
use Rattle.ir_core.specs.Layout.{align_up, layout_at, layout_size}
use Rattle.tbi_memory.specs.declared.layout.Layout.{Layout}
use Rattle.global_tags.specs.declared.descriptor.Descriptor.{Descriptor}

-- the size of a global in bytes, by the layouts of the module's types
abbrev pub global_size : List TypeLayout → GlobalVar → ℕ
global_size layouts global = layout_size (layout_at layouts global.ty)

-- the bytes that the constants among some globals take, and those that the variables take
unfoldable pub constants_size : List TypeLayout → List GlobalVar → ℕ
constants_size layouts globals = sum_by (λ global. if global.constant then rounded_size (global_size layouts global) else 0) globals

unfoldable pub variables_size : List TypeLayout → List GlobalVar → ℕ
variables_size layouts globals = sum_by (λ global. if global.constant then 0 else rounded_size (global_size layouts global)) globals

-- the variables begin at the first page at or after the constants' end
abbrev pub variables_at : AddressMap → List TypeLayout → List GlobalVar → ℕ
variables_at places layouts globals = align_up (places.globals_at + constants_size layouts globals) PAGE

-- what is mapped for these globals, and for the map's heap
abbrev pub layout_of : AddressMap → List TypeLayout → List GlobalVar → Layout
layout_of places layouts globals =
    record {
      constants = constants_size layouts globals;
      variables_at = variables_at places layouts globals;
      variables = variables_size layouts globals;
      heap = places.heap_length;
    }

-- the place of global k, which follows those of its kind that come before it in the text
abbrev pub place_of_global : AddressMap → List TypeLayout → List GlobalVar → ℕ → GlobalVar → ℕ
place_of_global places layouts globals k global =
    if global.constant then places.globals_at + constants_size layouts (take k globals)
    else variables_at places layouts globals + variables_size layouts (take k globals)

-- global k in memory, for the one tag word of all globals
abbrev pub descriptor_of : AddressMap → List TypeLayout → List GlobalVar → (word k : ℕ) → GlobalVar → Descriptor
descriptor_of places layouts globals word k global =
    record {
      at = place_of_global places layouts globals k global;
      size = global_size layouts global;
      tag = global_tag_of word k;
      constant = global.constant;
    }

-- all globals in order of the text
abbrev pub descriptors_of : AddressMap → List TypeLayout → List GlobalVar → ℕ → List Descriptor
descriptors_of places layouts globals word =
    map (λ numbered. descriptor_of places layouts globals word numbered.0 numbered.1) (enumerate_from 0 globals)

-- how many tag words the globals draw: one if there are any
abbrev pub global_words : List GlobalVar → ℕ
global_words [] = 0
global_words (global ∷ globals) = 1

-- the tagged address so many bytes after the start of a global; a number past the end names no global
abbrev pub number_of : Option Descriptor → ℕ → ℕ
number_of None off = off
number_of (Some descriptor) off = tagged_address descriptor.tag (descriptor.at + off)

abbrev pub global_number : List Descriptor → (global off : ℕ) → ℕ
global_number descriptors global off = number_of (slice_get descriptors global) off
