-- Globals for examples: `@s = constant [2 x i8] c"hi"` and `@p = global ptr getelementptr (i8, ptr @s, i64 1)`.
use Rattle.std.specs.Prelude.{true, false, List, [], ◌∷◌, codes}
use Rattle.ir_core.specs.declared.ir_module.GlobalVar.{GlobalVar}
use Rattle.ir_core.specs.declared.operands.Operand.TheVariants.{Int, Global}
use Rattle.ir_core.specs.declared.refusals.Place.{Place}
use Rattle.ir_core.specs.declared.types.TypeLayout.{TypeLayout}
use Rattle.ir_core.specs.declared.types.TypeLayout.TheVariants.{Known}
use Rattle.tbi_memory.specs.AddressSpace.{AddressSpace}
use Rattle.tbi_memory.specs.SmallSpace.{small_map}
use Rattle.global_tags.specs.GlobalBytes.{loaded}

-- `[2 x i8]` and `ptr`
abbrev pub small_layouts : List TypeLayout
small_layouts = Known 2 1 ∷ Known 8 8 ∷ []

abbrev pub somewhere : Place
somewhere = record { line = 1; column = 1 }

abbrev pub text_constant : GlobalVar
text_constant =
    record {
      name = codes "s";
      ty = 0;
      constant = true;
      fits = true;
      init = record { at = 0; size = 1; value = Int 104 } ∷ record { at = 1; size = 1; value = Int 105 } ∷ [];
      place = somewhere;
    }

abbrev pub pointer_variable : GlobalVar
pointer_variable =
    record {
      name = codes "p";
      ty = 1;
      constant = false;
      fits = true;
      init = record { at = 0; size = 8; value = Global 0 1 } ∷ [];
      place = somewhere;
    }

abbrev pub small_globals : List GlobalVar
small_globals = text_constant ∷ pointer_variable ∷ []

-- loaded for the word 3
unfoldable pub loaded_small : AddressSpace
loaded_small = loaded small_map small_layouts small_globals 3
