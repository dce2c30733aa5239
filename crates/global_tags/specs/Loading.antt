-- What loading asks of the globals of a module: they have room together, and each piece of an initializer is a number in 1 to
-- 16 bytes. Modules that are accepted have it.
use Rattle.std.specs.Prelude.{◌≡◌, ℕ, ◌%◌, ◌^◌, ◌<◌, ◌≤◌, List, length, All, sum_by}
use Rattle.hw_base.specs.AddressMap.{rounded_size}
use Rattle.hw_base.specs.declared.numbers.TheConstants.{MOST_GLOBALS}
use Rattle.ir_core.specs.declared.ir_module.GlobalVar.{GlobalVar}
use Rattle.ir_core.specs.declared.ir_module.Module.{Module}
use Rattle.ir_core.specs.declared.operands.Part.{Part}
use Rattle.global_tags.specs.declared.descriptor.Descriptor.{Descriptor}
use Rattle.ir_core.specs.Resolved.{IsPieceOf}
use Rattle.ir_core.specs.NumberTypes.{alloc_size}

-- all globals take no more than the range of globals bears
abbrev pub HasRoomForGlobals : Module → Type 0
HasRoomForGlobals m = sum_by (λ (g : GlobalVar). rounded_size (alloc_size m g.ty)) m.globals ≤ MOST_GLOBALS

-- a piece is a number in so many bytes that it fits in them, and begins at most 2^40 bytes after its global
abbrev pub IsLoadablePart : (globals : ℕ) → Part → Type 0
IsLoadablePart globals part = (part.at ≤ 2 ^ 40) × IsPieceOf globals part.size part.value

abbrev pub AreLoadable : (globals : ℕ) → List GlobalVar → Type 0
AreLoadable globals variables = All (λ (g : GlobalVar). All (IsLoadablePart globals) g.init) variables

-- the globals of a module can be loaded
pub record CanBeLoaded (m : Module) : Type 0 where
  pub room : HasRoomForGlobals m
  pub pieces : AreLoadable (length m.globals) m.globals

-- a global lies at a multiple of 16 below 2^40
pub record IsPlaced (descriptor : Descriptor) : Type 0 where
  pub aligned : descriptor.at % 16 ≡ 0
  pub place : descriptor.at < 2 ^ 40
