-- What is true of every module whose names are resolved: each number in it names a thing that is there, and the layouts
-- are those of its types.
use Rattle.std.specs.Prelude.{ℕ, ◌≡◌, ◌+◌, ◌*◌, ◌^◌, ◌≤◌, ◌<◌, length, All, IfSome, IsTrue}
use Rattle.ir_core.specs.declared.types.IrType.{IrType}
use Rattle.ir_core.specs.declared.types.IrType.TheVariants.{Int, Array, Struct, Pair}
use Rattle.ir_core.specs.declared.operands.Operand.{Operand}
use Rattle.ir_core.specs.declared.operands.Operand.TheVariants.{Reg, Int as Number, Null, Global}
use Rattle.ir_core.specs.declared.operands.Part.{Part}
use Rattle.ir_core.specs.declared.ir_module.GlobalVar.{GlobalVar}
use Rattle.ir_core.specs.declared.ir_module.Declare.{Declare}
use Rattle.ir_core.specs.declared.ir_module.Module.{Module}
use Rattle.ir_core.specs.declared.meta.Node.{Node}
use Rattle.ir_core.specs.Layout.{layouts_of, has_size_of, alloc_size_of}
use Rattle.ir_core.specs.Externals.{IsWidth}

-- what a type holds is there: its item, or its fields. An integer has an accepted width
abbrev pub IsResolvedType : Module → IrType → Type 0
IsResolvedType m (Int width) = IsWidth width
IsResolvedType m (Array count item) = item < length m.types
IsResolvedType m (Struct first count packed) = first + count ≤ length m.fields
IsResolvedType m (Pair width) = IsWidth width
IsResolvedType m other = Unit {0}

-- a piece of a first value is null or the address of a variable in 8 bytes, or a number in 1 to 16 bytes
abbrev pub IsPieceOf : ℕ → ℕ → Operand → Type 0
IsPieceOf globals size (Reg register) = ⊥
IsPieceOf globals size (Number value) = (1 ≤ size) × (size ≤ 16) × (value < 2 ^ (8 * size))
IsPieceOf globals size Null = size ≡ 8
IsPieceOf globals size (Global global off) = (size ≡ 8) × (global < globals)

-- a piece lies within a size
pub record IsPartWithin (globals size : ℕ) (part : Part) : Type 0 where
  pub inside : part.at + part.size ≤ size
  pub piece : IsPieceOf globals part.size part.value

-- the type has a size of at most 2^40 bytes
pub record IsFitting (m : Module) (n : ℕ) : Type 0 where
  pub sized : IsTrue (has_size_of m.types m.fields n)
  pub small : alloc_size_of m.types m.fields n ≤ 2 ^ 40

-- the type of a global variable is there, and where its initializer breaks no rule, its pieces lie within its size
pub record IsResolvedGlobal (m : Module) (g : GlobalVar) : Type 0 where
  pub type : g.ty < length m.types
  pub init : IsTrue g.fits → IsFitting m g.ty → All (IsPartWithin (length m.globals) (alloc_size_of m.types m.fields g.ty)) g.init

-- the types of a declared function are there
pub record IsResolvedDeclare (m : Module) (d : Declare) : Type 0 where
  pub result_type : d.result < length m.types
  pub params : All (λ n. n < length m.types) d.params

-- the nodes that a metadata node names are there
pub record IsResolvedNode (m : Module) (n : Node) : Type 0 where
  pub scope : IfSome n.scope (λ k. k < length m.meta)
  pub inlined : IfSome n.inlined (λ k. k < length m.meta)
  pub file : IfSome n.file (λ k. k < length m.meta)

-- the layouts that a module keeps are those of its types
abbrev pub HasLayouts : Module → Type 0
HasLayouts m = m.layouts ≡ layouts_of m.types m.fields

-- all that is resolved outside the bodies of functions
pub record IsResolvedOutside (m : Module) : Type 0 where
  pub types : All (IsResolvedType m) m.types
  pub fields : All (λ n. n < length m.types) m.fields
  pub layouts : HasLayouts m
  pub globals : All (IsResolvedGlobal m) m.globals
  pub declares : All (IsResolvedDeclare m) m.declares
  pub meta : All (IsResolvedNode m) m.meta
