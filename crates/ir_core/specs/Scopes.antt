-- The chains of metadata nodes that lead from the debug location of an instruction to functions and files (LLVM Language
-- Reference, "DILocation", "DISubprogram"): chains of scopes, and of calls that were inlined. A text in which one of them
-- never ends is refused, which is this project's choice.
use Rattle.std.specs.Prelude.{◌≡◌, ℕ, zero, suc, Bool, true, false, ◌&&◌, if◌then◌else◌, List, [], ◌∷◌, length, slice_get, Option, Some, None}
use Rattle.ir_core.specs.declared.refusals.Place.{Place}
use Rattle.ir_core.specs.declared.meta.Node.{Node}
use Rattle.ir_core.specs.declared.meta.NodeKind.{NodeKind}
use Rattle.ir_core.specs.declared.meta.NodeKind.TheVariants.{Subprogram}
use Rattle.ir_core.specs.declared.ir_module.DbgRef.{DbgRef}
use Rattle.ir_core.specs.declared.ir_module.Inst.{Inst}
use Rattle.ir_core.specs.declared.ir_module.Function.{Function}
use Rattle.ir_core.specs.declared.ir_module.Module.{Module}

-- the scope of a node, at which the chain of scopes goes on; it ends at a subprogram
abbrev pub scope_by : NodeKind → Option ℕ → Option ℕ
scope_by Subprogram scope = None
scope_by kind scope = scope

abbrev pub next_scope : Option Node → Option ℕ
next_scope None = None
next_scope (Some node) = scope_by node.kind node.scope

-- the location of the call by which a location was inlined
abbrev pub next_call : Option Node → Option ℕ
next_call None = None
next_call (Some node) = node.inlined

-- the chain of scopes from a node, if there is one, ends within so many steps
unfoldable pub scopes_end : (steps : ℕ) → List Node → Option ℕ → Bool
scopes_end steps nodes None = true
scopes_end zero nodes (Some k) = false
scopes_end (suc steps) nodes (Some k) = scopes_end steps nodes (next_scope (slice_get nodes k))

-- The chain of inlined calls from a location, if there is one, ends within so many steps, and so does the chain of scopes of
-- each location in it within as many steps as there are nodes. A chain that takes more steps never ends.
unfoldable pub calls_end : (steps : ℕ) → List Node → Option ℕ → Bool
calls_end steps nodes None = true
calls_end zero nodes (Some k) = false
calls_end (suc steps) nodes (Some k) = scopes_end (length nodes) nodes (Some k) && calls_end steps nodes (next_call (slice_get nodes k))

-- all chains from the debug location of an instruction end
abbrev pub chains_end : List Node → ℕ → Bool
chains_end nodes k = calls_end (length nodes) nodes (Some k)

-- the place of the debug location of an instruction, if a chain from it never ends
abbrev pub cycle_at : List Node → Option DbgRef → Option Place
cycle_at nodes None = None
cycle_at nodes (Some dbg) = if chains_end nodes dbg.node then None else Some dbg.place

-- this place, or else the other one
abbrev pub place_or : Option Place → Option Place → Option Place
place_or None other = other
place_or (Some place) other = Some place

-- the first such place among instructions, and among functions, in order of the text
abbrev pub cycle_in : List Node → List Inst → Option Place
cycle_in nodes [] = None
cycle_in nodes (inst ∷ rest) = place_or (cycle_at nodes inst.dbg) (cycle_in nodes rest)

abbrev pub first_cycle : List Node → List Function → Option Place
first_cycle nodes [] = None
first_cycle nodes (f ∷ rest) = place_or (cycle_in nodes f.insts) (first_cycle nodes rest)

-- where the debug locations of a module have their first fault
abbrev pub scopes_fault : Module → Option Place
scopes_fault m = first_cycle m.meta m.functions

-- the debug locations of a module have no fault
abbrev pub HasEndingScopes : Module → Type 0
HasEndingScopes m = first_cycle m.meta m.functions ≡ None
