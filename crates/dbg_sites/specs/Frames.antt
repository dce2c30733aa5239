-- Where in the source a site is: its frames, the innermost first. A frame is a function's name and, if it is known, a place in
-- a file. The instruction's debug location gives the innermost one, and each call by which it was inlined one more (LLVM
-- Language Reference, "DILocation", "DISubprogram", "DIFile"; "Source Level Debugging with LLVM"). What is shown where the
-- metadata says too little is this project's choice.
use Rattle.std.specs.Prelude.{ℕ, zero, suc, List, [], ◌∷◌, length, slice_get, Option, Some, None}
use Rattle.std.specs.Option.{option_map, option_map_or, option_and_then, option_or}
use Rattle.hw_base.specs.declared.pointers.Site.{Site}
use Rattle.ir_core.specs.Scopes.{next_scope}
use Rattle.ir_core.specs.declared.meta.Node.{Node}
use Rattle.ir_core.specs.declared.meta.NodeKind.{NodeKind}
use Rattle.ir_core.specs.declared.meta.NodeKind.TheVariants.{Subprogram, File}
use Rattle.ir_core.specs.declared.ir_module.Inst.{Inst}
use Rattle.ir_core.specs.declared.ir_module.Function.{Function}
use Rattle.ir_core.specs.declared.ir_module.Module.{Module}
use Rattle.dbg_sites.specs.declared.frames.Frame.{Frame}

-- the node with this number, if there is one
abbrev pub node_at : List Node → Option ℕ → Option Node
node_at nodes number = option_and_then (slice_get nodes) number

-- ---- the chain of scopes of a location

-- a node and those that its chain of scopes leads to, of so many at most; the chain ends at its first subprogram
unfoldable pub scopes_from : (most : ℕ) → List Node → Option Node → List Node
scopes_from most nodes None = []
scopes_from zero nodes (Some node) = []
scopes_from (suc most) nodes (Some node) = node ∷ scopes_from most nodes (node_at nodes (next_scope (Some node)))

-- the name of a node that is a subprogram, or else the other name
abbrev pub name_or : NodeKind → (name other : List ℕ) → List ℕ
name_or Subprogram name other = name
name_or kind name other = other

-- the name of the first subprogram of a chain, empty without one
abbrev pub function_in : List Node → List ℕ
function_in [] = []
function_in (node ∷ nodes) = name_or node.kind node.name (function_in nodes)

-- the file of the first node of a chain that has one, by its number
abbrev pub file_in : List Node → Option ℕ
file_in [] = None
file_in (node ∷ nodes) = option_or node.file (file_in nodes)

-- the name of a node that is a file, or else none
abbrev pub if_file : NodeKind → List ℕ → List ℕ
if_file File name = name
if_file kind name = []

-- the file name that a node gives, empty if it is no file
abbrev pub file_name : Option Node → List ℕ
file_name None = []
file_name (Some node) = if_file node.kind node.name

-- ---- the frames of a location

-- a frame without a place
abbrev pub unplaced : (func : List ℕ) → Frame
unplaced func = record { func = func; place = None }

-- a frame at the line and column of a location
abbrev pub placed : Node → (name file : List ℕ) → Frame
placed location name file = record { func = name; place = Some (record { file = file; line = location.line; column = location.column }) }

-- the frame at a location by the function's name and the file name that its scopes give. If one of them is empty it has no
-- place, and the name that the module gives the function
abbrev pub frame_named : (func : List ℕ) → Node → (name file : List ℕ) → Frame
frame_named func location [] file = unplaced func
frame_named func location name [] = unplaced func
frame_named func location name file = placed location name file

-- the frame at a location in a function that the module gives this name, by a chain of so many scopes at most
unfoldable pub frame_at : (most : ℕ) → List Node → (func : List ℕ) → Node → Frame
frame_at most nodes func location =
    let scopes = scopes_from most nodes (Some location) in frame_named func location (function_in scopes) (file_name (node_at nodes (file_in scopes)))

-- the frames at a location and at the calls by which it was inlined, of so many levels at most
unfoldable pub frames_from : (levels most : ℕ) → List Node → (func : List ℕ) → Option Node → List Frame
frames_from levels most nodes func None = []
frames_from zero most nodes func (Some location) = []
frames_from (suc levels) most nodes func (Some location) =
    frame_at most nodes func location ∷ frames_from levels most nodes func (node_at nodes location.inlined)

-- the frames of an instruction by its location: one without a place if it has none
abbrev pub frames_by : (most : ℕ) → List Node → (func : List ℕ) → Option Node → List Frame
frames_by most nodes func None = unplaced func ∷ []
frames_by most nodes func (Some location) = frames_from most most nodes func (Some location)

-- ---- the frames of a site

-- the name that the module gives the function with this number, empty if there is none
abbrev pub function_name : Module → (func : ℕ) → List ℕ
function_name m func = option_map_or (λ (f : Function). f.name) (slice_get m.functions func) []

-- the instruction of a site
abbrev pub instruction_at : Module → Site → Option Inst
instruction_at m site = option_and_then (λ (f : Function). slice_get f.insts site.inst) (slice_get m.functions site.func)

-- the node that an instruction's debug location names
abbrev pub location_in : List Node → Inst → Option Node
location_in nodes inst = node_at nodes (option_map (λ dbg. dbg.node) inst.dbg)

-- the debug location of a site; there is none if no instruction has this site
abbrev pub location_of : Module → Site → Option Node
location_of m site = option_and_then (location_in m.meta) (instruction_at m site)

-- the frames of a site by chains of so many nodes at most
abbrev pub frames_within : (most : ℕ) → Module → Site → List Frame
frames_within most m site = frames_by most m.meta (function_name m site.func) (location_of m site)

-- the frames of a site: a chain that ends has no more nodes than there are
unfoldable pub frames_of : Module → Site → List Frame
frames_of m site = frames_within (length m.meta) m site
