-- Metadata as values, on which the definition of frames is shown by evaluation. Above each node is its text, in the syntax of
-- the LLVM Language Reference; a node's number is its place in the list. The nodes are this project's choice.
use Rattle.std.specs.Prelude.{ℕ, List, [], ◌∷◌, length, Option, Some, None, codes}
use Rattle.ir_core.specs.declared.meta.Node.{Node}
use Rattle.ir_core.specs.declared.meta.NodeKind.TheVariants.{Location, Subprogram, File, Other}
use Rattle.dbg_sites.specs.declared.frames.Frame.{Frame}
use Rattle.dbg_sites.specs.Frames.{node_at, frames_by}

abbrev pub location : (line column scope : ℕ) → (inlined : Option ℕ) → Node
location line column scope inlined = record { kind = Location; line = line; column = column; scope = Some scope; inlined = inlined; file = None; name = [] }

abbrev pub subprogram : (name : List ℕ) → (file : ℕ) → Node
subprogram name file = record { kind = Subprogram; line = 0; column = 0; scope = None; inlined = None; file = Some file; name = name }

abbrev pub source_file : (name : List ℕ) → Node
source_file name = record { kind = File; line = 0; column = 0; scope = None; inlined = None; file = None; name = name }

abbrev pub block : (scope file : ℕ) → Node
block scope file = record { kind = Other; line = 0; column = 0; scope = Some scope; inlined = None; file = Some file; name = [] }

abbrev pub example_nodes : List Node
example_nodes =
    -- !0 = !DILocation(line: 3, column: 5, scope: !2, inlinedAt: !1)
    location 3 5 2 (Some 1)
    -- !1 = !DILocation(line: 7, column: 9, scope: !3)
    ∷ location 7 9 3 None
    -- !2 = !DISubprogram(name: "least", file: !4)
    ∷ subprogram (codes "least") 4
    -- !3 = !DISubprogram(name: "run", file: !5)
    ∷ subprogram (codes "run") 5
    -- !4 = !DIFile(filename: "least.h")
    ∷ source_file (codes "least.h")
    -- !5 = !DIFile(filename: "run.c")
    ∷ source_file (codes "run.c")
    -- !6 = !DILexicalBlockFile(scope: !3, file: !4)
    ∷ block 3 4
    -- !7 = !DILocation(line: 2, column: 1, scope: !6)
    ∷ location 2 1 6 None
    -- !8 = !DILexicalBlockFile(scope: !3, file: !3)
    ∷ block 3 3
    -- !9 = !DILocation(line: 4, column: 6, scope: !8)
    ∷ location 4 6 8 None
    -- !10 = !DILocation(line: 8, column: 2, scope: !4, inlinedAt: !1)
    ∷ location 8 2 4 (Some 1)
    ∷ []

-- a frame with its place
abbrev pub frame_in : (func file : List ℕ) → (line column : ℕ) → Frame
frame_in func file line column = record { func = func; place = Some (record { file = file; line = line; column = column }) }

-- the frames by the node with this number, of an instruction of `@_Z3runv`
abbrev pub example_frames : (number : Option ℕ) → List Frame
example_frames number = frames_by (length example_nodes) example_nodes (codes "_Z3runv") (node_at example_nodes number)
