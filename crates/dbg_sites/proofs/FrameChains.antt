-- A chain that ends has no more nodes than there are, and each site has a frame.
use Rattle.std.proofs.Common.{◌≡◌, ℕ, zero, suc, ◌+◌, ◌≤◌, List, [], ◌∷◌, length, Bool, true, false, ◌&&◌, Option, Some, None, if◌then◌else◌, arith, refl, sym, ap, ◌∙◌}
use Rattle.std.specs.List.{slice_get}
use Rattle.std.specs.Option.{option_map, option_and_then}
use Rattle.hw_base.specs.declared.pointers.Site.{Site}
use Rattle.ir_core.specs.declared.refusals.Place.{Place}
use Rattle.ir_core.specs.declared.meta.Node.{Node}
use Rattle.ir_core.specs.declared.ir_module.DbgRef.{DbgRef}
use Rattle.ir_core.specs.declared.ir_module.Inst.{Inst}
use Rattle.ir_core.specs.declared.ir_module.Function.{Function}
use Rattle.ir_core.specs.declared.ir_module.Module.{Module}
use Rattle.ir_core.specs.Scopes.{next_scope, next_call, scopes_end, calls_end, chains_end, cycle_at, cycle_in, first_cycle, place_or, HasEndingScopes}
use Rattle.dbg_sites.specs.declared.frames.Frame.{Frame}
use Rattle.dbg_sites.specs.Frames.{node_at, scopes_from, function_in, file_in, file_name, frame_named, frame_at, frames_from, frames_by, location_in, instruction_at, location_of, function_name, frames_within, frames_of}

-- ---- scopes

scopes-next : (more n : ℕ) (nodes : List Node) (o : Option Node)
    → scopes_from (more + n) nodes (node_at nodes (next_scope o)) ≡ scopes_from n nodes (node_at nodes (next_scope o))
    → scopes_from (more + suc n) nodes o ≡ scopes_from (suc n) nodes o
unfolding scopes_from
scopes-next more n nodes None h = refl
scopes-next more n nodes (Some node) h =
    let e : more + suc n ≡ suc (more + n) = omega arith in
    ap (λ i. scopes_from i nodes (Some node)) e ∙ ap (λ chain. node ∷ chain) h

-- a chain of scopes that ends within so many steps has no more nodes
scopes-more : (more n : ℕ) (nodes : List Node) (from : Option ℕ) → scopes_end n nodes from ≡ true
    → scopes_from (more + n) nodes (node_at nodes from) ≡ scopes_from n nodes (node_at nodes from)
unfolding scopes_end scopes_from
scopes-more more n nodes None h = refl
scopes-more more zero nodes (Some k) h = cc
scopes-more more (suc n) nodes (Some k) h = scopes-next more n nodes (slice_get nodes k) (scopes-more more n nodes (next_scope (slice_get nodes k)) h)

frame-same : (a b : ℕ) (nodes : List Node) (func : List ℕ) (location : Node) → scopes_from a nodes (Some location) ≡ scopes_from b nodes (Some location)
    → frame_at a nodes func location ≡ frame_at b nodes func location
unfolding frame_at
frame-same a b nodes func location h = ap (λ (scopes : List Node). frame_named func location (function_in scopes) (file_name (node_at nodes (file_in scopes)))) h

-- ---- inlined calls

both : (a b : Bool) → (a && b) ≡ true → (a ≡ true) × (b ≡ true)
both true b h = (refl, h)
both false b h = cc

-- a chain that ends within so many steps: so do its scopes, and its rest within one fewer
calls_first : (n : ℕ) (nodes : List Node) (k : ℕ) → calls_end (suc n) nodes (Some k) ≡ true
    → (scopes_end (length nodes) nodes (Some k) ≡ true) × (calls_end n nodes (next_call (slice_get nodes k)) ≡ true)
unfolding calls_end
calls_first n nodes k h = both (scopes_end (length nodes) nodes (Some k)) (calls_end n nodes (next_call (slice_get nodes k))) h

frames-next : (more n : ℕ) (nodes : List Node) (func : List ℕ) (o : Option Node)
    → scopes_from (more + length nodes) nodes o ≡ scopes_from (length nodes) nodes o
    → frames_from (more + n) (more + length nodes) nodes func (node_at nodes (next_call o)) ≡ frames_from n (length nodes) nodes func (node_at nodes (next_call o))
    → frames_from (more + suc n) (more + length nodes) nodes func o ≡ frames_from (suc n) (length nodes) nodes func o
unfolding frames_from
frames-next more n nodes func None scopes rest = refl
frames-next more n nodes func (Some location) scopes rest =
    let e : more + suc n ≡ suc (more + n) = omega arith in
    let frame = frame-same (more + length nodes) (length nodes) nodes func location scopes in
    ap (λ i. frames_from i (more + length nodes) nodes func (Some location)) e
    ∙ ap (λ (f : Frame). f ∷ frames_from (more + n) (more + length nodes) nodes func (node_at nodes location.inlined)) frame
    ∙ ap (λ (frames : List Frame). frame_at (length nodes) nodes func location ∷ frames) rest

-- a chain of inlined calls that ends within so many steps has no more levels
frames-more : (more n : ℕ) (nodes : List Node) (func : List ℕ) (from : Option ℕ) → calls_end n nodes from ≡ true
    → frames_from (more + n) (more + length nodes) nodes func (node_at nodes from) ≡ frames_from n (length nodes) nodes func (node_at nodes from)
unfolding calls_end frames_from
frames-more more n nodes func None h = refl
frames-more more zero nodes func (Some k) h = cc
frames-more more (suc n) nodes func (Some k) h =
    let parts : (scopes_end (length nodes) nodes (Some k) ≡ true) × (calls_end n nodes (next_call (slice_get nodes k)) ≡ true) = calls_first n nodes k h in
    frames-next more n nodes func (slice_get nodes k) (scopes-more more (length nodes) nodes (Some k) parts.0) (frames-more more n nodes func (next_call (slice_get nodes k)) parts.1)

by_node : (more : ℕ) (nodes : List Node) (func : List ℕ) (o : Option Node)
    → frames_from (more + length nodes) (more + length nodes) nodes func o ≡ frames_from (length nodes) (length nodes) nodes func o
    → frames_by (more + length nodes) nodes func o ≡ frames_by (length nodes) nodes func o
by_node more nodes func None h = refl
by_node more nodes func (Some location) h = h

-- ---- the locations of a module

neither : (a b : Option Place) → place_or a b ≡ None → (a ≡ None) × (b ≡ None)
neither None b h = (refl, h)
neither (Some place) b h = cc

in_insts : (nodes : List Node) (insts : List Inst) (i : ℕ) (inst : Inst) → cycle_in nodes insts ≡ None → slice_get insts i ≡ Some inst → cycle_at nodes inst.dbg ≡ None
in_insts nodes [] i inst h e = cc
in_insts nodes (first ∷ insts) zero inst h e =
    let same : first ≡ inst = cc in
    ap (λ (r : Inst). cycle_at nodes r.dbg) (sym same) ∙ (neither (cycle_at nodes first.dbg) (cycle_in nodes insts) h).0
in_insts nodes (first ∷ insts) (suc i) inst h e = in_insts nodes insts i inst (neither (cycle_at nodes first.dbg) (cycle_in nodes insts) h).1 e

in_functions : (nodes : List Node) (functions : List Function) (k : ℕ) (f : Function) → first_cycle nodes functions ≡ None → slice_get functions k ≡ Some f → cycle_in nodes f.insts ≡ None
in_functions nodes [] k f h e = cc
in_functions nodes (first ∷ functions) zero f h e =
    let same : first ≡ f = cc in
    ap (λ (r : Function). cycle_in nodes r.insts) (sym same) ∙ (neither (cycle_in nodes first.insts) (first_cycle nodes functions) h).0
in_functions nodes (first ∷ functions) (suc k) f h e = in_functions nodes functions k f (neither (cycle_in nodes first.insts) (first_cycle nodes functions) h).1 e

in_module : (nodes : List Node) (functions : List Function) (func i : ℕ) (o : Option Function) (inst : Inst) → first_cycle nodes functions ≡ None → slice_get functions func ≡ o
    → option_and_then (λ (f : Function). slice_get f.insts i) o ≡ Some inst → cycle_at nodes inst.dbg ≡ None
in_module nodes functions func i None inst h e there = cc
in_module nodes functions func i (Some f) inst h e there = in_insts nodes f.insts i inst (in_functions nodes functions func f h e) there

cycle_by : (ends : Bool) (place : Place) → (if ends then None else Some place) ≡ None → ends ≡ true
cycle_by true place h = refl
cycle_by false place h = cc

at_dbg : (more : ℕ) (nodes : List Node) (func : List ℕ) (dbg : Option DbgRef) → cycle_at nodes dbg ≡ None
    → frames_by (more + length nodes) nodes func (node_at nodes (option_map (λ d. d.node) dbg)) ≡ frames_by (length nodes) nodes func (node_at nodes (option_map (λ d. d.node) dbg))
at_dbg more nodes func None h = refl
at_dbg more nodes func (Some dbg) h =
    by_node more nodes func (slice_get nodes dbg.node) (frames-more more (length nodes) nodes func (Some dbg.node) (cycle_by (chains_end nodes dbg.node) dbg.place h))

at_inst : (more : ℕ) (nodes : List Node) (func : List ℕ) (o : Option Inst) → ((inst : Inst) → o ≡ Some inst → cycle_at nodes inst.dbg ≡ None)
    → frames_by (more + length nodes) nodes func (option_and_then (location_in nodes) o) ≡ frames_by (length nodes) nodes func (option_and_then (location_in nodes) o)
at_inst more nodes func None h = refl
at_inst more nodes func (Some inst) h = at_dbg more nodes func inst.dbg (h inst refl)

pub frames-whole : (m : Module) (site : Site) (more : ℕ) → HasEndingScopes m → frames_within (more + length m.meta) m site ≡ frames_of m site
unfolding frames_of
frames-whole m site more h =
    at_inst more m.meta (function_name m site.func) (instruction_at m site)
    (λ inst there. in_module m.meta m.functions site.func site.inst (slice_get m.functions site.func) inst h refl there)

-- ---- a frame for each site

first_frame : (n most : ℕ) (nodes : List Node) (func : List ℕ) (location : Node) → 1 ≤ n → 1 ≤ length (frames_from n most nodes func (Some location))
unfolding frames_from
first_frame zero most nodes func location some = absurd (omega arith)
first_frame (suc n) most nodes func location some = omega arith

some_node : (nodes : List Node) (k : ℕ) (node : Node) → slice_get nodes k ≡ Some node → 1 ≤ length nodes
some_node [] k node e = cc
some_node (first ∷ nodes) k node e = omega arith

some_frame : (nodes : List Node) (func : List ℕ) (o : Option Node) → ((node : Node) → o ≡ Some node → 1 ≤ length nodes) → 1 ≤ length (frames_by (length nodes) nodes func o)
some_frame nodes func None h = omega arith
some_frame nodes func (Some location) h = first_frame (length nodes) (length nodes) nodes func location (h location refl)

node_there : (nodes : List Node) (number : Option ℕ) (node : Node) → node_at nodes number ≡ Some node → 1 ≤ length nodes
node_there nodes None node e = cc
node_there nodes (Some k) node e = some_node nodes k node e

location_there : (nodes : List Node) (o : Option Inst) (node : Node) → option_and_then (location_in nodes) o ≡ Some node → 1 ≤ length nodes
location_there nodes None node e = cc
location_there nodes (Some inst) node e = node_there nodes (option_map (λ dbg. dbg.node) inst.dbg) node e

pub some-frames : (m : Module) (site : Site) → 1 ≤ length (frames_of m site)
unfolding frames_of
some-frames m site = some_frame m.meta (function_name m site.func) (location_of m site) (location_there m.meta (instruction_at m site))
