-- Each number in the module of an accepted text names a thing that is there.
use Rattle.std.proofs.Common.{◌≡◌, ℕ, suc, ◌+◌, ◌<◌, ◌≤◌, List, [], ◌∷◌, length, length-append, get_or, take, drop, slice_get, Option, Some, None, IfSome, Result, Ok, Err, All, arith, refl, sym, ◌∙◌, ap, subst, append-nil}
use Rattle.std.specs.Prelude.{IfOk}
use Rattle.std.specs.Option.{option_map, unwrap_or}
use Rattle.std.proofs.lemmas.List.{length-map}
use Rattle.std.proofs.lemmas.List.Elements.{All-nil, All-cons, All-head, All-tail, All-append, All-map, All-take, All-drop, All-weaker}
use Rattle.std.proofs.lemmas.Option.{slice_get_within}
use Rattle.ir_core.specs.declared.token.Token.{Token}
use Rattle.ir_core.specs.declared.types.IrType.{IrType}
use Rattle.ir_core.specs.declared.types.IrType.TheVariants.{Void, Int, Ptr, Array, Struct, Opaque, Pair}
use Rattle.ir_core.specs.declared.lib_functions.Lib.{Lib}
use Rattle.ir_core.specs.declared.operands.Part.{Part}
use Rattle.ir_core.specs.declared.meta.Node.{Node}
use Rattle.ir_core.specs.declared.meta.NodeKind.TheVariants.{Location}
use Rattle.ir_core.specs.declared.refusals.ReadError.{ReadError}
use Rattle.ir_core.specs.declared.ir_module.Module.{Module}
use Rattle.ir_core.specs.Tokenisation.{place_after}
use Rattle.ir_core.specs.Resolved.{IsResolvedType, IsPartWithin, IsResolvedGlobal, IsResolvedDeclare, IsResolvedNode, IsResolvedOutside}
use Rattle.ir_core.specs.Scopes.{HasEndingScopes}
use Rattle.ir_grammar.specs.declared.spelled.SpelledItem.{SpelledItem}
use Rattle.ir_grammar.specs.declared.spelled.SpelledItem.TheVariants as items
use Rattle.ir_grammar.specs.declared.spelled.SpelledParameter.{SpelledParameter}
use Rattle.ir_grammar.specs.Grammar.{nesting_limit}
use Rattle.ir_grammar.specs.Spelled.{Store}
use Rattle.ir_grammar.specs.SoundStore.{Counts, counts_of, IsSoundType, IsSoundItem, IsSoundParameter, IsSoundStore}
use Rattle.ir_grammar.specs.DebugNodes.{kept_nodes, IsLocationThere, IsResolved}
use Rattle.ir_grammar.proofs.Ranged.{text_ranged}
use Rattle.ir_grammar.proofs.Resolved.{if_some_weaker, all_resolved}
use Rattle.ir_read_items.specs.ItemReading.{spelled as spelled_by}
use Rattle.ir_read_items.proofs.Spelled.{spelled_sound, module_spelled}
use Rattle.ir_names.specs.Keys.{item_keys}
use Rattle.ir_names.specs.Meanings.{leads_of, variables_of}
use Rattle.ir_names.specs.Sets.{variables_in}
use Rattle.ir_names.proofs.Within.{variables_within}
use Rattle.ir_type_numbers.specs.Numbering.{number_at, module_types}
use Rattle.ir_first_values.specs.Tables.{Tables}
use Rattle.ir_first_values.specs.FirstValues.{first_value}
use Rattle.ir_first_values.specs.Pieces.{IsPieceIn, AreNumbered}
use Rattle.ir_first_values.proofs.TextBytes.{IsByte}
use Rattle.ir_first_values.proofs.PartsInside.{size}
use Rattle.ir_first_values.proofs.PiecesInside.{first_value_inside}
use Rattle.ir_functions.specs.Given.{given_types}
use Rattle.ir_read_top.specs.Module.{parameter_types, declare_of, declares_of, all_pairs}
use Rattle.ir_read_top.specs.Functions.{numbers_of}
use Rattle.ir_read_top.specs.Globals.{tables, global_of, globals_of}
use Rattle.ir_read_top.specs.Texts.{sentence, fields_of, IsAccepted, ReadsText}
use Rattle.ir_read_top.proofs.ResolvedTypes.{AreBelow, stands_below, IsAmong, AreAmong, types_among, fields_below, all_pairs_among, all_among}

-- ---- what was read

-- what an accepted text spells is sound
accepted_sound : (text : List ℕ) (m : Module) → (a : IsAccepted text m) → IsSoundStore a.store
accepted_sound text m a =
    let ts = sentence text a.tokens in
    let whole : spelled_by ts ≡ Ok a.store = subst (λ v. spelled_by v ≡ Ok a.store) (append-nil ts) (module_spelled ts [] a.store a.read.derived) in
    (spelled_sound ts a.store (text_ranged text a.tokens (place_after text)) whole).sound

-- ---- types

resolved_type : (m : Module) (ty : IrType) → IsAmong (length m.types) (length m.fields) ty → IsResolvedType m ty
resolved_type m Void h = tt
resolved_type m (Int width) h = h
resolved_type m Ptr h = tt
resolved_type m (Array count item) h = h
resolved_type m (Struct first count packed) h = h
resolved_type m Opaque h = tt
resolved_type m (Pair width) h = h

-- ---- declares

params_there : (m : Module) (counts : Counts) (numbers : List ℕ) (parameters : List SpelledParameter) → AreBelow numbers counts.types (length m.types) → All (IsSoundParameter counts) parameters
    → All (λ n. n < length m.types) (parameter_types numbers parameters)
params_there m counts numbers parameters below sound =
    All-map (λ n. n < length m.types) (λ p. number_at numbers p.ty) parameters (λ k d h. below (get_or parameters k d).ty (sound k d h))

declare_there : (m : Module) (counts : Counts) (numbers : List ℕ) (parameters : List SpelledParameter) (item : SpelledItem) (lib : Option Lib) → AreBelow numbers counts.types (length m.types)
    → All (IsSoundParameter counts) parameters → IsSoundItem counts item → All (IsResolvedDeclare m) (declare_of numbers parameters item lib)
declare_there m counts numbers parameters items.Skipped lib below sound h = All-nil (IsResolvedDeclare m)
declare_there m counts numbers parameters (items.Type name ty) lib below sound h = All-nil (IsResolvedDeclare m)
declare_there m counts numbers parameters (items.Global name constant ty value) lib below sound h = All-nil (IsResolvedDeclare m)
declare_there m counts numbers parameters items.Used lib below sound h = All-nil (IsResolvedDeclare m)
declare_there m counts numbers parameters (items.Declare name ty first count) None below sound h = All-nil (IsResolvedDeclare m)
declare_there m counts numbers parameters (items.Declare name ty first count) (Some lib) below sound h =
    All-cons (IsResolvedDeclare m) _ []
    (record {
      result_type = below ty h.0;
      params = params_there m counts numbers (take count (drop first parameters)) below (All-take (IsSoundParameter counts) count (drop first parameters) (All-drop (IsSoundParameter counts) first parameters sound));
    })
    (All-nil (IsResolvedDeclare m))
declare_there m counts numbers parameters (items.Define name ty first count entry blocks) lib below sound h = All-nil (IsResolvedDeclare m)
declare_there m counts numbers parameters (items.Node number) lib below sound h = All-nil (IsResolvedDeclare m)
declare_there m counts numbers parameters (items.NodeList name) lib below sound h = All-nil (IsResolvedDeclare m)

declares_there : (m : Module) (counts : Counts) (numbers : List ℕ) (parameters : List SpelledParameter) (rest : List SpelledItem) (functions : List (Option Lib)) → AreBelow numbers counts.types (length m.types)
    → All (IsSoundParameter counts) parameters → All (IsSoundItem counts) rest → All (IsResolvedDeclare m) (declares_of numbers parameters rest functions)
declares_there m counts numbers parameters [] functions below sound h = All-nil (IsResolvedDeclare m)
declares_there m counts numbers parameters (item ∷ rest) [] below sound h = All-nil (IsResolvedDeclare m)
declares_there m counts numbers parameters (item ∷ rest) (lib ∷ functions) below sound h =
    All-append (IsResolvedDeclare m) (declare_of numbers parameters item lib) (declares_of numbers parameters rest functions)
    (declare_there m counts numbers parameters item lib below sound (All-head (IsSoundItem counts) item rest h))
    (declares_there m counts numbers parameters rest functions below sound (All-tail (IsSoundItem counts) item rest h))

-- ---- global variables

-- there is one for each variable among the items
length-globals : (t : Tables) (rest : List SpelledItem) → length (globals_of t rest) ≡ length (variables_in rest)
length-globals t [] = refl
length-globals t (items.Skipped ∷ rest) = length-globals t rest
length-globals t (items.Type name ty ∷ rest) = length-globals t rest
length-globals t (items.Global name constant ty value ∷ rest) = ap (λ n. suc n) (length-globals t rest)
length-globals t (items.Used ∷ rest) = length-globals t rest
length-globals t (items.Declare name ty first count ∷ rest) = length-globals t rest
length-globals t (items.Define name ty first count entry blocks ∷ rest) = length-globals t rest
length-globals t (items.Node number ∷ rest) = length-globals t rest
length-globals t (items.NodeList name ∷ rest) = length-globals t rest

pieces_within : (globals bytes : ℕ) (value : Option (List Part)) → IfSome value (All (IsPieceIn globals 0 (0 + bytes))) → All (IsPartWithin globals bytes) (unwrap_or value [])
pieces_within globals bytes None h = All-nil (IsPartWithin globals bytes)
pieces_within globals bytes (Some parts) h =
    All-weaker (IsPieceIn globals 0 (0 + bytes)) (IsPartWithin globals bytes) (λ p q. let e : p.at + p.size ≤ 0 + bytes = q.ends in record { inside = omega arith; piece = q.piece }) parts h

-- each name of a variable in an accepted text stands for one that is there
pub variables_named : (text : List ℕ) (m : Module) → (a : IsAccepted text m) → AreNumbered (length m.globals) (variables_of text a.store.items a.store)
variables_named text m a =
    let store : Store = a.store in
    let variables : length m.globals ≡ length (variables_in store.items) =
    ap length a.spelled.globals ∙ length-globals (tables text store (numbers_of text store) a.spelled.classes m) store.items in
    subst (λ k. AreNumbered k (variables_of text store.items store)) (sym variables) (variables_within text (item_keys text store.items) store.items store.constants)

-- what first values are made from is there
record AreThere (text : List ℕ) (store : Store) (numbers : List ℕ) (m : Module) : Type 0 where
  bytes : All IsByte text
  below : AreBelow numbers (length store.types) (length m.types)
  named : AreNumbered (length m.globals) (variables_of text store.items store)

global_there : (text : List ℕ) (store : Store) (numbers classes : List ℕ) (m : Module) (item : SpelledItem) → AreThere text store numbers m → IsSoundItem (counts_of store) item
    → All (IsResolvedGlobal m) (global_of (tables text store numbers classes m) item)
global_there text store numbers classes m items.Skipped there h = All-nil (IsResolvedGlobal m)
global_there text store numbers classes m (items.Type name ty) there h = All-nil (IsResolvedGlobal m)
global_there text store numbers classes m (items.Global name constant ty value) there h =
    let t : Tables = tables text store numbers classes m in
    let own : ℕ = number_at numbers ty in
    let globals : ℕ = length m.globals in
    All-cons (IsResolvedGlobal m) _ []
    (record {
      type = there.below ty h.0;
      init = λ fits fitting.
          pieces_within globals (size t own) (first_value nesting_limit t own value 0)
          (first_value_inside nesting_limit t globals own value 0 (record { bytes = there.bytes; named = there.named }) (record { known = fitting.sized; size = fitting.small }));
    })
    (All-nil (IsResolvedGlobal m))
global_there text store numbers classes m items.Used there h = All-nil (IsResolvedGlobal m)
global_there text store numbers classes m (items.Declare name ty first count) there h = All-nil (IsResolvedGlobal m)
global_there text store numbers classes m (items.Define name ty first count entry blocks) there h = All-nil (IsResolvedGlobal m)
global_there text store numbers classes m (items.Node number) there h = All-nil (IsResolvedGlobal m)
global_there text store numbers classes m (items.NodeList name) there h = All-nil (IsResolvedGlobal m)

globals_there : (text : List ℕ) (store : Store) (numbers classes : List ℕ) (m : Module) (rest : List SpelledItem) → AreThere text store numbers m → All (IsSoundItem (counts_of store)) rest
    → All (IsResolvedGlobal m) (globals_of (tables text store numbers classes m) rest)
globals_there text store numbers classes m [] there h = All-nil (IsResolvedGlobal m)
globals_there text store numbers classes m (item ∷ rest) there h =
    let t : Tables = tables text store numbers classes m in
    All-append (IsResolvedGlobal m) (global_of t item) (globals_of t rest)
    (global_there text store numbers classes m item there (All-head (IsSoundItem (counts_of store)) item rest h))
    (globals_there text store numbers classes m rest there (All-tail (IsSoundItem (counts_of store)) item rest h))

-- ---- metadata

location_there : (nodes : List Node) (k : ℕ) (o : Option Node) → slice_get nodes k ≡ o → option_map (λ (n : Node). n.kind) o ≡ Some Location → k < length nodes
location_there nodes k None e h = cc
location_there nodes k (Some n) e h = slice_get_within nodes k n e

resolved_node : (m : Module) (n : Node) → IsResolved m.meta n → IsResolvedNode m n
resolved_node m n h = record {
  scope = h.scope;
  inlined = if_some_weaker (IsLocationThere m.meta) (λ k. k < length m.meta) n.inlined (λ k p. location_there m.meta k (slice_get m.meta k) refl p) h.inlined;
  file = h.file;
}

nodes_there : (text : List ℕ) (tokens : List Token) (m : Module) → m.meta ≡ kept_nodes text tokens → All (IsResolvedNode m) m.meta
nodes_there text tokens m e =
    All-weaker (IsResolved m.meta) (IsResolvedNode m) (resolved_node m) m.meta (subst (λ nodes. All (IsResolved nodes) nodes) (sym e) (all_resolved text tokens))

-- ---- the module

-- each number in the module of an accepted text names a thing that is there
pub resolved_module : (text : List ℕ) (m : Module) → All IsByte text → IsAccepted text m → IsResolvedOutside m
resolved_module text m bytes a =
    let store : Store = a.store in
    let s : IsSoundStore store = accepted_sound text m a in
    let spelled = a.spelled in
    let numbers : List ℕ = numbers_of text store in
    let n : ℕ = length store.types in
    let below : AreBelow numbers n n = stands_below store.types (leads_of text store.items store) in
    let fields_same : length m.fields ≡ length store.fields = ap length spelled.fields ∙ length-map store.fields (number_at numbers) in
    let plain : AreAmong n (length m.fields) (module_types store.types numbers) =
    types_among store.types numbers (length m.fields) below (subst (λ k. All (IsSoundType n k) store.types) (sym fields_same) s.types) in
    let fields_are : List ℕ = fields_of text store in
    let paired : List IrType = all_pairs store.types fields_are (module_types store.types numbers) store.items a.libs store.bodies.instructions in
    let among : AreAmong n (length m.fields) paired =
    all_pairs_among n (length m.fields) store.types fields_are (module_types store.types numbers) store.items a.libs store.bodies.instructions plain in
    let count : length m.types ≡ length paired + length given_types = ap length spelled.types ∙ length-append paired given_types in
    let same : length paired ≡ n = among.same in
    let there : AreBelow numbers n (length m.types) = λ k h. let g : number_at numbers k < n = below k h in omega arith in
    let all : All (IsAmong (length m.types) (length m.fields)) m.types =
    subst (λ v. All (IsAmong (length v) (length m.fields)) v) (sym spelled.types) (all_among n (length m.fields) paired among) in
    let named : AreNumbered (length m.globals) (variables_of text store.items store) = variables_named text m a in
    record {
      types = All-weaker (IsAmong (length m.types) (length m.fields)) (IsResolvedType m) (resolved_type m) m.types all;
      fields = All-weaker (λ k. k < n) (λ k. k < length m.types) (λ k h. let g : k < n = h in omega arith) m.fields
          (subst (All (λ f. f < n)) (sym spelled.fields) (fields_below store.fields numbers n below s.fields));
      layouts = spelled.layouts;
      globals = subst (All (IsResolvedGlobal m)) (sym spelled.globals)
          (globals_there text store numbers spelled.classes m store.items (record { bytes = bytes; below = there; named = named }) s.items);
      declares = subst (All (IsResolvedDeclare m)) (sym spelled.declares)
          (declares_there m (counts_of store) numbers store.parameters store.items a.libs there s.parameters s.items);
      meta = nodes_there text a.tokens m spelled.meta;
    }

-- the chains of debug locations of an accepted text end
pub ending_answer : (text : List ℕ) (answer : Result Module ReadError) → ReadsText text answer → IfOk answer HasEndingScopes
ending_answer text (Ok m) h = h.scopes
ending_answer text (Err error) h = tt
