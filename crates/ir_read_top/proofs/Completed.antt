-- From the functions of a module to what a text is read into.
use Rattle.std.proofs.Common.{◌≡◌, ℕ, ◌^◌, ◌<◌, ◌≤◌, List, [], length, map, Option, Some, None, Result, Ok, Err, inl, inr, refl, sym, ◌∙◌, ap, subst, arith}
use Rattle.std.specs.Option.{option_map}
use Rattle.std.proofs.lemmas.List.{length-map}
use Rattle.std.proofs.lemmas.List.Sums.{fold-append}
use Rattle.hw_base.specs.declared.numbers.TheConstants.{MOST_TEXT}
use Rattle.ir_core.specs.declared.token.Token.{Token}
use Rattle.ir_core.specs.declared.refusals.Place.{Place}
use Rattle.ir_core.specs.declared.refusals.Refusal.{Refusal}
use Rattle.ir_core.specs.declared.refusals.ReadError.{ReadError}
use Rattle.ir_core.specs.declared.refusals.ReadError.TheVariants.{Refused, OutOfMemory}
use Rattle.ir_core.specs.declared.faults.Fault.TheVariants.{MetaCycle}
use Rattle.ir_core.specs.declared.lib_functions.Lib.{Lib}
use Rattle.ir_core.specs.declared.meta.Node.{Node}
use Rattle.ir_core.specs.declared.ir_module.Module.{Module}
use Rattle.ir_core.specs.Scopes.{scopes_fault}
use Rattle.ir_grammar.specs.Spelled.{Store}
use Rattle.ir_grammar.specs.SoundStore.{size_of}
use Rattle.ir_grammar.specs.Grammar.{nesting_limit}
use Rattle.dbg_sites.specs.Cycles.{refused_at}
use Rattle.ir_names.specs.declared.fault.NameFault.{NameFault}
use Rattle.ir_names.specs.First.{earlier, first_beside, first_fault}
use Rattle.ir_names.specs.Faults.{name_faults}
use Rattle.ir_names.specs.Keys.{global_key}
use Rattle.ir_first_values.specs.Tables.{Tables}
use Rattle.ir_functions.specs.Functions.{Spelled}
use Rattle.ir_read_items.specs.Rows.{Each}
use Rattle.ir_read_items.proofs.ItemRows.{any_rows}
use Rattle.ir_read_top.specs.declared.assembly.Outline.{Outline}
use Rattle.ir_read_top.specs.declared.bodies.Keys.{Keys}
use Rattle.ir_read_top.specs.declared.bodies.Functions.{Functions}
use Rattle.ir_read_top.specs.Functions.{numbers_of, functions_in, function_keys, surroundings, function_faults, all_faults, main_of, IsShort}
use Rattle.ir_read_top.specs.Globals.{tables}
use Rattle.ir_read_top.specs.Assembly.{IsOutline}
use Rattle.ir_read_top.specs.Bodies.{AreKeys, surroundings_by, AreFew, functions_made, main_among, AreFunctions, RefusesFunctions, GivesFunctions, completed, Completes}
use Rattle.ir_read_top.specs.Texts.{sentence, refusal_at, without_functions, IsModuleOf, IsSpelled, IsAccepted, IsFaultOf, misnamed, without_main, cyclic, ReadsText, IsGathered}
use Rattle.ir_read_top.proofs.Shorts.{short_functions, few_functions, few_declares}

-- a text with what was made of it so far
pub record IsBegun (text : List ℕ) (tokens : List Token) (store : Store) (libs : List (Option Lib)) (o : Outline) (keys : Keys) (functions : List Spelled) : Type 0 where
  pub read : IsSpelled text tokens store libs
  pub outline : IsOutline text tokens store libs o
  pub keys_right : AreKeys text tokens store libs o.module functions keys
  pub functions_right : functions ≡ functions_in store

names_are : (text : List ℕ) (tokens : List Token) (store : Store) (libs : List (Option Lib)) (o : Outline) (keys : Keys) (functions : List Spelled) → IsBegun text tokens store libs o keys functions
    → surroundings_by text store o.numbers.items keys ≡ surroundings text tokens store libs
names_are text tokens store libs o keys functions h i = record {
  source = text;
  types = store.types;
  numbers = h.outline.numbers i;
  bodies = store.bodies;
  functions = (h.keys_right.functions_are ∙ ap (function_keys text) h.functions_right) i;
  declares = h.keys_right.declares_are i;
  nodes = h.keys_right.nodes_are i;
  kinds = (h.keys_right.kinds_are ∙ ap (map (λ (n : Node). n.kind)) h.outline.assembled.meta) i;
}

-- ---- few enough of all

pub are_short : (text : List ℕ) (tokens : List Token) (store : Store) (numbers : List ℕ) (keys : Keys) (functions : List Spelled) → IsGathered text tokens store → functions ≡ functions_in store
    → Each (IsShort (surroundings_by text store numbers keys)) functions
are_short text tokens store numbers keys functions g e =
    subst (Each (IsShort (surroundings_by text store numbers keys))) (sym e)
    (short_functions (surroundings_by text store numbers keys) store store.items refl (any_rows nesting_limit (sentence text tokens) store g.derived).rows g.small)

pub few_made : (store : Store) (functions : List Spelled) → size_of store < 2 ^ 28 → functions ≡ functions_in store → length functions < 2 ^ 28
few_made store functions small e =
    let l : length functions ≡ length (functions_in store) = ap length e in
    let f = few_functions store store.items in
    omega arith

pub are_few : (text : List ℕ) (tokens : List Token) (store : Store) (libs : List (Option Lib)) (numbers : List ℕ) (m : Module) (keys : Keys) (functions : List Spelled) → size_of store < 2 ^ 28 → functions ≡ functions_in store
    → AreKeys text tokens store libs m functions keys → length tokens ≤ MOST_TEXT → AreFew (surroundings_by text store numbers keys)
are_few text tokens store libs numbers m keys functions small e k few =
    let nodes : length keys.nodes.items ≤ length tokens = k.few in
    let f : length functions < 2 ^ 28 = few_made store functions small e in
    let a = ap length k.functions_are in
    let b = length-map functions (λ (f : Spelled). global_key text f.name) in
    let c = ap length k.declares_are in
    let d = few_declares text store.items libs in
    let n = length-map keys.nodes.items (λ number. number.items) in
    record { types = omega arith; functions = omega arith; declares = omega arith; nodes = omega arith }

-- ---- the module

-- a module that has no functions yet, from the one with them
without : (m : Module) (made : Functions) → m.functions ≡ [] → m.main ≡ 0 → m ≡ without_functions (completed m made)
without m made e f i = record m { functions = e i; main = f i }

module_is : (text : List ℕ) (tokens : List Token) (store : Store) (libs : List (Option Lib)) (o : Outline) (keys : Keys) (functions : List Spelled) (first : Option NameFault) (made : Functions)
    → IsBegun text tokens store libs o keys functions
    → AreFunctions text store (surroundings_by text store o.numbers.items keys) (tables text store o.numbers.items o.classes.items o.module) o.module functions first made
    → IsModuleOf text tokens store libs (completed o.module made)
module_is text tokens store libs o keys functions first made h a =
    let w = h.outline.assembled in
    let names = surroundings text tokens store libs in
    let numbers = numbers_of text store in
    let t : Tables = tables text store numbers o.classes.items o.module in
    let list : made.list ≡ functions_made names t (without_functions (completed o.module made)) (functions_in store) =
    a.list
    ∙ (ap (λ n. functions_made n (tables text store o.numbers.items o.classes.items o.module) o.module functions) (names_are text tokens store libs o keys functions h)
    ∙ (ap (λ n. functions_made names (tables text store n o.classes.items o.module) o.module functions) h.outline.numbers
    ∙ (ap (λ m. functions_made names t m functions) (without o.module made w.functions w.main)
    ∙ ap (functions_made names t (without_functions (completed o.module made))) h.functions_right))) in
    record {
      fields = w.fields_are;
      types = w.types_are;
      layouts = w.layouts;
      classes = o.classes.items;
      classes_right = w.classes_right;
      globals = w.globals;
      declares = w.declares;
      functions = list;
      meta = w.meta;
    }

-- the faults of names are those outside bodies and those in them
all_beside : (text : List ℕ) (tokens : List Token) (store : Store) (libs : List (Option Lib)) (o : Outline) (keys : Keys) (functions : List Spelled) (first : Option NameFault) → IsBegun text tokens store libs o keys functions
    → first ≡ first_fault (name_faults text store.items store)
    → first_fault (all_faults text tokens store libs) ≡ first_beside first (function_faults (surroundings_by text store o.numbers.items keys) functions)
all_beside text tokens store libs o keys functions first h e =
    let names = surroundings text tokens store libs in
    fold-append earlier None (name_faults text store.items store) (function_faults names (functions_in store))
    ∙ (ap (λ f. first_beside f (function_faults names (functions_in store))) (sym e)
    ∙ (ap (λ fs. first_beside first (function_faults names fs)) (sym h.functions_right)
    ∙ ap (λ n. first_beside first (function_faults n functions)) (sym (names_are text tokens store libs o keys functions h))))

main_is : (text : List ℕ) (tokens : List Token) (store : Store) (libs : List (Option Lib)) (o : Outline) (keys : Keys) (functions : List Spelled) → IsBegun text tokens store libs o keys functions
    → main_of text store ≡ main_among text store o.numbers.items functions
main_is text tokens store libs o keys functions h =
    ap (λ n. main_among text store n (functions_in store)) (sym h.outline.numbers) ∙ ap (main_among text store o.numbers.items) (sym h.functions_right)

cyclic_text : (text : List ℕ) (tokens : List Token) (store : Store) (libs : List (Option Lib)) (m : Module) (r : Refusal) (o : Option Place) → IsSpelled text tokens store libs
    → first_fault (all_faults text tokens store libs) ≡ None → IsModuleOf text tokens store libs m → main_of text store ≡ Some m.main → scopes_fault m ≡ o → option_map refused_at o ≡ Some r → IsFaultOf text r
cyclic_text text tokens store libs m r None s f m_is main e h = cc
cyclic_text text tokens store libs m r (Some place) s f m_is main e h =
    let same : refusal_at MetaCycle place ≡ r = let q : Some (refusal_at MetaCycle place) ≡ Some r = h in cc in
    subst (IsFaultOf text) same (cyclic tokens store libs m place s f m_is main e)

-- the module with its functions is what the text is read into, or else its chains are refused
pub completed_text : (text : List ℕ) (tokens : List Token) (store : Store) (libs : List (Option Lib)) (o : Outline) (keys : Keys) (functions : List Spelled) (first : Option NameFault) (made : Functions) (result : Result Module ReadError)
    → IsBegun text tokens store libs o keys functions → first ≡ first_fault (name_faults text store.items store)
    → AreFunctions text store (surroundings_by text store o.numbers.items keys) (tables text store o.numbers.items o.classes.items o.module) o.module functions first made
    → Completes o.module made result → ReadsText text result
completed_text text tokens store libs o keys functions first made (Ok whole) h e a c =
    subst (IsAccepted text) (sym c.0)
    (record {
      tokens = tokens;
      store = store;
      libs = libs;
      read = h.read;
      named = all_beside text tokens store libs o keys functions first h e ∙ a.faultless;
      spelled = module_is text tokens store libs o keys functions first made h a;
      main = main_is text tokens store libs o keys functions h ∙ a.main;
      scopes = ap scopes_fault (sym c.0) ∙ c.1;
    })
completed_text text tokens store libs o keys functions first made (Err OutOfMemory) h e a c = absurd c
completed_text text tokens store libs o keys functions first made (Err (Refused r)) h e a c =
    cyclic_text text tokens store libs (completed o.module made) r (scopes_fault (completed o.module made)) h.read
    (all_beside text tokens store libs o keys functions first h e ∙ a.faultless) (module_is text tokens store libs o keys functions first made h a)
    (main_is text tokens store libs o keys functions h ∙ a.main) refl c

-- the refusal of the functions is that of the text
refused_so : (text : List ℕ) (tokens : List Token) (store : Store) (libs : List (Option Lib)) (o : Outline) (keys : Keys) (functions : List Spelled) (first : Option NameFault) (r : Refusal)
    → IsBegun text tokens store libs o keys functions → first ≡ first_fault (name_faults text store.items store)
    → RefusesFunctions text store (surroundings_by text store o.numbers.items keys) o.numbers.items functions first r → IsFaultOf text r
refused_so text tokens store libs o keys functions first r h e (inl (f, p, q)) =
    subst (IsFaultOf text) (sym q) (misnamed tokens store libs f h.read (all_beside text tokens store libs o keys functions first h e ∙ p))
refused_so text tokens store libs o keys functions first r h e (inr (p, m, q)) =
    subst (IsFaultOf text) (sym q) (without_main tokens store libs h.read (all_beside text tokens store libs o keys functions first h e ∙ p) (main_is text tokens store libs o keys functions h ∙ m))

pub refused_text : (text : List ℕ) (tokens : List Token) (store : Store) (libs : List (Option Lib)) (o : Outline) (keys : Keys) (functions : List Spelled) (first : Option NameFault) (error : ReadError)
    → IsBegun text tokens store libs o keys functions → first ≡ first_fault (name_faults text store.items store)
    → GivesFunctions text store (surroundings_by text store o.numbers.items keys) (tables text store o.numbers.items o.classes.items o.module) o.module functions first (Err error) → ReadsText text (Err error)
refused_text text tokens store libs o keys functions first OutOfMemory h e g = tt
refused_text text tokens store libs o keys functions first (Refused r) h e g = refused_so text tokens store libs o keys functions first r h e g
