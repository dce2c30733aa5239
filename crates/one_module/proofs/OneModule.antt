-- Two modules of one text are equal.
use Rattle.std.proofs.Common.{◌≡◌, ℕ, List, [], ◌∷◌, map, Bool, Option, Some, Ok, refl, sym, ◌∙◌, ap, subst, append-nil}
use Rattle.ir_core.specs.declared.token.Token.{Token}
use Rattle.ir_core.specs.declared.types.IrType.{IrType}
use Rattle.ir_core.specs.declared.lib_functions.Lib.{Lib}
use Rattle.ir_core.specs.declared.ir_module.Function.{Function}
use Rattle.ir_core.specs.declared.ir_module.Module.{Module}
use Rattle.ir_core.specs.Tokens.{bytes_of}
use Rattle.ir_core.specs.Layout.{layouts_of}
use Rattle.ir_externals.proofs.OneName.{one_meaning}
use Rattle.ir_text.specs.Names.{global_name}
use Rattle.ir_lex.proofs.Cuts.{one_tokenisation}
use Rattle.ir_grammar.specs.declared.spelled.SpelledItem.{SpelledItem}
use Rattle.ir_grammar.specs.declared.spelled.SpelledItem.TheVariants as items
use Rattle.ir_grammar.specs.Spelled.{Store}
use Rattle.ir_grammar.specs.Grammar.{nesting_limit}
use Rattle.ir_names.specs.Meanings.{variables_of}
use Rattle.ir_read_items.specs.ItemReading.{spelled}
use Rattle.ir_read_items.specs.ItemLaws.{IsModule}
use Rattle.ir_read_items.proofs.Spelled.{module_spelled}
use Rattle.ir_first_values.specs.Tables.{Tables}
use Rattle.ir_functions.specs.Functions.{function_of}
use Rattle.ir_read_top.specs.Module.{IsLibOf, AreLibsOf, named_marks}
use Rattle.ir_read_top.specs.Globals.{AreClasses, tables, globals_of}
use Rattle.ir_read_top.specs.Functions.{numbers_of, functions_in, surroundings, main_of}
use Rattle.ir_read_top.specs.Texts.{sentence, without_functions, IsModuleOf, IsSpelled, IsAccepted}
use Rattle.one_module.proofs.Classes.{AreAlike, classes_alike, one_list_of_globals}
use Rattle.one_module.proofs.Functions.{one_list_of_functions}

-- ---- what is read of a text

read_whole : (text : List ℕ) (tokens : List Token) (store : Store) → IsModule nesting_limit (sentence text tokens) store → spelled (sentence text tokens) ≡ Ok store
read_whole text tokens store d = ap spelled (sym (append-nil (sentence text tokens))) ∙ module_spelled (sentence text tokens) [] store d

one_store : (text : List ℕ) (tokens : List Token) (a b : Store) → IsModule nesting_limit (sentence text tokens) a → IsModule nesting_limit (sentence text tokens) b → a ≡ b
one_store text tokens a b d e =
    let same : Ok a ≡ Ok b = sym (read_whole text tokens a d) ∙ read_whole text tokens b e in
    cc

one_lib : (source : List ℕ) (item : SpelledItem) (a b : Option Lib) → IsLibOf source item a → IsLibOf source item b → a ≡ b
one_lib source (items.Declare name ty first count) a b h g = one_meaning (global_name (bytes_of source name)) a b h g
one_lib source items.Skipped a b h g = h ∙ sym g
one_lib source (items.Type name ty) a b h g = h ∙ sym g
one_lib source (items.Global name constant ty value) a b h g = h ∙ sym g
one_lib source items.Used a b h g = h ∙ sym g
one_lib source (items.Define name ty first count entry blocks) a b h g = h ∙ sym g
one_lib source (items.Node number) a b h g = h ∙ sym g
one_lib source (items.NodeList name) a b h g = h ∙ sym g

-- the declared functions of items are these alone
one_list_of_libs : (source : List ℕ) (rest : List SpelledItem) (a b : List (Option Lib)) → AreLibsOf source rest a → AreLibsOf source rest b → a ≡ b
one_list_of_libs source [] [] [] h g = refl
one_list_of_libs source [] [] (lib ∷ libs) h g = absurd g
one_list_of_libs source [] (lib ∷ libs) b h g = absurd h
one_list_of_libs source (item ∷ rest) [] b h g = absurd h
one_list_of_libs source (item ∷ rest) (a ∷ s) [] h g = absurd g
one_list_of_libs source (item ∷ rest) (a ∷ s) (b ∷ t) h g = λ i. one_lib source item a b h.0 g.0 i ∷ one_list_of_libs source rest s t h.1 g.1 i

-- two readings of one text
record AreOneReading (s t : List Token) (a b : Store) (u v : List (Option Lib)) : Type 0 where
  tokens : s ≡ t
  stores : a ≡ b
  libs : u ≡ v

one_reading : (text : List ℕ) (s t : List Token) (a b : Store) (u v : List (Option Lib)) → IsSpelled text s a u → IsSpelled text t b v → AreOneReading s t a b u v
one_reading text s t a b u v r q =
    let tokens = one_tokenisation text s t r.cut q.cut in
    let stores = one_store text t a b (subst (λ x. IsModule nesting_limit (sentence text x) a) tokens r.derived) q.derived in
    record {
      tokens = tokens;
      stores = stores;
      libs = one_list_of_libs text b.items u v (subst (λ (x : Store). AreLibsOf text x.items u) stores r.libs_right) q.libs_right;
    }

-- ---- modules

-- two modules of one reading are equal but for their functions
record HaveOneOutline (m n : Module) : Type 0 where
  types : m.types ≡ n.types
  fields : m.fields ≡ n.fields
  layouts : m.layouts ≡ n.layouts
  globals : m.globals ≡ n.globals
  declares : m.declares ≡ n.declares
  meta : m.meta ≡ n.meta

-- the classes of two modules of one reading are alike
alike : (text : List ℕ) (tokens : List Token) (store : Store) (libs : List (Option Lib)) (m n : Module) (i : IsModuleOf text tokens store libs m) (j : IsModuleOf text tokens store libs n)
    → m.types ≡ n.types → m.fields ≡ n.fields → AreAlike i.classes j.classes
alike text tokens store libs m n i j types fields =
    let named : List Bool = named_marks store.items store.types in
    classes_alike n.types n.fields named i.classes j.classes
    (subst (λ x. AreClasses n.types x named i.classes) fields (subst (λ x. AreClasses x m.fields named i.classes) types i.classes_right)) j.classes_right

-- what first values are made from, by types and fields
abbrev tables_by : List ℕ → Store → (classes : List ℕ) → List IrType → (fields : List ℕ) → Tables
tables_by text store classes types fields = record {
  types = types;
  fields = fields;
  source = text;
  constants = store.constants;
  elements = store.elements;
  indices = store.indices;
  numbers = numbers_of text store;
  classes = classes;
  variables = variables_of text store.items store;
}

one_outline : (text : List ℕ) (tokens : List Token) (store : Store) (libs : List (Option Lib)) (m n : Module) → IsModuleOf text tokens store libs m → IsModuleOf text tokens store libs n → HaveOneOutline m n
one_outline text tokens store libs m n i j =
    let types : m.types ≡ n.types = i.types ∙ sym j.types in
    let fields : m.fields ≡ n.fields = i.fields ∙ sym j.fields in
    record {
      types = types;
      fields = fields;
      layouts = i.layouts ∙ ((λ k. layouts_of (types k) (fields k)) ∙ sym j.layouts);
      globals = i.globals
          ∙ ((λ k. globals_of (tables_by text store i.classes (types k) (fields k)) store.items)
          ∙ (one_list_of_globals (tables_by text store j.classes n.types n.fields) i.classes j.classes (alike text tokens store libs m n i j types fields) store.items
          ∙ sym j.globals));
      declares = i.declares ∙ sym j.declares;
      meta = i.meta ∙ sym j.meta;
    }

-- the functions of a reading, in a module without functions, by classes
abbrev functions_by : List ℕ → List Token → Store → List (Option Lib) → (classes : List ℕ) → Module → List Function
functions_by text tokens store libs classes m =
    map (function_of (surroundings text tokens store libs) (tables text store (numbers_of text store) classes m) m) (functions_in store)

without_same : (m n : Module) → HaveOneOutline m n → without_functions m ≡ without_functions n
without_same m n o =
    λ k. record {
      types = o.types k;
      fields = o.fields k;
      layouts = o.layouts k;
      globals = o.globals k;
      declares = o.declares k;
      functions = [];
      main = 0;
      meta = o.meta k;
    }

functions_same : (text : List ℕ) (tokens : List Token) (store : Store) (libs : List (Option Lib)) (m n : Module) → IsModuleOf text tokens store libs m → IsModuleOf text tokens store libs n
    → HaveOneOutline m n → m.functions ≡ n.functions
functions_same text tokens store libs m n i j o =
    i.functions
    ∙ ((λ k. functions_by text tokens store libs i.classes (without_same m n o k))
    ∙ (one_list_of_functions (surroundings text tokens store libs) (tables_by text store j.classes n.types n.fields) i.classes j.classes (without_functions n) (functions_in store)
    ∙ sym j.functions))

-- two modules of one reading whose `main` is one are equal
module_same : (text : List ℕ) (tokens : List Token) (store : Store) (libs : List (Option Lib)) (m n : Module) → IsModuleOf text tokens store libs m → IsModuleOf text tokens store libs n
    → m.main ≡ n.main → m ≡ n
module_same text tokens store libs m n i j main =
    let o = one_outline text tokens store libs m n i j in
    let functions = functions_same text tokens store libs m n i j o in
    λ k. record {
      types = o.types k;
      fields = o.fields k;
      layouts = o.layouts k;
      globals = o.globals k;
      declares = o.declares k;
      functions = functions k;
      main = main k;
      meta = o.meta k;
    }

one_main : (text : List ℕ) (a b : Store) (x y : ℕ) → a ≡ b → main_of text a ≡ Some x → main_of text b ≡ Some y → x ≡ y
one_main text a b x y same h g =
    let e : Some x ≡ Some y = sym h ∙ (ap (main_of text) same ∙ g) in
    cc

-- a text that is accepted has one module
pub one_module : (text : List ℕ) (m n : Module) → IsAccepted text m → IsAccepted text n → m ≡ n
one_module text m n a b =
    let r = one_reading text a.tokens b.tokens a.store b.store a.libs b.libs a.read b.read in
    let also : IsModuleOf text b.tokens b.store b.libs m =
    subst (λ x. IsModuleOf text b.tokens b.store x m) r.libs
    (subst (λ x. IsModuleOf text b.tokens x a.libs m) r.stores (subst (λ x. IsModuleOf text x a.store a.libs m) r.tokens a.spelled)) in
    module_same text b.tokens b.store b.libs m n also b.spelled (one_main text a.store b.store m.main n.main r.stores a.main b.main)
