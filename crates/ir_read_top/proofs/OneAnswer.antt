-- A text has one answer: it is accepted, or refused for one fault.
use Rattle.std.proofs.Common.{◌≡◌, ℕ, ◌+◌, ◌<◌, ◌≤◌, cond, List, [], ◌∷◌, ◌++◌, length, map, take, drop, Some, None, Ok, Err, Option, Result, refl, sym, ◌∙◌, ap, subst, arith, append-nil}
use Rattle.hw_base.specs.declared.numbers.TheConstants.{MOST_TEXT}
use Rattle.ir_core.specs.declared.token.Token.{Token}
use Rattle.ir_core.specs.declared.refusals.Place.{Place}
use Rattle.ir_core.specs.declared.refusals.Refusal.{Refusal}
use Rattle.ir_core.specs.declared.faults.Fault.TheVariants.{BadToken, MetaCycle}
use Rattle.ir_core.specs.declared.lib_functions.Lib.{Lib}
use Rattle.ir_core.specs.declared.meta.Node.{Node}
use Rattle.ir_core.specs.declared.ir_module.DbgRef.{DbgRef}
use Rattle.ir_core.specs.declared.ir_module.Module.{Module}
use Rattle.ir_core.specs.Tokens.{bytes_of}
use Rattle.ir_core.specs.Scopes.{cycle_at, cycle_in, first_cycle, place_or, scopes_fault}
use Rattle.ir_core.specs.Externals.{IsExternal}
use Rattle.ir_core.specs.Tokenisation.{IsTokenisation, place_after}
use Rattle.ir_text.specs.Names.{global_name}
use Rattle.ir_lex.proofs.Cuts.{one_tokenisation, one_bad_place}
use Rattle.ir_lex.proofs.Cuts as cuts
use Rattle.ir_grammar.specs.declared.spelled.SpelledItem.{SpelledItem}
use Rattle.ir_grammar.specs.declared.spelled.SpelledItem.TheVariants as items
use Rattle.ir_grammar.specs.declared.spelled_bodies.SpelledAttachment.{SpelledAttachment}
use Rattle.ir_grammar.specs.declared.spelled_bodies.SpelledInstruction.{SpelledInstruction}
use Rattle.ir_grammar.specs.declared.terminal.Flaw.{Flaw}
use Rattle.ir_grammar.specs.Spelled.{Store}
use Rattle.ir_grammar.specs.Grammar.{nesting_limit}
use Rattle.ir_grammar.specs.DebugNodes.{kept_nodes}
use Rattle.dbg_sites.specs.Read.{node_numbers}
use Rattle.ir_read_items.specs.ItemReading.{spelled}
use Rattle.ir_read_items.specs.ItemLaws.{IsModule}
use Rattle.ir_read_items.proofs.Spelled.{module_spelled}
use Rattle.ir_names.specs.declared.fault.NameFault.{NameFault}
use Rattle.ir_names.specs.First.{first_fault}
use Rattle.ir_names.specs.Faults.{name_faults}
use Rattle.ir_first_values.specs.Tables.{Tables}
use Rattle.ir_body_names.specs.Uses.{is_debug_location}
use Rattle.ir_body_names.specs.BodyFaults.{Surroundings, node_place}
use Rattle.ir_functions.specs.Scope.{Scope}
use Rattle.ir_functions.specs.Instructions.{location_by, debug_location, has_register}
use Rattle.ir_functions.specs.Functions.{Spelled, scope_of, is_variable, instructions_from, all_instructions, function_of}
use Rattle.ir_read_top.specs.Module.{AreLibsOf}
use Rattle.ir_read_top.specs.Globals.{tables}
use Rattle.ir_read_top.specs.Functions.{numbers_of, functions_in, function_keys, declare_key, declare_keys, surroundings, function_faults, all_faults, main_of}
use Rattle.ir_read_top.specs.Texts.{sentence, refusal_at, place_with, without_functions, IsModuleOf, IsSpelled, IsAccepted, IsFaultOf, too_long, bad_token, flawed, misnamed, without_main, cyclic}

-- a text that is a module is read so
read_whole : (text : List ℕ) (tokens : List Token) (store : Store) → IsModule nesting_limit (sentence text tokens) store → spelled (sentence text tokens) ≡ Ok store
read_whole text tokens store d = ap spelled (sym (append-nil (sentence text tokens))) ∙ module_spelled (sentence text tokens) [] store d

-- two readings of one text are one
one_reading : (text : List ℕ) (s t : List Token) (a b : Result Store Flaw) → IsTokenisation text s → IsTokenisation text t
    → spelled (sentence text s) ≡ a → spelled (sentence text t) ≡ b → a ≡ b
one_reading text s t a b cut cut' h h' = sym h ∙ (ap (λ v. spelled (sentence text v)) (one_tokenisation text s t cut cut') ∙ h')

ok_or_err : (store : Store) (e : Flaw) → Ok store ≡ Err e → ⊥
ok_or_err store e h = cc

-- no text is a module, and has a flaw
not_flawed : (text : List ℕ) (s t : List Token) (store : Store) (e : Flaw) → IsTokenisation text s → IsTokenisation text t
    → IsModule nesting_limit (sentence text s) store → spelled (sentence text t) ≡ Err e → ⊥
not_flawed text s t store e cut cut' d h = ok_or_err store e (one_reading text s t (Ok store) (Err e) cut cut' (read_whole text s store d) h)

-- two modules of one text are spelled alike
one_store : (text : List ℕ) (s t : List Token) (a b : Store) → IsTokenisation text s → IsTokenisation text t
    → IsModule nesting_limit (sentence text s) a → IsModule nesting_limit (sentence text t) b → a ≡ b
one_store text s t a b cut cut' d d' =
    let e : Ok a ≡ Ok b = one_reading text s t (Ok a) (Ok b) cut cut' (read_whole text s a d) (read_whole text t b d') in
    cc

-- ---- declared functions

key_by : (source : List ℕ) (name : Token) (ty first count : ℕ) (a b : Option Lib) → IsExternal (global_name (bytes_of source name)) a → IsExternal (global_name (bytes_of source name)) b
    → declare_key source (items.Declare name ty first count) a ≡ declare_key source (items.Declare name ty first count) b
key_by source name ty first count None None h g = refl
key_by source name ty first count (Some a) (Some b) h g = refl
key_by source name ty first count None (Some b) h g = absurd (h b g.0 g.1)
key_by source name ty first count (Some a) None h g = absurd (g a h.0 h.1)

one_key : (source : List ℕ) (item : SpelledItem) (a b : Option Lib) (rest : List SpelledItem) (s t : List (Option Lib)) → AreLibsOf source (item ∷ rest) (a ∷ s) → AreLibsOf source (item ∷ rest) (b ∷ t)
    → declare_key source item a ≡ declare_key source item b
one_key source items.Skipped a b rest s t h g = refl
one_key source (items.Type name ty) a b rest s t h g = refl
one_key source (items.Global name constant ty value) a b rest s t h g = refl
one_key source items.Used a b rest s t h g = refl
one_key source (items.Declare name ty first count) a b rest s t h g = key_by source name ty first count a b h.0 g.0
one_key source (items.Define name ty first count entry blocks) a b rest s t h g = refl
one_key source (items.Node number) a b rest s t h g = refl
one_key source (items.NodeList name) a b rest s t h g = refl

-- the keys of declared functions don't depend on which function a name is taken for
one_declares : (source : List ℕ) (rest : List SpelledItem) (a b : List (Option Lib)) → AreLibsOf source rest a → AreLibsOf source rest b → declare_keys source rest a ≡ declare_keys source rest b
one_declares source [] a b h g = refl
one_declares source (item ∷ rest) [] b h g = absurd h
one_declares source (item ∷ rest) (a ∷ s) [] h g = absurd g
one_declares source (item ∷ rest) (a ∷ s) (b ∷ t) h g =
    ap (λ v. v ++ declare_keys source rest s) (one_key source item a b rest s t h g) ∙ ap (λ v. declare_key source item b ++ v) (one_declares source rest s t h.1 g.1)

-- what bodies are resolved against, by the keys of declared functions
abbrev with_declares : List ℕ → List Token → Store → List (List ℕ) → Surroundings
with_declares text tokens store declares = record {
  source = text;
  types = store.types;
  numbers = numbers_of text store;
  bodies = store.bodies;
  functions = function_keys text (functions_in store);
  declares = declares;
  nodes = node_numbers text tokens;
  kinds = map (λ (n : Node). n.kind) (kept_nodes text tokens);
}

one_surroundings : (text : List ℕ) (tokens : List Token) (store : Store) (a b : List (Option Lib)) → AreLibsOf text store.items a → AreLibsOf text store.items b → surroundings text tokens store a ≡ surroundings text tokens store b
one_surroundings text tokens store a b h g = ap (with_declares text tokens store) (one_declares text store.items a b h g)

-- ---- two readings of one text

record AreAlike (s t : List Token) (a b : Store) : Type 0 where
  tokens : s ≡ t
  stores : a ≡ b

alike : (text : List ℕ) (s t : List Token) (a b : Store) (u v : List (Option Lib)) → IsSpelled text s a u → IsSpelled text t b v → AreAlike s t a b
alike text s t a b u v r q = record { tokens = one_tokenisation text s t r.cut q.cut; stores = one_store text s t a b r.cut q.cut r.derived q.derived }

one_faults : (text : List ℕ) (s t : List Token) (a b : Store) (u v : List (Option Lib)) → IsSpelled text s a u → IsSpelled text t b v → all_faults text s a u ≡ all_faults text t b v
one_faults text s t a b u v r q =
    let e = alike text s t a b u v r q in
    let right : AreLibsOf text b.items u = subst (λ (x : Store). AreLibsOf text x.items u) e.stores r.libs_right in
    ap (λ x. all_faults text x a u) e.tokens
    ∙ (ap (λ x. all_faults text t x u) e.stores
    ∙ ap (λ n. name_faults text b.items b ++ function_faults n (functions_in b)) (one_surroundings text t b u v right q.libs_right))

-- the first fault of the names of one text is one
one_first : (text : List ℕ) (s t : List Token) (a b : Store) (u v : List (Option Lib)) (f g : Option NameFault) → IsSpelled text s a u → IsSpelled text t b v
    → first_fault (all_faults text s a u) ≡ f → first_fault (all_faults text t b v) ≡ g → f ≡ g
one_first text s t a b u v f g r q h h' = sym h ∙ (ap first_fault (one_faults text s t a b u v r q) ∙ h')

one_main : (text : List ℕ) (s t : List Token) (a b : Store) (u v : List (Option Lib)) (f g : Option ℕ) → IsSpelled text s a u → IsSpelled text t b v → main_of text a ≡ f → main_of text b ≡ g → f ≡ g
one_main text s t a b u v f g r q h h' = sym h ∙ (ap (main_of text) (alike text s t a b u v r q).stores ∙ h')

none_or_some : (f : NameFault) → None ≡ Some f → ⊥
none_or_some f h = cc

none_or_number : (n : ℕ) → None ≡ Some n → ⊥
none_or_number n h = cc

none_or_place : (p : Place) → None ≡ Some p → ⊥
none_or_place p h = cc

-- the flaws of one text are told alike
one_flaw : (text : List ℕ) (s t : List Token) (e d : Flaw) → IsTokenisation text s → IsTokenisation text t → spelled (sentence text s) ≡ Err e → spelled (sentence text t) ≡ Err d
    → refusal_at e.fault (place_with (place_after text) (sentence text s) e.left) ≡ refusal_at d.fault (place_with (place_after text) (sentence text t) d.left)
one_flaw text s t e d cut cut' h h' =
    let q : Err e ≡ Err d = one_reading text s t (Err e) (Err d) cut cut' h h' in
    let same : e ≡ d = cc in
    ap (λ (v : Flaw). refusal_at v.fault (place_with (place_after text) (sentence text s) v.left)) same
    ∙ ap (λ v. refusal_at d.fault (place_with (place_after text) (sentence text v) d.left)) (one_tokenisation text s t cut cut')

one_misnaming : (f g : NameFault) → Some f ≡ Some g → refusal_at f.fault f.at.place ≡ refusal_at g.fault g.at.place
one_misnaming f g h = let same : f ≡ g = cc in ap (λ (v : NameFault). refusal_at v.fault v.at.place) same

one_cycle : (p q : Place) → Some p ≡ Some q → refusal_at MetaCycle p ≡ refusal_at MetaCycle q
one_cycle p q h = let same : p ≡ q = cc in ap (refusal_at MetaCycle) same

-- ---- chains of scopes

-- the first debug location among attachments, by what names stand for
abbrev location_in : Surroundings → List SpelledAttachment → Option DbgRef
location_in n [] = None
location_in n (a ∷ rest) = cond (is_debug_location n.source a.name) (location_by a.node (node_place n.source n.nodes a.node)) (location_in n rest)

location_is : (s : Scope) (xs : List SpelledAttachment) → debug_location s xs ≡ location_in s.names xs
location_is s [] = refl
location_is s (a ∷ rest) = ap (λ v. cond (is_debug_location s.names.source a.name) (location_by a.node (node_place s.names.source s.names.nodes a.node)) v) (location_is s rest)

-- where instructions have their first fault, by what names stand for
abbrev cycle_among : List Node → Surroundings → List SpelledInstruction → Option Place
cycle_among nodes n [] = None
cycle_among nodes n (i ∷ rest) = place_or (cycle_at nodes (location_in n (take i.count (drop i.first n.bodies.attachments)))) (cycle_among nodes n rest)

cycle_is : (nodes : List Node) (s : Scope) (r v : ℕ) (is : List SpelledInstruction) → cycle_in nodes (instructions_from s r v is) ≡ cycle_among nodes s.names is
cycle_is nodes s r v [] = refl
cycle_is nodes s r v (i ∷ rest) =
    ap (λ d. place_or (cycle_at nodes d) (cycle_in nodes (instructions_from s (cond (has_register s i) (r + 1) r) (cond (is_variable i.operation) (v + 1) v) rest)))
    (location_is s (take i.count (drop i.first s.names.bodies.attachments)))
    ∙ ap (place_or (cycle_at nodes (location_in s.names (take i.count (drop i.first s.names.bodies.attachments)))))
    (cycle_is nodes s (cond (has_register s i) (r + 1) r) (cond (is_variable i.operation) (v + 1) v) rest)

-- the same of functions
abbrev cycle_of : List Node → Surroundings → List Spelled → Option Place
cycle_of nodes n [] = None
cycle_of nodes n (f ∷ rest) = place_or (cycle_among nodes n (all_instructions n.bodies.instructions f.blocks)) (cycle_of nodes n rest)

first_is : (nodes : List Node) (n : Surroundings) (t : Tables) (m : Module) (fs : List Spelled) → first_cycle nodes (map (function_of n t m) fs) ≡ cycle_of nodes n fs
first_is nodes n t m [] = refl
first_is nodes n t m (f ∷ rest) =
    ap (λ p. place_or p (first_cycle nodes (map (function_of n t m) rest))) (cycle_is nodes (scope_of n t m f) (length f.parameters) 0 (all_instructions n.bodies.instructions f.blocks))
    ∙ ap (place_or (cycle_among nodes n (all_instructions n.bodies.instructions f.blocks))) (first_is nodes n t m rest)

scopes_are : (text : List ℕ) (tokens : List Token) (store : Store) (libs : List (Option Lib)) (m : Module) → IsModuleOf text tokens store libs m
    → scopes_fault m ≡ cycle_of (kept_nodes text tokens) (surroundings text tokens store libs) (functions_in store)
scopes_are text tokens store libs m i =
    ap (λ n. first_cycle n m.functions) i.meta
    ∙ (ap (first_cycle (kept_nodes text tokens)) i.functions
    ∙ first_is (kept_nodes text tokens) (surroundings text tokens store libs) (tables text store (numbers_of text store) i.classes m) (without_functions m) (functions_in store))

-- two modules of one text have their first such fault at one place
one_scopes : (text : List ℕ) (s t : List Token) (a b : Store) (u v : List (Option Lib)) (m n : Module) (p q : Option Place) → IsSpelled text s a u → IsSpelled text t b v
    → IsModuleOf text s a u m → IsModuleOf text t b v n → scopes_fault m ≡ p → scopes_fault n ≡ q → p ≡ q
one_scopes text s t a b u v m n p q r w i j h h' =
    let e = alike text s t a b u v r w in
    let right : AreLibsOf text b.items u = subst (λ (x : Store). AreLibsOf text x.items u) e.stores r.libs_right in
    sym h
    ∙ (scopes_are text s a u m i
    ∙ (ap (λ x. cycle_of (kept_nodes text x) (surroundings text x a u) (functions_in a)) e.tokens
    ∙ (ap (λ x. cycle_of (kept_nodes text t) (surroundings text t x u) (functions_in x)) e.stores
    ∙ (ap (λ x. cycle_of (kept_nodes text t) x (functions_in b)) (one_surroundings text t b u v right w.libs_right)
    ∙ (sym (scopes_are text t b v n j) ∙ h')))))

-- ---- the answer

too_much : (n : ℕ) → n ≤ MOST_TEXT → MOST_TEXT < n → ⊥
too_much n short long = omega arith

-- a text that is accepted has no fault
pub never_both : (text : List ℕ) (m : Module) (r : Refusal) → IsAccepted text m → IsFaultOf text r → ⊥
never_both text m _ a (too_long h) = too_much (length text) a.read.short h
never_both text m _ a (bad_token p short b) = cuts.never_both text a.tokens p a.read.cut b
never_both text m _ a (flawed t f l short cut e) = not_flawed text a.tokens t a.store (record { fault = f; left = l }) a.read.cut cut a.read.derived e
never_both text m _ a (misnamed t s u f r n) = none_or_some f (one_first text a.tokens t a.store s a.libs u None (Some f) a.read r a.named n)
never_both text m _ a (without_main t s u r n h) = none_or_number m.main (one_main text t a.tokens s a.store u a.libs None (Some m.main) r a.read h a.main)
never_both text m _ a (cyclic t s u o p r n i h c) = none_or_place p (one_scopes text a.tokens t a.store s a.libs u m o None (Some p) a.read r a.spelled i a.scopes c)

-- a text has one fault
pub one_fault : (text : List ℕ) (r q : Refusal) → IsFaultOf text r → IsFaultOf text q → r ≡ q
one_fault text _ _ (too_long h) (too_long h') = refl
one_fault text _ _ (too_long h) (bad_token p' short' b') = absurd (too_much (length text) short' h)
one_fault text _ _ (too_long h) (flawed t' f' l' short' cut' e') = absurd (too_much (length text) short' h)
one_fault text _ _ (too_long h) (misnamed t' s' u' f' r' n') = absurd (too_much (length text) r'.short h)
one_fault text _ _ (too_long h) (without_main t' s' u' r' n' m') = absurd (too_much (length text) r'.short h)
one_fault text _ _ (too_long h) (cyclic t' s' u' o' p' r' n' i' m' c') = absurd (too_much (length text) r'.short h)
one_fault text _ _ (bad_token p short b) (too_long h') = absurd (too_much (length text) short h')
one_fault text _ _ (bad_token p short b) (bad_token p' short' b') = ap (refusal_at BadToken) (one_bad_place text p p' b b')
one_fault text _ _ (bad_token p short b) (flawed t' f' l' short' cut' e') = absurd (cuts.never_both text t' p cut' b)
one_fault text _ _ (bad_token p short b) (misnamed t' s' u' f' r' n') = absurd (cuts.never_both text t' p r'.cut b)
one_fault text _ _ (bad_token p short b) (without_main t' s' u' r' n' m') = absurd (cuts.never_both text t' p r'.cut b)
one_fault text _ _ (bad_token p short b) (cyclic t' s' u' o' p' r' n' i' m' c') = absurd (cuts.never_both text t' p r'.cut b)
one_fault text _ _ (flawed t f l short cut e) (too_long h') = absurd (too_much (length text) short h')
one_fault text _ _ (flawed t f l short cut e) (bad_token p' short' b') = absurd (cuts.never_both text t p' cut b')
one_fault text _ _ (flawed t f l short cut e) (flawed t' f' l' short' cut' e') = one_flaw text t t' (record { fault = f; left = l }) (record { fault = f'; left = l' }) cut cut' e e'
one_fault text _ _ (flawed t f l short cut e) (misnamed t' s' u' f' r' n') = absurd (not_flawed text t' t s' (record { fault = f; left = l }) r'.cut cut r'.derived e)
one_fault text _ _ (flawed t f l short cut e) (without_main t' s' u' r' n' m') = absurd (not_flawed text t' t s' (record { fault = f; left = l }) r'.cut cut r'.derived e)
one_fault text _ _ (flawed t f l short cut e) (cyclic t' s' u' o' p' r' n' i' m' c') = absurd (not_flawed text t' t s' (record { fault = f; left = l }) r'.cut cut r'.derived e)
one_fault text _ _ (misnamed t s u f r n) (too_long h') = absurd (too_much (length text) r.short h')
one_fault text _ _ (misnamed t s u f r n) (bad_token p' short' b') = absurd (cuts.never_both text t p' r.cut b')
one_fault text _ _ (misnamed t s u f r n) (flawed t' f' l' short' cut' e') = absurd (not_flawed text t t' s (record { fault = f'; left = l' }) r.cut cut' r.derived e')
one_fault text _ _ (misnamed t s u f r n) (misnamed t' s' u' f' r' n') = one_misnaming f f' (one_first text t t' s s' u u' (Some f) (Some f') r r' n n')
one_fault text _ _ (misnamed t s u f r n) (without_main t' s' u' r' n' m') = absurd (none_or_some f (one_first text t' t s' s u' u None (Some f) r' r n' n))
one_fault text _ _ (misnamed t s u f r n) (cyclic t' s' u' o' p' r' n' i' m' c') = absurd (none_or_some f (one_first text t' t s' s u' u None (Some f) r' r n' n))
one_fault text _ _ (without_main t s u r n m) (too_long h') = absurd (too_much (length text) r.short h')
one_fault text _ _ (without_main t s u r n m) (bad_token p' short' b') = absurd (cuts.never_both text t p' r.cut b')
one_fault text _ _ (without_main t s u r n m) (flawed t' f' l' short' cut' e') = absurd (not_flawed text t t' s (record { fault = f'; left = l' }) r.cut cut' r.derived e')
one_fault text _ _ (without_main t s u r n m) (misnamed t' s' u' f' r' n') = absurd (none_or_some f' (one_first text t t' s s' u u' None (Some f') r r' n n'))
one_fault text _ _ (without_main t s u r n m) (without_main t' s' u' r' n' m') = refl
one_fault text _ _ (without_main t s u r n m) (cyclic t' s' u' o' p' r' n' i' m' c') = absurd (none_or_number o'.main (one_main text t t' s s' u u' None (Some o'.main) r r' m m'))
one_fault text _ _ (cyclic t s u o p r n i m c) (too_long h') = absurd (too_much (length text) r.short h')
one_fault text _ _ (cyclic t s u o p r n i m c) (bad_token p' short' b') = absurd (cuts.never_both text t p' r.cut b')
one_fault text _ _ (cyclic t s u o p r n i m c) (flawed t' f' l' short' cut' e') = absurd (not_flawed text t t' s (record { fault = f'; left = l' }) r.cut cut' r.derived e')
one_fault text _ _ (cyclic t s u o p r n i m c) (misnamed t' s' u' f' r' n') = absurd (none_or_some f' (one_first text t t' s s' u u' None (Some f') r r' n n'))
one_fault text _ _ (cyclic t s u o p r n i m c) (without_main t' s' u' r' n' m') = absurd (none_or_number o.main (one_main text t' t s' s u' u None (Some o.main) r' r m' m))
one_fault text _ _ (cyclic t s u o p r n i m c) (cyclic t' s' u' o' p' r' n' i' m' c') = one_cycle p p' (one_scopes text t t' s s' u u' o o' (Some p) (Some p') r r' i i' c c')
