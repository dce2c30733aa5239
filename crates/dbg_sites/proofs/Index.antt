-- The places of nodes by their numbers, one node on.
use Rattle.std.proofs.Common.{◌≡◌, ℕ, ◌+◌, ◌-◌, ◌≤◌, List, [], ◌∷◌, length, get_or, take, drop, Bool, true, false, cond, Option, Some, None, is_some, arith, refl, sym, ap, ◌∙◌}
use Rattle.std.specs.List.{position_from}
use Rattle.std.specs.Str.{bytes_eq}
use Rattle.std.specs.Map.{update}
use Rattle.std.proofs.lemmas.List.{take_all}
use Rattle.std.proofs.lemmas.Slice.Eq.{bytes_eq-Decides}
use Rattle.std.proofs.lemmas.Bool.Decides.{same_from_decides}
use Rattle.ir_grammar.specs.DebugNodes.{has_number, place_of, node_named, is_meta_number_kind}
use Rattle.ir_text.specs.TokenText.{number_behind_bang}
use Rattle.ir_grammar.specs.DebugFields.{Lexeme}
use Rattle.ir_grammar.specs.DebugNodes.{Definition}
use Rattle.dbg_sites.specs.declared.definitions.KeptNode.{KeptNode}
use Rattle.dbg_sites.specs.Read.{is_numbered, definitions_of, place_or}

bytes_eq-swap : (a b : List ℕ) → bytes_eq a b ≡ bytes_eq b a
bytes_eq-swap a b = let d = bytes_eq-Decides b a in same_from_decides _ (bytes_eq b a) (bytes_eq-Decides a b) ((λ e. sym (d.0 e)), (λ h. d.1 (sym h)))

place_or-none : (o : Option ℕ) → o ≡ place_or o None
place_or-none None = refl
place_or-none (Some x) = refl

place_or-some : (o other : Option ℕ) → is_some o ≡ true → o ≡ place_or o other
place_or-some None other h = cc
place_or-some (Some x) other h = refl

place_or-absent : (o other : Option ℕ) → is_some o ≡ false → other ≡ place_or o other
place_or-absent None other h = refl
place_or-absent (Some x) other h = cc

kept_by : (f : List ℕ → Option ℕ) (number q : List ℕ) (place : ℕ) (b : Bool) → bytes_eq q number ≡ b → is_some (f number) ≡ true → f q ≡ place_or (f q) (cond b (Some place) None)
kept_by f number q place true same there =
    let e : q ≡ number = (bytes_eq-Decides q number).0 same in
    place_or-some (f q) (Some place) (ap (λ n. is_some (f n)) e ∙ there)
kept_by f number q place false apart there = place_or-none (f q)

-- where a number has a place already, nothing changes
pub place_kept : (f : List ℕ → Option ℕ) (number : List ℕ) (place : ℕ) → is_some (f number) ≡ true → (q : List ℕ) → f q ≡ place_or (f q) (cond (bytes_eq q number) (Some place) None)
place_kept f number place there q = kept_by f number q place (bytes_eq q number) refl there

set_by : (f : List ℕ → Option ℕ) (number q : List ℕ) (place : ℕ) (b : Bool) → bytes_eq q number ≡ b → is_some (f number) ≡ false → cond b (Some place) (f q) ≡ place_or (f q) (cond b (Some place) None)
set_by f number q place true same absent =
    let e : q ≡ number = (bytes_eq-Decides q number).0 same in
    place_or-absent (f q) (Some place) (ap (λ n. is_some (f n)) e ∙ absent)
set_by f number q place false apart absent = place_or-none (f q)

-- where it has none, it gets this one
pub place_set : (f : List ℕ → Option ℕ) (number : List ℕ) (place : ℕ) → is_some (f number) ≡ false → (q : List ℕ) → update bytes_eq f number (Some place) q ≡ place_or (f q) (cond (bytes_eq q number) (Some place) None)
place_set f number place absent q = ap (λ b. cond b (Some place) (f q)) (bytes_eq-swap number q) ∙ set_by f number q place (bytes_eq q number) refl absent

-- the place of a number among nodes, from the first of them
pub position_from-front : (t : KeptNode → Bool) (i : ℕ) (nodes : List KeptNode) (d : KeptNode) → 1 ≤ length nodes → position_from t i nodes ≡ cond (t (get_or nodes 0 d)) (Some i) (position_from t (i + 1) (take (length nodes - 1) (drop 1 nodes)))
position_from-front t i [] d some = absurd (omega arith)
position_from-front t i (x ∷ xs) d some = ap (λ ys. cond (t x) (Some i) (position_from t (i + 1) ys)) (sym (take_all _ xs (omega arith)))

pub place_or-step : (a : Option ℕ) (b : Bool) (i : ℕ) (r : Option ℕ) → place_or (place_or a (cond b (Some i) None)) r ≡ place_or a (cond b (Some i) r)
place_or-step None true i r = refl
place_or-step None false i r = refl
place_or-step (Some x) true i r = refl
place_or-step (Some x) false i r = refl

-- the place among nodes is that among their definitions
pub place_numbered : (source q : List ℕ) (i : ℕ) (nodes : List KeptNode) → position_from (is_numbered q) i nodes ≡ position_from (has_number q) i (definitions_of source nodes)
place_numbered source q i [] = refl
place_numbered source q i (x ∷ xs) = ap (λ r. cond (is_numbered q x) (Some i) r) (place_numbered source q (i + 1) xs)

pub node_named-number : (kept : List Definition) (l : Lexeme) → is_meta_number_kind l.kind ≡ true → place_of kept (number_behind_bang l.bytes) ≡ node_named kept l
node_named-number kept l h = rw h

-- what stands behind the first
pub length-behind : (place : ℕ) (nodes : List KeptNode) → 1 ≤ length nodes → place + 1 + length (take (length nodes - 1) (drop 1 nodes)) ≡ place + length nodes
length-behind place [] some = absurd (omega arith)
length-behind place (x ∷ xs) some = let e : take (length (x ∷ xs) - 1) xs ≡ xs = take_all _ xs (omega arith) in let same = ap length e in omega arith

-- the loop that gives each number its first place, one node on
pub index_step : (old new : List ℕ → Option ℕ) (nodes rest : List KeptNode) (place : ℕ) (d : KeptNode) → 1 ≤ length rest
    → ((q : List ℕ) → new q ≡ place_or (old q) (cond (bytes_eq q (get_or rest 0 d).number.now) (Some place) None))
    → ((q : List ℕ) → place_or (old q) (position_from (is_numbered q) place rest) ≡ position_from (is_numbered q) 0 nodes)
    → (q : List ℕ) → place_or (new q) (position_from (is_numbered q) (place + 1) (take (length rest - 1) (drop 1 rest))) ≡ position_from (is_numbered q) 0 nodes
index_step old new nodes rest place d some set before q =
    ap (λ o. place_or o (position_from (is_numbered q) (place + 1) (take (length rest - 1) (drop 1 rest)))) (set q)
    ∙ place_or-step (old q) (bytes_eq q (get_or rest 0 d).number.now) place (position_from (is_numbered q) (place + 1) (take (length rest - 1) (drop 1 rest)))
    ∙ ap (place_or (old q)) (sym (position_from-front (is_numbered q) place rest d some))
    ∙ before q
