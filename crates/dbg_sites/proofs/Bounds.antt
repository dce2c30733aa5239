-- There are no more kept nodes than tokens, and what they say is resolved.
use Rattle.std.proofs.Common.{◌≡◌, ℕ, ◌≤◌, List, [], ◌∷◌, length, map, Bool, true, false, cond, Option, Some, None, Result, Ok, Err, IfOk, arith, sym, ap, subst, ◌==◌}
use Rattle.std.specs.Prelude.{All, Vec}
use Rattle.std.specs.declared.alloc.Global.{Global}
use Rattle.std.specs.Option.{option_to_list}
use Rattle.std.proofs.lemmas.List.{length-map, length-append}
use Rattle.ir_core.specs.declared.token.Token.{Token}
use Rattle.ir_core.specs.declared.meta.Node.{Node}
use Rattle.ir_grammar.specs.DebugFields.{Lexeme, lexeme, lexemes, depth_behind}
use Rattle.ir_grammar.specs.DebugNodes.{Definition, definition_at, definitions, node_of, IsResolved}
use Rattle.ir_grammar.proofs.Resolved.{all_resolved_of}
use Rattle.dbg_sites.specs.declared.definitions.KeptNode.{KeptNode}
use Rattle.dbg_sites.specs.Read.{definition_of, definitions_of, numbers_in}

at_most_one : (b : Bool) (o : Option Definition) → length (cond b (option_to_list o) []) ≤ 1
at_most_one true None = omega arith
at_most_one true (Some d) = omega arith
at_most_one false o = omega arith

length-definitions : (depth : ℕ) (tokens : List Lexeme) → length (definitions depth tokens) ≤ length tokens
length-definitions depth [] = omega arith
length-definitions depth (l ∷ rest) =
    let whole = length-append (cond (depth == 0) (option_to_list (definition_at (l ∷ rest))) []) (definitions (depth_behind l depth) rest) in
    let one = at_most_one (depth == 0) (definition_at (l ∷ rest)) in
    let more = length-definitions (depth_behind l depth) rest in
    omega arith

pub length-kept : (source : List ℕ) (tokens : List Token) (nodes : List KeptNode) → definitions_of source nodes ≡ definitions 0 (lexemes source tokens) → length nodes ≤ length tokens
length-kept source tokens nodes e =
    let bound = length-definitions 0 (lexemes source tokens) in
    let ones = length-map nodes (definition_of source) in
    let twos = length-map tokens (lexeme source) in
    let same = ap length e in
    omega arith

pub resolved_if : {E : Type 0} (kept : List Definition) (r : Result (List Node) E) → IfOk r (λ meta. meta ≡ map (node_of kept) kept) → IfOk r (λ meta. All (IsResolved meta) meta)
resolved_if kept (Ok meta) h = subst (λ nodes. All (IsResolved nodes) nodes) (sym h) (all_resolved_of kept)
resolved_if kept (Err e) h = h

-- there are no more numbers than nodes
pub few_if : {E : Type 0} (source : List ℕ) (tokens : List Token) (nodes : List KeptNode) (result : Result (Vec (Vec ℕ Global) Global) E) → length nodes ≤ length tokens
    → IfOk result (λ n. numbers_in n.items ≡ map (λ d. d.number) (definitions_of source nodes)) → IfOk result (λ n. length n.items ≤ length tokens)
few_if source tokens nodes (Err e) le h = tt
few_if source tokens nodes (Ok n) le h =
    let a : length (numbers_in n.items) ≡ length (map (λ (d : Definition). d.number) (definitions_of source nodes)) = ap length h in
    let b = length-map n.items (λ (v : Vec ℕ Global). v.items) in
    let c = length-map (definitions_of source nodes) (λ (d : Definition). d.number) in
    let d = length-map nodes (definition_of source) in
    omega arith
