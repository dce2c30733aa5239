-- Each number in a kept node names a kept node.
use Rattle.std.proofs.Common.{◌≡◌, ℕ, zero, suc, ◌+◌, ◌<◌, List, [], ◌∷◌, length, map, get_or, cond, Bool, true, false, Option, Some, None, IfSome, arith, refl, ap, ◌∙◌}
use Rattle.std.specs.Prelude.{All, slice_get}
use Rattle.std.specs.List.{position_from}
use Rattle.std.specs.Option.{option_map, option_and_then, option_map_or}
use Rattle.std.proofs.lemmas.Option.{slice_get-map}
use Rattle.std.proofs.lemmas.List.{length-map}
use Rattle.ir_core.specs.declared.token.Token.{Token}
use Rattle.ir_core.specs.declared.meta.Node.{Node}
use Rattle.ir_core.specs.declared.meta.NodeKind.{NodeKind}
use Rattle.ir_core.specs.declared.meta.NodeKind.TheVariants.{Location, Subprogram, File, Other}
use Rattle.ir_text.specs.TokenText.{number_behind_bang}
use Rattle.ir_grammar.specs.DebugFields.{Lexeme, lexemes, Field}
use Rattle.ir_grammar.specs.DebugNodes.{Definition, definitions, has_number, place_of, field_token, node_named, node_field, is_location_kind, is_location_at, if_location, location_field, is_meta_number_kind, node_as, node_of, kept_nodes, IsThere, IsLocationThere, IsResolved}

-- what holds of each f x holds of each item of `map f xs`
pub all_map : {X Y : Type 0} (f : X → Y) (P : Y → Type 0) → ((x : X) → P (f x)) → (xs : List X) (k : ℕ) (d : Y) → k < length (map f xs) → P (get_or (map f xs) k d)
all_map f P h [] k d below = absurd (omega arith)
all_map f P h (x ∷ xs) zero d below = h x
all_map f P h (x ∷ xs) (suc k) d below = all_map f P h xs k d (omega arith)

-- what holds of what each call gives holds of what the chain gives
pub if_some_then : {A B : Type 0} (P : B → Type 0) (f : A → Option B) (o : Option A) → ((x : A) → IfSome (f x) P) → IfSome (option_and_then f o) P
if_some_then P f None h = tt
if_some_then P f (Some x) h = h x

-- what follows from a fact holds where the fact does
pub if_some_weaker : {A : Type 0} (P Q : A → Type 0) (o : Option A) → ((x : A) → P x → Q x) → IfSome o P → IfSome o Q
if_some_weaker P Q None h p = tt
if_some_weaker P Q (Some x) h p = h x p

place_below : (number : List ℕ) (i : ℕ) (kept : List Definition) → IfSome (position_from (has_number number) i kept) (λ j. j < i + length kept)
place_below number i [] = tt
place_below number i (x ∷ xs) =
    elim (has_number number x) as (λ b. IfSome (cond b (Some i) (position_from (has_number number) (i + 1) xs)) (λ j. j < i + suc (length xs))) [
      | true ↦ omega arith
      | false ↦ if_some_weaker (λ j. j < i + 1 + length xs) (λ j. j < i + suc (length xs)) (position_from (has_number number) (i + 1) xs) (λ j h. omega arith) (place_below number (i + 1) xs)
    ]

named_there : (kept : List Definition) (l : Lexeme) → IfSome (node_named kept l) (λ j. j < length kept)
named_there kept l =
    elim (is_meta_number_kind l.kind) as (λ b. IfSome (cond b (place_of kept (number_behind_bang l.bytes)) None) (λ j. j < length kept)) [
      | true ↦ if_some_weaker (λ j. j < 0 + length kept) (λ j. j < length kept) (place_of kept (number_behind_bang l.bytes)) (λ j h. omega arith) (place_below (number_behind_bang l.bytes) 0 kept)
      | false ↦ tt
    ]

-- a field names a node that is there
pub node_there : (kept : List Definition) (nodes : List Node) → length nodes ≡ length kept → (fs : List Field) (name : List ℕ) → IfSome (node_field kept fs name) (IsThere nodes)
node_there kept nodes same fs name =
    if_some_weaker (λ j. j < length kept) (IsThere nodes) (node_field kept fs name) (λ j h. omega arith)
    (if_some_then (λ j. j < length kept) (node_named kept) (field_token fs name) (named_there kept))

node_kind : (kept : List Definition) (d : Definition) → (node_of kept d).kind ≡ d.kind
node_kind kept d = elim d.kind as (λ k. (node_as k kept d.fields).kind ≡ k) [ Location ↦ refl | Subprogram ↦ refl | File ↦ refl | Other ↦ refl ]

kind_is : (k : NodeKind) → is_location_kind k ≡ true → k ≡ Location
kind_is Location h = refl
kind_is Subprogram h = cc
kind_is File h = cc
kind_is Other h = cc

location_is : (kept : List Definition) (o : Option Definition) → option_map_or (λ d. is_location_kind d.kind) o false ≡ true → option_map (λ (n : Node). n.kind) (option_map (node_of kept) o) ≡ Some Location
location_is kept None h = cc
location_is kept (Some d) h = ap Some (node_kind kept d ∙ kind_is d.kind h)

location_there : (kept : List Definition) (k : ℕ) → is_location_at kept k ≡ true → IsLocationThere (map (node_of kept) kept) k
location_there kept k h = ap (option_map (λ (n : Node). n.kind)) (slice_get-map (node_of kept) kept k) ∙ location_is kept (slice_get kept k) h

guarded : (kept : List Definition) (k : ℕ) (b : Bool) → is_location_at kept k ≡ b → IfSome (cond b (Some k) None) (IsLocationThere (map (node_of kept) kept))
guarded kept k true h = location_there kept k h
guarded kept k false h = tt

-- a field of a location's names a location that is there
pub inlined_there : (kept : List Definition) (fs : List Field) (name : List ℕ) → IfSome (location_field kept fs name) (IsLocationThere (map (node_of kept) kept))
inlined_there kept fs name = if_some_then (IsLocationThere (map (node_of kept) kept)) (if_location kept) (node_field kept fs name) (λ k. guarded kept k (is_location_at kept k) refl)

resolved_as : (kept : List Definition) (k : NodeKind) (fs : List Field) → IsResolved (map (node_of kept) kept) (node_as k kept fs)
resolved_as kept Location fs = record { scope = node_there kept (map (node_of kept) kept) (length-map kept (node_of kept)) fs _; inlined = inlined_there kept fs _; file = tt }
resolved_as kept Subprogram fs = record { scope = tt; inlined = tt; file = node_there kept (map (node_of kept) kept) (length-map kept (node_of kept)) fs _ }
resolved_as kept File fs = record { scope = tt; inlined = tt; file = tt }
resolved_as kept Other fs = record { scope = node_there kept (map (node_of kept) kept) (length-map kept (node_of kept)) fs _; inlined = tt; file = node_there kept (map (node_of kept) kept) (length-map kept (node_of kept)) fs _ }

-- what any definitions say together is resolved
pub all_resolved_of : (kept : List Definition) → All (IsResolved (map (node_of kept) kept)) (map (node_of kept) kept)
all_resolved_of kept = all_map (node_of kept) (IsResolved (map (node_of kept) kept)) (λ d. resolved_as kept d.kind d.fields) kept

pub all_resolved : (source : List ℕ) (tokens : List Token) → All (IsResolved (kept_nodes source tokens)) (kept_nodes source tokens)
all_resolved source tokens = all_resolved_of (definitions 0 (lexemes source tokens))
