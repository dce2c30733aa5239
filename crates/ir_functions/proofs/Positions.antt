-- The place of the first that is there is below how many there are.
use Rattle.std.proofs.Common.{◌≡◌, ℕ, ◌+◌, ◌<◌, List, [], ◌∷◌, length, Bool, true, false, Option, Some, None, arith, refl, if◌then◌else◌}
use Rattle.std.specs.List.{position_from}
use Rattle.std.specs.Str.{bytes_eq}
use Rattle.ir_core.specs.declared.token.Token.{Token}
use Rattle.ir_core.specs.Tokens.{bytes_of}
use Rattle.ir_grammar.specs.DebugNodes.{is_meta_number_kind}
use Rattle.ir_text.specs.TokenText.{number_behind_bang}
use Rattle.ir_names.specs.Keys.{first_with}
use Rattle.ir_body_names.specs.BodyFaults.{node_place}

found : {X : Type 0} (test : X → Bool) (i : ℕ) (x : X) (xs : List X) (k : ℕ) (b : Bool) → test x ≡ b
    → ((j : ℕ) → position_from test (i + 1) xs ≡ Some j → j < (i + 1) + length xs)
    → position_from test i (x ∷ xs) ≡ Some k → k < i + length (x ∷ xs)
found test i x xs k true e more h = let same : position_from test i (x ∷ xs) ≡ Some i = rw e in let k_is : k ≡ i = cc in omega arith
found test i x xs k false e more h = let same : position_from test i (x ∷ xs) ≡ position_from test (i + 1) xs = rw e in let there : k < (i + 1) + length xs = more k cc in omega arith

pub position_below : {X : Type 0} (test : X → Bool) (i : ℕ) (xs : List X) (k : ℕ) → position_from test i xs ≡ Some k → k < i + length xs
position_below test i [] k h = cc
position_below test i (x ∷ xs) k h = found test i x xs k (test x) refl (λ j e. position_below test (i + 1) xs j e) h

pub first_below : (key : List ℕ) (keys : List (List ℕ)) (k : ℕ) → first_with key keys ≡ Some k → k < length keys
first_below key keys k h = let b : k < 0 + length keys = position_below (bytes_eq key) 0 keys k h in omega arith

node_by : (b : Bool) (number : List ℕ) (nodes : List (List ℕ)) (k : ℕ) → (if b then first_with number nodes else None) ≡ Some k → k < length nodes
node_by true number nodes k h = first_below number nodes k h
node_by false number nodes k h = cc

pub node_below : (source : List ℕ) (nodes : List (List ℕ)) (token : Token) (k : ℕ) → node_place source nodes token ≡ Some k → k < length nodes
node_below source nodes token k h = node_by (is_meta_number_kind token.kind) (number_behind_bang (bytes_of source token)) nodes k h
