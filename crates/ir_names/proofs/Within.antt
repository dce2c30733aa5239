-- What names stand for is there.
use Rattle.std.proofs.Common.{◌≡◌, ℕ, zero, suc, ◌+◌, ◌<◌, ◌≤◌, List, [], ◌∷◌, length, map, get_or, Option, Some, None, arith, refl, ap}
use Rattle.std.specs.List.{All, slice_get}
use Rattle.std.specs.Option.{IfSome}
use Rattle.std.proofs.lemmas.List.Elements.{All-cons, All-map}
use Rattle.ir_grammar.specs.declared.spelled.SpelledType.{SpelledType}
use Rattle.ir_grammar.specs.declared.spelled.SpelledType.TheVariants as types
use Rattle.ir_grammar.specs.declared.spelled.SpelledConstant.{SpelledConstant}
use Rattle.ir_grammar.specs.declared.spelled.SpelledConstant.TheVariants as constants
use Rattle.ir_grammar.specs.declared.spelled.SpelledItem.{SpelledItem}
use Rattle.ir_grammar.specs.declared.spelled.SpelledItem.TheVariants.{Skipped, «Type» as TypeItem, Global, Used, Declare, Define, Node, NodeList}
use Rattle.ir_grammar.specs.SoundStore.{Counts, IsSoundItem}
use Rattle.ir_names.specs.Keys.{type_key, global_key, item_at, first_with, meant}
use Rattle.ir_names.specs.Meanings.{type_or, lead, leads_from, numbered, number_at, variable}
use Rattle.ir_names.specs.Sets.{variables_in}

tail_of : {X : Type 0} (P : X → Type 0) (x : X) (xs : List X) → All P (x ∷ xs) → All P xs
tail_of P x xs h k d within = h (suc k) d (omega arith)

got_holds : {X : Type 0} (P : X → Type 0) (xs : List X) (i : ℕ) → All P xs → IfSome (slice_get xs i) P
got_holds P [] i h = tt
got_holds P (x ∷ xs) zero h = h zero x (omega arith)
got_holds P (x ∷ xs) (suc i) h = got_holds P xs i (tail_of P x xs h)

at_holds : (P : SpelledItem → Type 0) (items : List SpelledItem) (place : Option ℕ) → All P items → IfSome (item_at items place) P
at_holds P items None h = tt
at_holds P items (Some i) h = got_holds P items i h

or_within : (n : Counts) (j : ℕ) (item : Option SpelledItem) → j < n.types → IfSome item (IsSoundItem n) → type_or j item < n.types
or_within n j None within h = within
or_within n j (Some Skipped) within h = within
or_within n j (Some (TypeItem name ty)) within h = h
or_within n j (Some (Global name constant ty value)) within h = within
or_within n j (Some Used) within h = within
or_within n j (Some (Declare name result first count)) within h = within
or_within n j (Some (Define name result first count entry blocks)) within h = within
or_within n j (Some (Node number)) within h = within
or_within n j (Some (NodeList name)) within h = within

lead_within : (source : List ℕ) (keys : List (List ℕ)) (items : List SpelledItem) (n : Counts) (j : ℕ) (ty : SpelledType) → j < n.types → All (IsSoundItem n) items → lead source keys items j ty < n.types
lead_within source keys items n j types.Void within h = within
lead_within source keys items n j types.Ptr within h = within
lead_within source keys items n j (types.Int width) within h = within
lead_within source keys items n j types.Opaque within h = within
lead_within source keys items n j types.Metadata within h = within
lead_within source keys items n j (types.Named token) within h = or_within n j (meant keys items (type_key source token)) within (at_holds (IsSoundItem n) items (first_with (type_key source token) keys) h)
lead_within source keys items n j (types.Array count item) within h = within
lead_within source keys items n j (types.Struct first count packed) within h = within

pub leads_within : (source : List ℕ) (keys : List (List ℕ)) (items : List SpelledItem) (n : Counts) (j : ℕ) (tys : List SpelledType) → j + length tys ≤ n.types → All (IsSoundItem n) items → All (λ m. m < n.types) (leads_from source keys items j tys)
leads_within source keys items n j [] room h = λ k d within. absurd (omega arith)
leads_within source keys items n j (ty ∷ rest) room h =
    All-cons (λ m. m < n.types) (lead source keys items j ty) (leads_from source keys items (j + 1) rest) (lead_within source keys items n j ty (omega arith) h) (leads_within source keys items n (j + 1) rest (omega arith) h)

pub length-leads : (source : List ℕ) (keys : List (List ℕ)) (items : List SpelledItem) (j : ℕ) (tys : List SpelledType) → length (leads_from source keys items j tys) ≡ length tys
length-leads source keys items j [] = refl
length-leads source keys items j (ty ∷ rest) = ap (λ n. suc n) (length-leads source keys items (j + 1) rest)

-- a number, if there is one, is below this one
abbrev pub IsBelow : ℕ → Option ℕ → Type 0
IsBelow n v = IfSome v (λ m. m < n)

numbers_within : (m n : ℕ) (items : List SpelledItem) → m + length (variables_in items) ≤ n → All (IsBelow n) (numbered m items)
numbers_within m n [] room = λ k d within. absurd (omega arith)
numbers_within m n (Skipped ∷ rest) room = All-cons (IsBelow n) None (numbered m rest) tt (numbers_within m n rest room)
numbers_within m n (TypeItem name ty ∷ rest) room = All-cons (IsBelow n) None (numbered m rest) tt (numbers_within m n rest room)
numbers_within m n (Global name constant ty value ∷ rest) room = All-cons (IsBelow n) (Some m) (numbered (m + 1) rest) (omega arith) (numbers_within (m + 1) n rest (omega arith))
numbers_within m n (Used ∷ rest) room = All-cons (IsBelow n) None (numbered m rest) tt (numbers_within m n rest room)
numbers_within m n (Declare name result first count ∷ rest) room = All-cons (IsBelow n) None (numbered m rest) tt (numbers_within m n rest room)
numbers_within m n (Define name result first count entry blocks ∷ rest) room = All-cons (IsBelow n) None (numbered m rest) tt (numbers_within m n rest room)
numbers_within m n (Node number ∷ rest) room = All-cons (IsBelow n) None (numbered m rest) tt (numbers_within m n rest room)
numbers_within m n (NodeList name ∷ rest) room = All-cons (IsBelow n) None (numbered m rest) tt (numbers_within m n rest room)

index_within : (n : ℕ) (numbers : List (Option ℕ)) (i : ℕ) → All (IsBelow n) numbers → IsBelow n (get_or numbers i None)
index_within n [] i h = tt
index_within n (v ∷ rest) zero h = h zero None (omega arith)
index_within n (v ∷ rest) (suc i) h = index_within n rest i (tail_of (IsBelow n) v rest h)

place_within : (n : ℕ) (numbers : List (Option ℕ)) (place : Option ℕ) → All (IsBelow n) numbers → IsBelow n (number_at numbers place)
place_within n numbers None h = tt
place_within n numbers (Some i) h = index_within n numbers i h

variable_within : (source : List ℕ) (keys : List (List ℕ)) (numbers : List (Option ℕ)) (n : ℕ) (c : SpelledConstant) → All (IsBelow n) numbers → IsBelow n (variable source keys numbers c)
variable_within source keys numbers n (constants.Local token) h = tt
variable_within source keys numbers n (constants.Global token) h = place_within n numbers (first_with (global_key source token) keys) h
variable_within source keys numbers n (constants.Integer value) h = tt
variable_within source keys numbers n (constants.Bool value) h = tt
variable_within source keys numbers n constants.Null h = tt
variable_within source keys numbers n constants.Zero h = tt
variable_within source keys numbers n (constants.Bytes token) h = tt
variable_within source keys numbers n (constants.Array first count) h = tt
variable_within source keys numbers n (constants.Struct first count packed) h = tt
variable_within source keys numbers n (constants.Address of base first count) h = tt

pub variables_within : (source : List ℕ) (keys : List (List ℕ)) (items : List SpelledItem) (cs : List SpelledConstant) → All (IsBelow (length (variables_in items))) (map (variable source keys (numbered 0 items)) cs)
variables_within source keys items cs =
    All-map (IsBelow (length (variables_in items))) (variable source keys (numbered 0 items)) cs
    (λ k d within. variable_within source keys (numbered 0 items) (length (variables_in items)) (get_or cs k d) (numbers_within 0 (length (variables_in items)) items (omega arith)))
