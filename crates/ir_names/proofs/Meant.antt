-- The item that a key means has the key.
use Rattle.std.proofs.Common.{◌≡◌, ℕ, zero, suc, ◌+◌, ◌≤◌, List, [], ◌∷◌, Bool, true, false, cond, eqb, Option, Some, None, arith, refl, sym, ap, ◌∙◌}
use Rattle.std.specs.List.{position_from, slice_get}
use Rattle.std.specs.Str.{bytes_eq}
use Rattle.std.proofs.lemmas.Slice.Eq.{bytes_eq-Decides}
use Rattle.std.proofs.lemmas.Bool.Decides.{nat_tests}
use Rattle.ir_text.specs.Names.{name_key}
use Rattle.ir_core.specs.declared.token.Token.{Token}
use Rattle.ir_grammar.specs.declared.spelled.SpelledItem.{SpelledItem}
use Rattle.ir_grammar.specs.declared.spelled.SpelledItem.TheVariants.{Skipped, «Type» as TypeItem, Global, Used, Declare, Define, Node, NodeList}
use Rattle.ir_names.specs.Keys.{behind_sigil, type_key, global_key, item_key, item_keys, item_at, first_with, meant}
use Rattle.ir_names.specs.Sets.{DefinesType, DefinesGlobal}

some_is : (m n : ℕ) → Some m ≡ Some n → m ≡ n
some_is m n e = cc

here_or_on : (test : List ℕ → Bool) (i n : ℕ) (rest : List (List ℕ)) (t : Bool) → cond t (Some i) (position_from test (i + 1) rest) ≡ Some n → ((m : ℕ) → position_from test (i + 1) rest ≡ Some m → i + 1 ≤ m) → i ≤ n
here_or_on test i n rest true e on = let same = some_is i n e in omega arith
here_or_on test i n rest false e on = let h : i + 1 ≤ n = on n e in omega arith

from_on : (test : List ℕ → Bool) (i n : ℕ) (keys : List (List ℕ)) → position_from test i keys ≡ Some n → i ≤ n
from_on test i n [] e = cc
from_on test i n (x ∷ xs) e = here_or_on test i n xs (test x) e (λ m. from_on test (i + 1) m xs)

at_front : (source key : List ℕ) (front item : SpelledItem) (i j : ℕ) (rest : List SpelledItem) (t : Bool) → bytes_eq key (item_key source front) ≡ t
    → cond t (Some i) (position_from (bytes_eq key) (i + 1) (item_keys source rest)) ≡ Some (i + j) → slice_get (front ∷ rest) j ≡ Some item
    → ((k : ℕ) → position_from (bytes_eq key) (i + 1) (item_keys source rest) ≡ Some (i + 1 + k) → slice_get rest k ≡ Some item → bytes_eq key (item_key source item) ≡ true)
    → bytes_eq key (item_key source item) ≡ true
at_front source key front item i zero rest true test e is on = let same : front ≡ item = cc in ap (λ x. bytes_eq key (item_key source x)) (sym same) ∙ test
at_front source key front item i (suc j) rest true test e is on = let same : i ≡ i + suc j = some_is i (i + suc j) e in absurd (omega arith)
at_front source key front item i zero rest false test e is on = let h : i + 1 ≤ i + zero = from_on (bytes_eq key) (i + 1) (i + zero) (item_keys source rest) e in absurd (omega arith)
at_front source key front item i (suc j) rest false test e is on = let same : i + suc j ≡ i + 1 + j = omega arith in on j (e ∙ ap (λ n. Some n) same) is

found_has : (source key : List ℕ) (items : List SpelledItem) (item : SpelledItem) (i j : ℕ) → position_from (bytes_eq key) i (item_keys source items) ≡ Some (i + j) → slice_get items j ≡ Some item → bytes_eq key (item_key source item) ≡ true
found_has source key [] item i j e is = cc
found_has source key (front ∷ rest) item i j e is =
    at_front source key front item i j rest (bytes_eq key (item_key source front)) refl e is (λ k. found_has source key rest item (i + 1) k)

at_place : (source key : List ℕ) (items : List SpelledItem) (item : SpelledItem) (place : Option ℕ) → first_with key (item_keys source items) ≡ place → item_at items place ≡ Some item → item_key source item ≡ key
at_place source key items item None e is = cc
at_place source key items item (Some j) e is =
    let from : Some j ≡ Some (0 + j) = ap (λ n. Some n) (omega arith) in
    sym ((bytes_eq-Decides key (item_key source item)).0 (found_has source key items item 0 j (e ∙ from) is))

pub meant_has_key : (source key : List ℕ) (items : List SpelledItem) (item : SpelledItem) → meant (item_keys source items) items key ≡ Some item → item_key source item ≡ key
meant_has_key source key items item e = at_place source key items item (first_with key (item_keys source items)) refl e

empty_apart : (b : ℕ) (y : List ℕ) → [] ≡ b ∷ y → ⊥
empty_apart b y e = cc

fronts : (a b : ℕ) (x y : List ℕ) → a ∷ x ≡ b ∷ y → a ≡ b
fronts a b x y e = cc

apart : (a b : ℕ) (x y : List ℕ) → eqb a b ≡ false → a ∷ x ≡ b ∷ y → ⊥
apart a b x y differ e = let same : a ≡ b = fronts a b x y e in grind (arith, nat_tests)

pub type_by_key : (source : List ℕ) (token : Token) (item : SpelledItem) → item_key source item ≡ type_key source token → DefinesType item
type_by_key source token Skipped e = absurd (empty_apart 37 (name_key (behind_sigil source token)) e)
type_by_key source token (TypeItem name ty) e = tt
type_by_key source token (Global name constant ty value) e = absurd (apart 64 37 _ (name_key (behind_sigil source token)) refl e)
type_by_key source token Used e = absurd (empty_apart 37 (name_key (behind_sigil source token)) e)
type_by_key source token (Declare name result first count) e = absurd (apart 64 37 _ (name_key (behind_sigil source token)) refl e)
type_by_key source token (Define name result first count entry blocks) e = absurd (apart 64 37 _ (name_key (behind_sigil source token)) refl e)
type_by_key source token (Node number) e = absurd (apart 35 37 _ (name_key (behind_sigil source token)) refl e)
type_by_key source token (NodeList name) e = absurd (apart 33 37 _ (name_key (behind_sigil source token)) refl e)

pub global_by_key : (source : List ℕ) (token : Token) (item : SpelledItem) → item_key source item ≡ global_key source token → DefinesGlobal item
global_by_key source token Skipped e = absurd (empty_apart 64 (name_key (behind_sigil source token)) e)
global_by_key source token (TypeItem name ty) e = absurd (apart 37 64 _ (name_key (behind_sigil source token)) refl e)
global_by_key source token (Global name constant ty value) e = tt
global_by_key source token Used e = absurd (empty_apart 64 (name_key (behind_sigil source token)) e)
global_by_key source token (Declare name result first count) e = tt
global_by_key source token (Define name result first count entry blocks) e = tt
global_by_key source token (Node number) e = absurd (apart 35 64 _ (name_key (behind_sigil source token)) refl e)
global_by_key source token (NodeList name) e = absurd (apart 33 64 _ (name_key (behind_sigil source token)) refl e)
