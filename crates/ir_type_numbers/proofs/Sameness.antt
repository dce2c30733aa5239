-- Where all types with layouts have the classes of their shapes, equal classes are the same types.
use Rattle.std.proofs.Common.{◌≡◌, ℕ, ◌<◌, zero, suc, Bool, true, false, List, [], ◌∷◌, ◌++◌, map, length, slice_get, Option, Some, All, ◌↔◌, arith, refl, sym, ◌∙◌, ap, inl, inr, subst}
use Rattle.std.proofs.lemmas.Bool.{cases_lt}
use Rattle.std.proofs.lemmas.List.{get_or_past}
use Rattle.std.proofs.lemmas.List.Elements.{All-head}
use Rattle.std.proofs.lemmas.Option.{get_or_from_slice_get, slice_get-get_or}
use Rattle.ir_core.proofs.Deepening.{IsLaid}
use Rattle.ir_core.specs.Layout.{layouts_within, field_types}
use Rattle.ir_core.specs.Progress.{type_at}
use Rattle.ir_core.specs.declared.types.IrType.{IrType}
use Rattle.ir_core.specs.declared.types.IrType.TheVariants as at
use Rattle.ir_type_numbers.specs.declared.letter.Letter.{Letter}
use Rattle.ir_type_numbers.specs.declared.letter.Letter.TheVariants.{Own, Array, Struct, Part}
use Rattle.ir_type_numbers.specs.Numbering.{number_at}
use Rattle.ir_type_numbers.specs.SameTypes.{is_named, IsSame, itself, voids, pointers, integers, pairs, arrays, structs, HasLayout}
use Rattle.ir_core.specs.Holding.{held}
use Rattle.ir_type_numbers.specs.Shapes.{word_number, struct_kind, kind, part_letter, shape, shape_at, IsClassed, IsClassing, IsClosed}
use Rattle.ir_type_numbers.proofs.Words.{word_once}
use Rattle.ir_type_numbers.proofs.Classing.{laid_within, nothing_laid, complete, laid_out}

-- types of one shape have one class
class_from_shape : (types : List IrType) (fields : List ℕ) (named : List Bool) (longer : ℕ → Letter → Option ℕ) (classes : List ℕ) → IsClassing types fields named longer classes → (a b : ℕ) → IsClassed classes a → IsClassed classes b
    → shape_at types fields named classes a ≡ shape_at types fields named classes b → number_at classes a ≡ number_at classes b
class_from_shape types fields named longer classes c a b ka kb e =
    let same : Some (number_at classes a) ≡ Some (number_at classes b) = sym (c.right a ka) ∙ (ap (word_number longer) e ∙ c.right b kb) in
    cc

-- the same with the types told
class_from_types : (types : List IrType) (fields : List ℕ) (named : List Bool) (longer : ℕ → Letter → Option ℕ) (classes : List ℕ) → IsClassing types fields named longer classes → (a b : ℕ) → IsClassed classes a → IsClassed classes b
    → (s t : IrType) → slice_get types a ≡ Some s → slice_get types b ≡ Some t → (m n : Bool) → is_named named a ≡ m → is_named named b ≡ n
    → shape fields classes m a s ≡ shape fields classes n b t → number_at classes a ≡ number_at classes b
class_from_types types fields named longer classes c a b ka kb s t sa sb m n na nb e =
    let ea : type_at types a ≡ s = get_or_from_slice_get types a s at.Void sa in
    let eb : type_at types b ≡ t = get_or_from_slice_get types b t at.Void sb in
    let ha : shape_at types fields named classes a ≡ shape fields classes m a s = ap (shape fields classes (is_named named a) a) ea ∙ ap (λ m. shape fields classes m a s) na in
    let hb : shape_at types fields named classes b ≡ shape fields classes n b t = ap (shape fields classes (is_named named b) b) eb ∙ ap (λ m. shape fields classes m b t) nb in
    class_from_shape types fields named longer classes c a b ka kb (ha ∙ (e ∙ sym hb))

-- the parts of a type with a class have classes
parts_classed : (types : List IrType) (fields : List ℕ) (named : List Bool) (longer : ℕ → Letter → Option ℕ) (classes : List ℕ) → IsClassing types fields named longer classes → (a : ℕ) → IsClassed classes a → (s : IrType) → slice_get types a ≡ Some s → All (IsClassed classes) (held fields s)
parts_classed types fields named longer classes c a ka s sa = subst (λ t. All (IsClassed classes) (held fields t)) (get_or_from_slice_get types a s at.Void sa) (c.parts a ka)

-- parts of the same classes in order have the same letters
letters_same : (classes : List ℕ) (xs ys : List ℕ) → length xs ≡ length ys → ((k : ℕ) → k < length xs → number_at classes (number_at xs k) ≡ number_at classes (number_at ys k)) → map (part_letter classes) xs ≡ map (part_letter classes) ys
letters_same classes [] [] e h = refl
letters_same classes [] (y ∷ ys) e h = absurd (omega (arith, e))
letters_same classes (x ∷ xs) [] e h = absurd (omega (arith, e))
letters_same classes (x ∷ xs) (y ∷ ys) e h =
    let here : number_at classes x ≡ number_at classes y = h zero (omega arith) in
    let rest : map (part_letter classes) xs ≡ map (part_letter classes) ys = letters_same classes xs ys (omega (arith, e)) (λ k lt. h (suc k) (omega (arith, lt))) in
    cc

-- one type has one class
same_class : (types : List IrType) (fields : List ℕ) (named : List Bool) (longer : ℕ → Letter → Option ℕ) (classes : List ℕ) → IsClassing types fields named longer classes
    → {a b : ℕ} → IsSame types fields named a b → IsClassed classes a → IsClassed classes b → number_at classes a ≡ number_at classes b
same_class types fields named longer classes c (itself a) ka kb = refl
same_class types fields named longer classes c (voids a b sa sb) ka kb = class_from_types types fields named longer classes c a b ka kb at.Void at.Void sa sb _ _ refl refl refl
same_class types fields named longer classes c (pointers a b sa sb) ka kb = class_from_types types fields named longer classes c a b ka kb at.Ptr at.Ptr sa sb _ _ refl refl refl
same_class types fields named longer classes c (integers a b width sa sb) ka kb = class_from_types types fields named longer classes c a b ka kb (at.Int width) (at.Int width) sa sb _ _ refl refl refl
same_class types fields named longer classes c (pairs a b width sa sb) ka kb = class_from_types types fields named longer classes c a b ka kb (at.Pair width) (at.Pair width) sa sb _ _ refl refl refl
same_class types fields named longer classes c (arrays a b count i j sa sb items) ka kb =
    let ki : IsClassed classes i = All-head (IsClassed classes) i [] (parts_classed types fields named longer classes c a ka (at.Array count i) sa) in
    let kj : IsClassed classes j = All-head (IsClassed classes) j [] (parts_classed types fields named longer classes c b kb (at.Array count j) sb) in
    let e : number_at classes i ≡ number_at classes j = same_class types fields named longer classes c items ki kj in
    class_from_types types fields named longer classes c a b ka kb (at.Array count i) (at.Array count j) sa sb _ _ refl refl (ap (λ x. Part x ∷ Array count ∷ []) e)
same_class types fields named longer classes c (structs a b first count from size packed sa sb na nb long each) ka kb =
    let pa = parts_classed types fields named longer classes c a ka (at.Struct first count packed) sa in
    let pb = parts_classed types fields named longer classes c b kb (at.Struct from size packed) sb in
    let e : map (part_letter classes) (field_types fields first count) ≡ map (part_letter classes) (field_types fields from size) =
    letters_same classes (field_types fields first count) (field_types fields from size) long
    (λ k lt. same_class types fields named longer classes c (each k lt) (pa k 0 lt) (pb k 0 (omega (arith, lt, long)))) in
    class_from_types types fields named longer classes c a b ka kb (at.Struct first count packed) (at.Struct from size packed) sa sb false false na nb (ap (λ letters. letters ++ Struct packed ∷ []) e)

-- two words that are equal, with their last letters
no_end : (ys : List Letter) (y : Letter) → [] ≡ ys ++ y ∷ [] → ⊥
no_end [] y h = cc
no_end (z ∷ ys) y h = cc

ends_same : (xs ys : List Letter) (x y : Letter) → xs ++ x ∷ [] ≡ ys ++ y ∷ [] → (xs ≡ ys) × (x ≡ y)
ends_same [] [] x y h = (refl, cc)
ends_same [] (z ∷ ys) x y h = let e : [] ≡ ys ++ y ∷ [] = cc in absurd (no_end ys y e)
ends_same (z ∷ xs) [] x y h = let e : [] ≡ xs ++ x ∷ [] = cc in absurd (no_end xs x e)
ends_same (z ∷ xs) (w ∷ ys) x y h =
    let rest : xs ++ x ∷ [] ≡ ys ++ y ∷ [] = cc in
    let first : z ≡ w = cc in
    let ends = ends_same xs ys x y rest in
    let e : xs ≡ ys = ends.0 in
    (cc, ends.1)

each_more : (classes : List ℕ) (x y : ℕ) (xs ys : List ℕ) → number_at classes x ≡ number_at classes y → ((k : ℕ) → k < length xs → number_at classes (number_at xs k) ≡ number_at classes (number_at ys k)) → (k : ℕ) → k < length (x ∷ xs) → number_at classes (number_at (x ∷ xs) k) ≡ number_at classes (number_at (y ∷ ys) k)
each_more classes x y xs ys here below zero lt = here
each_more classes x y xs ys here below (suc k) lt = below k (omega (arith, lt))

-- parts with the same letters in order have the same classes
classes_same : (classes : List ℕ) (xs ys : List ℕ) → map (part_letter classes) xs ≡ map (part_letter classes) ys → (length xs ≡ length ys) × ((k : ℕ) → k < length xs → number_at classes (number_at xs k) ≡ number_at classes (number_at ys k))
classes_same classes [] [] h = (refl, λ k lt. absurd (omega (arith, lt)))
classes_same classes [] (y ∷ ys) h = cc
classes_same classes (x ∷ xs) [] h = cc
classes_same classes (x ∷ xs) (y ∷ ys) h =
    let rest : map (part_letter classes) xs ≡ map (part_letter classes) ys = cc in
    let below = classes_same classes xs ys rest in
    let first : part_letter classes x ≡ part_letter classes y = cc in
    let here : number_at classes x ≡ number_at classes y = cc in
    (ap suc below.0, each_more classes x y xs ys here below.1)

-- a letter of a type's own is no other type's
own_struct : (named : Bool) (own other : ℕ) (packed : Bool) → Own own ≡ struct_kind named other packed → own ≡ other
own_struct true own other packed h = cc
own_struct false own other packed h = cc

own_kind : (named : Bool) (own other : ℕ) (t : IrType) → Own own ≡ kind named other t → own ≡ other
own_kind named own other at.Void h = cc
own_kind named own other at.Ptr h = cc
own_kind named own other (at.Int width) h = cc
own_kind named own other (at.Pair width) h = cc
own_kind named own other (at.Array count item) h = cc
own_kind named own other (at.Struct first count packed) h = own_struct named own other packed h
own_kind named own other at.Opaque h = cc

one_is_itself : (types : List IrType) (fields : List ℕ) (named : List Bool) (a b : ℕ) → a ≡ b → IsSame types fields named a b
one_is_itself types fields named a b e = subst (λ n. IsSame types fields named a n) e (itself a)

-- types of one shape are one, where their parts are
from_shape : (types : List IrType) (fields : List ℕ) (named : List Bool) (classes : List ℕ) (a b : ℕ) (s t : IrType) (m n : Bool)
    → slice_get types a ≡ Some s → slice_get types b ≡ Some t → is_named named a ≡ m → is_named named b ≡ n
    → kind m a s ≡ kind n b t → map (part_letter classes) (held fields s) ≡ map (part_letter classes) (held fields t)
    → ((k : ℕ) → k < length (held fields s) → k < length (held fields t) → number_at classes (number_at (held fields s) k) ≡ number_at classes (number_at (held fields t) k) → IsSame types fields named (number_at (held fields s) k) (number_at (held fields t) k))
    → IsSame types fields named a b
from_shape types fields named classes a b (at.Struct first count packed) t true n sa sb na nb kinds letters each = one_is_itself types fields named a b (own_kind n a b t kinds)
from_shape types fields named classes a b at.Opaque t m n sa sb na nb kinds letters each = one_is_itself types fields named a b (own_kind n a b t kinds)
from_shape types fields named classes a b s (at.Struct first count packed) m true sa sb na nb kinds letters each = one_is_itself types fields named a b (sym (own_kind m b a s (sym kinds)))
from_shape types fields named classes a b s at.Opaque m n sa sb na nb kinds letters each = one_is_itself types fields named a b (sym (own_kind m b a s (sym kinds)))
from_shape types fields named classes a b at.Void at.Void m n sa sb na nb kinds letters each = voids a b sa sb
from_shape types fields named classes a b at.Ptr at.Ptr m n sa sb na nb kinds letters each = pointers a b sa sb
from_shape types fields named classes a b (at.Int width) (at.Int other) m n sa sb na nb kinds letters each =
    let e : other ≡ width = cc in
    integers a b width sa (sb ∙ ap (λ w. Some (at.Int w)) e)
from_shape types fields named classes a b (at.Pair width) (at.Pair other) m n sa sb na nb kinds letters each =
    let e : other ≡ width = cc in
    pairs a b width sa (sb ∙ ap (λ w. Some (at.Pair w)) e)
from_shape types fields named classes a b (at.Array count i) (at.Array other j) m n sa sb na nb kinds letters each =
    let e : other ≡ count = cc in
    let first : part_letter classes i ≡ part_letter classes j = cc in
    let items : number_at classes i ≡ number_at classes j = cc in
    arrays a b count i j sa (sb ∙ ap (λ c. Some (at.Array c j)) e) (each 0 (omega arith) (omega arith) items)
from_shape types fields named classes a b (at.Struct first count packed) (at.Struct from size other) false false sa sb na nb kinds letters each =
    let e : other ≡ packed = cc in
    let same = classes_same classes (field_types fields first count) (field_types fields from size) letters in
    structs a b first count from size packed sa (sb ∙ ap (λ p. Some (at.Struct from size p)) e) na nb same.0 (λ k lt. each k lt (omega (arith, lt, same.0)) (same.1 k lt))
from_shape types fields named classes a b s t m n sa sb na nb kinds letters each = cc

-- a type with a class stands in the list
classed_inside : (types : List IrType) (fields : List ℕ) (named : List Bool) (longer : ℕ → Letter → Option ℕ) (classes : List ℕ) → IsClassing types fields named longer classes → (a : ℕ) → IsClassed classes a → a < length types
classed_inside types fields named longer classes c a ka =
    elim (cases_lt a (length classes)) [
      | inl less ↦ subst (λ k. a < k) c.same less
      | inr past ↦ absurd (ka (get_or_past classes a 0 past))
    ]

-- types of one class are one
class_same : (types : List IrType) (fields : List ℕ) (named : List Bool) (longer : ℕ → Letter → Option ℕ) (classes : List ℕ) → IsClassing types fields named longer classes → IsClosed types fields classes
    → (k a b : ℕ) → IsLaid (layouts_within types fields k) a → IsClassed classes b → number_at classes a ≡ number_at classes b → IsSame types fields named a b
class_same types fields named longer classes c closed zero a b laid kb e = absurd (nothing_laid types fields a laid)
class_same types fields named longer classes c closed (suc k) a b laid kb e =
    let ka : IsClassed classes a = complete types fields classes closed (suc k) a laid in
    let below = laid_within types fields k a laid in
    let inside : b < length types = classed_inside types fields named longer classes c b kb in
    let words : shape_at types fields named classes a ≡ shape_at types fields named classes b =
    word_once longer c.numbering (shape_at types fields named classes a) (shape_at types fields named classes b) (number_at classes a) (c.right a ka) (c.right b kb ∙ ap Some (sym e)) in
    let s : IrType = type_at types a in
    let t : IrType = type_at types b in
    let ends = ends_same (map (part_letter classes) (held fields s)) (map (part_letter classes) (held fields t)) (kind (is_named named a) a s) (kind (is_named named b) b t) words in
    from_shape types fields named classes a b s t (is_named named a) (is_named named b)
    (slice_get-get_or types a at.Void below.0) (slice_get-get_or types b at.Void inside) refl refl ends.1 ends.0
    (λ i lt more same. class_same types fields named longer classes c closed k (number_at (held fields s) i) (number_at (held fields t) i) (below.1 i 0 lt) (c.parts b kb i 0 more) same)

pub same_exactly : (types : List IrType) (fields : List ℕ) (named : List Bool) (longer : ℕ → Letter → Option ℕ) (classes : List ℕ) → IsClassing types fields named longer classes → IsClosed types fields classes
    → (a b : ℕ) → HasLayout types fields a → HasLayout types fields b → (number_at classes a ≡ number_at classes b) ↔ IsSame types fields named a b
same_exactly types fields named longer classes c closed a b ha hb =
    let la = laid_out types fields a ha in
    let ka : IsClassed classes a = complete types fields classes closed (length types) a la in
    let kb : IsClassed classes b = complete types fields classes closed (length types) b (laid_out types fields b hb) in
    (λ e. class_same types fields named longer classes c closed (length types) a b la kb e, λ same. same_class types fields named longer classes c same ka kb)
