-- What was written is read: integers and pointers.
use Rattle.std.proofs.Common.{◌≡◌, ℕ, ◌+◌, ◌/◌, ◌%◌, ◌^◌, ◌<◌, true, ◌==◌, List, [], ◌∷◌, map, Some, option_map, refl, ◌∙◌, ap, arith}
use Rattle.std.proofs.Math.Nat.{mod-eq_of_lt}
use Rattle.std.proofs.lemmas.Bool.Decides.{nat_tests}
use Rattle.hw_base.specs.Bytes.{le_bytes, le_number}
use Rattle.hw_base.specs.declared.pointers.Base.{Base}
use Rattle.hw_base.specs.declared.pointers.Base.TheVariants.{Null, Object}
use Rattle.hw_base.specs.declared.pointers.Obj.{Obj}
use Rattle.hw_base.proofs.ByteLaws.{le_number-le_bytes, below_bytes}
use Rattle.ir_meaning.specs.Values.{Address, Data}
use Rattle.ir_meaning.specs.Encoding.{pointer_bytes, data_numbers, number_before, int_from, pointer_from, are_pieces, same_object, pointer_pieces, number_of_width, number_bytes}

-- the numbers of numbers are themselves
data_numbers-map : (ns : List ℕ) → data_numbers (map (λ n. Data n) ns) ≡ Some ns
unfolding data_numbers
data_numbers-map [] = refl
data_numbers-map (n ∷ ns) = ap (number_before n) (data_numbers-map ns)

pub int_from-number_bytes : (width n : ℕ) → n < 2 ^ width → int_from width (number_bytes ((width + 7) / 8) n) ≡ Some n
unfolding int_from
int_from-number_bytes width n small =
    ap (option_map (number_of_width width)) (data_numbers-map (le_bytes ((width + 7) / 8) n))
    ∙ ap (λ m. Some (m % 2 ^ width)) (le_number-le_bytes ((width + 7) / 8) n (below_bytes width n small))
    ∙ ap (λ m. Some m) (mod-eq_of_lt small)

null_pointer-read : (off : ℕ) → off < 256 ^ 8 → pointer_from (number_bytes 8 off) ≡ Some (Address Null off)
unfolding pointer_from le_bytes
null_pointer-read off small =
    ap (option_map (λ ns. Address Null (le_number ns))) (data_numbers-map (le_bytes 8 off))
    ∙ ap (λ n. Some (Address Null n)) (le_number-le_bytes 8 off small)

equal-self : (n : ℕ) → (n == n) ≡ true
equal-self n = grind (arith, nat_tests)

same_object-self : (o : Obj) → same_object o o ≡ true
same_object-self o = rw (equal-self o.birth) (equal-self o.index)

pieces-in_order : (o : Obj) (off : ℕ) → are_pieces o off 0 (pointer_pieces o off) ≡ true
unfolding are_pieces
pieces-in_order o off = rw (same_object-self o, equal-self off) refl

pub pointer_from-pointer_bytes : (base : Base) (off : ℕ) → off < 2 ^ 64 → pointer_from (pointer_bytes base off) ≡ Some (Address base off)
unfolding pointer_bytes pointer_from
pointer_from-pointer_bytes Null off small = null_pointer-read off small
pointer_from-pointer_bytes (Object o) off small = rw (pieces-in_order o off) refl
