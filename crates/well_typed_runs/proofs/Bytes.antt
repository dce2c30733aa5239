-- Bytes that are read and written lead to what was born.
use Rattle.std.proofs.Common.{◌≡◌, ℕ, zero, suc, ◌+◌, List, [], ◌∷◌, map, take, drop, Option, Some, None, option_map, Bool, true, false, if◌then◌else◌, refl, sym, ◌∙◌, subst}
use Rattle.hw_base.specs.Bytes.{le_bytes, le_number}
use Rattle.hw_base.specs.declared.pointers.Base.{Base}
use Rattle.hw_base.specs.declared.pointers.Base.TheVariants.{Null, Object}
use Rattle.hw_base.specs.declared.pointers.Obj.{Obj}
use Rattle.ir_core.specs.declared.ir_module.Module.{Module}
use Rattle.ir_core.specs.declared.types.IrType.TheVariants.{Ptr}
use Rattle.ir_check_flow.proofs.HomesFound.{taken_from, dropped_from}
use Rattle.ir_meaning.specs.Births.{Birth, SourceObject, get_object, bytes_in, bytes_at}
use Rattle.ir_meaning.specs.Encoding.{number_bytes, pointer_bytes, data_numbers, are_pieces, pointer_from}
use Rattle.ir_meaning.specs.Values.{Value, Address, SourceByte, Data, Piece}
use Rattle.well_typed_runs.specs.KnownValues.{IsKnownBase, IsKnownByte, AreKnownBytes, AreGoodBirths, HasValue}

-- ---- bytes that are read

pub taken-known : (births : List Birth) (n : ℕ) (bytes : List SourceByte) → AreKnownBytes births bytes → AreKnownBytes births (take n bytes)
taken-known births n bytes h k byte e = h k byte (taken_from bytes n k byte e).1

pub dropped-known : (births : List Birth) (n : ℕ) (bytes : List SourceByte) → AreKnownBytes births bytes → AreKnownBytes births (drop n bytes)
dropped-known births n bytes h k byte e = h (n + k) byte (sym (dropped_from bytes n k) ∙ e)

pub object-known : (m : Module) (births : List Birth) (o : Obj) → AreGoodBirths m births → AreKnownBytes births (bytes_in (get_object births o))
object-known m births o good = by_object (get_object births o) refl
  where
    by_object : (found : Option SourceObject) → get_object births o ≡ found → AreKnownBytes births (bytes_in found)
    by_object None e = λ k byte h. absurd cc
    by_object (Some x) e = good.bytes o x e

pub read-known : (m : Module) (births : List Birth) (base : Base) (off count : ℕ) → AreGoodBirths m births → AreKnownBytes births (bytes_at births base off count)
read-known m births Null off count good = λ k byte e. absurd cc
read-known m births (Object o) off count good =
    taken-known births count (drop off (bytes_in (get_object births o))) (dropped-known births off (bytes_in (get_object births o)) (object-known m births o good))

-- a pointer that bytes spell
null-has : (births : List Birth) (found : Option (List ℕ)) (v : Value) → option_map (λ ns. Address Null (le_number ns)) found ≡ Some v → HasValue births Ptr (Some v)
null-has births None v e = absurd cc
null-has births (Some ns) v e = let is : Address Null (le_number ns) ≡ v = cc in subst (λ (x : Value). HasValue births Ptr (Some x)) is (refl, tt)

piece-has : (births : List Birth) (test : Bool) (o : Obj) (off : ℕ) (v : Value) → (if test then Some (Address (Object o) off) else None) ≡ Some v → IsKnownBase births (Object o)
    → HasValue births Ptr (Some v)
piece-has births true o off v e known = let is : Address (Object o) off ≡ v = cc in subst (λ (x : Value). HasValue births Ptr (Some x)) is (refl, known)
piece-has births false o off v e known = absurd cc

pub pointer-has : (births : List Birth) (bytes : List SourceByte) (v : Value) → AreKnownBytes births bytes → pointer_from bytes ≡ Some v → HasValue births Ptr (Some v)
unfolding pointer_from
pointer-has births [] v known e = absurd cc
pointer-has births (Data n ∷ bytes) v known e = null-has births (data_numbers (Data n ∷ bytes)) v e
pointer-has births (Piece o off j ∷ bytes) v known e = piece-has births (are_pieces o off 0 (Piece o off j ∷ bytes)) o off v e (known 0 (Piece o off j) refl)

-- ---- bytes that are written

data-known : (births : List Birth) (ns : List ℕ) → AreKnownBytes births (map (λ (n : ℕ). Data n) ns)
data-known births [] k byte e = absurd cc
data-known births (n ∷ ns) zero byte e = let is : Data n ≡ byte = cc in subst (λ (b : SourceByte). IsKnownByte births b) is tt
data-known births (n ∷ ns) (suc k) byte e = data-known births ns k byte e

pub number-known : (births : List Birth) (count n : ℕ) → AreKnownBytes births (number_bytes count n)
number-known births count n = data-known births (le_bytes count n)

one-known : (births : List Birth) (byte : SourceByte) (bytes : List SourceByte) → IsKnownByte births byte → AreKnownBytes births bytes → AreKnownBytes births (byte ∷ bytes)
one-known births byte bytes h k zero b e = let is : byte ≡ b = cc in subst (λ (x : SourceByte). IsKnownByte births x) is h
one-known births byte bytes h k (suc i) b e = k i b e

none-known : (births : List Birth) → AreKnownBytes births []
none-known births k byte e = absurd cc

pub pointer-known : (births : List Birth) (base : Base) (off : ℕ) → IsKnownBase births base → AreKnownBytes births (pointer_bytes base off)
unfolding pointer_bytes
pointer-known births Null off h = number-known births 8 off
pointer-known births (Object o) off h =
    one-known births (Piece o off 0) (Piece o off 1 ∷ Piece o off 2 ∷ Piece o off 3 ∷ Piece o off 4 ∷ Piece o off 5 ∷ Piece o off 6 ∷ Piece o off 7 ∷ []) h
    (one-known births (Piece o off 1) (Piece o off 2 ∷ Piece o off 3 ∷ Piece o off 4 ∷ Piece o off 5 ∷ Piece o off 6 ∷ Piece o off 7 ∷ []) h
    (one-known births (Piece o off 2) (Piece o off 3 ∷ Piece o off 4 ∷ Piece o off 5 ∷ Piece o off 6 ∷ Piece o off 7 ∷ []) h
    (one-known births (Piece o off 3) (Piece o off 4 ∷ Piece o off 5 ∷ Piece o off 6 ∷ Piece o off 7 ∷ []) h
    (one-known births (Piece o off 4) (Piece o off 5 ∷ Piece o off 6 ∷ Piece o off 7 ∷ []) h
    (one-known births (Piece o off 5) (Piece o off 6 ∷ Piece o off 7 ∷ []) h
    (one-known births (Piece o off 6) (Piece o off 7 ∷ []) h
    (one-known births (Piece o off 7) [] h
    (none-known births))))))))
