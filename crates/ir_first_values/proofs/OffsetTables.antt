-- The table of the offsets of fields, a type at a time.
use Rattle.std.proofs.Common.{◌≡◌, ℕ, ◌+◌, ◌<◌, ◌≤◌, ◌^◌, List, [], ◌∷◌, ◌++◌, length, get_or, slice_get, Bool, true, false, ltb, Option, Some, None, IfSome, arith, refl, sym, ◌∙◌, ap, subst, length-append}
use Rattle.std.proofs.lemmas.Option.{slice_get_within, get_or_from_slice_get, slice_get-get_or}
use Rattle.std.proofs.lemmas.Bool.{ltb-true, ltb-false}
use Rattle.std.proofs.lemmas.List.{get_or-append-add}
use Rattle.std.proofs.Math.ListN.{get_or-append}
use Rattle.std.proofs.Math.Seq.{get_or-append_seam}
use Rattle.ir_core.specs.declared.types.IrType.{IrType}
use Rattle.ir_core.specs.Layout.{field_offset_of, IsField, AreFieldOffsets}
use Rattle.ir_first_values.specs.Tables.{is_fitting}
use Rattle.ir_first_values.specs.Offsets.{AreOffsetsFrom}

pub none_yet : (types : List IrType) (fields : List ℕ) → AreOffsetsFrom types fields [] []
none_yet types fields ty k start there fitting field = let w : ty < 0 = slice_get_within [] ty start there in absurd (omega arith)

-- what the table says of a field, by a place in it
pub found_right : (types : List IrType) (fields starts offsets : List ℕ) (ty k start place : ℕ) (o : Option ℕ) → AreOffsetsFrom types fields starts offsets → slice_get starts ty ≡ Some start → place ≡ start + k → o ≡ slice_get offsets place
    → IfSome o (λ n. is_fitting types fields ty ≡ true → IsField fields (slice_get types ty) k → n ≡ field_offset_of types fields ty k)
found_right types fields starts offsets ty k start place None right there same got = tt
found_right types fields starts offsets ty k start place (Some n) right there same got = λ fitting field.
    let both = right ty k start there fitting field in
    let at : slice_get offsets (start + k) ≡ Some n = ap (slice_get offsets) (sym same) ∙ sym got in
    sym (get_or_from_slice_get offsets (start + k) n 0 at) ∙ both.1

start_before : (starts : List ℕ) (x ty start : ℕ) → slice_get (starts ++ x ∷ []) ty ≡ Some start → ty < length starts → slice_get starts ty ≡ Some start
start_before starts x ty start there less =
    slice_get-get_or starts ty 0 less ∙ ap Some (sym (get_or-append starts (x ∷ []) 0 ty less) ∙ get_or_from_slice_get (starts ++ x ∷ []) ty start 0 there)

start_last : (starts : List ℕ) (x ty start : ℕ) → slice_get (starts ++ x ∷ []) ty ≡ Some start → ty ≡ length starts → start ≡ x
start_last starts x ty start there same =
    sym (get_or_from_slice_get (starts ++ x ∷ []) ty start 0 there) ∙ (ap (λ n. get_or (starts ++ x ∷ []) n 0) same ∙ get_or-append_seam starts x [] 0)

-- the offsets of one type more
type_more : (types : List IrType) (fields starts offsets own : List ℕ) (b : Bool) (ty k start : ℕ) → AreOffsetsFrom types fields starts offsets
    → (is_fitting types fields (length starts) ≡ true → AreFieldOffsets types fields (length starts) own) → ltb ty (length starts) ≡ b → slice_get (starts ++ length offsets ∷ []) ty ≡ Some start → is_fitting types fields ty ≡ true → IsField fields (slice_get types ty) k
    → (start + k < length (offsets ++ own)) × (get_or (offsets ++ own) (start + k) 0 ≡ field_offset_of types fields ty k)
type_more types fields starts offsets own true ty k start right new less there fitting field =
    let before = right ty k start (start_before starts (length offsets) ty start there (ltb-true ty (length starts) less)) fitting field in
    let inside : start + k < length offsets = before.0 in
    (omega (arith, length-append offsets own), get_or-append offsets own 0 (start + k) inside ∙ before.1)
type_more types fields starts offsets own false ty k start right new less there fitting field =
    let within : ty < length (starts ++ length offsets ∷ []) = slice_get_within (starts ++ length offsets ∷ []) ty start there in
    let more : length starts ≤ ty = ltb-false ty (length starts) less in
    let same : ty ≡ length starts = omega (arith, length-append starts (length offsets ∷ [])) in
    let begins : start ≡ length offsets = start_last starts (length offsets) ty start there same in
    let own_right = new (ap (is_fitting types fields) (sym same) ∙ fitting) k (subst (λ n. IsField fields (slice_get types n) k) same field) in
    let inside : k < length own = own_right.0 in
    let value : get_or own k 0 ≡ field_offset_of types fields (length starts) k = own_right.1 in (
      omega (arith, length-append offsets own),
      ap (λ n. get_or (offsets ++ own) (n + k) 0) begins ∙ (get_or-append-add offsets own k 0 ∙ (value ∙ ap (λ n. field_offset_of types fields n k) (sym same))),
    )

pub one_type_more : (types : List IrType) (fields starts offsets own : List ℕ) (n : ℕ) → length starts ≡ n → AreOffsetsFrom types fields starts offsets
    → (is_fitting types fields n ≡ true → AreFieldOffsets types fields n own) → AreOffsetsFrom types fields (starts ++ length offsets ∷ []) (offsets ++ own)
one_type_more types fields starts offsets own n count right new =
    let new' : is_fitting types fields (length starts) ≡ true → AreFieldOffsets types fields (length starts) own =
    subst (λ m. is_fitting types fields m ≡ true → AreFieldOffsets types fields m own) (sym count) new in
    λ ty k start there fitting field. type_more types fields starts offsets own (ltb ty (length starts)) ty k start right new' refl there fitting field

pub table_more : (types : List IrType) (fields starts offsets own starts' offsets' : List ℕ) (n x : ℕ) → length starts ≡ n → AreOffsetsFrom types fields starts offsets
    → (is_fitting types fields n ≡ true → AreFieldOffsets types fields n own) → x ≡ length offsets → starts' ≡ starts ++ x ∷ [] → offsets' ≡ offsets ++ own
    → (length starts' ≡ n + 1) × AreOffsetsFrom types fields starts' offsets'
table_more types fields starts offsets own starts' offsets' n x count right new at p q =
    let here : starts ++ length offsets ∷ [] ≡ starts' = sym (p ∙ ap (λ v. starts ++ v ∷ []) at) in
    let l : length starts' ≡ length (starts ++ x ∷ []) = ap length p in (
      omega (arith, l, length-append starts (x ∷ [])),
      subst (λ v. AreOffsetsFrom types fields v offsets') here (subst (λ v. AreOffsetsFrom types fields (starts ++ length offsets ∷ []) v) (sym q) (one_type_more types fields starts offsets own n count right new)),
    )
