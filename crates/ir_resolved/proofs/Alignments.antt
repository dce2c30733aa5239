-- The alignment of an access to memory: the one that is stated, or that of the type.
use Rattle.std.proofs.Common.{◌≡◌, ℕ, zero, suc, ◌+◌, ◌/◌, ◌≤◌, List, [], ◌∷◌, length, map, Bool, true, false, ◌||◌, Option, Some, None, if◌then◌else◌, arith, refl, sym, ap, ◌∙◌, subst}
use Rattle.std.specs.Prelude.{◌==◌, nat_le, IsTrue}
use Rattle.std.specs.List.{slice_get}
use Rattle.std.proofs.lemmas.Bool.Decides.{nat_tests}
use Rattle.ir_core.specs.declared.token.Token.{Token}
use Rattle.ir_core.specs.declared.types.IrType.{IrType}
use Rattle.ir_core.specs.declared.types.IrType.TheVariants.{Void, Int, Ptr, Array, Struct, Opaque, Pair}
use Rattle.ir_core.specs.declared.types.TypeLayout.{TypeLayout}
use Rattle.ir_core.specs.declared.types.TypeLayout.TheVariants.{Known, NoSize, Loop}
use Rattle.ir_core.specs.declared.ir_module.Module.{Module}
use Rattle.ir_core.specs.Externals.{IsWidth}
use Rattle.ir_core.specs.Layout.{int_align, layout_at, layout_align, capped, type_layout, layouts_within, exact_layouts}
use Rattle.ir_core.specs.NumberTypes.{type_of, access_size}
use Rattle.ir_core.specs.Operations.{is_number_type}
use Rattle.ir_core.specs.Progress.{type_at}
use Rattle.ir_core.specs.ResolvedBodies.{is_alignment, HasAlignment, HasAtomicAlignment}
use Rattle.ir_core.proofs.Capping.{layout_at-capped}
use Rattle.ir_text.specs.TokenText.{small_number}
use Rattle.ir_grammar.specs.SoundStore.{Counts}
use Rattle.ir_read_items.specs.Rows.{IsStated}
use Rattle.ir_functions.specs.Scope.{Scope}
use Rattle.ir_functions.specs.Instructions.{token_bytes, alignment, atomic_alignment}
use Rattle.ir_resolved.specs.Grounds.{HasGrounds}

-- ---- alignments of types

align_by : (a b c d : Bool) → is_alignment (if a then 1 else (if b then 2 else (if c then 4 else (if d then 8 else 16)))) ≡ true
align_by true b c d = refl
align_by false true c d = refl
align_by false false true d = refl
align_by false false false true = refl
align_by false false false false = refl

int_alignment : (width : ℕ) → is_alignment (int_align width) ≡ true
int_alignment width = align_by (nat_le width 8) (nat_le width 16) (nat_le width 32) (nat_le width 64)

-- an integer and a pointer have such an alignment, whatever the layouts of other types
number_alignment : (fields : List ℕ) (layouts : List TypeLayout) (t : IrType) → is_number_type t ≡ true
    → is_alignment (layout_align (type_layout fields layouts t)) ≡ true
number_alignment fields layouts Void h = cc
number_alignment fields layouts (Int width) h = int_alignment width
number_alignment fields layouts Ptr h = refl
number_alignment fields layouts (Array count item) h = cc
number_alignment fields layouts (Struct first count packed) h = cc
number_alignment fields layouts Opaque h = cc
number_alignment fields layouts (Pair width) h = cc

laid_out : (f : IrType → TypeLayout) (types : List IrType) (n : ℕ) → is_number_type (type_at types n) ≡ true
    → layout_at (map f types) n ≡ f (type_at types n)
laid_out f [] n h = absurd (let e : is_number_type Void ≡ true = h in cc)
laid_out f (t ∷ types) zero h = refl
laid_out f (t ∷ types) (suc n) h = laid_out f types n h

within_alignment : (types : List IrType) (fields : List ℕ) (depth n : ℕ) → is_number_type (type_at types n) ≡ true
    → is_alignment (layout_align (layout_at (layouts_within types fields (suc depth)) n)) ≡ true
within_alignment types fields depth n h =
    ap (λ l. is_alignment (layout_align l)) (laid_out (type_layout fields (layouts_within types fields depth)) types n h)
    ∙ number_alignment fields (layouts_within types fields depth) (type_at types n) h

exact_alignment : (types : List IrType) (fields : List ℕ) (n : ℕ) → is_number_type (type_at types n) ≡ true
    → is_alignment (layout_align (layout_at (exact_layouts types fields) n)) ≡ true
exact_alignment [] fields n h = absurd (let e : is_number_type Void ≡ true = h in cc)
exact_alignment (t ∷ types) fields n h = within_alignment (t ∷ types) fields (length types) n h

capped_align : (l : TypeLayout) → layout_align (capped l) ≡ layout_align l
capped_align (Known size align) = refl
capped_align NoSize = refl
capped_align Loop = refl

kept_alignment : (types : List IrType) (fields : List ℕ) (layouts : List TypeLayout) (n : ℕ) → layouts ≡ map capped (exact_layouts types fields)
    → is_number_type (type_at types n) ≡ true → is_alignment (layout_align (layout_at layouts n)) ≡ true
kept_alignment types fields layouts n e h =
    let kept : layout_at layouts n ≡ capped (layout_at (exact_layouts types fields) n) =
    ap (λ ls. layout_at ls n) e ∙ layout_at-capped (exact_layouts types fields) n in
    ap (λ l. is_alignment (layout_align l)) kept ∙ (ap (λ a. is_alignment a) (capped_align (layout_at (exact_layouts types fields) n)) ∙ exact_alignment types fields n h)

-- ---- alignments of atomic instructions

some_alignment : (n : ℕ) → is_alignment n ≡ true → 1 ≤ n
some_alignment zero h = absurd (let e : false ≡ true = h in cc)
some_alignment (suc n) h = omega arith

atomic_by : (width : ℕ) (a b c d : Bool) → (width == 8) ≡ a → (width == 16) ≡ b → (width == 32) ≡ c → (width == 64) ≡ d → (a || b || c || d) ≡ true
    → is_alignment ((width + 7) / 8) ≡ true
atomic_by width true b c d ea eb ec ed h = let e : width ≡ 8 = grind (arith, nat_tests) in rw e refl
atomic_by width false true c d ea eb ec ed h = let e : width ≡ 16 = grind (arith, nat_tests) in rw e refl
atomic_by width false false true d ea eb ec ed h = let e : width ≡ 32 = grind (arith, nat_tests) in rw e refl
atomic_by width false false false true ea eb ec ed h = let e : width ≡ 64 = grind (arith, nat_tests) in rw e refl
atomic_by width false false false false ea eb ec ed h = absurd (let e : false ≡ true = h in cc)

own_atomic : (t : IrType) → ((width : ℕ) → t ≡ Int width → IsWidth width) → HasAtomicAlignment t (access_size t)
own_atomic Void w = tt
own_atomic (Int width) w =
    let is : IsWidth width = w width refl in
    let some : 1 ≤ width = is.some in
    ((λ h. atomic_by width (width == 8) (width == 16) (width == 32) (width == 64) refl refl refl refl h), omega arith)
own_atomic Ptr w = omega arith
own_atomic (Array count item) w = tt
own_atomic (Struct first count packed) w = tt
own_atomic Opaque w = tt
own_atomic (Pair width) w = tt

stated_atomic : (t : IrType) (n : ℕ) → is_alignment n ≡ true → HasAtomicAlignment t n
stated_atomic Void n h = tt
stated_atomic (Int width) n h = ((λ e. h), some_alignment n h)
stated_atomic Ptr n h = some_alignment n h
stated_atomic (Array count item) n h = tt
stated_atomic (Struct first count packed) n h = tt
stated_atomic Opaque n h = tt
stated_atomic (Pair width) n h = tt

integer_at : (types : List IrType) (n width : ℕ) → type_at types n ≡ Int width → slice_get types n ≡ Some (Int width)
integer_at [] n width h = absurd (let e : Void ≡ Int width = h in cc)
integer_at (t ∷ types) zero width h = ap (λ v. Some v) h
integer_at (t ∷ types) (suc n) width h = integer_at types n width h

-- ---- accesses

-- an alignment that is stated is a power of two up to 16
abbrev pub IsSmallStated : Scope → Option Token → Type 0
IsSmallStated s stated = IsStated (λ (token : Token). IsTrue (is_alignment (small_number (token_bytes s token)))) stated

-- the alignment of a load or store
pub load_alignment : (s : Scope) (m : Module) (counts : Counts) (ty : ℕ) (stated : Option Token) → HasGrounds s m counts → IsSmallStated s stated
    → HasAlignment (type_of m ty) (alignment s ty stated)
load_alignment s m counts ty None g h number =
    let same : is_number_type (type_at s.built.types ty) ≡ true = sym (ap (λ ts. is_number_type (type_at ts ty)) g.same_types) ∙ number in
    kept_alignment s.built.types s.built.fields s.built.layouts ty g.layouts same
load_alignment s m counts ty (Some token) g h number = h

-- the alignment of an atomic instruction
pub atomic_alignment_holds : (s : Scope) (m : Module) (counts : Counts) (ty : ℕ) (stated : Option Token) → HasGrounds s m counts
    → IsSmallStated s stated
    → HasAtomicAlignment (type_of m ty) (atomic_alignment s ty stated)
atomic_alignment_holds s m counts ty None g h =
    subst (λ ts. HasAtomicAlignment (type_of m ty) (access_size (type_at ts ty))) g.same_types
    (own_atomic (type_of m ty) (λ width e. g.types.widths ty width (integer_at m.types ty width e)))
atomic_alignment_holds s m counts ty (Some token) g h = stated_atomic (type_of m ty) (small_number (token_bytes s token)) h
