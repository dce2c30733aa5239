-- Two functions of the outside have two names: a name tells the family, by its stem, and then the width.
use Rattle.std.proofs.Common.{◌≡◌, ℕ, zero, suc, ◌≤◌, ◌==◌, ◌&&◌, ◌++◌, Bool, true, false, if◌then◌else◌, List, [], ◌∷◌, arith, refl, sym, ◌∙◌, ap, decimal, length, Option, Some, None}
use Rattle.std.proofs.lemmas.List.{append_cancel_left}
use Rattle.std.proofs.lemmas.Fmt.{decimal_injective, decimal_nonempty}
use Rattle.hw_base.specs.declared.operators.BitOp.TheVariants.{BSwap, CtPop, CtLz, CtTz, FShl, FShr, SMin, SMax, UMin, UMax, Abs, Expect}
use Rattle.hw_base.specs.declared.operators.OverOp.TheVariants.{SAdd, UAdd, SSub, USub, SMul, UMul}
use Rattle.ir_core.specs.declared.lib_functions.Lib.{Lib}
use Rattle.ir_core.specs.declared.lib_functions.Lib.TheVariants.{Malloc, Calloc, Free, Realloc, Memcpy, Memmove, Memset, LlvmMemcpy, LlvmMemmove, LlvmMemset, Memcmp, Strlen, Puts, Putchar, Getchar, Exit, Abort, LlvmTrap, PthreadCreate, PthreadJoin, MutexInit, MutexLock, MutexUnlock, MutexDestroy, LifetimeStart, LifetimeEnd, Assume, Bits, Overflow}
use Rattle.ir_core.specs.Externals.{name_stem, width_text, lib_name, IsThere, family, IsExternal}
use Rattle.ir_core.proofs.Names.{same_stem}

-- ---- families

-- a name begins with a stem
abbrev begins : (stem name : List ℕ) → Bool
begins [] name = true
begins (a ∷ stem) [] = false
begins (a ∷ stem) (b ∷ name) = (a == b) && begins stem name

-- the first of these functions with whose stem a name begins
abbrev family_among : List Lib → (name : List ℕ) → Lib
family_among [] name = Malloc
family_among (known ∷ rest) name = if begins (name_stem known) name then known else family_among rest name

-- one function of each family
abbrev families : List Lib
families =
    Malloc ∷ Calloc ∷ Free ∷ Realloc ∷ Memcpy ∷
    Memmove ∷ Memset ∷ LlvmMemcpy ∷ LlvmMemmove ∷ LlvmMemset ∷
    Memcmp ∷ Strlen ∷ Puts ∷ Putchar ∷ Getchar ∷
    Exit ∷ Abort ∷ LlvmTrap ∷ PthreadCreate ∷ PthreadJoin ∷
    MutexInit ∷ MutexLock ∷ MutexUnlock ∷ MutexDestroy ∷ LifetimeStart ∷
    LifetimeEnd ∷ Assume ∷ Bits BSwap 0 ∷ Bits CtPop 0 ∷ Bits CtLz 0 ∷
    Bits CtTz 0 ∷ Bits FShl 0 ∷ Bits FShr 0 ∷ Bits SMin 0 ∷ Bits SMax 0 ∷
    Bits UMin 0 ∷ Bits UMax 0 ∷ Bits Abs 0 ∷ Bits Expect 0 ∷ Overflow SAdd 0 ∷
    Overflow UAdd 0 ∷ Overflow SSub 0 ∷ Overflow USub 0 ∷ Overflow SMul 0 ∷ Overflow UMul 0 ∷ []

abbrev family_named : (name : List ℕ) → Lib
family_named name = family_among families name

-- a function's name tells its family: no stem begins with another one
family_told : (lib : Lib) → family_named (lib_name lib) ≡ family lib
family_told Malloc = refl
family_told Calloc = refl
family_told Free = refl
family_told Realloc = refl
family_told Memcpy = refl
family_told Memmove = refl
family_told Memset = refl
family_told LlvmMemcpy = refl
family_told LlvmMemmove = refl
family_told LlvmMemset = refl
family_told Memcmp = refl
family_told Strlen = refl
family_told Puts = refl
family_told Putchar = refl
family_told Getchar = refl
family_told Exit = refl
family_told Abort = refl
family_told LlvmTrap = refl
family_told PthreadCreate = refl
family_told PthreadJoin = refl
family_told MutexInit = refl
family_told MutexLock = refl
family_told MutexUnlock = refl
family_told MutexDestroy = refl
family_told LifetimeStart = refl
family_told LifetimeEnd = refl
family_told Assume = refl
family_told (Bits BSwap width) = refl
family_told (Bits CtPop width) = refl
family_told (Bits CtLz width) = refl
family_told (Bits CtTz width) = refl
family_told (Bits FShl width) = refl
family_told (Bits FShr width) = refl
family_told (Bits SMin width) = refl
family_told (Bits SMax width) = refl
family_told (Bits UMin width) = refl
family_told (Bits UMax width) = refl
family_told (Bits Abs width) = refl
family_told (Bits Expect width) = refl
family_told (Overflow SAdd width) = refl
family_told (Overflow UAdd width) = refl
family_told (Overflow SSub width) = refl
family_told (Overflow USub width) = refl
family_told (Overflow SMul width) = refl
family_told (Overflow UMul width) = refl

same_family : (f g : Lib) → lib_name f ≡ lib_name g → family f ≡ family g
same_family f g e = sym (family_told f) ∙ (ap family_named e ∙ family_told g)

-- ---- widths

-- the width at the end of a function's name, 0 if it has none
abbrev width_of : Lib → ℕ
width_of (Bits op width) = width
width_of (Overflow op width) = width
width_of other = 0

-- the function of a family at a width
abbrev at_width : Lib → (width : ℕ) → Lib
at_width (Bits op other) width = Bits op width
at_width (Overflow op other) width = Overflow op width
at_width known width = known

family_at_width : (lib : Lib) → at_width (family lib) (width_of lib) ≡ lib
family_at_width (Bits op width) = refl
family_at_width (Overflow op width) = refl
family_at_width other = refl

-- the text of a width, none for 0
abbrev text_of : (width : ℕ) → List ℕ
text_of zero = []
text_of (suc n) = decimal (suc n)

-- a function's width is one that there is, and its text is this
record HasWidth (lib : Lib) : Type 0 where
  most : width_of lib ≤ 128
  text : width_text lib ≡ text_of (width_of lib)

text_of_some : (width : ℕ) → 1 ≤ width → decimal width ≡ text_of width
text_of_some zero some = absurd (omega arith)
text_of_some (suc n) some = refl

has_width : (lib : Lib) → IsThere lib → HasWidth lib
has_width (Bits op width) there = record { most = there.0.most; text = text_of_some width there.0.some }
has_width (Overflow op width) there = record { most = there.most; text = text_of_some width there.some }
has_width other there = record { most = omega arith; text = refl }

some_text : (n : ℕ) → suc n ≤ 128 → [] ≡ decimal (suc n) → ⊥
some_text n most e = omega (arith, decimal_nonempty (suc n) (omega arith), ap length e)

one_width : (m n : ℕ) → m ≤ 128 → n ≤ 128 → text_of m ≡ text_of n → m ≡ n
one_width zero zero p q e = refl
one_width zero (suc n) p q e = absurd (some_text n q e)
one_width (suc m) zero p q e = absurd (some_text m p (sym e))
one_width (suc m) (suc n) p q e = decimal_injective (suc m) (suc n) (omega arith) (omega arith) e

same_text : (f g : Lib) → family f ≡ family g → lib_name f ≡ lib_name g → width_text f ≡ width_text g
same_text f g same e =
    append_cancel_left (name_stem f) (width_text f) (width_text g) (e ∙ ap (λ s. s ++ width_text g) (sym (same_stem f g same)))

-- ---- functions

-- two functions with one name are one
pub one_function : (f g : Lib) → IsThere f → IsThere g → lib_name f ≡ lib_name g → f ≡ g
one_function f g there also e =
    let same = same_family f g e in
    let u = has_width f there in
    let v = has_width g also in
    let width : width_of f ≡ width_of g = one_width (width_of f) (width_of g) u.most v.most (sym u.text ∙ (same_text f g same e ∙ v.text)) in
    sym (family_at_width f) ∙ (ap (λ lib. at_width lib (width_of f)) same ∙ (ap (at_width (family g)) width ∙ family_at_width g))

-- a name means one function, or none
pub one_meaning : (name : List ℕ) (a b : Option Lib) → IsExternal name a → IsExternal name b → a ≡ b
one_meaning name None None h g = refl
one_meaning name None (Some lib) h g = absurd (h lib g.0 g.1)
one_meaning name (Some lib) None h g = absurd (g lib h.0 h.1)
one_meaning name (Some f) (Some g) h k = ap Some (one_function f g h.0 k.0 (h.1 ∙ sym k.1))
