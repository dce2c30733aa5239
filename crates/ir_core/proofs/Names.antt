-- The names of outside functions, family by family.
use Rattle.std.proofs.Common.{◌≡◌, ◌≢◌, ℕ, ◌<◌, ◌≤◌, ◌++◌, Bool, List, get_or, arith, refl, sym, ◌∙◌, ap, subst, decimal, IsTrue, eqb, lit<, Option, Some, None, MatchOption}
use Rattle.std.specs.Cmp.Lexicographic.{pointwise}
use Rattle.std.proofs.lemmas.List.{append_cancel_left}
use Rattle.std.proofs.lemmas.Fmt.{decimal_injective}
use Rattle.std.proofs.lemmas.Slice.Eq.{slice_eq-Decides}
use Rattle.std.proofs.lemmas.Bool.Decides.{Decides-eqb}
use Rattle.hw_base.specs.declared.operators.BitOp.{BitOp}
use Rattle.hw_base.specs.declared.operators.BitOp.TheVariants.{BSwap, CtPop, CtLz, CtTz, FShl, FShr, SMin, SMax, UMin, UMax, Abs, Expect}
use Rattle.hw_base.specs.declared.operators.OverOp.TheVariants.{SAdd, UAdd, SSub, USub, SMul, UMul}
use Rattle.ir_core.specs.declared.externals.TheConstants.{FAMILIES}
use Rattle.ir_core.specs.declared.lib_functions.Lib.{Lib}
use Rattle.ir_core.specs.declared.lib_functions.Lib.TheVariants.{Malloc, Calloc, Free, Realloc, Memcpy, Memmove, Memset, LlvmMemcpy, LlvmMemmove, LlvmMemset, Memcmp, Strlen, Puts, Putchar, Getchar, Exit, Abort, LlvmTrap, PthreadCreate, PthreadJoin, MutexInit, MutexLock, MutexUnlock, MutexDestroy, LifetimeStart, LifetimeEnd, Assume, Bits, Overflow}
use Rattle.hw_base.specs.ByteSwap.{HasPairs}
use Rattle.ir_core.specs.Externals.{name_stem, width_text, lib_name, IsWidth, IsThere, family}

-- what a test of bytes against a number's text tells
pub decimal_told : (n : ℕ) (bytes text : List ℕ) (r : Bool) → decimal n ≡ text → r ≡ pointwise eqb bytes text → (IsTrue r → decimal n ≡ bytes) × (decimal n ≡ bytes → IsTrue r)
decimal_told n bytes text r e made =
    let d = slice_eq-Decides Decides-eqb bytes text r made in
    (λ t. e ∙ sym (d.0 t), λ h. d.1 (sym h ∙ e))

-- the names of a family have one stem
pub stem_of_family : (lib : Lib) → name_stem lib ≡ name_stem (family lib)
stem_of_family (Bits BSwap width) = refl
stem_of_family (Bits CtPop width) = refl
stem_of_family (Bits CtLz width) = refl
stem_of_family (Bits CtTz width) = refl
stem_of_family (Bits FShl width) = refl
stem_of_family (Bits FShr width) = refl
stem_of_family (Bits SMin width) = refl
stem_of_family (Bits SMax width) = refl
stem_of_family (Bits UMin width) = refl
stem_of_family (Bits UMax width) = refl
stem_of_family (Bits Abs width) = refl
stem_of_family (Bits Expect width) = refl
stem_of_family (Overflow SAdd width) = refl
stem_of_family (Overflow UAdd width) = refl
stem_of_family (Overflow SSub width) = refl
stem_of_family (Overflow USub width) = refl
stem_of_family (Overflow SMul width) = refl
stem_of_family (Overflow UMul width) = refl
stem_of_family other = refl

pub same_stem : (a b : Lib) → family a ≡ family b → name_stem a ≡ name_stem b
same_stem a b e = stem_of_family a ∙ (ap name_stem e ∙ sym (stem_of_family b))

-- a name that begins with a family's stem goes on with the width
pub name_rest : (lib known : Lib) (name rest : List ℕ) → family lib ≡ family known → name ≡ name_stem known ++ rest → lib_name lib ≡ name → width_text lib ≡ rest
name_rest lib known name rest e cut h =
    append_cancel_left (name_stem known) (width_text lib) rest (ap (λ s. s ++ width_text lib) (sym (same_stem lib known e)) ∙ (h ∙ cut))

pub name_whole : (lib known : Lib) (name rest : List ℕ) → family lib ≡ family known → name ≡ name_stem known ++ rest → width_text lib ≡ rest → lib_name lib ≡ name
name_whole lib known name rest e cut h =
    ap (λ s. s ++ width_text lib) (same_stem lib known e) ∙ (ap (λ r. name_stem known ++ r) h ∙ sym cut)

-- a width without pairs is no byte swap's
pub no_pairs : (op : BitOp) (width : ℕ) (rest : List ℕ) (lib : Lib) → (HasPairs op width → ⊥) → IsWidth width → decimal width ≡ rest → family lib ≡ Bits op 0 → IsThere lib → width_text lib ≢ rest
no_pairs op width rest (Bits other n) none w e f there h =
    let same : other ≡ op = cc in
    let high : n ≤ 128 = there.0.most in
    let top : width ≤ 128 = w.most in
    let n_is : n ≡ width = decimal_injective n width (omega arith) (omega arith) (h ∙ sym e) in
    none (subst (λ o. HasPairs o width) same (subst (HasPairs other) n_is there.1))
no_pairs op width rest other none w e f there h = cc

-- what the rest of a name tells, told of the name
pub member_told : (known : Lib) (name rest : List ℕ) (r : Option Lib) → name ≡ name_stem known ++ rest → MatchOption r ((lib : Lib) → family lib ≡ family known → IsThere lib → width_text lib ≢ rest) (λ lib. (family lib ≡ family known) × IsThere lib × (width_text lib ≡ rest)) → MatchOption r ((lib : Lib) → family lib ≡ family known → IsThere lib → lib_name lib ≢ name) (λ lib. IsThere lib × (lib_name lib ≡ name))
member_told known name rest None cut h = λ lib e there named. h lib e there (name_rest lib known name rest e cut named)
member_told known name rest (Some lib) cut h = (h.1, name_whole lib known name rest h.0 cut h.2)

-- where a function's family stands in the table
abbrev place : Lib → ℕ
place Malloc = 0
place Calloc = 1
place Free = 2
place Realloc = 3
place Memcpy = 4
place Memmove = 5
place Memset = 6
place LlvmMemcpy = 7
place LlvmMemmove = 8
place LlvmMemset = 9
place Memcmp = 10
place Strlen = 11
place Puts = 12
place Putchar = 13
place Getchar = 14
place Exit = 15
place Abort = 16
place LlvmTrap = 17
place PthreadCreate = 18
place PthreadJoin = 19
place MutexInit = 20
place MutexLock = 21
place MutexUnlock = 22
place MutexDestroy = 23
place LifetimeStart = 24
place LifetimeEnd = 25
place Assume = 26
place (Bits BSwap width) = 27
place (Bits CtPop width) = 28
place (Bits CtLz width) = 29
place (Bits CtTz width) = 30
place (Bits FShl width) = 31
place (Bits FShr width) = 32
place (Bits SMin width) = 33
place (Bits SMax width) = 34
place (Bits UMin width) = 35
place (Bits UMax width) = 36
place (Bits Abs width) = 37
place (Bits Expect width) = 38
place (Overflow SAdd width) = 39
place (Overflow UAdd width) = 40
place (Overflow SSub width) = 41
place (Overflow USub width) = 42
place (Overflow SMul width) = 43
place (Overflow UMul width) = 44

-- its family stands there
record StandsAt (lib : Lib) (k : ℕ) : Type 0 where
  inside : k < 45
  same : family lib ≡ family (get_or FAMILIES k Malloc)

stands : (lib : Lib) → StandsAt lib (place lib)
stands Malloc = record { inside = lit< tt; same = refl }
stands Calloc = record { inside = lit< tt; same = refl }
stands Free = record { inside = lit< tt; same = refl }
stands Realloc = record { inside = lit< tt; same = refl }
stands Memcpy = record { inside = lit< tt; same = refl }
stands Memmove = record { inside = lit< tt; same = refl }
stands Memset = record { inside = lit< tt; same = refl }
stands LlvmMemcpy = record { inside = lit< tt; same = refl }
stands LlvmMemmove = record { inside = lit< tt; same = refl }
stands LlvmMemset = record { inside = lit< tt; same = refl }
stands Memcmp = record { inside = lit< tt; same = refl }
stands Strlen = record { inside = lit< tt; same = refl }
stands Puts = record { inside = lit< tt; same = refl }
stands Putchar = record { inside = lit< tt; same = refl }
stands Getchar = record { inside = lit< tt; same = refl }
stands Exit = record { inside = lit< tt; same = refl }
stands Abort = record { inside = lit< tt; same = refl }
stands LlvmTrap = record { inside = lit< tt; same = refl }
stands PthreadCreate = record { inside = lit< tt; same = refl }
stands PthreadJoin = record { inside = lit< tt; same = refl }
stands MutexInit = record { inside = lit< tt; same = refl }
stands MutexLock = record { inside = lit< tt; same = refl }
stands MutexUnlock = record { inside = lit< tt; same = refl }
stands MutexDestroy = record { inside = lit< tt; same = refl }
stands LifetimeStart = record { inside = lit< tt; same = refl }
stands LifetimeEnd = record { inside = lit< tt; same = refl }
stands Assume = record { inside = lit< tt; same = refl }
stands (Bits BSwap width) = record { inside = lit< tt; same = refl }
stands (Bits CtPop width) = record { inside = lit< tt; same = refl }
stands (Bits CtLz width) = record { inside = lit< tt; same = refl }
stands (Bits CtTz width) = record { inside = lit< tt; same = refl }
stands (Bits FShl width) = record { inside = lit< tt; same = refl }
stands (Bits FShr width) = record { inside = lit< tt; same = refl }
stands (Bits SMin width) = record { inside = lit< tt; same = refl }
stands (Bits SMax width) = record { inside = lit< tt; same = refl }
stands (Bits UMin width) = record { inside = lit< tt; same = refl }
stands (Bits UMax width) = record { inside = lit< tt; same = refl }
stands (Bits Abs width) = record { inside = lit< tt; same = refl }
stands (Bits Expect width) = record { inside = lit< tt; same = refl }
stands (Overflow SAdd width) = record { inside = lit< tt; same = refl }
stands (Overflow UAdd width) = record { inside = lit< tt; same = refl }
stands (Overflow SSub width) = record { inside = lit< tt; same = refl }
stands (Overflow USub width) = record { inside = lit< tt; same = refl }
stands (Overflow SMul width) = record { inside = lit< tt; same = refl }
stands (Overflow UMul width) = record { inside = lit< tt; same = refl }

-- a name that no family of the table has is no function's
pub no_family : (name : List ℕ) (n : ℕ) → 45 ≤ n → ((k : ℕ) → k < n → (lib : Lib) → family lib ≡ family (get_or FAMILIES k Malloc) → IsThere lib → lib_name lib ≢ name) → (lib : Lib) → IsThere lib → lib_name lib ≢ name
no_family name n all h lib there named =
    let s = stands lib in
    let inside : place lib < 45 = s.inside in
    h (place lib) (omega arith) lib s.same there named
