-- The entries of a phi by the tables of places.
use Rattle.std.proofs.Common.{◌≡◌, ℕ, zero, suc, ◌<◌, Bool, true, false, ◌&&◌, ◌==◌, List, [], ◌∷◌, length, get_or, slice_get, Option, Some, None, refl, sym, subst, ap, ◌∙◌, arith}
use Rattle.std.proofs.lemmas.Bool.{eqb-true, eq-eqb}
use Rattle.std.specs.Bool.{IsTrue}
use Rattle.std.specs.List.{All, Contains, list_all}
use Rattle.ir_core.specs.declared.operands.Operand.{Operand}
use Rattle.ir_core.specs.declared.operands.Operand.TheVariants.{Reg, Int as Literal, Null, Global}
use Rattle.ir_core.specs.declared.operands.PhiEntry.{PhiEntry}
use Rattle.ir_check_flow.specs.Phis.{blocks_of, HasEntry, HasOneValueEach, AreEntries, is_same_operand, IsIndex, agrees, agrees_with}

-- ---- the same operand

both : (a b : Bool) → (a && b) ≡ true → (a ≡ true) × (b ≡ true)
both true b e = (refl, e)
both false b e = cc

and_true : (a b : Bool) → a ≡ true → b ≡ true → (a && b) ≡ true
and_true true b x y = y
and_true false b x y = cc

same_global : (g h o p : ℕ) → g ≡ h → o ≡ p → Global g o ≡ Global h p
same_global g h o p x y = cc

pub same_operand : (a b : Operand) → is_same_operand a b ≡ true → a ≡ b
same_operand (Reg r) (Reg s) e = ap (λ (n : ℕ). Reg n) (eqb-true r s e)
same_operand (Reg r) (Literal n) e = cc
same_operand (Reg r) Null e = cc
same_operand (Reg r) (Global g o) e = cc
same_operand (Literal n) (Reg s) e = cc
same_operand (Literal n) (Literal k) e = ap (λ (i : ℕ). Literal i) (eqb-true n k e)
same_operand (Literal n) Null e = cc
same_operand (Literal n) (Global g o) e = cc
same_operand Null (Reg s) e = cc
same_operand Null (Literal n) e = cc
same_operand Null Null e = refl
same_operand Null (Global g o) e = cc
same_operand (Global g o) (Reg s) e = cc
same_operand (Global g o) (Literal n) e = cc
same_operand (Global g o) Null e = cc
same_operand (Global g o) (Global h p) e = let t = both (g == h) (o == p) e in same_global g h o p (eqb-true g h t.0) (eqb-true o p t.1)

itself : (a : Operand) → is_same_operand a a ≡ true
itself (Reg r) = eq-eqb r r refl
itself (Literal n) = eq-eqb n n refl
itself Null = refl
itself (Global g o) = and_true (g == g) (o == o) (eq-eqb g g refl) (eq-eqb o o refl)

pub equal_operands : (a b : Operand) → a ≡ b → is_same_operand a b ≡ true
equal_operands a b e = subst (λ (x : Operand). is_same_operand a x ≡ true) e (itself a)

-- ---- lists

block_at : (entries : List PhiEntry) (n : ℕ) (entry : PhiEntry) → slice_get entries n ≡ Some entry → slice_get (blocks_of entries) n ≡ Some entry.block
block_at [] n entry e = cc
block_at (x ∷ entries) zero entry e = let same : x ≡ entry = cc in ap (λ (y : PhiEntry). Some y.block) same
block_at (x ∷ entries) (suc n) entry e = block_at entries n entry e

next_entry : (x : PhiEntry) (entries : List PhiEntry) (block : ℕ) → HasEntry entries block → HasEntry (x ∷ entries) block
next_entry x entries block h = record { number = suc h.number; entry = h.entry; there = h.there; from = h.from }

entry_at : (entries : List PhiEntry) (n block : ℕ) → slice_get (blocks_of entries) n ≡ Some block → (entry : PhiEntry) × (slice_get entries n ≡ Some entry) × (entry.block ≡ block)
entry_at [] n block e = cc
entry_at (x ∷ entries) zero block e = (x, refl, cc)
entry_at (x ∷ entries) (suc n) block e = entry_at entries n block e

get_at : (xs : List ℕ) (n d : ℕ) → n < length xs → slice_get xs n ≡ Some (get_or xs n d)
get_at [] n d h = absurd (omega arith)
get_at (x ∷ xs) zero d h = refl
get_at (x ∷ xs) (suc n) d h = get_at xs n d (omega arith)

at_get : (xs : List ℕ) (n x : ℕ) → slice_get xs n ≡ Some x → Contains xs x
at_get [] n x e = cc
at_get (y ∷ xs) zero x e = let same : y ≡ x = cc in (0, omega arith, same)
at_get (y ∷ xs) (suc n) x e = let h = at_get xs n x e in (suc h.0, omega (arith, h.1), h.2)

place_of : (xs : List ℕ) (x : ℕ) → Contains xs x → (n : ℕ) × (slice_get xs n ≡ Some x)
place_of xs x h = (h.0, get_at xs h.0 x h.1 ∙ ap (λ (n : ℕ). Some n) h.2)

all_get : (P : ℕ → Type 0) (xs : List ℕ) (n x : ℕ) → All P xs → slice_get xs n ≡ Some x → P x
all_get P [] n x all e = cc
all_get P (y ∷ xs) zero x all e = let same : y ≡ x = cc in subst P same (all 0 y (omega arith))
all_get P (y ∷ xs) (suc n) x all e = all_get P xs n x (λ k d h. all (suc k) d (omega arith)) e

get_all : (P : ℕ → Type 0) (xs : List ℕ) → ((n x : ℕ) → slice_get xs n ≡ Some x → P x) → All P xs
get_all P xs h k d within = h k (get_or xs k d) (get_at xs k d within)

passes : (test : PhiEntry → Bool) (entries : List PhiEntry) (n : ℕ) (entry : PhiEntry) → list_all test entries ≡ true → slice_get entries n ≡ Some entry → test entry ≡ true
passes test [] n entry e at = cc
passes test (x ∷ entries) zero entry e at = let same : x ≡ entry = cc in subst (λ (y : PhiEntry). test y ≡ true) same (both (test x) (list_all test entries) e).0
passes test (x ∷ entries) (suc n) entry e at = passes test entries n entry (both (test x) (list_all test entries) e).1 at

all_pass : (test : PhiEntry → Bool) (entries : List PhiEntry) → ((n : ℕ) (entry : PhiEntry) → slice_get entries n ≡ Some entry → test entry ≡ true) → list_all test entries ≡ true
all_pass test [] h = refl
all_pass test (x ∷ entries) h = and_true (test x) (list_all test entries) (h 0 x refl) (all_pass test entries (λ n entry at. h (suc n) entry at))

-- ---- entries

agreed : (found : Option PhiEntry) (operand : Operand) → agrees_with found operand ≡ true → (other : PhiEntry) × (found ≡ Some other) × (other.value.operand ≡ operand)
agreed None operand e = cc
agreed (Some other) operand e = (other, refl, same_operand other.value.operand operand e)

one_value : (table : List ℕ) (entries : List PhiEntry) → list_all (agrees table entries) entries ≡ true → HasOneValueEach entries
one_value table entries all i j a b at bt same =
    let x = agreed (slice_get entries (get_or table a.block 0)) a.value.operand (passes (agrees table entries) entries i a all at) in
    let y = agreed (slice_get entries (get_or table b.block 0)) b.value.operand (passes (agrees table entries) entries j b all bt) in
    let z : slice_get entries (get_or table b.block 0) ≡ Some x.0 = subst (λ (n : ℕ). slice_get entries (get_or table n 0) ≡ Some x.0) same x.1 in
    let yy = y.1 in
    let one : x.0 ≡ y.0 = cc in
    sym x.2 ∙ ap (λ (e : PhiEntry). e.value.operand) one ∙ y.2

agrees_here : (found : Option PhiEntry) (other : PhiEntry) (operand : Operand) → found ≡ Some other → other.value.operand ≡ operand → agrees_with found operand ≡ true
agrees_here None other operand e same = cc
agrees_here (Some it) other operand e same =
    let one : other ≡ it = cc in equal_operands it.value.operand operand (ap (λ (x : PhiEntry). x.value.operand) (sym one) ∙ same)

value_agrees : (table : List ℕ) (entries : List PhiEntry) → IsIndex table (blocks_of entries) → HasOneValueEach entries → (n : ℕ) (entry : PhiEntry)
    → slice_get entries n ≡ Some entry → agrees table entries entry ≡ true
value_agrees table entries index same n entry at =
    let found = entry_at entries (get_or table entry.block 0) entry.block (index.found n entry.block (block_at entries n entry at)) in
    agrees_here (slice_get entries (get_or table entry.block 0)) found.0 entry.value.operand found.1
    (same (get_or table entry.block 0) n found.0 entry found.1 at found.2)

pub are_the_entries : (table predecessors : List ℕ) (entries : List PhiEntry) → All (Contains (blocks_of entries)) predecessors → All (Contains predecessors) (blocks_of entries)
    → IsTrue (list_all (agrees table entries) entries) → AreEntries (Contains predecessors) entries
are_the_entries table predecessors entries each only same = record {
  each = λ from h.
      let at = place_of predecessors from h in
      let there = place_of (blocks_of entries) from (all_get (Contains (blocks_of entries)) predecessors at.0 from each at.1) in
      let found = entry_at entries there.0 from there.1 in
      record { number = there.0; entry = found.0; there = found.1; from = found.2 };
  only = λ n entry at. all_get (Contains predecessors) (blocks_of entries) n entry.block only (block_at entries n entry at);
  same = one_value table entries same;
}

has_place : (entries : List PhiEntry) (block : ℕ) → HasEntry entries block → Contains (blocks_of entries) block
has_place entries block h = at_get (blocks_of entries) h.number block (block_at entries h.number h.entry h.there ∙ ap (λ (n : ℕ). Some n) h.from)

pub entries_pass : (table predecessors : List ℕ) (entries : List PhiEntry) → IsIndex table (blocks_of entries) → AreEntries (Contains predecessors) entries
    → All (Contains (blocks_of entries)) predecessors × All (Contains predecessors) (blocks_of entries) × IsTrue (list_all (agrees table entries) entries)
entries_pass table predecessors entries index h = (
  get_all (Contains (blocks_of entries)) predecessors (λ n from at. has_place entries from (h.each from (at_get predecessors n from at))),
  get_all (Contains predecessors) (blocks_of entries) (λ n block at.
      let found = entry_at entries n block at in subst (λ (b : ℕ). Contains predecessors b) found.2 (h.only n found.0 found.1)),
  all_pass (agrees table entries) entries (value_agrees table entries index h.same),
)

pub blocks_inside : (entries : List PhiEntry) (count : ℕ) → All (λ entry. entry.block < count) entries → All (λ block. block < count) (blocks_of entries)
blocks_inside [] count all k d within = absurd (omega arith)
blocks_inside (x ∷ entries) count all zero d within = all 0 x (omega arith)
blocks_inside (x ∷ entries) count all (suc k) d within = blocks_inside entries count (λ j e h. all (suc j) e (omega arith)) k d (omega arith)
