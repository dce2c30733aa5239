-- The scan of a string ends in one of the ways that a step goes on from.
use Rattle.std.proofs.Common.{◌≡◌, ◌≢◌, ℕ, zero, suc, ◌+◌, ◌%◌, ◌^◌, ◌<◌, List, [], ◌∷◌, Option, Some, None, refl, arith}
use Rattle.hw_base.specs.declared.accesses.Access.TheVariants.{Read}
use Rattle.hw_base.specs.declared.pointers.Base.{Base}
use Rattle.hw_base.specs.declared.pointers.Base.TheVariants.{Null, Object}
use Rattle.ir_core.specs.declared.ir_module.Module.{Module}
use Rattle.ir_meaning.specs.AccessRule.{AccessAnswer, Fine, Violates, WritesConstant, IsOutside, NoAnswer, access_answer, accessed}
use Rattle.ir_meaning.specs.Births.{Birth, SourceObject, get_object, size_in, bytes_at}
use Rattle.ir_meaning.specs.Strings.{StringAnswer, Whole, Refused, MeetsPiece, NotEnded, byte_before, by_byte, by_access, string_from, string_at, base_size}
use Rattle.ir_meaning.specs.Values.{SourceByte, Data, Piece}
use Rattle.ir_meaning.proofs.StringLaws.{string_at-ends}
use Rattle.well_typed_runs.specs.GoodWorlds.{AreSmall}
use Rattle.well_typed_runs.specs.KnownValues.{IsKnownBase, AreGoodBirths}
use Rattle.well_typed_runs.proofs.Accesses.{rule_answers, known_access}

-- a refusal is one by the access rule
abbrev pub IsAnswered : StringAnswer → Type 0
IsAnswered (Whole ns) = Unit {0}
IsAnswered (Refused off answer) = (answer ≡ Fine → ⊥) × (answer ≡ NoAnswer → ⊥)
IsAnswered MeetsPiece = Unit {0}
IsAnswered NotEnded = Unit {0}

before-answered : (n : ℕ) (found : StringAnswer) → IsAnswered found → IsAnswered (byte_before n found)
before-answered n (Whole ns) h = tt
before-answered n (Refused off refusal) h = h
before-answered n MeetsPiece h = tt
before-answered n NotEnded h = tt

byte-answered : (bytes : List SourceByte) (later : StringAnswer) → IsAnswered later → IsAnswered (by_byte bytes later)
byte-answered [] later h = tt
byte-answered (Data zero ∷ bytes) later h = tt
byte-answered (Data (suc n) ∷ bytes) later h = before-answered (suc n) later h
byte-answered (Piece o off j ∷ bytes) later h = tt

access-answered : (off : ℕ) (answer : AccessAnswer) (found : StringAnswer) → answer ≢ NoAnswer → IsAnswered found → IsAnswered (by_access off answer found)
access-answered off Fine found h k = k
access-answered off (Violates kind) found h k = (λ e. absurd cc, λ e. absurd cc)
access-answered off WritesConstant found h k = (λ e. absurd cc, λ e. absurd cc)
access-answered off (IsOutside reason) found h k = (λ e. absurd cc, λ e. absurd cc)
access-answered off NoAnswer found h k = absurd (h refl)

string-answered : (m : Module) (tries : ℕ) (births : List Birth) (base : Base) (off : ℕ) → AreGoodBirths m births → IsKnownBase births base → IsAnswered (string_from tries births base off)
unfolding string_from
string-answered m zero births base off good known = tt
string-answered m (suc tries) births base off good known =
    access-answered off (access_answer births Read base off 1 1) _ (rule_answers Read (accessed births base) off 1 1 (known_access m births base good known))
    (byte-answered (bytes_at births base off 1) _ (string-answered m tries births base ((off + 1) % 2 ^ 64) good known))

pub string_answered : (m : Module) (births : List Birth) (base : Base) (off : ℕ) → AreGoodBirths m births → IsKnownBase births base → IsAnswered (string_at births base off)
string_answered m births base off good known = string-answered m (suc (base_size births base)) births base off good known

pub string_ends : (m : Module) (births : List Birth) (base : Base) (off : ℕ) → AreGoodBirths m births → AreSmall births → string_at births base off ≢ NotEnded
string_ends m births base off good small = string_at-ends births base off good.sizes (by_base base)
  where
    by_object : (found : Option SourceObject) → ((x : SourceObject) → found ≡ Some x → x.size < 2 ^ 64) → size_in found < 2 ^ 64
    by_object None h = omega arith
    by_object (Some x) h = h x refl

    by_base : (base : Base) → base_size births base < 2 ^ 64
    by_base Null = omega arith
    by_base (Object o) = by_object (get_object births o) (λ x e. small o x e)
