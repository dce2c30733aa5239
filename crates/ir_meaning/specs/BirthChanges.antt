-- What a step may do to births, and what this means for them. Laws of this project's definitions.
use Rattle.std.specs.Prelude.{◌≡◌, ℕ, List, [], ◌∷◌, ◌++◌, length, map, slice_get, Some, false, if◌then◌else◌}
use Rattle.std.specs.List.{flat_map}
use Rattle.hw_base.specs.declared.pointers.Base.{Base}
use Rattle.hw_base.specs.declared.pointers.Obj.{Obj}
use Rattle.hw_base.specs.declared.pointers.Site.{Site}
use Rattle.ir_meaning.specs.Values.{SourceByte}
use Rattle.ir_meaning.specs.Births.{Region, SourceObject, Birth, is_living, get_object, fresh_birth, after_death, put_bytes}
use Rattle.ir_meaning.specs.State.{News, Born, Died, SourceReport}

-- births before and after, and the news: nothing happened, bytes were written, a birth came, a birth ended, or one of these
-- after another
pub data BirthsChange : List Birth → List Birth → List News → Type 0 where
  same : (births : List Birth) → BirthsChange births births []
  wrote : (births : List Birth) (base : Base) (off : ℕ) (bytes : List SourceByte) → BirthsChange births (put_bytes births base off bytes) []
  bore : (births : List Birth) (region : Region) (task : ℕ) (chain : List Site) (sizes : List ℕ)
      → BirthsChange births (births ++ fresh_birth region task chain sizes ∷ []) (Born (length births) region task chain sizes ∷ [])
  died : (births : List Birth) (number task : ℕ) (chain : List Site)
      → BirthsChange births (after_death births number task chain) (Died number task chain ∷ [])
  both : (before between after : List Birth) (first second : List News)
      → BirthsChange before between first → BirthsChange between after second → BirthsChange before after (first ++ second)

-- ---- what stays

-- each object that is dead in the first births is there in the second ones with the same record
abbrev pub KeepsDead : (before after : List Birth) → Type 0
KeepsDead before after =
    (o : Obj) (x : SourceObject) → get_object before o ≡ Some x → is_living x.life ≡ false → get_object after o ≡ Some x

-- a birth is the same but for the lives and bytes of its objects
pub record IsSameBirth (before after : Birth) : Type 0 where
  pub region : after.region ≡ before.region
  pub task : after.task ≡ before.task
  pub born : after.born ≡ before.born
  pub sizes : map (λ (x : SourceObject). x.size) after.objects ≡ map (λ (x : SourceObject). x.size) before.objects
  pub constants : map (λ (x : SourceObject). x.constant) after.objects ≡ map (λ (x : SourceObject). x.constant) before.objects

-- births only grow: each one is there afterwards, under its number
abbrev pub OnlyGrow : (before after : List Birth) → Type 0
OnlyGrow before after =
    (number : ℕ) (birth : Birth) → slice_get before number ≡ Some birth
    → (later : Birth) × (slice_get after number ≡ Some later) × IsSameBirth birth later

-- ---- bytes

-- a living object has as many bytes as its size, and a dead one has none
abbrev pub HasItsBytes : SourceObject → Type 0
HasItsBytes x = length x.bytes ≡ (if is_living x.life then x.size else 0)

abbrev pub HaveTheirBytes : List Birth → Type 0
HaveTheirBytes births = (o : Obj) (x : SourceObject) → get_object births o ≡ Some x → HasItsBytes x

-- ---- news

-- an object without its bytes
abbrev pub bare_object : SourceObject → SourceObject
bare_object x = record x { bytes = [] }

abbrev pub bare_birth : Birth → Birth
bare_birth birth = record birth { objects = map bare_object birth.objects }

-- births without the bytes of their objects
abbrev pub bare : List Birth → List Birth
bare births = map bare_birth births

-- births without bytes, after one birth or death
abbrev pub with_news : List Birth → News → List Birth
with_news births (Born number region task chain sizes) = births ++ bare_birth (fresh_birth region task chain sizes) ∷ []
with_news births (Died number task chain) = after_death births number task chain

-- the same after births and deaths in order
unfoldable pub after_news : List Birth → List News → List Birth
after_news births [] = births
after_news births (news ∷ later) = after_news (with_news births news) later

-- what the news of steps are, in order
abbrev pub all_news : List SourceReport → List News
all_news reports = flat_map (λ (report : SourceReport). report.news) reports
