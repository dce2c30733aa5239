-- Numbers and images stay when objects are born and when they die.
use Rattle.std.proofs.Common.{◌≡◌, ℕ, List, ◌++◌, slice_get, Option, Some, None, refl, sym, ◌∙◌, ap, inl, inr}
use Rattle.hw_base.specs.Bytes.{byte_of}
use Rattle.hw_base.specs.declared.pointers.Base.{Base}
use Rattle.hw_base.specs.declared.pointers.Base.TheVariants.{Null, Object}
use Rattle.hw_base.specs.declared.pointers.Obj.{Obj}
use Rattle.hw_base.specs.declared.pointers.Site.{Site}
use Rattle.ir_meaning.specs.Births.{changed_at}
use Rattle.ir_meaning.specs.Values.{Value, Integer, Address, IntegerAndBit, SourceByte, Data, Piece}
use Rattle.ir_meaning.proofs.BirthChangeLaws.{slice_get-pushed, slice_get-changed_at}
use Rattle.tag_story.specs.Story.{StoryBirth, placed_in, get_placed, number_in, number_of, value_image, byte_image}
use Rattle.tag_story.specs.Telling.{ended}
use Rattle.simulation.specs.Parts.{IsBorn, IsKnownBase, IsKnownValue, IsKnownByte, HasRegisters}
use Rattle.simulation.specs.Images.{Stays}

-- one more birth moves nothing
pub stays-born : (births more : List StoryBirth) → Stays births (births ++ more)
stays-born births more o x e = by_birth (slice_get births o.birth) refl e
  where
    by_birth : (b : Option StoryBirth) → slice_get births o.birth ≡ b → placed_in b o.index ≡ Some x → get_placed (births ++ more) o ≡ Some x
    by_birth None here found = absurd cc
    by_birth (Some birth) here found = ap (λ b. placed_in b o.index) (slice_get-pushed births more o.birth birth here) ∙ found

-- a death moves nothing
pub stays-died : (births : List StoryBirth) (number task : ℕ) (chain : List Site) → Stays births (changed_at (ended task chain) births number)
stays-died births number task chain o x e = by_birth (slice_get births o.birth) refl e
  where
    by_birth : (b : Option StoryBirth) → slice_get births o.birth ≡ b → placed_in b o.index ≡ Some x → get_placed (changed_at (ended task chain) births number) o ≡ Some x
    by_birth None here found = absurd cc
    by_birth (Some birth) here found =
        elim (slice_get-changed_at (ended task chain) births number o.birth birth here) [
          | inl same ↦ ap (λ b. placed_in b o.index) same ∙ found
          | inr changed ↦ ap (λ b. placed_in b o.index) changed ∙ found
        ]

pub stays-on : (a b c : List StoryBirth) → Stays a b → Stays b c → Stays a c
stays-on a b c first second o x e = second o x (first o x e)

pub born-stays : (before after : List StoryBirth) (o : Obj) → Stays before after → IsBorn before o → IsBorn after o
born-stays before after o stays known = (known.0, stays o known.0 known.1)

pub number-stays : (before after : List StoryBirth) (base : Base) (off : ℕ) → Stays before after → IsKnownBase before base → number_of after base off ≡ number_of before base off
number-stays before after Null off stays known = refl
number-stays before after (Object o) off stays known =
    ap (λ x. number_in x off) (stays o known.0 known.1) ∙ sym (ap (λ x. number_in x off) known.1)

pub value-stays : (before after : List StoryBirth) (v : Value) → Stays before after → IsKnownValue before v → value_image after v ≡ value_image before v
value-stays before after (Integer n) stays known = refl
value-stays before after (Address base off) stays known = number-stays before after base off stays known
value-stays before after (IntegerAndBit n bit) stays known = refl

pub byte-stays : (before after : List StoryBirth) (b : SourceByte) → Stays before after → IsKnownByte before b → byte_image after b ≡ byte_image before b
byte-stays before after (Data n) stays known = refl
byte-stays before after (Piece o off j) stays known = ap (λ n. byte_of n j) (number-stays before after (Object o) off stays known)

pub known_base-stays : (before after : List StoryBirth) (base : Base) → Stays before after → IsKnownBase before base → IsKnownBase after base
known_base-stays before after Null stays known = tt
known_base-stays before after (Object o) stays known = born-stays before after o stays known

pub known-stays : (before after : List StoryBirth) (v : Value) → Stays before after → IsKnownValue before v → IsKnownValue after v
known-stays before after (Integer n) stays known = tt
known-stays before after (Address base off) stays known = known_base-stays before after base stays known
known-stays before after (IntegerAndBit n bit) stays known = tt

pub known_byte-stays : (before after : List StoryBirth) (b : SourceByte) → Stays before after → IsKnownByte before b → IsKnownByte after b
known_byte-stays before after (Data n) stays known = known
known_byte-stays before after (Piece o off j) stays known = born-stays before after o stays known

-- registers stay related
pub registers-stay : (before after : List StoryBirth) (values : List (Option Value)) (numbers : List ℕ) → Stays before after → HasRegisters before values numbers → HasRegisters after values numbers
registers-stay before after values numbers stays has =
    record {
      count = has.count;
      known = λ r v h. known-stays before after v stays (has.known r v h);
      number = λ r v h. has.number r v h ∙ sym (value-stays before after v stays (has.known r v h));
      bit = has.bit;
    }
