-- The machine follows a write through a pointer: it writes the images of the source's bytes, or traps as the source does.
use Rattle.std.proofs.Common.{◌≡◌, ℕ, zero, suc, ◌%◌, ◌/◌, ◌<◌, true, List, [], ◌∷◌, length, map, Option, Result, Ok, refl, sym, ◌∙◌, ap, subst, arith}
use Rattle.std.proofs.lemmas.List.{length-map}
use Rattle.hw_base.proofs.ByteLaws.{length-le_bytes}
use Rattle.hw_base.specs.Bytes.{byte_of, le_bytes}
use Rattle.hw_base.specs.TaggedAddress.{address_of}
use Rattle.hw_base.specs.declared.accesses.Access.TheVariants.{Read, Write}
use Rattle.hw_base.specs.declared.endings.Trap.TheVariants.{ReadOnly}
use Rattle.hw_base.specs.declared.pointers.Base.{Base}
use Rattle.hw_base.specs.declared.pointers.Base.TheVariants.{Null, Object}
use Rattle.ir_machine.specs.State.{MachineSetting, MachineSeen, MachineOutcome}
use Rattle.ir_machine.specs.StepEnds.{with_memory, on_bytes, with_read, on_writable, with_writable, on_memory, with_write}
use Rattle.ir_meaning.specs.AccessRule.{Fine, WritesConstant, access_answer}
use Rattle.ir_meaning.specs.Births.{bytes_at}
use Rattle.ir_meaning.specs.Encoding.{number_bytes, pointer_bytes}
use Rattle.ir_meaning.specs.State.{SourceOutcome}
use Rattle.ir_meaning.specs.StepEnds.{traps}
use Rattle.ir_meaning.specs.Values.{SourceByte, Data}
use Rattle.tag_story.specs.Story.{StoryBirth, number_of, byte_image}
use Rattle.tag_story.specs.ToldRun.{ToldSeen, source_seen}
use Rattle.tbi_memory.specs.AddressSpace.{AddressSpace, read, write_fault, with_bytes}
use Rattle.tbi_memory.specs.declared.mem_fault.MemFault.{MemFault}
use Rattle.step_simulation.proofs.PlainSteps.{FollowsIn, own_site, traps-follows}
use Rattle.simulation.proofs.ReadImages.{fine-read}
use Rattle.simulation.proofs.WriteAllowed.{readable, fine-writable, constant-refused, fine-written, constant-written, write-kept}
use Rattle.simulation.specs.Checks.{lies_inside}
use Rattle.simulation.specs.Parts.{IsKnownByte, IsKnownBase}
use Rattle.simulation.specs.Relation.{IsSetting, SeenLike}
use Rattle.simulation.specs.Writes.{AreKnown, put_told}

-- ---- bytes that are written

pub data-known : (births : List StoryBirth) (count n : ℕ) → AreKnown births (number_bytes count n)
unfolding le_bytes
data-known births zero n i byte h = absurd cc
data-known births (suc count) n zero byte h = let is : Data (n % 256) ≡ byte = cc in subst (IsKnownByte births) is (let small : n % 256 < 256 = omega arith in small)
data-known births (suc count) n (suc i) byte h = data-known births count (n / 256) i byte h

pub data-image : (births : List StoryBirth) (ns : List ℕ) → map (byte_image births) (map (λ n. Data n) ns) ≡ ns
data-image births [] = refl
data-image births (n ∷ ns) = ap (λ xs. n ∷ xs) (data-image births ns)

pub pointer-length : (base : Base) (off : ℕ) → length (pointer_bytes base off) ≡ 8
unfolding pointer_bytes
pointer-length Null off = length-map _ _ ∙ length-le_bytes 8 off
pointer-length (Object o) off = refl

-- the bytes of a pointer are those of its number
pub pointer-image : (births : List StoryBirth) (base : Base) (off : ℕ) → map (byte_image births) (pointer_bytes base off) ≡ le_bytes 8 (number_of births base off)
unfolding pointer_bytes le_bytes byte_of
pointer-image births Null off = data-image births (le_bytes 8 off)
pointer-image births (Object o) off = refl

pub pointer-known : (births : List StoryBirth) (base : Base) (off : ℕ) → IsKnownBase births base → AreKnown births (pointer_bytes base off)
unfolding pointer_bytes
pointer-known births Null off known i byte h = data-known births 8 off i byte h
pointer-known births (Object o) off known zero byte h = subst (IsKnownByte births) (let is : Rattle.ir_meaning.specs.Values.Piece o off 0 ≡ byte = cc in is) known
pointer-known births (Object o) off known (suc zero) byte h = subst (IsKnownByte births) (let is : Rattle.ir_meaning.specs.Values.Piece o off 1 ≡ byte = cc in is) known
pointer-known births (Object o) off known (suc (suc zero)) byte h = subst (IsKnownByte births) (let is : Rattle.ir_meaning.specs.Values.Piece o off 2 ≡ byte = cc in is) known
pointer-known births (Object o) off known (suc (suc (suc zero))) byte h = subst (IsKnownByte births) (let is : Rattle.ir_meaning.specs.Values.Piece o off 3 ≡ byte = cc in is) known
pointer-known births (Object o) off known (suc (suc (suc (suc zero)))) byte h = subst (IsKnownByte births) (let is : Rattle.ir_meaning.specs.Values.Piece o off 4 ≡ byte = cc in is) known
pointer-known births (Object o) off known (suc (suc (suc (suc (suc zero))))) byte h = subst (IsKnownByte births) (let is : Rattle.ir_meaning.specs.Values.Piece o off 5 ≡ byte = cc in is) known
pointer-known births (Object o) off known (suc (suc (suc (suc (suc (suc zero)))))) byte h = subst (IsKnownByte births) (let is : Rattle.ir_meaning.specs.Values.Piece o off 6 ≡ byte = cc in is) known
pointer-known births (Object o) off known (suc (suc (suc (suc (suc (suc (suc zero))))))) byte h = subst (IsKnownByte births) (let is : Rattle.ir_meaning.specs.Values.Piece o off 7 ≡ byte = cc in is) known
pointer-known births (Object o) off known (suc (suc (suc (suc (suc (suc (suc (suc i)))))))) byte h = absurd cc

-- ---- writes

-- the source after bytes were written, and the machine after numbers were
abbrev pub told_stored : ToldSeen → Base → (off : ℕ) → List SourceByte → ToldSeen
told_stored t base off bytes = record t { shared = put_told t.shared base off bytes }

abbrev pub numbers_stored : MachineSeen → (number : ℕ) → List ℕ → MachineSeen
numbers_stored m number numbers = with_memory m (with_bytes m.shared.memory (address_of number) numbers)

module _ (setting : MachineSetting) (t : ToldSeen) (m : MachineSeen) (is : IsSetting setting) (like : SeenLike setting t m) where
  pub stored-like : (base : Base) (off align : ℕ) (bytes : List SourceByte) → access_answer t.shared.source.births Write base off (length bytes) align ≡ Fine → AreKnown t.shared.story.births bytes
      → SeenLike setting (told_stored t base off bytes) (numbers_stored m (number_of t.shared.story.births base off) (map (byte_image t.shared.story.births) bytes))
  stored-like base off align bytes fine known =
      record {
        shared = write-kept setting t.shared m.shared is like.shared base off align bytes fine known;
        task = like.task;
        frame = record { func = like.frame.func; sized = like.frame.sized; variables = like.frame.variables; registers = like.frame.registers; chain = like.frame.chain };
        callers = like.callers;
        owned = like.owned;
        finished = like.finished;
        step = like.step;
        there = like.there;
        few = like.few;
        tables = record { rings = like.tables.rings; stacks = like.tables.stacks };
        started = like.started;
      }

  -- a write that the rule finds fine
  pub fine-write : (base : Base) (off align : ℕ) (bytes : List SourceByte) (number : ℕ) (numbers : List ℕ) (next : SourceOutcome) (go : MachineSeen → MachineOutcome) → number ≡ number_of t.shared.story.births base off → numbers ≡ map (byte_image t.shared.story.births) bytes
      → access_answer t.shared.source.births Write base off (length bytes) align ≡ Fine → AreKnown t.shared.story.births bytes
      → (SeenLike setting (told_stored t base off bytes) (numbers_stored m number numbers) → FollowsIn setting t m next (go (numbers_stored m number numbers)))
      → FollowsIn setting t m next (with_write m (own_site t) number numbers go)
  fine-write base off align bytes number numbers next go pointer image fine known follows =
      let count : length numbers ≡ length bytes = ap length image ∙ length-map _ _ in
      let answer = ap (λ n. access_answer t.shared.source.births Write base off n align) count ∙ fine in
      let done = fine-written setting t.shared m.shared is like.shared base off align numbers answer in
      subst (λ (r : Result AddressSpace MemFault). FollowsIn setting t m next (on_memory m (own_site t) (length numbers) number r go))
      (sym (ap (λ a. Rattle.tbi_memory.specs.AddressSpace.written m.shared.memory a numbers) pointer ∙ done ∙ ap (λ a. Ok (with_bytes m.shared.memory (address_of a) numbers)) (sym pointer)))
      (follows (subst (λ a. SeenLike setting (told_stored t base off bytes) (numbers_stored m a numbers)) (sym pointer)
      (subst (λ ns. SeenLike setting (told_stored t base off bytes) (numbers_stored m (number_of t.shared.story.births base off) ns)) (sym image)
      (stored-like base off align bytes fine known))))

  -- a write to a constant
  pub constant-write : (base : Base) (off align count number : ℕ) (numbers : List ℕ) (go : MachineSeen → MachineOutcome) → number ≡ number_of t.shared.story.births base off → length numbers ≡ count
      → access_answer t.shared.source.births Write base off count align ≡ WritesConstant
      → FollowsIn setting t m (traps (source_seen t) ReadOnly) (with_write m (own_site t) number numbers go)
  constant-write base off align count number numbers go pointer many constant =
      let answer = ap (λ n. access_answer t.shared.source.births Write base off n align) many ∙ constant in
      let done = constant-written setting t.shared m.shared is like.shared base off align numbers answer in
      subst (λ (r : Result AddressSpace MemFault). FollowsIn setting t m (traps (source_seen t) ReadOnly) (on_memory m (own_site t) (length numbers) number r go))
      (sym (ap (λ a. Rattle.tbi_memory.specs.AddressSpace.written m.shared.memory a numbers) pointer ∙ done))
      (traps-follows setting t m ReadOnly like)

  -- a write of the low bytes of a number
  pub number-write : (base : Base) (off align count n k number : ℕ) (next : SourceOutcome) (go : MachineSeen → MachineOutcome) → number ≡ number_of t.shared.story.births base off → k ≡ n
      → access_answer t.shared.source.births Write base off count align ≡ Fine
      → (SeenLike setting (told_stored t base off (number_bytes count n)) (numbers_stored m number (le_bytes count k)) → FollowsIn setting t m next (go (numbers_stored m number (le_bytes count k))))
      → FollowsIn setting t m next (with_write m (own_site t) number (le_bytes count k) go)
  number-write base off align count n k number next go pointer same fine follows =
      fine-write base off align (number_bytes count n) number (le_bytes count k) next go pointer (ap (le_bytes count) same ∙ sym (data-image t.shared.story.births (le_bytes count n)))
      (ap (λ size. access_answer t.shared.source.births Write base off size align) (length-map _ _ ∙ length-le_bytes count n) ∙ fine)
      (data-known t.shared.story.births count n) follows

  -- what a write overwrites is read first
  pub overwritten-read : (base : Base) (off align count number : ℕ) (next : SourceOutcome) (go : List ℕ → MachineOutcome) → number ≡ number_of t.shared.story.births base off → lies_inside (access_answer t.shared.source.births Write base off count align) ≡ true
      → FollowsIn setting t m next (go (map (byte_image t.shared.story.births) (bytes_at t.shared.source.births base off count)))
      → FollowsIn setting t m next (with_read m (own_site t) Write count number go)
  overwritten-read base off align count number next go pointer lies follows =
      subst (λ (r : Result (List ℕ) MemFault). FollowsIn setting t m next (on_bytes m (own_site t) Write count number r go))
      (sym (ap (λ a. read m.shared.memory a count) pointer ∙ fine-read setting t.shared m.shared is like.shared Read base off count align (λ same. absurd cc) (readable setting t.shared m.shared is like.shared base off count align lies)))
      follows

  -- a write that is asked for first
  pub fine-asked : (base : Base) (off align count number : ℕ) (next : SourceOutcome) (go : MachineOutcome) → number ≡ number_of t.shared.story.births base off → access_answer t.shared.source.births Write base off count align ≡ Fine → FollowsIn setting t m next go → FollowsIn setting t m next (with_writable m (own_site t) count number go)
  fine-asked base off align count number next go pointer fine follows =
      subst (λ (o : Option MemFault). FollowsIn setting t m next (on_writable m (own_site t) count number o go))
      (sym (ap (λ a. write_fault m.shared.memory a count) pointer ∙ fine-writable setting t.shared m.shared is like.shared base off count align fine))
      follows

  pub constant-asked : (base : Base) (off align count number : ℕ) (go : MachineOutcome) → number ≡ number_of t.shared.story.births base off → access_answer t.shared.source.births Write base off count align ≡ WritesConstant → FollowsIn setting t m (traps (source_seen t) ReadOnly) (with_writable m (own_site t) count number go)
  constant-asked base off align count number go pointer constant =
      subst (λ (o : Option MemFault). FollowsIn setting t m (traps (source_seen t) ReadOnly) (on_writable m (own_site t) count number o go))
      (sym (ap (λ a. write_fault m.shared.memory a count) pointer ∙ constant-refused setting t.shared m.shared is like.shared base off count align constant))
      (traps-follows setting t m ReadOnly like)
