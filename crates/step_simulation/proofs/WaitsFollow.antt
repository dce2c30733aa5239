-- The machine follows joins and mutexes, after their checks, and the functions on input and output that read no string.
use Rattle.std.proofs.Common.{◌≡◌, ℕ, ◌+◌, ◌*◌, ◌^◌, ◌==◌, Bool, true, false, if◌then◌else◌, List, length, map, slice_get, Option, Some, None, option_map, refl, sym, ap, subst, arith}
use Rattle.hw_base.specs.Bytes.{le_bytes, le_number}
use Rattle.hw_base.specs.declared.accesses.Access.TheVariants.{Write}
use Rattle.hw_base.specs.declared.endings.Input.{Input}
use Rattle.hw_base.specs.declared.endings.Input.TheVariants.{Byte, End}
use Rattle.hw_base.specs.declared.endings.Trap.TheVariants.{ReadOnly}
use Rattle.hw_base.specs.declared.numbers.TheConstants.{MUTEX_SIZE}
use Rattle.hw_base.specs.declared.pointers.Base.{Base}
use Rattle.hw_base.specs.Bits.{minus_one}
use Rattle.hw_tags.specs.InputState.{InputState}
use Rattle.ir_core.specs.declared.ir_module.Function.{Function}
use Rattle.ir_machine.specs.State.{MachineSetting, MachineSeen, MachineOutcome}
use Rattle.ir_machine.specs.StepEnds.{gives_to}
use Rattle.ir_machine.specs.TaskFunctions as machine
use Rattle.ir_machine.specs.TextFunctions as text
use Rattle.ir_meaning.specs.AccessRule.{Fine, WritesConstant, access_answer}
use Rattle.ir_meaning.specs.Births.{bytes_at}
use Rattle.ir_meaning.specs.Encoding.{number_bytes, data_numbers, number_of_width, int_from}
use Rattle.ir_meaning.specs.State.{SourceOutcome}
use Rattle.ir_meaning.specs.StepEnds.{gives, traps, on_integer}
use Rattle.ir_meaning.specs.TaskFunctions as source
use Rattle.ir_meaning.specs.TextFunctions as source_text
use Rattle.ir_meaning.specs.Values.{Integer}
use Rattle.mi_code.specs.MachineOperands.{call_result}
use Rattle.tag_story.specs.Story.{number_of, byte_image}
use Rattle.tag_story.specs.Telling.{all_told}
use Rattle.tag_story.specs.ToldRun.{ToldSeen, ToldShared, source_seen}
use Rattle.step_simulation.proofs.LibraryParts.{shared-like, gives_to-follows}
use Rattle.step_simulation.proofs.LoadFollows.{data-images}
use Rattle.step_simulation.proofs.PlainSteps.{FollowsIn, IsBeforeNext, own_site}
use Rattle.step_simulation.proofs.PointerBytes.{numbers-below}
use Rattle.step_simulation.proofs.PointerLoads.{bytes-known, fine-length}
use Rattle.simulation.proofs.WriteAllowed.{readable}
use Rattle.step_simulation.proofs.WritesFollow.{told_stored, numbers_stored, constant-asked, fine-asked, number-write, overwritten-read}
use Rattle.simulation.specs.Checks.{lies_inside}
use Rattle.simulation.specs.Relation.{IsSetting, SharedRelated, SeenLike}
use Rattle.ir_machine.specs.State.{MachineShared}

-- ---- what all tasks share with another input

-- both sides with what was taken of the input
abbrev with_input_told : ToldShared → InputState → ToldShared
with_input_told t input = record t { source = record t.source { input = input } }

abbrev with_input_machine : MachineShared → InputState → MachineShared
with_input_machine m input = record m { input = input }

input-related : (setting : MachineSetting) (t : ToldShared) (m : MachineShared) (input : InputState) → SharedRelated setting t m → SharedRelated setting (with_input_told t input) (with_input_machine m input)
input-related setting t m input related =
    record {
      laid = related.laid;
      told = related.told;
      their_bytes = related.their_bytes;
      known = related.known;
      table = related.table;
      tags = related.tags;
      bytes = related.bytes;
      mapped = related.mapped;
      ends = related.ends;
      constants_at = related.constants_at;
      constants_end = related.constants_end;
      descriptors = related.descriptors;
      constants = related.constants;
      globals = related.globals;
      heap = related.heap;
      freed = related.freed;
      stacks = related.stacks;
      opened = related.opened;
      births = related.births;
      drawn = related.drawn;
      input = refl;
    }

module _ (setting : MachineSetting) (t : ToldSeen) (m : MachineSeen) (f : Function) (is : IsSetting setting) (like : SeenLike setting t m) (before : IsBeforeNext setting t m f) (result : Option ℕ) where
  given-number : (n : ℕ) → FollowsIn setting t m (gives (source_seen t) result (Integer n)) (gives_to m (call_result result) n)
  given-number n = gives_to-follows setting t m f like before result (Integer n) n tt tt refl

  -- ---- input

  input-like : (input : InputState) → SeenLike setting (record t { shared = with_input_told t.shared input }) (record m { shared = with_input_machine m.shared input })
  input-like input =
      shared-like setting t m (with_input_told t.shared input) (with_input_machine m.shared input) like (input-related setting t.shared m.shared input like.shared) (λ o x h. h) (λ number chain h. h) refl (record { rings = like.tables.rings; stacks = like.tables.stacks }) like.started

  input-given : (input : InputState) (n : ℕ) → FollowsIn setting t m (gives (source_text.with_input (source_seen t) input) result (Integer n)) (gives_to (record m { shared = with_input_machine m.shared input }) (call_result result) n)
  unfolding all_told
  input-given input n = gives_to-follows setting (record t { shared = with_input_told t.shared input }) (record m { shared = with_input_machine m.shared input }) f (input-like input) before result (Integer n) n tt tt refl

  pub getchar-follows : (given : Input) → FollowsIn setting t m (source_text.getchar_step given (source_seen t) result) (text.getchar_step m (call_result result) given)
  unfolding source_text.getchar_step text.getchar_step
  getchar-follows given =
      subst (λ (input : InputState). FollowsIn setting t m (source_text.taken_if t.shared.source.input.at_end (source_seen t) result given) (if input.at_end then gives_to m (call_result result) minus_one else text.on_input (record m { shared = with_input_machine m.shared input }) (call_result result) given)) (sym like.shared.input)
      (by_end t.shared.source.input.at_end)
    where
      by_given : (input : Input) → FollowsIn setting t m (source_text.taken (source_seen t) result input) (text.on_input (record m { shared = with_input_machine m.shared t.shared.source.input }) (call_result result) input)
      by_given (Byte byte) = input-given (record t.shared.source.input { taken = t.shared.source.input.taken + 1 }) byte
      by_given End = input-given (record t.shared.source.input { at_end = true }) minus_one

      by_end : (bit : Bool) → FollowsIn setting t m (source_text.taken_if bit (source_seen t) result given) (if bit then gives_to m (call_result result) minus_one else text.on_input (record m { shared = with_input_machine m.shared t.shared.source.input }) (call_result result) given)
      by_end true = given-number minus_one
      by_end false = by_given given

  -- ---- joins

  pub joined-follows : (n : ℕ) → FollowsIn setting t m (source.joined (source_seen t) result (slice_get t.finished n)) (machine.join_step m (call_result result) n)
  unfolding machine.join_step
  joined-follows n =
      subst (λ flags. FollowsIn setting t m (source.joined (source_seen t) result (slice_get t.finished n)) (machine.joined m (call_result result) (slice_get flags n))) (sym like.finished)
      (by_flag (slice_get t.finished n))
    where
      by_flag : (o : Option Bool) → FollowsIn setting t m (source.joined (source_seen t) result o) (machine.joined m (call_result result) o)
      by_flag None = given-number 3
      by_flag (Some false) = refl
      by_flag (Some true) = given-number 0

  -- ---- mutexes

  module _ (base : Base) (off number : ℕ) (pointer : number ≡ number_of t.shared.story.births base off) where
    word-stored : (word : ℕ) → access_answer t.shared.source.births Write base off MUTEX_SIZE MUTEX_SIZE ≡ Fine → FollowsIn setting t m (gives (source.word_stored (source_seen t) base off word) result (Integer 0)) (machine.word_written m (own_site t) (call_result result) number word)
    unfolding all_told
    word-stored word fine =
        number-write setting t m is like base off MUTEX_SIZE MUTEX_SIZE word word number (gives (source.word_stored (source_seen t) base off word) result (Integer 0)) (λ after. gives_to after (call_result result) 0) pointer refl fine (λ after.
        gives_to-follows setting (told_stored t base off (number_bytes MUTEX_SIZE word)) (numbers_stored m number (le_bytes MUTEX_SIZE word)) f after before result (Integer 0) 0 tt tt refl)

    word-traps : (word : ℕ) → access_answer t.shared.source.births Write base off MUTEX_SIZE MUTEX_SIZE ≡ WritesConstant → FollowsIn setting t m (traps (source_seen t) ReadOnly) (machine.word_written m (own_site t) (call_result result) number word)
    word-traps word constant =
        Rattle.step_simulation.proofs.WritesFollow.constant-write setting t m is like base off MUTEX_SIZE MUTEX_SIZE number (le_bytes MUTEX_SIZE word) (λ after. gives_to after (call_result result) 0) pointer (Rattle.hw_base.proofs.ByteLaws.length-le_bytes MUTEX_SIZE word) constant

    pub init-follows : access_answer t.shared.source.births Write base off MUTEX_SIZE MUTEX_SIZE ≡ Fine → FollowsIn setting t m (gives (source.word_stored (source_seen t) base off 0) result (Integer 0)) (machine.mutex_init_step m (own_site t) (call_result result) number)
    unfolding machine.mutex_init_step
    init-follows fine = word-stored 0 fine

    pub init-traps : access_answer t.shared.source.births Write base off MUTEX_SIZE MUTEX_SIZE ≡ WritesConstant → FollowsIn setting t m (traps (source_seen t) ReadOnly) (machine.mutex_init_step m (own_site t) (call_result result) number)
    unfolding machine.mutex_init_step
    init-traps constant = word-traps 0 constant

    -- on with the word of a mutex
    word-follows : access_answer t.shared.source.births Write base off MUTEX_SIZE MUTEX_SIZE ≡ Fine → (go : ℕ → SourceOutcome) (r : ℕ → MachineOutcome) → ((word : ℕ) → FollowsIn setting t m (go word) (r word))
        → FollowsIn setting t m (on_integer (source_seen t) (int_from (8 * MUTEX_SIZE) (bytes_at t.shared.source.births base off MUTEX_SIZE)) go) (machine.with_word m (own_site t) number r)
    unfolding on_integer int_from all_told
    word-follows fine go r follows =
        fine-asked setting t m is like base off MUTEX_SIZE MUTEX_SIZE number _ _ pointer fine
        (overwritten-read setting t m is like base off MUTEX_SIZE MUTEX_SIZE number _ (λ bytes. r (le_number bytes)) pointer (ap lies_inside fine)
        (by_numbers (data_numbers (bytes_at t.shared.source.births base off MUTEX_SIZE)) refl))
      where
        -- the word that the machine reads has no more bits than the source's
        whole : (ns : List ℕ) → data_numbers (bytes_at t.shared.source.births base off MUTEX_SIZE) ≡ Some ns → le_number (map (byte_image t.shared.story.births) (bytes_at t.shared.source.births base off MUTEX_SIZE)) ≡ number_of_width (8 * MUTEX_SIZE) ns
        whole ns here =
            let same = ap le_number (data-images t.shared.story.births (bytes_at t.shared.source.births base off MUTEX_SIZE) ns here) in
            let below = numbers-below t.shared.story.births (bytes_at t.shared.source.births base off MUTEX_SIZE) ns (bytes-known setting t.shared m.shared like.shared base off MUTEX_SIZE) here in
            let read = readable setting t.shared m.shared is like.shared base off MUTEX_SIZE MUTEX_SIZE (ap lies_inside fine) in
            let count = fine-length setting t.shared m.shared like.shared base off 3 MUTEX_SIZE read in
            let power : 256 ^ length (bytes_at t.shared.source.births base off MUTEX_SIZE) ≡ 2 ^ 32 = ap (λ n. 256 ^ n) count in
            omega (arith, same, below, power)

        by_numbers : (o : Option (List ℕ)) → data_numbers (bytes_at t.shared.source.births base off MUTEX_SIZE) ≡ o
            → FollowsIn setting t m (on_integer (source_seen t) (option_map (number_of_width (8 * MUTEX_SIZE)) o) go) (r (le_number (map (byte_image t.shared.story.births) (bytes_at t.shared.source.births base off MUTEX_SIZE))))
        by_numbers None here = tt
        by_numbers (Some ns) here =
            subst (λ n. FollowsIn setting t m (go (number_of_width (8 * MUTEX_SIZE) ns)) (r n))
            (sym (whole ns here))
            (follows (number_of_width (8 * MUTEX_SIZE) ns))

    pub lock-follows : access_answer t.shared.source.births Write base off MUTEX_SIZE MUTEX_SIZE ≡ Fine
        → FollowsIn setting t m (on_integer (source_seen t) (int_from (8 * MUTEX_SIZE) (bytes_at t.shared.source.births base off MUTEX_SIZE)) (λ word. if word == 0 then gives (source.word_stored (source_seen t) base off (t.task + 1)) result (Integer 0) else Rattle.hw_tags.specs.TaskRuns.Stays)) (machine.mutex_lock_step m (own_site t) (call_result result) number)
    unfolding machine.mutex_lock_step
    lock-follows fine =
        subst (λ task. FollowsIn setting t m (on_integer (source_seen t) (int_from (8 * MUTEX_SIZE) (bytes_at t.shared.source.births base off MUTEX_SIZE)) (λ word. if word == 0 then gives (source.word_stored (source_seen t) base off (t.task + 1)) result (Integer 0) else Rattle.hw_tags.specs.TaskRuns.Stays)) (machine.with_word m (own_site t) number (λ word. if word == 0 then machine.word_written m (own_site t) (call_result result) number (task + 1) else Rattle.hw_tags.specs.TaskRuns.Stays))) (sym like.task)
        (word-follows fine _ (λ word. if word == 0 then machine.word_written m (own_site t) (call_result result) number (t.task + 1) else Rattle.hw_tags.specs.TaskRuns.Stays) (λ word. by_free (word == 0)))
      where
        by_free : (free : Bool) → FollowsIn setting t m (if free then gives (source.word_stored (source_seen t) base off (t.task + 1)) result (Integer 0) else Rattle.hw_tags.specs.TaskRuns.Stays) (if free then machine.word_written m (own_site t) (call_result result) number (t.task + 1) else Rattle.hw_tags.specs.TaskRuns.Stays)
        by_free true = word-stored (t.task + 1) fine
        by_free false = refl

    pub lock-traps : access_answer t.shared.source.births Write base off MUTEX_SIZE MUTEX_SIZE ≡ WritesConstant → FollowsIn setting t m (traps (source_seen t) ReadOnly) (machine.mutex_lock_step m (own_site t) (call_result result) number)
    unfolding machine.mutex_lock_step
    lock-traps constant = constant-asked setting t m is like base off MUTEX_SIZE MUTEX_SIZE number _ pointer constant

    pub unlock-follows : access_answer t.shared.source.births Write base off MUTEX_SIZE MUTEX_SIZE ≡ Fine
        → FollowsIn setting t m (on_integer (source_seen t) (int_from (8 * MUTEX_SIZE) (bytes_at t.shared.source.births base off MUTEX_SIZE)) (λ word. if word == t.task + 1 then gives (source.word_stored (source_seen t) base off 0) result (Integer 0) else gives (source_seen t) result (Integer 1))) (machine.mutex_unlock_step m (own_site t) (call_result result) number)
    unfolding machine.mutex_unlock_step
    unlock-follows fine =
        subst (λ task. FollowsIn setting t m (on_integer (source_seen t) (int_from (8 * MUTEX_SIZE) (bytes_at t.shared.source.births base off MUTEX_SIZE)) (λ word. if word == t.task + 1 then gives (source.word_stored (source_seen t) base off 0) result (Integer 0) else gives (source_seen t) result (Integer 1))) (machine.with_word m (own_site t) number (λ word. if word == task + 1 then machine.word_written m (own_site t) (call_result result) number 0 else gives_to m (call_result result) 1))) (sym like.task)
        (word-follows fine _ (λ word. if word == t.task + 1 then machine.word_written m (own_site t) (call_result result) number 0 else gives_to m (call_result result) 1) (λ word. by_own (word == t.task + 1)))
      where
        by_own : (own : Bool) → FollowsIn setting t m (if own then gives (source.word_stored (source_seen t) base off 0) result (Integer 0) else gives (source_seen t) result (Integer 1)) (if own then machine.word_written m (own_site t) (call_result result) number 0 else gives_to m (call_result result) 1)
        by_own true = word-stored 0 fine
        by_own false = given-number 1

    pub unlock-traps : access_answer t.shared.source.births Write base off MUTEX_SIZE MUTEX_SIZE ≡ WritesConstant → FollowsIn setting t m (traps (source_seen t) ReadOnly) (machine.mutex_unlock_step m (own_site t) (call_result result) number)
    unfolding machine.mutex_unlock_step
    unlock-traps constant = constant-asked setting t m is like base off MUTEX_SIZE MUTEX_SIZE number _ pointer constant
