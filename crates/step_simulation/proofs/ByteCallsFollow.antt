-- The machine follows the functions on runs of bytes, after their checks: copies, fills and comparisons.
use Rattle.std.proofs.Common.{◌≡◌, ℕ, zero, suc, ◌%◌, ◌<◌, List, ◌∷◌, length, map, replicate, Option, Some, None, Result, refl, sym, ◌∙◌, ap, subst, arith}
use Rattle.std.proofs.lemmas.List.{length-map, length-replicate}
use Rattle.hw_base.specs.Bytes.{byte_order, order_bits}
use Rattle.hw_base.specs.declared.accesses.Access.TheVariants.{Read, Write}
use Rattle.hw_base.specs.declared.endings.Trap.TheVariants.{ReadOnly}
use Rattle.hw_base.specs.declared.pointers.Base.{Base}
use Rattle.hw_base.specs.declared.pointers.Base.TheVariants.{Null, Object}
use Rattle.ir_core.specs.declared.ir_module.Function.{Function}
use Rattle.ir_machine.specs.ByteFunctions as machine
use Rattle.ir_machine.specs.State.{MachineSetting, MachineSeen, MachineOutcome}
use Rattle.ir_machine.specs.StepEnds.{on_bytes, with_read, on_memory, with_write, gives_to}
use Rattle.ir_meaning.specs.AccessRule.{Fine, WritesConstant, access_answer}
use Rattle.ir_meaning.specs.Births.{bytes_at}
use Rattle.ir_meaning.specs.ByteFunctions.{gives_order}
use Rattle.ir_meaning.specs.Encoding.{data_numbers}
use Rattle.ir_meaning.specs.State.{SourceOutcome}
use Rattle.ir_meaning.specs.StepEnds.{gives, traps, stored}
use Rattle.ir_meaning.specs.Values.{Integer, Address, SourceByte, Data}
use Rattle.mi_code.specs.MachineOperands.{call_result}
use Rattle.tag_story.specs.Story.{StoryBirth, number_of, byte_image}
use Rattle.tag_story.specs.Telling.{all_told}
use Rattle.tag_story.specs.ToldRun.{ToldSeen, source_seen}
use Rattle.tbi_memory.specs.AddressSpace.{read, written}
use Rattle.tbi_memory.specs.declared.mem_fault.MemFault.{MemFault}
use Rattle.step_simulation.proofs.LibraryParts.{gives_to-follows}
use Rattle.step_simulation.proofs.LoadFollows.{data-images}
use Rattle.step_simulation.proofs.PlainSteps.{FollowsIn, IsBeforeNext, own_site}
use Rattle.step_simulation.proofs.PointerLoads.{bytes-known, fine-length}
use Rattle.simulation.proofs.ReadImages.{fine-read}
use Rattle.step_simulation.proofs.WritesFollow.{told_stored, numbers_stored, fine-write, constant-write}
use Rattle.simulation.specs.Parts.{IsKnownBase, IsKnownByte}
use Rattle.simulation.specs.Relation.{IsSetting, SeenLike}
use Rattle.simulation.specs.Writes.{AreKnown}

-- ---- one byte many times

repeated-image : (births : List StoryBirth) (n b : ℕ) → map (byte_image births) (replicate n (Data b)) ≡ replicate n b
repeated-image births zero b = refl
repeated-image births (suc n) b = ap (λ xs. b ∷ xs) (repeated-image births n b)

repeated-known : (births : List StoryBirth) (n b : ℕ) → b < 256 → AreKnown births (replicate n (Data b))
repeated-known births zero b small i byte h = absurd cc
repeated-known births (suc n) b small zero byte h = let is : Data b ≡ byte = cc in subst (IsKnownByte births) is small
repeated-known births (suc n) b small (suc i) byte h = repeated-known births n b small i byte h

module _ (setting : MachineSetting) (t : ToldSeen) (m : MachineSeen) (f : Function) (is : IsSetting setting) (like : SeenLike setting t m) (before : IsBeforeNext setting t m f) (result : Option ℕ) where
  -- the bytes of a fine read
  pub fine-bytes : (base : Base) (off count number : ℕ) (next : SourceOutcome) (go : List ℕ → MachineOutcome) → number ≡ number_of t.shared.story.births base off → access_answer t.shared.source.births Read base off count 1 ≡ Fine
      → FollowsIn setting t m next (go (map (byte_image t.shared.story.births) (bytes_at t.shared.source.births base off count)))
      → FollowsIn setting t m next (with_read m (own_site t) Read count number go)
  fine-bytes base off count number next go pointer fine follows =
      subst (λ (r : Result (List ℕ) MemFault). FollowsIn setting t m next (on_bytes m (own_site t) Read count number r go))
      (sym (ap (λ a. read m.shared.memory a count) pointer ∙ fine-read setting t.shared m.shared is like.shared Read base off count 1 (λ same. absurd cc) fine))
      follows

  count-is : (base : Base) (off count : ℕ) → access_answer t.shared.source.births Read base off count 1 ≡ Fine → length (bytes_at t.shared.source.births base off count) ≡ count
  count-is base off zero fine = none base
    where
      none : (b : Base) → length (bytes_at t.shared.source.births b off 0) ≡ 0
      none Null = refl
      none (Object o) = refl
  count-is base off (suc n) fine = fine-length setting t.shared m.shared like.shared base off n 1 fine

  abbrev images : Base → (off count : ℕ) → List ℕ
  images base off count = map (byte_image t.shared.story.births) (bytes_at t.shared.source.births base off count)

  pub copy-follows : (to : Base) (to_off : ℕ) (from : Base) (from_off count target start : ℕ) → target ≡ number_of t.shared.story.births to to_off → start ≡ number_of t.shared.story.births from from_off → IsKnownBase t.shared.story.births to
      → access_answer t.shared.source.births Read from from_off count 1 ≡ Fine → access_answer t.shared.source.births Write to to_off count 1 ≡ Fine
      → FollowsIn setting t m (gives (stored (source_seen t) to to_off (bytes_at t.shared.source.births from from_off count)) result (Address to to_off)) (machine.copy_step m (own_site t) (call_result result) target start count)
  unfolding machine.copy_step all_told
  copy-follows to to_off from from_off count target start pointer other known readable writable =
      let bytes = bytes_at t.shared.source.births from from_off count in
      fine-bytes from from_off count start (gives (stored (source_seen t) to to_off bytes) result (Address to to_off)) (λ numbers. with_write m (own_site t) target numbers (λ after. gives_to after (call_result result) target)) other readable
      (fine-write setting t m is like to to_off 1 bytes target (images from from_off count) (gives (stored (source_seen t) to to_off bytes) result (Address to to_off)) (λ after. gives_to after (call_result result) target) pointer refl
      (ap (λ n. access_answer t.shared.source.births Write to to_off n 1) (count-is from from_off count readable) ∙ writable)
      (bytes-known setting t.shared m.shared like.shared from from_off count) (λ after.
      gives_to-follows setting (told_stored t to to_off bytes) (numbers_stored m target (images from from_off count)) f after before result (Address to to_off) target known tt pointer))

  pub copy-traps : (to : Base) (to_off : ℕ) (from : Base) (from_off count target start : ℕ) → target ≡ number_of t.shared.story.births to to_off → start ≡ number_of t.shared.story.births from from_off
      → access_answer t.shared.source.births Read from from_off count 1 ≡ Fine → access_answer t.shared.source.births Write to to_off count 1 ≡ WritesConstant
      → FollowsIn setting t m (traps (source_seen t) ReadOnly) (machine.copy_step m (own_site t) (call_result result) target start count)
  unfolding machine.copy_step
  copy-traps to to_off from from_off count target start pointer other readable constant =
      fine-bytes from from_off count start (traps (source_seen t) ReadOnly) (λ numbers. with_write m (own_site t) target numbers (λ after. gives_to after (call_result result) target)) other readable
      (constant-write setting t m is like to to_off 1 count target (images from from_off count) (λ after. gives_to after (call_result result) target) pointer
      (length-map _ _ ∙ count-is from from_off count readable) constant)

  pub set-follows : (to : Base) (to_off count byte target : ℕ) → target ≡ number_of t.shared.story.births to to_off → IsKnownBase t.shared.story.births to → access_answer t.shared.source.births Write to to_off count 1 ≡ Fine
      → FollowsIn setting t m (gives (stored (source_seen t) to to_off (replicate count (Data (byte % 256)))) result (Address to to_off)) (machine.set_step m (own_site t) (call_result result) target byte count)
  unfolding machine.set_step all_told
  set-follows to to_off count byte target pointer known writable =
      let bytes = replicate count (Data (byte % 256)) in
      let numbers = replicate count (byte % 256) in
      subst (λ n. FollowsIn setting t m (gives (stored (source_seen t) to to_off bytes) result (Address to to_off)) (on_memory m (own_site t) n target (written m.shared.memory target numbers) (λ after. gives_to after (call_result result) target))) (length-replicate {A = ℕ} count (byte % 256))
      (fine-write setting t m is like to to_off 1 bytes target numbers (gives (stored (source_seen t) to to_off bytes) result (Address to to_off)) (λ after. gives_to after (call_result result) target) pointer
      (sym (repeated-image t.shared.story.births count (byte % 256)))
      (ap (λ n. access_answer t.shared.source.births Write to to_off n 1) (length-replicate {A = SourceByte} count (Data (byte % 256))) ∙ writable)
      (repeated-known t.shared.story.births count (byte % 256) (let small : byte % 256 < 256 = omega arith in small)) (λ after.
      gives_to-follows setting (told_stored t to to_off bytes) (numbers_stored m target numbers) f after before result (Address to to_off) target known tt pointer))

  pub set-traps : (to : Base) (to_off count byte target : ℕ) → target ≡ number_of t.shared.story.births to to_off → access_answer t.shared.source.births Write to to_off count 1 ≡ WritesConstant
      → FollowsIn setting t m (traps (source_seen t) ReadOnly) (machine.set_step m (own_site t) (call_result result) target byte count)
  unfolding machine.set_step
  set-traps to to_off count byte target pointer constant =
      let numbers = replicate count (byte % 256) in
      subst (λ n. FollowsIn setting t m (traps (source_seen t) ReadOnly) (on_memory m (own_site t) n target (written m.shared.memory target numbers) (λ after. gives_to after (call_result result) target))) (length-replicate {A = ℕ} count (byte % 256))
      (constant-write setting t m is like to to_off 1 count target numbers (λ after. gives_to after (call_result result) target) pointer (length-replicate {A = ℕ} count (byte % 256)) constant)

  pub memcmp-follows : (a : Base) (a_off : ℕ) (b : Base) (b_off count first second : ℕ) → first ≡ number_of t.shared.story.births a a_off → second ≡ number_of t.shared.story.births b b_off
      → access_answer t.shared.source.births Read a a_off count 1 ≡ Fine → access_answer t.shared.source.births Read b b_off count 1 ≡ Fine
      → FollowsIn setting t m (gives_order (source_seen t) result (data_numbers (bytes_at t.shared.source.births a a_off count)) (data_numbers (bytes_at t.shared.source.births b b_off count))) (machine.memcmp_step m (own_site t) (call_result result) first second count)
  unfolding machine.memcmp_step all_told
  memcmp-follows a a_off b b_off count first second pointer other readable also =
      fine-bytes a a_off count first _ (λ xs. with_read m (own_site t) Read count second (λ ys. gives_to m (call_result result) (order_bits (byte_order xs ys)))) pointer readable
      (fine-bytes b b_off count second _ (λ ys. gives_to m (call_result result) (order_bits (byte_order (images a a_off count) ys))) other also
      (by_numbers (data_numbers (bytes_at t.shared.source.births a a_off count)) refl (data_numbers (bytes_at t.shared.source.births b b_off count)) refl))
    where
      by_numbers : (o : Option (List ℕ)) → data_numbers (bytes_at t.shared.source.births a a_off count) ≡ o → (p : Option (List ℕ)) → data_numbers (bytes_at t.shared.source.births b b_off count) ≡ p
          → FollowsIn setting t m (gives_order (source_seen t) result o p) (gives_to m (call_result result) (order_bits (byte_order (images a a_off count) (images b b_off count))))
      by_numbers None here p there = tt
      by_numbers (Some xs) here None there = tt
      by_numbers (Some xs) here (Some ys) there =
          gives_to-follows setting t m f like before result (Integer (order_bits (byte_order xs ys))) (order_bits (byte_order (images a a_off count) (images b b_off count))) tt tt
          (ap (λ ns. order_bits (byte_order ns (images b b_off count))) (data-images t.shared.story.births (bytes_at t.shared.source.births a a_off count) xs here)
          ∙ ap (λ ns. order_bits (byte_order xs ns)) (data-images t.shared.story.births (bytes_at t.shared.source.births b b_off count) ys there))
