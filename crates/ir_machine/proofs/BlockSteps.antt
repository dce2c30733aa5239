-- The steps on heap blocks: births, deaths and moves, by the next word that a run draws.
use Rattle.std.proofs.Common.{◌≡◌, ℕ, zero, suc, ◌+◌, ◌==◌, Bool, true, false, List, [], ◌∷◌, length, refl, ap, sym, ◌∙◌, subst, Option, Some, None, Result, Ok, Err, arith}
use Rattle.std.specs.Prelude.{if◌then◌else◌, is_ok}
use Rattle.hw_base.specs.declared.accesses.Access.TheVariants.{Free, Read, Write}
use Rattle.hw_base.specs.declared.endings.Full.{Full}
use Rattle.hw_base.specs.declared.pointers.Site.{Site}
use Rattle.hw_base.specs.TaggedAddress.{address_of, pointer_tag}
use Rattle.hw_tags.specs.Words.{coming}
use Rattle.hw_tags.specs.declared.words.Words.{Words}
use Rattle.tbi_memory.specs.AddressSpace.{AddressSpace, moved, read, written}
use Rattle.tbi_memory.specs.MappedBytes.{Range, after_byte, byte_at, read_bytes}
use Rattle.tbi_memory.specs.declared.mem_fault.MemFault.{MemFault}
use Rattle.tbi_memory.specs.declared.mem_fault.MemFault.TheVariants.{Unmapped}
use Rattle.tag_alloc.specs.declared.blocks.Block.{Block}
use Rattle.tag_alloc.specs.declared.blocks.FreeMismatch.{FreeMismatch}
use Rattle.tag_alloc.specs.HeapBlocks.{HeapState, block_at, free_mismatch, freed_block, mismatch_with}
use Rattle.tag_alloc.specs.HeapSteps.{AfterBirth, after_death, allocated}
use Rattle.tag_alloc.specs.HeapView.{ok_unless}
use Rattle.tag_alloc.proofs.StayingBlocks.{freed_block-allocated}
use Rattle.ir_machine.specs.BlockFunctions.{block_freed, on_birth, with_birth, with_death, with_new_block}
use Rattle.ir_machine.specs.RunStates.{AreNext}
use Rattle.ir_machine.specs.State.{MachineOutcome, MachineSeen, MachineSetting, IsFull}
use Rattle.ir_machine.specs.StepEnds.{ends, on_bytes, on_memory, refused_at, with_memory, with_read, with_write}

-- ---- what a free finds

-- it is refused
pub free-refused : {A : Type 0} (mismatch : Option FreeMismatch) (a : A) (found : FreeMismatch) → ok_unless mismatch a ≡ Err found → mismatch ≡ Some found
free-refused None a found is = absurd cc
free-refused (Some other) a found is = let same : other ≡ found = cc in ap Some same

-- it passes
pub free-passes : {A : Type 0} (mismatch : Option FreeMismatch) (a b : A) → ok_unless mismatch a ≡ Ok b → mismatch ≡ None
free-passes None a b is = refl
free-passes (Some other) a b is = absurd cc

pub free-finds : {A : Type 0} (mismatch : Option FreeMismatch) (a b : A) → ok_unless mismatch a ≡ Ok b → a ≡ b
free-finds None a b is = cc
free-finds (Some other) a b is = absurd cc

-- ---- births

-- the next word of the setting
pub next-word : (setting : MachineSetting) (words : Words) (drawn : ℕ) → AreNext setting words drawn → setting.word drawn ≡ coming words 0
next-word setting words drawn next =
    let more : drawn ≡ drawn + 0 = omega arith in
    ap setting.word more ∙ sym (next 0)

module _ (setting : MachineSetting) (words : Words) (s : MachineSeen) (size chain : ℕ) (go : MachineSeen → ℕ → MachineOutcome) where
  birth-by : (r : Result AfterBirth Full) → AreNext setting words s.shared.drawn
      → allocated s.shared.heap s.shared.memory (coming words 0) size s.shared.births chain ≡ r → with_new_block setting s size chain go ≡ on_birth s go r
  birth-by r next is =
      ap (λ w. on_birth s go (allocated s.shared.heap s.shared.memory w size s.shared.births chain)) (next-word setting words s.shared.drawn next)
      ∙ ap (on_birth s go) is

  -- the step goes on with the block
  pub birth-goes : (after : AfterBirth) → AreNext setting words s.shared.drawn
      → allocated s.shared.heap s.shared.memory (coming words 0) size s.shared.births chain ≡ Ok after
      → with_new_block setting s size chain go ≡ go (with_birth s after) after.number
  birth-goes after next is = birth-by (Ok after) next is

  -- there is no place for it
  pub birth-full : (full : Full) → AreNext setting words s.shared.drawn
      → allocated s.shared.heap s.shared.memory (coming words 0) size s.shared.births chain ≡ Err full
      → with_new_block setting s size chain go ≡ ends s (IsFull full)
  birth-full full next is = birth-by (Err full) next is

-- a block that may be freed may be freed after a birth too
mismatch-found : (number : ℕ) (o p : Option Block) (block : Block) (t : Bool) → (if t then None else o) ≡ Some block → (if t then None else p) ≡ Some block
    → (if t then None else mismatch_with (pointer_tag number) o) ≡ None → (if t then None else mismatch_with (pointer_tag number) p) ≡ None
mismatch-found number o p block true found again passes = refl
mismatch-found number o p block false found again passes =
    subst (λ (q : Option Block). mismatch_with (pointer_tag number) q ≡ None) (found ∙ sym again) passes

pub passes-allocated : (heap : HeapState) (space : AddressSpace) (word size birth born number : ℕ) (after : AfterBirth) (block : Block)
    → allocated heap space word size birth born ≡ Ok after → freed_block heap number ≡ Some block → free_mismatch heap number ≡ None → free_mismatch after.heap number ≡ None
passes-allocated heap space word size birth born number after block is found passes =
    mismatch-found number (block_at heap (address_of number)) (block_at after.heap (address_of number)) block (number == 0) found
    (freed_block-allocated heap space word size birth born number after block is found) passes

-- ---- deaths

pub death-goes : (setting : MachineSetting) (words : Words) (s : MachineSeen) (chain : ℕ) (block : Block) → AreNext setting words s.shared.drawn
    → block_freed setting s chain block ≡ with_death s (after_death s.shared.heap s.shared.memory (coming words 0) s.task chain block)
death-goes setting words s chain block next =
    ap (λ w. with_death s (after_death s.shared.heap s.shared.memory w s.task chain block)) (next-word setting words s.shared.drawn next)

-- ---- moves

-- as many bytes are read as asked for
read-count : (ranges : List Range) (address count : ℕ) (bytes : List ℕ) → read_bytes ranges address count ≡ Ok bytes → length bytes ≡ count
unfolding read_bytes
read-count ranges address zero bytes is = let same : [] ≡ bytes = cc in ap length (sym same)
read-count ranges address (suc count) bytes is = by (byte_at ranges address) (read_bytes ranges (address + 1) count) (read-count ranges (address + 1) count) is
  where
    by : (o : Option ℕ) (r : Result (List ℕ) MemFault) → ((more : List ℕ) → r ≡ Ok more → length more ≡ count)
        → ◌≡◌ {A = Result (List ℕ) MemFault} (elim o [ None ↦ Err (Unmapped address) | Some byte ↦ after_byte byte r ]) (Ok bytes) → length bytes ≡ suc count
    by None r rest got = absurd cc
    by (Some byte) (Ok more) rest got = let same : byte ∷ more ≡ bytes = cc in ap length (sym same) ∙ ap suc (rest more refl)
    by (Some byte) (Err fault) rest got = absurd cc

module _ (s : MachineSeen) (site : Site) (number new n : ℕ) (go : MachineSeen → MachineOutcome) where
  abbrev pub move : MachineOutcome
  move = with_read s site Read n number (λ bytes. with_write s site new bytes go)

  moved-by : (r : Result (List ℕ) MemFault) (w : List ℕ → Result AddressSpace MemFault) (memory : AddressSpace)
      → ◌≡◌ {A = Result AddressSpace MemFault} (elim r [ Err fault ↦ Err fault | Ok bytes ↦ w bytes ]) (Ok memory)
      → on_bytes s site Read n number r (λ bytes. on_memory s site (length bytes) new (w bytes) go) ≡ go (with_memory s memory)
  moved-by (Ok bytes) w memory is = ap (λ (o : Result AddressSpace MemFault). on_memory s site (length bytes) new o go) is
  moved-by (Err fault) w memory is = absurd cc

  -- all bytes are read and written
  pub move-goes : (memory : AddressSpace) → moved s.shared.memory new number n ≡ Ok memory → move ≡ go (with_memory s memory)
  unfolding moved
  move-goes memory is = moved-by (read s.shared.memory number n) (written s.shared.memory new) memory is

  -- they can't be read
  unread-by : (r : Result (List ℕ) MemFault) (w : List ℕ → Result AddressSpace MemFault) (fault : MemFault) → is_ok r ≡ false
      → ◌≡◌ {A = Result AddressSpace MemFault} (elim r [ Err other ↦ Err other | Ok bytes ↦ w bytes ]) (Err fault)
      → on_bytes s site Read n number r (λ bytes. on_memory s site (length bytes) new (w bytes) go) ≡ refused_at s site Read n number fault
  unread-by (Ok bytes) w fault failed is = absurd cc
  unread-by (Err other) w fault failed is = let same : other ≡ fault = cc in ap (refused_at s site Read n number) same

  pub move-unread : (fault : MemFault) → is_ok (read s.shared.memory number n) ≡ false → moved s.shared.memory new number n ≡ Err fault
      → move ≡ refused_at s site Read n number fault
  unfolding moved
  move-unread fault failed is = unread-by (read s.shared.memory number n) (written s.shared.memory new) fault failed is

  -- they can't be written
  unwritten-by : (r : Result (List ℕ) MemFault) (w : List ℕ → Result AddressSpace MemFault) (fault : MemFault) → is_ok r ≡ true
      → ((bytes : List ℕ) → r ≡ Ok bytes → length bytes ≡ n)
      → ◌≡◌ {A = Result AddressSpace MemFault} (elim r [ Err other ↦ Err other | Ok bytes ↦ w bytes ]) (Err fault)
      → on_bytes s site Read n number r (λ bytes. on_memory s site (length bytes) new (w bytes) go) ≡ refused_at s site Write n new fault
  unwritten-by (Ok bytes) w fault yes_ count is =
      ap (λ (o : Result AddressSpace MemFault). on_memory s site (length bytes) new o go) is ∙ ap (λ k. refused_at s site Write k new fault) (count bytes refl)
  unwritten-by (Err other) w fault yes_ count is = absurd cc

  pub move-unwritten : (fault : MemFault) → is_ok (read s.shared.memory number n) ≡ true
      → moved s.shared.memory new number n ≡ Err fault → move ≡ refused_at s site Write n new fault
  unfolding moved
  move-unwritten fault yes_ is =
      unwritten-by (read s.shared.memory number n) (written s.shared.memory new) fault yes_ (read-count s.shared.memory.bytes (address_of number) n) is
