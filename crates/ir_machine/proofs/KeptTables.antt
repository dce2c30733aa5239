-- What a step leaves of the tables of a run, and that the steps that go to the next instruction keep them together.
use Rattle.std.proofs.Common.{◌≡◌, ℕ, suc, ◌≤◌, Bool, true, false, List, [], ◌∷◌, length, Option, Some, None, refl, ◌∙◌, subst, arith}
use Rattle.std.proofs.lemmas.List.{length-append, length-set}
use Rattle.std.specs.Prelude.{if◌then◌else◌, slice_get, ◌==◌, Result, Ok, Err}
use Rattle.hw_base.specs.Bits.{minus_one}
use Rattle.hw_base.specs.declared.accesses.Access.{Access}
use Rattle.hw_base.specs.declared.endings.Full.{Full}
use Rattle.hw_base.specs.declared.endings.Input.{Input}
use Rattle.hw_base.specs.declared.endings.Input.TheVariants.{Byte, End}
use Rattle.hw_base.specs.declared.endings.Trap.{Trap}
use Rattle.hw_base.specs.declared.pointers.Site.{Site}
use Rattle.hw_tags.specs.TaskRuns.{Goes, Stays, Starts, Finishes, Ends, Stuck}
use Rattle.tbi_memory.specs.AddressSpace.{AddressSpace, written}
use Rattle.tbi_memory.specs.declared.mem_fault.MemFault.{MemFault}
use Rattle.tbi_memory.specs.declared.mem_fault.MemFault.TheVariants.{Unmapped, ReadOnly}
use Rattle.tag_alloc.specs.declared.blocks.Block.{Block}
use Rattle.tag_alloc.specs.declared.blocks.FreeMismatch.{FreeMismatch}
use Rattle.tag_alloc.specs.HeapBlocks.{HeapState, place_of_new, heap_full, block_at, freed_block}
use Rattle.tag_alloc.proofs.HeapBlockLemmas.{with_block-stays}
use Rattle.tag_alloc.proofs.LivingSizeLemmas.{table-allocated, table-after_death}
use Rattle.hw_base.specs.TaggedAddress.{address_of}
use Rattle.std.specs.List.{find}
use Rattle.tag_alloc.specs.HeapSteps.{AfterBirth, new_block, after_birth, allocated, after_death}
use Rattle.dbg_sites.specs.ChainTable.{ChainEntry, entry_from, numbered, pushed}
use Rattle.dbg_sites.proofs.ChainLemmas.{pushed-within, pushed-table}
use Rattle.ir_tasks.specs.Frames.{Frame}
use Rattle.ir_machine.specs.State.{MachineSetting, MachineSeen, MachineOutcome}
use Rattle.ir_machine.specs.ReachableWorlds.{FitTogether, AreNumbered}
use Rattle.ir_machine.specs.StepEnds.{advanced, chain_at, chain_known, with_number, with_result, with_memory, gives_pair, gives_to, prints, on_bytes, on_memory, on_writable}
use Rattle.ir_machine.specs.ArithmeticSteps.{gives_or_traps}
use Rattle.ir_machine.specs.BlockFunctions.{block_freed, with_birth, on_birth, freed_if}
use Rattle.ir_machine.specs.CheckSteps.{on_free}
use Rattle.ir_machine.specs.MemorySteps.{exchange}
use Rattle.ir_machine.specs.TaskFunctions.{joined}
use Rattle.ir_machine.specs.TextFunctions.{on_string, on_input, with_taken, with_end_met}

-- the tables fit together in what a step sees, there are as many chains at least, and the table has those of the frames
abbrev pub IsTogether : (tasks least : ℕ) → MachineSeen → Type 0
IsTogether tasks least s =
    FitTogether s.shared.heap s.shared.stacks s.shared.chains tasks × (least ≤ length s.shared.chains)
    × AreNumbered s.shared.chains (s.frame ∷ s.callers)

-- and so they do after a step
abbrev pub KeepsTables : (tasks least : ℕ) → MachineOutcome → Type 0
KeepsTables tasks least (Goes s report) = IsTogether tasks least s
KeepsTables tasks least Stays = Unit {0}
KeepsTables tasks least (Starts s report frame) = IsTogether (suc tasks) least s × (frame.chain ≤ length s.shared.chains)
KeepsTables tasks least (Finishes shared report) = FitTogether shared.heap shared.stacks shared.chains tasks × (least ≤ length shared.chains)
KeepsTables tasks least (Ends shared frames report ending) = Unit {0}
KeepsTables tasks least Stuck = Unit {0}

-- ---- chains

pub numbered-grows : (chains more : List ChainEntry) (frames : List Frame) → length chains ≤ length more → AreNumbered chains frames → AreNumbered more frames
numbered-grows chains more [] grown h = tt
numbered-grows chains more (frame ∷ frames) grown h = (let first = h.0 in omega (arith, first, grown), numbered-grows chains more frames grown h.1)

numbered-more : (table : List ChainEntry) (site : Site) (rest : ℕ) (o : Option ℕ) → length table ≤ length (numbered table site rest o).table
numbered-more table site rest (Some place) = omega arith
numbered-more table site rest None = let both = length-append table (record { site = site; rest = rest } ∷ []) in omega (arith, both)

pub pushed-grows : (table : List ChainEntry) (rest : ℕ) (site : Site) → length table ≤ length (pushed table rest site).table
unfolding pushed
pushed-grows table rest site = numbered-more table site rest (entry_from table site rest 0)

-- ---- blocks

-- a block is in the table of living blocks
abbrev pub IsLiving : HeapState → Block → Type 0
IsLiving heap block = (i : ℕ) × (slice_get heap.living i ≡ Some block)

find-in : {A : Type 0} (p : A → Bool) (x y : A) (ys : List A) (t : Bool) → (if t then Some y else find p ys) ≡ Some x → ((i : ℕ) × (slice_get ys i ≡ Some x) → (i : ℕ) × (slice_get (y ∷ ys) i ≡ Some x)) → (find p ys ≡ Some x → (i : ℕ) × (slice_get ys i ≡ Some x)) → (i : ℕ) × (slice_get (y ∷ ys) i ≡ Some x)
find-in p x y ys true h later rest = (0, h)
find-in p x y ys false h later rest = later (rest h)

find-get : {A : Type 0} (p : A → Bool) (xs : List A) (x : A) → find p xs ≡ Some x → (i : ℕ) × (slice_get xs i ≡ Some x)
find-get p [] x h = absurd (cc)
find-get p (y ∷ ys) x h = find-in p x y ys (p y) h (λ found. (suc found.0, found.1)) (find-get p ys x)

freed-if : (t : Bool) (o : Option Block) (block : Block) → (if t then None else o) ≡ Some block → o ≡ Some block
freed-if true o block h = absurd (cc)
freed-if false o block h = h

-- the block that a free ends is living
pub freed-living : (heap : HeapState) (number : ℕ) (block : Block) → freed_block heap number ≡ Some block → IsLiving heap block
freed-living heap number block h =
    find-get (λ (b : Block). b.at == address_of number) heap.living block (freed-if (number == 0) (block_at heap (address_of number)) block h)

born_on : Option ℕ → HeapState → AddressSpace → (word size birth born : ℕ) → Result AfterBirth Full
born_on o heap space word size birth born = elim o [ None ↦ Err (heap_full heap size) | Some place ↦ Ok (after_birth heap space (new_block word place size birth born)) ]

-- after a birth there are as many rings, and the living blocks still live
pub record AfterBirthHas (heap : HeapState) (after : AfterBirth) : Type 0 where
  pub rings : length after.heap.freed ≡ length heap.freed
  pub living : (block : Block) → IsLiving heap block → IsLiving after.heap block

born-born_on : (o : Option ℕ) (heap : HeapState) (space : AddressSpace) (word size birth born : ℕ) (after : AfterBirth) → born_on o heap space word size birth born ≡ Ok after → AfterBirthHas heap after
unfolding born_on after_birth
born-born_on None heap space word size birth born after h = absurd (cc)
born-born_on (Some place) heap space word size birth born after h =
    let new = new_block word place size birth born in
    let same : after_birth heap space new ≡ after = cc in
    subst (AfterBirthHas heap) same
    (record { rings = refl; living = λ (block : Block) (there : IsLiving heap block). with_block-stays new block heap.living there.0 there.1 })

born-allocated : (heap : HeapState) (space : AddressSpace) (word size birth born : ℕ) (after : AfterBirth) → allocated heap space word size birth born ≡ Ok after → AfterBirthHas heap after
unfolding allocated born_on
born-allocated heap space word size birth born after h = born-born_on (place_of_new heap size) heap space word size birth born after h

rings-death : (heap : HeapState) (space : AddressSpace) (word task died : ℕ) (block : Block) → length (after_death heap space word task died block).heap.freed ≡ length heap.freed
unfolding after_death
rings-death heap space word task died block = length-set heap.freed task _

module _ (tasks least : ℕ) where
  pub goes-kept : (s : MachineSeen) (bytes : List ℕ) → IsTogether tasks least s → KeepsTables tasks least (Goes (advanced s) bytes)
  goes-kept s bytes h = h

  pub result-may : (s : MachineSeen) (to : Option ℕ) (n : ℕ) → IsTogether tasks least s → IsTogether tasks least (with_result s to n)
  result-may s None n h = h
  result-may s (Some to) n h = h

  pub gives_to-kept : (s : MachineSeen) (to : Option ℕ) (n : ℕ) → IsTogether tasks least s → KeepsTables tasks least (gives_to s to n)
  gives_to-kept s to n h = goes-kept (with_result s to n) [] (result-may s to n h)

  pub prints-kept : (s : MachineSeen) (to : Option ℕ) (n : ℕ) (bytes : List ℕ) → IsTogether tasks least s → KeepsTables tasks least (prints s to n bytes)
  prints-kept s to n bytes h = goes-kept (with_result s to n) bytes (result-may s to n h)

  pub if-kept : (t : Bool) (a b : MachineOutcome) → KeepsTables tasks least a → KeepsTables tasks least b → KeepsTables tasks least (if t then a else b)
  if-kept true a b h k = h
  if-kept false a b h k = k

  -- ---- accesses to memory

  pub bytes-kept : (s : MachineSeen) (site : Site) (access : Access) (size number : ℕ) (r : Result (List ℕ) MemFault) (go : List ℕ → MachineOutcome) → ((bytes : List ℕ) → KeepsTables tasks least (go bytes)) → KeepsTables tasks least (on_bytes s site access size number r go)
  bytes-kept s site access size number (Ok bytes) go h = h bytes
  bytes-kept s site access size number (Err (Unmapped address)) go h = tt
  bytes-kept s site access size number (Err ReadOnly) go h = tt

  pub writable-kept : (s : MachineSeen) (site : Site) (size number : ℕ) (o : Option MemFault) (go : MachineOutcome) → KeepsTables tasks least go → KeepsTables tasks least (on_writable s site size number o go)
  writable-kept s site size number None go h = h
  writable-kept s site size number (Some (Unmapped address)) go h = tt
  writable-kept s site size number (Some ReadOnly) go h = tt

  pub memory-kept : (s : MachineSeen) (site : Site) (size number : ℕ) (r : Result AddressSpace MemFault) (go : MachineSeen → MachineOutcome) → ((memory : AddressSpace) → KeepsTables tasks least (go (with_memory s memory))) → KeepsTables tasks least (on_memory s site size number r go)
  memory-kept s site size number (Ok memory) go h = h memory
  memory-kept s site size number (Err (Unmapped address)) go h = tt
  memory-kept s site size number (Err ReadOnly) go h = tt

  -- ---- by what a step meets

  pub arithmetic-kept : (s : MachineSeen) (site : Site) (to : ℕ) (r : Result ℕ Trap) → IsTogether tasks least s → KeepsTables tasks least (gives_or_traps s site to r)
  arithmetic-kept s site to (Ok n) h = goes-kept (with_number s to n) [] h
  arithmetic-kept s site to (Err trap) h = tt

  pub exchange-kept : (s : MachineSeen) (site : Site) (at to : ℕ) (bytes : List ℕ) (old : ℕ) (t : Bool) → IsTogether tasks least s → KeepsTables tasks least (exchange s site at to bytes old t)
  exchange-kept s site at to bytes old true h =
      memory-kept s site (length bytes) at (written s.shared.memory at bytes) (λ (s' : MachineSeen). gives_pair s' to old true)
      (λ (memory : AddressSpace). h)
  exchange-kept s site at to bytes old false h = h

  pub birth-kept : (s : MachineSeen) (go : MachineSeen → ℕ → MachineOutcome) (word size birth chain : ℕ) → ((born : AfterBirth) → AfterBirthHas s.shared.heap born → IsTogether tasks least (with_birth s born) → KeepsTables tasks least (go (with_birth s born) born.number)) → IsTogether tasks least s → KeepsTables tasks least (on_birth s go (allocated s.shared.heap s.shared.memory word size birth chain))
  birth-kept s go word size birth chain h together = by_result (allocated s.shared.heap s.shared.memory word size birth chain) refl
    where
      by_result : (r : Result AfterBirth Full) → allocated s.shared.heap s.shared.memory word size birth chain ≡ r → KeepsTables tasks least (on_birth s go r)
      by_result (Err full) e = tt
      by_result (Ok born) e =
          let has = born-allocated s.shared.heap s.shared.memory word size birth chain born e in
          let fit = together.0 in
          h born has (record { rings = has.rings ∙ fit.rings; blocks = table-allocated s.shared.heap s.shared.memory word size birth chain born fit.blocks e; stacks_of = fit.stacks_of; follow = fit.follow; table = fit.table }, together.1, together.2)

  -- the chain of a site is in the table
  pub known-kept : (s : MachineSeen) (site : Site) → IsTogether tasks least s → IsTogether tasks least (chain_known s site)
  known-kept s site h =
      let fit = h.0 in
      let low = h.1 in
      let grown = pushed-grows s.shared.chains s.frame.chain site in (
        record { rings = fit.rings; blocks = fit.blocks; stacks_of = fit.stacks_of; follow = fit.follow; table = pushed-table s.shared.chains s.frame.chain site fit.table h.2.0 },
        omega (arith, low, grown),
        numbered-grows s.shared.chains (pushed s.shared.chains s.frame.chain site).table (s.frame ∷ s.callers) grown h.2,
      )

  pub chain-within : (s : MachineSeen) (site : Site) → chain_at s site ≤ length (chain_known s site).shared.chains
  chain-within s site = pushed-within s.shared.chains s.frame.chain site

  -- a block is freed
  pub death-kept : (setting : MachineSetting) (s : MachineSeen) (chain : ℕ) (block : Block) → IsLiving s.shared.heap block → IsTogether tasks least s → IsTogether tasks least (block_freed setting s chain block)
  death-kept setting s chain block living h =
      let fit = h.0 in (
        record {
          rings = rings-death s.shared.heap s.shared.memory (setting.word s.shared.drawn) s.task chain block ∙ fit.rings;
          blocks = table-after_death s.shared.heap s.shared.memory (setting.word s.shared.drawn) s.task chain living.0 block fit.blocks living.1;
          stacks_of = fit.stacks_of;
          follow = fit.follow;
          table = fit.table;
        },
        h.1,
        h.2,
      )

  pub free-kept : (s : MachineSeen) (site : Site) (number : ℕ) (go : MachineOutcome) (o : Option FreeMismatch) → KeepsTables tasks least go → KeepsTables tasks least (on_free s site number go o)
  free-kept s site number go None h = h
  free-kept s site number go (Some found) h = tt

  pub freed-kept : (setting : MachineSetting) (s : MachineSeen) (site : Site) (o : Option Block) → ((block : Block) → o ≡ Some block → IsLiving s.shared.heap block) → IsTogether tasks least s → KeepsTables tasks least (freed_if setting s site o)
  freed-kept setting s site None living h = goes-kept s [] h
  freed-kept setting s site (Some block) living h = death-kept setting (chain_known s site) (chain_at s site) block (living block refl) (known-kept s site h)

  pub string-kept : (s : MachineSeen) (site : Site) (start : ℕ) (go : List ℕ → MachineOutcome) (r : Result (List ℕ) MemFault) → ((bytes : List ℕ) → KeepsTables tasks least (go bytes)) → KeepsTables tasks least (on_string s site start go r)
  string-kept s site start go (Ok bytes) h = h bytes
  string-kept s site start go (Err (Unmapped address)) h = tt
  string-kept s site start go (Err ReadOnly) h = tt

  pub input-kept : (s : MachineSeen) (to : Option ℕ) (given : Input) → IsTogether tasks least s → KeepsTables tasks least (on_input s to given)
  input-kept s to (Byte byte) h = gives_to-kept (with_taken s) to byte h
  input-kept s to End h = gives_to-kept (with_end_met s) to minus_one h

  pub joined-kept : (s : MachineSeen) (to : Option ℕ) (o : Option Bool) → IsTogether tasks least s → KeepsTables tasks least (joined s to o)
  joined-kept s to None h = gives_to-kept s to 3 h
  joined-kept s to (Some false) h = tt
  joined-kept s to (Some true) h = gives_to-kept s to 0 h
