-- What a step leaves of the places of frames, and that the steps that go to the next instruction keep them.
use Rattle.std.proofs.Common.{◌≡◌, ℕ, zero, suc, ◌+◌, Bool, true, false, List, [], ◌∷◌, length, Option, Some, None, refl}
use Rattle.std.specs.Prelude.{if◌then◌else◌, Result, Ok, Err}
use Rattle.hw_base.specs.Bits.{minus_one}
use Rattle.hw_base.specs.declared.accesses.Access.{Access}
use Rattle.hw_base.specs.declared.endings.Full.{Full}
use Rattle.hw_base.specs.declared.endings.Input.{Input}
use Rattle.hw_base.specs.declared.endings.Input.TheVariants.{Byte, End}
use Rattle.hw_base.specs.declared.endings.Trap.{Trap}
use Rattle.hw_base.specs.declared.pointers.Site.{Site}
use Rattle.hw_tags.specs.TaskRuns.{Goes, Stays, Starts, Finishes, Ends, Stuck}
use Rattle.tbi_memory.specs.AddressSpace.{AddressSpace, written}
use Rattle.tbi_memory.specs.declared.mem_fault.MemFault.{MemFault}
use Rattle.tbi_memory.specs.declared.mem_fault.MemFault.TheVariants.{Unmapped, ReadOnly}
use Rattle.tag_alloc.specs.declared.blocks.Block.{Block}
use Rattle.tag_alloc.specs.declared.blocks.FreeMismatch.{FreeMismatch}
use Rattle.tag_alloc.specs.HeapSteps.{AfterBirth}
use Rattle.ir_core.specs.declared.ir_module.Module.{Module}
use Rattle.ir_tasks.specs.Frames.{Frame}
use Rattle.ir_tasks.specs.Frames as frames
use Rattle.ir_machine.specs.State.{MachineSetting, MachineSeen, MachineOutcome}
use Rattle.ir_machine.specs.ReachableWorlds.{IsAtInstruction, AreCallers, AreFrames}
use Rattle.ir_machine.specs.StepEnds.{advanced, with_number, with_result, with_memory, gives_pair, gives_to, prints, on_bytes, on_memory, on_writable}
use Rattle.ir_machine.specs.ArithmeticSteps.{gives_or_traps}
use Rattle.ir_machine.specs.BlockFunctions.{with_birth, on_birth, freed_if}
use Rattle.ir_machine.specs.CheckSteps.{on_free}
use Rattle.ir_machine.specs.MemorySteps.{exchange}
use Rattle.ir_machine.specs.TaskFunctions.{joined}
use Rattle.ir_machine.specs.TextFunctions.{on_string, on_input, with_taken, with_end_met}

-- task 0 finishes only with the run
abbrev pub IsLater : ℕ → Type 0
IsLater zero = ⊥
IsLater (suc task) = Unit {0}

-- the frames are at their places after a step of a task, and the step isn't stuck
abbrev pub KeepsPlaces : Module → (task : ℕ) → MachineOutcome → Type 0
KeepsPlaces m task (Goes s report) = AreFrames m (s.frame ∷ s.callers)
KeepsPlaces m task Stays = Unit {0}
KeepsPlaces m task (Starts s report frame) = AreFrames m (s.frame ∷ s.callers) × IsAtInstruction m frame
KeepsPlaces m task (Finishes shared report) = IsLater task
KeepsPlaces m task (Ends shared frames report ending) = Unit {0}
KeepsPlaces m task Stuck = ⊥

-- the frame that runs is before another instruction
abbrev pub MayGoOn : Module → MachineSeen → Type 0
MayGoOn m s =
    ((next : Frame) → next.func ≡ s.frame.func → next.place ≡ s.frame.place + 1 → IsAtInstruction m next) × AreCallers m s.callers

module _ (m : Module) (task : ℕ) where
  pub goes-kept : (s : MachineSeen) (bytes : List ℕ) → MayGoOn m s → KeepsPlaces m task (Goes (advanced s) bytes)
  goes-kept s bytes h = (h.0 (frames.advanced s.frame) refl refl, h.1)

  pub result-may : (s : MachineSeen) (to : Option ℕ) (n : ℕ) → MayGoOn m s → MayGoOn m (with_result s to n)
  result-may s None n h = h
  result-may s (Some to) n h = h

  pub gives_to-kept : (s : MachineSeen) (to : Option ℕ) (n : ℕ) → MayGoOn m s → KeepsPlaces m task (gives_to s to n)
  gives_to-kept s to n h = goes-kept (with_result s to n) [] (result-may s to n h)

  pub prints-kept : (s : MachineSeen) (to : Option ℕ) (n : ℕ) (bytes : List ℕ) → MayGoOn m s → KeepsPlaces m task (prints s to n bytes)
  prints-kept s to n bytes h = goes-kept (with_result s to n) bytes (result-may s to n h)

  pub if-kept : (t : Bool) (a b : MachineOutcome) → KeepsPlaces m task a → KeepsPlaces m task b → KeepsPlaces m task (if t then a else b)
  if-kept true a b h k = h
  if-kept false a b h k = k

  -- ---- accesses to memory

  pub bytes-kept : (s : MachineSeen) (site : Site) (access : Access) (size number : ℕ) (r : Result (List ℕ) MemFault) (go : List ℕ → MachineOutcome) → ((bytes : List ℕ) → KeepsPlaces m task (go bytes)) → KeepsPlaces m task (on_bytes s site access size number r go)
  bytes-kept s site access size number (Ok bytes) go h = h bytes
  bytes-kept s site access size number (Err (Unmapped address)) go h = tt
  bytes-kept s site access size number (Err ReadOnly) go h = tt

  pub writable-kept : (s : MachineSeen) (site : Site) (size number : ℕ) (o : Option MemFault) (go : MachineOutcome) → KeepsPlaces m task go → KeepsPlaces m task (on_writable s site size number o go)
  writable-kept s site size number None go h = h
  writable-kept s site size number (Some (Unmapped address)) go h = tt
  writable-kept s site size number (Some ReadOnly) go h = tt

  pub memory-kept : (s : MachineSeen) (site : Site) (size number : ℕ) (r : Result AddressSpace MemFault) (go : MachineSeen → MachineOutcome) → ((memory : AddressSpace) → KeepsPlaces m task (go (with_memory s memory))) → KeepsPlaces m task (on_memory s site size number r go)
  memory-kept s site size number (Ok memory) go h = h memory
  memory-kept s site size number (Err (Unmapped address)) go h = tt
  memory-kept s site size number (Err ReadOnly) go h = tt

  -- ---- by what a step meets

  pub arithmetic-kept : (s : MachineSeen) (site : Site) (to : ℕ) (r : Result ℕ Trap) → MayGoOn m s → KeepsPlaces m task (gives_or_traps s site to r)
  arithmetic-kept s site to (Ok n) h = goes-kept (with_number s to n) [] h
  arithmetic-kept s site to (Err trap) h = tt

  pub exchange-kept : (s : MachineSeen) (site : Site) (at to : ℕ) (bytes : List ℕ) (old : ℕ) (t : Bool) → MayGoOn m s → KeepsPlaces m task (exchange s site at to bytes old t)
  exchange-kept s site at to bytes old true h =
      memory-kept s site (length bytes) at (written s.shared.memory at bytes) (λ (s' : MachineSeen). gives_pair s' to old true)
      (λ (memory : AddressSpace). (h.0 _ refl refl, h.1))
  exchange-kept s site at to bytes old false h = (h.0 _ refl refl, h.1)

  pub birth-kept : (s : MachineSeen) (go : MachineSeen → ℕ → MachineOutcome) (r : Result AfterBirth Full) → ((born : AfterBirth) → KeepsPlaces m task (go (with_birth s born) born.number)) → KeepsPlaces m task (on_birth s go r)
  birth-kept s go (Ok born) h = h born
  birth-kept s go (Err full) h = tt

  pub free-kept : (s : MachineSeen) (site : Site) (number : ℕ) (go : MachineOutcome) (o : Option FreeMismatch) → KeepsPlaces m task go → KeepsPlaces m task (on_free s site number go o)
  free-kept s site number go None h = h
  free-kept s site number go (Some found) h = tt

  pub freed-kept : (setting : MachineSetting) (s : MachineSeen) (site : Site) (o : Option Block) → MayGoOn m s → KeepsPlaces m task (freed_if setting s site o)
  freed-kept setting s site None h = goes-kept s [] h
  freed-kept setting s site (Some block) h = (h.0 _ refl refl, h.1)

  pub string-kept : (s : MachineSeen) (site : Site) (start : ℕ) (go : List ℕ → MachineOutcome) (r : Result (List ℕ) MemFault) → ((bytes : List ℕ) → KeepsPlaces m task (go bytes)) → KeepsPlaces m task (on_string s site start go r)
  string-kept s site start go (Ok bytes) h = h bytes
  string-kept s site start go (Err (Unmapped address)) h = tt
  string-kept s site start go (Err ReadOnly) h = tt

  pub input-kept : (s : MachineSeen) (to : Option ℕ) (given : Input) → MayGoOn m s → KeepsPlaces m task (on_input s to given)
  input-kept s to (Byte byte) h = gives_to-kept (with_taken s) to byte h
  input-kept s to End h = gives_to-kept (with_end_met s) to minus_one h

  pub joined-kept : (s : MachineSeen) (to : Option ℕ) (o : Option Bool) → MayGoOn m s → KeepsPlaces m task (joined s to o)
  joined-kept s to None h = gives_to-kept s to 3 h
  joined-kept s to (Some false) h = tt
  joined-kept s to (Some true) h = gives_to-kept s to 0 h
