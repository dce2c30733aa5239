-- The start of a run of a module.
use Rattle.std.proofs.Common.{◌≡◌, ℕ, ◌+◌, ◌<◌, true, false, List, [], ◌∷◌, length, get_or, refl, ap, ◌∙◌, Some, Ok, Err, arith}
use Rattle.std.specs.Prelude.{slice_get, ◌==◌}
use Rattle.std.proofs.lemmas.Bool.Decides.{nat_tests}
use Rattle.std.proofs.lemmas.Option.{slice_get-get_or}
use Rattle.hw_base.specs.declared.endings.Full.{Full}
use Rattle.hw_tags.specs.TaskRuns.{Next, Last}
use Rattle.hw_tags.specs.declared.options.Options.{Options}
use Rattle.ir_core.specs.declared.ir_module.Module.{Module}
use Rattle.global_tags.specs.GlobalBytes.{with_globals}
use Rattle.global_tags.specs.GlobalPlaces.{descriptors_of, global_words, layout_of}
use Rattle.global_tags.specs.declared.descriptor.Descriptor.{Descriptor}
use Rattle.hw_base.specs.AddressMap.{program_map}
use Rattle.hw_tags.specs.Word.{word}
use Rattle.tbi_memory.specs.AddressSpace.{AddressSpace, space_at_start}
use Rattle.tbi_memory.specs.declared.layout.Layout.{Layout}
use Rattle.ir_core.specs.declared.ir_module.GlobalVar.{GlobalVar}
use Rattle.mi_code.specs.declared.code_functions.CodeFunction.{CodeFunction}
use Rattle.ir_tasks.specs.CallStacks.{fresh_frame}
use Rattle.ir_tasks.specs.Frames.{at_place}
use Rattle.stack_tags.specs.Frames.{StacksState, stacks_at_start, with_task}
use Rattle.tag_alloc.specs.HeapBlocks.{HeapState}
use Rattle.tag_alloc.specs.HeapBlocks as blocks
use Rattle.ir_machine.specs.CallSteps.{code_at, entry_of, no_code, with_arguments}
use Rattle.ir_machine.specs.MachineStates.{MachineState, world_of, IsSettingOf}
use Rattle.ir_machine.specs.RunStates.{loaded_module, shared_of}
use Rattle.ir_machine.specs.Start.{first_world, global_births, machine_start, main_entered, main_started, shared_at_start}
use Rattle.ir_machine.specs.State.{MachineSetting, MachineShared, IsFull}

-- all globals are one birth, which draws one word
one-each : (globals : List GlobalVar) → global_words globals ≡ global_births globals
one-each [] = refl
one-each (global ∷ globals) = refl

some-function : (code : List CodeFunction) (func : ℕ) → func < length code → (f : CodeFunction) × (slice_get code func ≡ Some f)
some-function code func h = (get_or code func no_code, slice_get-get_or code func no_code h)

-- what all tasks share before `main` is entered
at-start : (setting : MachineSetting) (program : Module) (code : List CodeFunction) (options : Options) → IsSettingOf setting program code options
    → shared_at_start setting ≡ loaded_module program options
at-start setting program code options is = rw (is.program_is, is.places_are, is.ring_is, is.words_are 0) refl

module _ (setting : MachineSetting) (program : Module) (code : List CodeFunction) (options : Options) (is : IsSettingOf setting program code options) (main : program.main < length code) where
  here : machine_start setting ≡ main_entered setting (entry_of setting 0 program.main 0 (loaded_module program options))
  unfolding machine_start
  here =
      let (f, found) = some-function code program.main main in
      let main_is : setting.program.main ≡ program.main = ap (λ (m : Module). m.main) is.program_is in
      let there : slice_get setting.code setting.program.main ≡ Some f = rw (is.code_is, main_is) found in
      ap (main_started setting) there
      ∙ (ap (λ (n : ℕ). main_entered setting (entry_of setting 0 n 0 (shared_at_start setting))) main_is
      ∙ ap (λ (shared : MachineShared). main_entered setting (entry_of setting 0 program.main 0 shared)) (at-start setting program code options is))

  -- `main` is entered
  pub started : (place : ℕ) (m : MachineState) → entry_of setting 0 program.main 0 (loaded_module program options) ≡ Ok (record { shared = m.run.seen.shared; place = place })
      → m.run.seen.frame ≡ at_place (fresh_frame program.main (code_at code program.main).registers 0 0) place → m.run.seen.callers ≡ [] → m.steps ≡ 0
      → machine_start setting ≡ Next (world_of m) []
  unfolding with_arguments
  started place m entry frame callers steps =
      here ∙ (ap (main_entered setting) entry ∙ rw (is.program_is, is.code_is, frame, callers, steps) refl)

  -- there is no room for its variables
  pub full-start : (full : Full) → entry_of setting 0 program.main 0 (loaded_module program options) ≡ Err full
      → machine_start setting ≡ Last (first_world (shared_at_start setting) []) [] (IsFull full)
  full-start full entry = here ∙ ap (main_entered setting) entry

-- ---- what is shared when the globals are in memory

pub births-none : (globals : List GlobalVar) → (length globals == 0) ≡ true → 0 ≡ global_births globals
births-none [] e = refl
births-none (global ∷ globals) e = absurd (grind (arith, nat_tests))

pub births-one : (globals : List GlobalVar) → (length globals == 0) ≡ false → 1 ≡ global_births globals
births-one [] e = absurd cc
births-one (global ∷ globals) e = refl

pub heap-start : (length ring : ℕ) → record { from = 536870912; end = 536870912 + length; living = []; living_size = 0; freed = []; ring = ring } ≡ blocks.heap_at_start (program_map length) ring
unfolding program_map
heap-start length ring = refl

pub loaded-shared : (m : Module) (options : Options) (births drawn w : ℕ) (heap : HeapState) (frames : StacksState) (memory before : AddressSpace) (found : List Descriptor) (layout : Layout)
    → w ≡ word options.tags 0 → found ≡ descriptors_of (program_map options.heap) m.layouts m.globals w → memory ≡ with_globals found before found m.globals
    → before ≡ space_at_start (program_map layout.heap) layout → layout.heap ≡ options.heap → layout ≡ layout_of (program_map options.heap) m.layouts m.globals
    → heap ≡ blocks.with_task (blocks.heap_at_start (program_map options.heap) options.ring)
    → frames ≡ with_task (stacks_at_start (program_map options.heap) options.ring) → births ≡ global_births m.globals → drawn ≡ births
    → shared_of memory found heap frames births drawn [] ≡ loaded_module m options
loaded-shared m options births drawn w heap frames memory before found layout first is_found is_memory is_before same_heap is_layout is_heap is_frames is_births is_drawn =
    let space : before ≡ space_at_start (program_map options.heap) (layout_of (program_map options.heap) m.layouts m.globals) =
    is_before ∙ (ap (λ n. space_at_start (program_map n) layout) same_heap ∙ ap (space_at_start (program_map options.heap)) is_layout) in
    let globals : found ≡ descriptors_of (program_map options.heap) m.layouts m.globals (word options.tags 0) = is_found ∙ ap (descriptors_of (program_map options.heap) m.layouts m.globals) first in
    rw (is_drawn, is_births, is_memory, space, globals, is_heap, is_frames, one-each m.globals) refl
