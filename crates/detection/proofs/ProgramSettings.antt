-- A module that can be run has a setting: its globals end before the stacks of the program's map, and the heap after them.
use Rattle.std.proofs.Common.{◌≡◌, ℕ, ◌+◌, ◌≤◌, Bool, true, false, if◌then◌else◌, List, [], ◌∷◌, refl, arith}
use Rattle.std.specs.Prelude.{sum_by}
use Rattle.std.proofs.lemmas.List.Sums.{sum_by-cons}
use Rattle.global_tags.specs.GlobalPlaces.{global_size, constants_size, variables_at, variables_size}
use Rattle.hw_base.specs.AddressMap.{program_map, rounded_size}
use Rattle.hw_base.specs.declared.numbers.TheConstants.{GLOBALS_AT, STACKS_AT}
use Rattle.hw_tags.specs.Options.{IsHeapSize}
use Rattle.ir_core.specs.Runnable.{IsRunnable}
use Rattle.ir_core.specs.declared.ir_module.GlobalVar.{GlobalVar}
use Rattle.ir_core.specs.declared.ir_module.Module.{Module}
use Rattle.ir_core.specs.declared.types.TypeLayout.{TypeLayout}
use Rattle.ir_machine.specs.State.{MachineSetting}
use Rattle.tag_story.specs.StoryFacts.{globals_end}
use Rattle.detection.specs.Detection.{program_setting}
use Rattle.simulation.specs.Relation.{IsSetting, story_setting}

-- constants and variables together take what all globals take
parts-sum : (c n : ℕ) (bit : Bool) → (if bit then c else 0) + (if bit then 0 else c) + n ≡ c + n
parts-sum c n true = omega arith
parts-sum c n false = omega arith

both-sizes : (layouts : List TypeLayout) (globals : List GlobalVar) → constants_size layouts globals + variables_size layouts globals ≡ sum_by (λ (g : GlobalVar). rounded_size (global_size layouts g)) globals
unfolding constants_size variables_size
both-sizes layouts [] = refl
both-sizes layouts (g ∷ globals) =
    let constants = sum_by-cons (λ (x : GlobalVar). if x.constant then rounded_size (global_size layouts x) else 0) g globals in
    let variables = sum_by-cons (λ (x : GlobalVar). if x.constant then 0 else rounded_size (global_size layouts x)) g globals in
    let all = sum_by-cons (λ (x : GlobalVar). rounded_size (global_size layouts x)) g globals in
    let rest = both-sizes layouts globals in
    let first = parts-sum (rounded_size (global_size layouts g)) 0 g.constant in
    omega (arith, constants, variables, all, rest, first)

module _ (program : Module) (heap ring : ℕ) (word : ℕ → ℕ) (input : List ℕ) (runnable : IsRunnable program) (sized : IsHeapSize heap) where
  abbrev own : MachineSetting
  own = program_setting program heap ring word input

  globals-before : globals_end (story_setting own) ≤ STACKS_AT
  unfolding program_map
  globals-before =
      let room = runnable.room in
      let sizes = both-sizes program.layouts program.globals in
      let start : variables_at own.places program.layouts program.globals ≤ GLOBALS_AT + constants_size program.layouts program.globals + 4095 = omega arith in
      omega (arith, room, sizes, start)

  pub program-setting : IsSetting own
  unfolding program_map
  program-setting =
      let most = sized.at_most in
      let whole = sized.granules in
      record {
        runnable = runnable;
        code = refl;
        room = record {
          globals_aligned = refl;
          stacks_aligned = refl;
          stack_aligned = refl;
          heap_aligned = refl;
          globals_below = globals-before;
          stacks_below = omega arith;
          heap_below = omega (arith, most);
        };
        below = omega (arith, most);
        whole = whole;
        frames = refl;
        tasks = refl;
      }
