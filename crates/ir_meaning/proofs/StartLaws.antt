-- The births at the start of a run.
use Rattle.std.proofs.Common.{◌≡◌, ℕ, zero, suc, List, [], ◌∷◌, length, map, replicate, slice_get, Option, Some, None, refl, ◌∙◌, subst}
use Rattle.std.proofs.lemmas.List.{length-replicate}
use Rattle.hw_tags.specs.TaskRuns.{Next}
use Rattle.ir_core.specs.declared.ir_module.Function.{Function}
use Rattle.ir_core.specs.declared.ir_module.GlobalVar.{GlobalVar}
use Rattle.ir_core.specs.declared.ir_module.Module.{Module}
use Rattle.ir_core.specs.declared.operands.Part.{Part}
use Rattle.ir_core.specs.NumberTypes.{alloc_size}
use Rattle.ir_meaning.specs.Values.{SourceByte, Data}
use Rattle.ir_meaning.specs.Births.{SourceObject, get_object, written_from}
use Rattle.ir_meaning.specs.BirthChanges.{HasItsBytes, HaveTheirBytes}
use Rattle.ir_meaning.specs.CallSteps.{entry_of}
use Rattle.ir_meaning.specs.Start.{part_bytes, with_parts, global_object, global_births, world_with_main, start_with, source_start}
use Rattle.ir_meaning.specs.State.{SourceReport, SourceWorld}
use Rattle.ir_meaning.proofs.BirthChangeLaws.{length-written_from, change-has_bytes}
use Rattle.ir_meaning.proofs.StepChanges.{entry_of-changes}

length-with_parts : (bytes : List SourceByte) (parts : List Part) → length (with_parts bytes parts) ≡ length bytes
unfolding with_parts
length-with_parts bytes [] = refl
length-with_parts bytes (part ∷ parts) =
    length-with_parts (written_from bytes part.at (part_bytes part.size part.value)) parts
    ∙ length-written_from bytes part.at (part_bytes part.size part.value)

global-has : (program : Module) (g : GlobalVar) → HasItsBytes (global_object program g)
global-has program g = length-with_parts (replicate (alloc_size program g.ty) (Data 0)) g.init ∙ length-replicate (alloc_size program g.ty) (Data 0)

globals-have : (program : Module) (globals : List GlobalVar) (k : ℕ) (x : SourceObject) → slice_get (map (global_object program) globals) k ≡ Some x → HasItsBytes x
globals-have program [] k x e = absurd cc
globals-have program (g ∷ globals) zero x e = let is : global_object program g ≡ x = cc in subst HasItsBytes is (global-has program g)
globals-have program (g ∷ globals) (suc k) x e = globals-have program globals k x e

global_births-have : (program : Module) (globals : List GlobalVar) → HaveTheirBytes (global_births program globals)
global_births-have program [] o x e = absurd cc
global_births-have program (g ∷ globals) o x e = by_number o.birth e
  where
    by_number : (n : ℕ) → get_object (global_births program (g ∷ globals)) (record o { birth = n }) ≡ Some x → HasItsBytes x
    by_number zero h = globals-have program (g ∷ globals) o.index x h
    by_number (suc n) h = absurd cc

pub source_start-has : (program : Module) (w : SourceWorld) (report : SourceReport) → source_start program ≡ Next w report → HaveTheirBytes w.shared.births
unfolding source_start
source_start-has program w report e = by_main (slice_get program.functions program.main) e
  where
    by_main : (f : Option Function) → start_with program f ≡ Next w report → HaveTheirBytes w.shared.births
    by_main None h = absurd cc
    by_main (Some f) h =
        let entered = entry_of (global_births program program.globals) program.main 0 [] f.allocas in
        let is : world_with_main program f entered ≡ w = cc in
        subst (λ (v : SourceWorld). HaveTheirBytes v.shared.births) is
        (change-has_bytes (global_births program program.globals) entered.births entered.news
        (entry_of-changes (global_births program program.globals) program.main 0 [] f.allocas)
        (global_births-have program program.globals))
