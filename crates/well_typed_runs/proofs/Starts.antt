-- The start of a run of an accepted module is as it should be.
use Rattle.std.proofs.Common.{◌≡◌, ◌⊎◌, inl, inr, ℕ, zero, suc, ◌<◌, List, [], ◌∷◌, length, map, replicate, slice_get, slice_index, Option, Some, true, refl, sym, ◌∙◌, subst, arith, ◌^◌, ◌+◌, min, ap}
use Rattle.std.proofs.lemmas.List.{length-replicate}
use Rattle.std.specs.List.{All}
use Rattle.hw_base.specs.declared.pointers.Base.TheVariants.{Null as NullBase, Object}
use Rattle.hw_base.specs.declared.pointers.Obj.{Obj}
use Rattle.ir_core.specs.declared.ir_module.Function.{Function}
use Rattle.ir_core.specs.declared.ir_module.GlobalVar.{GlobalVar}
use Rattle.ir_core.specs.declared.ir_module.Module.{Module}
use Rattle.ir_core.specs.declared.operands.Operand.{Operand}
use Rattle.ir_core.specs.declared.operands.Operand.TheVariants.{Reg, Int as Literal, Null, Global}
use Rattle.ir_core.specs.declared.operands.Part.{Part}
use Rattle.ir_core.specs.declared.types.IrType.{IrType}
use Rattle.ir_core.specs.declared.types.IrType.TheVariants.{Int, Ptr}
use Rattle.ir_core.specs.Layout.{alloc_size_of, layout_at, layout_size, capped, exact_layouts}
use Rattle.ir_core.specs.NumberTypes.{type_of, alloc_size}
use Rattle.ir_core.specs.Resolved.{IsPartWithin, IsPieceOf, IsResolvedGlobal}
use Rattle.ir_core.specs.ResolvedBodies.{IsMain}
use Rattle.ir_core.specs.Runnable.{IsRunnableGlobal}
use Rattle.ir_meaning.specs.BirthChanges.{HasItsBytes}
use Rattle.ir_meaning.specs.Births.{Birth, SourceObject, get_object, is_living, written_from}
use Rattle.ir_meaning.specs.CallSteps.{Entry, entry_of, entry_frame}
use Rattle.ir_meaning.specs.Start.{part_bytes, with_parts, global_object, global_births, main_arguments, start_with, source_start}
use Rattle.ir_meaning.specs.State.{SourceFrame, SourceReport, SourceWorld, SourceWorldStep}
use Rattle.ir_meaning.specs.Values.{Value, Integer, Address, SourceByte, Data}
use Rattle.ir_meaning.proofs.BirthChangeLaws.{length-written_from}
use Rattle.well_typed_runs.specs.GoodFrames.{IsGoodFrame, IsGoodTask}
use Rattle.well_typed_runs.specs.GoodWorlds.{IsAccepted, AreSmall}
use Rattle.well_typed_runs.specs.KnownValues.{IsBorn, IsOfType, IsKnownValue, AreKnownBytes, AreGoodBirths}
use Rattle.well_typed_runs.proofs.Blocks.{all_at}
use Rattle.well_typed_runs.proofs.Bytes.{number-known, pointer-known}
use Rattle.well_typed_runs.proofs.CallSteps.{ArgumentsFit, entered_good, entry_good, mapped_get, frame_sizes}
use Rattle.well_typed_runs.proofs.KnownBirths.{written-known, zeros-known}
use Rattle.well_typed_runs.proofs.Worlds.{IsGoodWorldStep}
use Rattle.ir_core.specs.declared.types.TypeLayout.{TypeLayout}
use Rattle.ir_core.specs.declared.types.TypeLayout.TheVariants.{Known, NoSize, Loop}
use Rattle.hw_tags.specs.TaskRuns.{Next, Last, NoStep}

-- ---- the global variables

born_in : (m : Module) (globals : List GlobalVar) (index : ℕ) → index < length globals → (x : SourceObject) × (slice_get (map (global_object m) globals) index ≡ Some x)
born_in m [] index h = absurd (omega arith)
born_in m (g ∷ globals) zero h = (global_object m g, refl)
born_in m (g ∷ globals) (suc index) h = born_in m globals index (omega arith)

global_born : (m : Module) (globals : List GlobalVar) (index : ℕ) → index < length globals → IsBorn (global_births m globals) (record { birth = 0; index = index })
global_born m [] index h = absurd (omega arith)
global_born m (g ∷ globals) index h = born_in m (g ∷ globals) index h

-- an object at the start is a global variable
record IsGlobalObject (m : Module) (globals : List GlobalVar) (x : SourceObject) : Type 0 where
  number : ℕ
  g : GlobalVar
  there : slice_get globals number ≡ Some g
  is : x ≡ global_object m g

global_of : (m : Module) (globals : List GlobalVar) (o : Obj) (x : SourceObject) → get_object (global_births m globals) o ≡ Some x → IsGlobalObject m globals x
global_of m [] o x e = absurd cc
global_of m (g ∷ globals) o x e = by_number o.birth e
  where
    by_number : (n : ℕ) → get_object (global_births m (g ∷ globals)) (record o { birth = n }) ≡ Some x → IsGlobalObject m (g ∷ globals) x
    by_number zero h =
        let (found, at, is) = mapped_get (global_object m) (g ∷ globals) o.index x h in
        record { number = o.index; g = found; there = at; is = is }
    by_number (suc n) h = absurd cc

-- ---- their bytes

nothing-known : (births : List Birth) → AreKnownBytes births []
nothing-known births k byte e = absurd cc

part-known : (births : List Birth) (globals size : ℕ) (value : Operand) → ((index : ℕ) → index < globals → IsBorn births (record { birth = 0; index = index })) → IsPieceOf globals size value
    → AreKnownBytes births (part_bytes size value)
part-known births globals size (Reg r) born h = absurd h
part-known births globals size (Literal n) born h = number-known births size n
part-known births globals size Null born h = number-known births size 0
part-known births globals size (Global index off) born h = pointer-known births (Object (record { birth = 0; index = index })) off (born index h.1)

parts-known : (births : List Birth) (globals size : ℕ) (bytes : List SourceByte) (parts : List Part) → ((index : ℕ) → index < globals → IsBorn births (record { birth = 0; index = index }))
    → All (IsPartWithin globals size) parts → AreKnownBytes births bytes → AreKnownBytes births (with_parts bytes parts)
unfolding with_parts
parts-known births globals size bytes [] born all known = known
parts-known births globals size bytes (part ∷ parts) born all known =
    parts-known births globals size (written_from bytes part.at (part_bytes part.size part.value)) parts born (λ k d within. all (suc k) d (omega arith))
    (written-known births bytes part.at (part_bytes part.size part.value) known (part-known births globals part.size part.value born (all 0 part (omega arith)).piece))

parts-length : (bytes : List SourceByte) (parts : List Part) → length (with_parts bytes parts) ≡ length bytes
unfolding with_parts
parts-length bytes [] = refl
parts-length bytes (part ∷ parts) =
    parts-length (written_from bytes part.at (part_bytes part.size part.value)) parts ∙ length-written_from bytes part.at (part_bytes part.size part.value)

global-known : (m : Module) (births : List Birth) (g : GlobalVar) (n : ℕ) → IsAccepted m → slice_get m.globals n ≡ Some g
    → ((index : ℕ) → index < length m.globals → IsBorn births (record { birth = 0; index = index })) → AreKnownBytes births (global_object m g).bytes
global-known m births g n accepted there born =
    let runs = all_at (IsRunnableGlobal m) m.globals n g accepted.runnable.globals there in
    let resolved = all_at (IsResolvedGlobal m) m.globals n g accepted.runnable.resolved.outside.globals there in
    parts-known births (length m.globals) (alloc_size_of m.types m.fields g.ty) (replicate (alloc_size m g.ty) (Data 0)) g.init born (resolved.init runs.fits runs.size)
    (zeros-known births (alloc_size m g.ty))

globals_good : (m : Module) → IsAccepted m → AreGoodBirths m (global_births m m.globals)
globals_good m accepted =
    record {
      globals = global_born m m.globals;
      living = λ o x e region. let h = global_of m m.globals o x e in subst (λ (y : SourceObject). is_living y.life ≡ true) (sym h.is) refl;
      bytes = λ o x e.
          let h = global_of m m.globals o x e in
          subst (λ (y : SourceObject). AreKnownBytes (global_births m m.globals) y.bytes) (sym h.is)
          (global-known m (global_births m m.globals) h.g h.number accepted h.there (global_born m m.globals));
      sizes = λ o x e.
          let h = global_of m m.globals o x e in
          subst HasItsBytes (sym h.is) (parts-length (replicate (alloc_size m h.g.ty) (Data 0)) h.g.init ∙ length-replicate (alloc_size m h.g.ty) (Data 0));
    }

-- ---- the arguments of `main`

two_count : (params : ℕ) → (params ≡ 0) ⊎ (params ≡ 2) → length (main_arguments params) ≡ params
two_count zero h = refl
two_count (suc params) (inl e) = absurd (omega arith)
two_count (suc params) (inr e) = sym e

main_count : (m : Module) (f : Function) → IsMain m f → length (main_arguments f.params) ≡ f.params
main_count m f main = two_count f.params (elim main.parameters [ inl none ↦ inl none | inr two ↦ inr two.0 ])

main_fit : (m : Module) (births : List Birth) (f : Function) (params : ℕ) → (params ≡ 0) ⊎ ((params ≡ 2) × (type_of m (slice_index f.regs 0) ≡ Int 32) × (type_of m (slice_index f.regs 1) ≡ Ptr))
    → ArgumentsFit m births f (main_arguments params)
main_fit m births f zero h k v e = absurd cc
main_fit m births f (suc params) (inl none) k v e = absurd (omega arith)
main_fit m births f (suc params) (inr two) zero v e =
    let is : Integer 0 ≡ v = cc in
    subst (λ (x : Value). IsOfType (type_of m (slice_index f.regs 0)) x × IsKnownValue births x) is (subst (λ (t : IrType). IsOfType t (Integer 0)) (sym two.1) refl, tt)
main_fit m births f (suc params) (inr two) (suc zero) v e =
    let is : Address NullBase 0 ≡ v = cc in
    subst (λ (x : Value). IsOfType (type_of m (slice_index f.regs 1)) x × IsKnownValue births x) is (subst (λ (t : IrType). IsOfType t (Address NullBase 0)) (sym two.2) refl, tt)
main_fit m births f (suc params) (inr two) (suc (suc k)) v e = absurd cc

-- ---- the start

pub start_good : (m : Module) → IsAccepted m → IsGoodWorldStep m (source_start m)
unfolding source_start
start_good m accepted =
    let (f, there) = main_at m.functions m.main accepted.runnable.resolved.main_there in
    subst (λ (o : Option Function). IsGoodWorldStep m (start_with m o)) (sym there) (with_main f there)
  where
    main_at : (functions : List Function) (n : ℕ) → n < length functions → (f : Function) × (slice_get functions n ≡ Some f)
    main_at [] n h = absurd (omega arith)
    main_at (f ∷ functions) zero h = (f, refl)
    main_at (f ∷ functions) (suc n) h = main_at functions n (omega arith)

    with_main : (f : Function) → slice_get m.functions m.main ≡ Some f → IsGoodWorldStep m (start_with m (Some f))
    with_main f there =
        let main = accepted.runnable.resolved.main f there in
        let entry : Entry = entry_of (global_births m m.globals) m.main 0 [] f.allocas in
        let entered = entered_good m (global_births m m.globals) m.main 0 [] f.allocas (globals_good m accepted) in
        let frame = entry_good m entry.births f m.main (main_arguments f.params) entry.birth [] accepted there (main_count m f main)
        (main_fit m entry.births f f.params main.parameters) entered.variables in
        record { births = entered.births; tasks = λ k frames e. by_task f entry frame k frames e; first = omega arith }
      where
        by_task : (f : Function) (entry : Entry) → IsGoodFrame m entry.births (entry_frame f m.main (main_arguments f.params) entry.birth [])
            → (k : ℕ) (frames : List SourceFrame) → slice_get ((entry_frame f m.main (main_arguments f.params) entry.birth [] ∷ []) ∷ []) k ≡ Some frames
            → IsGoodTask m entry.births k frames
        by_task f entry frame zero frames e =
            let is : (entry_frame f m.main (main_arguments f.params) entry.birth [] ∷ []) ≡ frames = cc in
            subst (λ (fs : List SourceFrame). IsGoodTask m entry.births 0 fs) is (frame, λ task. refl)
        by_task f entry frame (suc k) frames e = absurd cc

-- ---- the sizes of the global variables

capped_small : (layout : TypeLayout) → layout_size (capped layout) < 2 ^ 64
capped_small (Known size align) = small_min size
  where
    small_min : (size : ℕ) → min size (2 ^ 40 + 1) < 2 ^ 64
    small_min size = omega arith
capped_small NoSize = omega arith
capped_small Loop = omega arith

layout_small : (layouts : List TypeLayout) (n : ℕ) → layout_size (layout_at (map capped layouts) n) < 2 ^ 64
layout_small [] n = omega arith
layout_small (layout ∷ layouts) zero = capped_small layout
layout_small (layout ∷ layouts) (suc n) = layout_small layouts n

global_small : (m : Module) (ty : ℕ) → IsAccepted m → alloc_size m ty < 2 ^ 64
global_small m ty accepted =
    let same : m.layouts ≡ map capped (exact_layouts m.types m.fields) = accepted.runnable.resolved.outside.layouts in
    subst (λ (layouts : List TypeLayout). layout_size (layout_at layouts ty) < 2 ^ 64) (sym same) (layout_small (exact_layouts m.types m.fields) ty)

globals_small : (m : Module) → IsAccepted m → AreSmall (global_births m m.globals)
globals_small m accepted o x e =
    let h = global_of m m.globals o x e in
    let small = global_small m h.g.ty accepted in
    let size : x.size ≡ alloc_size m h.g.ty = ap (λ (y : SourceObject). y.size) h.is in
    omega arith

abbrev IsSmallStep : SourceWorldStep → Type 0
IsSmallStep (Next w report) = AreSmall w.shared.births
IsSmallStep (Last w report ending) = Unit {0}
IsSmallStep NoStep = Unit {0}

pub start_small : (m : Module) (w : SourceWorld) (report : SourceReport) → IsAccepted m → source_start m ≡ Next w report → AreSmall w.shared.births
unfolding source_start
start_small m w report accepted e =
    let (f, there) = main_at m.functions m.main accepted.runnable.resolved.main_there in
    let entered = entered_good m (global_births m m.globals) m.main 0 [] f.allocas (globals_good m accepted) in
    let small = entered.small (frame_sizes m m.main f accepted there) (globals_small m accepted) in
    subst IsSmallStep e (subst (λ (o : Option Function). IsSmallStep (start_with m o)) (sym there) small)
  where
    main_at : (functions : List Function) (n : ℕ) → n < length functions → (f : Function) × (slice_get functions n ≡ Some f)
    main_at [] n h = absurd (omega arith)
    main_at (f ∷ functions) zero h = (f, refl)
    main_at (f ∷ functions) (suc n) h = main_at functions n (omega arith)
