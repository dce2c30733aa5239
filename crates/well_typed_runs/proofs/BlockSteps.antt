-- Calls of the functions that make and free blocks aren't stuck.
use Rattle.std.proofs.Common.{◌≡◌, ℕ, ◌*◌, ◌%◌, ◌^◌, List, [], ◌∷◌, ◌++◌, length, take, slice_get, Option, Some, None, Bool, true, false, ◌==◌, if◌then◌else◌, refl, sym, ◌∙◌, ap, ◌<◌}
use Rattle.hw_base.specs.declared.accesses.Access.TheVariants.{Free}
use Rattle.hw_base.specs.declared.pointers.Base.{Base}
use Rattle.hw_base.specs.declared.pointers.Base.TheVariants.{Null, Object}
use Rattle.hw_base.specs.declared.pointers.Obj.{Obj}
use Rattle.ir_core.specs.LibraryAccesses.{Freed}
use Rattle.ir_core.specs.declared.ir_module.Inst.{Inst}
use Rattle.ir_core.specs.declared.ir_module.Module.{Module}
use Rattle.ir_core.specs.declared.types.IrType.TheVariants.{Int, Ptr}
use Rattle.ir_core.specs.Operations.{is_terminator, is_value_type, given_type}
use Rattle.ir_meaning.specs.AccessRule.{AccessAnswer, Fine, access_rule, access_answer, accessed_in, free_answer, start_free}
use Rattle.ir_meaning.specs.Births.{Birth, Region, Globals, Stack, Heap, SourceObject, get_object, object_in, region_of, region_in, bytes_in, after_death, fresh_birth}
use Rattle.ir_meaning.specs.BirthChanges.{OnlyGrow, bore, wrote, died, both}
use Rattle.ir_meaning.specs.BlockFunctions.{block_of, block_pointer, births_with, births_copied, births_resized, block_news, death_of, allocated, malloc_step, calloc_step, freed, free_step, resized, realloc_step}
use Rattle.ir_meaning.specs.LibraryCalls.{on_accesses}
use Rattle.ir_meaning.specs.Operands.{argument, with_integer, with_pointer}
use Rattle.ir_meaning.specs.State.{SourceSeen, SourceOutcome, nothing_happened, telling}
use Rattle.ir_meaning.specs.StepEnds.{chain_of, on_access}
use Rattle.ir_meaning.specs.Values.{Value, Integer, Address, IntegerAndBit, SourceByte}
use Rattle.ir_meaning.proofs.BirthChangeLaws.{change-only_grows}
use Rattle.well_typed_runs.specs.KnownValues.{IsBorn, IsKnownBase, AreKnownBytes, AreGoodBirths, HasValue}
use Rattle.well_typed_runs.specs.GoodWorlds.{IsGoodSeen, IsGoodOutcome, IsWithoutCalloc}
use Rattle.well_typed_runs.proofs.Accesses.{access_good}
use Rattle.well_typed_runs.proofs.Bytes.{object-known, taken-known}
use Rattle.well_typed_runs.proofs.KnownBirths.{births_written, births_born, births_ended, bytes-grow, born-grows, small_born, small_written, small_ended, one_size}
use Rattle.well_typed_runs.proofs.GoingOn as on
use Rattle.well_typed_runs.proofs.Settings.{IsSetting}
use Rattle.well_typed_runs.proofs.Values.{integer_good, bounded_good}

-- ---- frees

if_fine : (test : Bool) (a b : AccessAnswer) → (b ≡ Fine → ⊥) → (if test then a else b) ≡ Fine → a ≡ Fine
if_fine true a b h e = e
if_fine false a b h e = absurd (h e)

-- only a block can be freed
freed-region : (births : List Birth) (o : Obj) (off : ℕ) → access_answer births Free (Object o) off 0 1 ≡ Fine → (birth : Birth) → slice_get births o.birth ≡ Some birth → birth.region ≡ Globals → ⊥
unfolding access_rule
freed-region births o off fine birth there global = by_object (get_object births o) fine
  where
    by_region : (region : Region) (living : Bool) → start_free region living ≡ Fine → region ≡ Globals → ⊥
    by_region Globals living e g = absurd cc
    by_region (Stack func) living e g = absurd cc
    by_region Heap living e g = absurd cc

    by_object : (found : Option SourceObject) → free_answer (accessed_in (region_of births o) found) off ≡ Fine → ⊥
    by_object None e = absurd cc
    by_object (Some x) e =
        by_region (region_of births o) _ (if_fine (off == 0) _ _ (λ h. absurd cc) e) (ap region_in there ∙ global)

module _ (m : Module) (s : SourceSeen) (good : IsGoodSeen m s) (setting : IsSetting m good.frame.f good.frame.at.inst) (plain : is_terminator good.frame.at.inst.op ≡ false) where
  abbrev here : Inst
  here = good.frame.at.inst

  abbrev is_good : SourceOutcome → Type 0
  is_good outcome = IsGoodOutcome m s outcome

  abbrev there : List Birth
  there = s.shared.births

  -- ---- blocks

  block_born : (size : ℕ) → IsBorn (births_with s size) (block_of (length there))
  block_born size = let at = last-get there (fresh_birth Heap s.task (chain_of s) (size ∷ [])) in (_, ap (λ (b : Option Birth). object_in b 0) at)
    where
      last-get : {A : Type 0} (xs : List A) (x : A) → slice_get (xs ++ x ∷ []) (length xs) ≡ Some x
      last-get [] x = refl
      last-get (y ∷ xs) x = last-get xs x

  allocated_good : (size : ℕ) → (IsWithoutCalloc m → size < 2 ^ 64) → given_type m here.op ≡ Ptr → IsGoodOutcome m s (allocated s here.result size)
  allocated_good size below given =
      on.gives_under m s good setting (record s.shared { births = births_with s size }) Ptr (block_pointer (length there)) (telling (block_news s size ∷ [])) plain
      (births_born m there Heap s.task (chain_of s) (size ∷ []) good.births)
      (change-only_grows there (births_with s size) _ (bore there Heap s.task (chain_of s) (size ∷ [])))
      (λ without small. small_born there Heap s.task (chain_of s) (size ∷ []) (one_size size (below without)) small) given refl refl (block_born size)

  pub malloc_good : (values : List (Option Value)) → HasValue there (Int 64) (argument values 0) → given_type m here.op ≡ Ptr
      → IsGoodOutcome m s (on_accesses s values [] (malloc_step s here.result values))
  unfolding on_accesses malloc_step
  malloc_good values n given = bounded_good is_good there 64 64 (argument values 0) _ n (λ size below. allocated_good size (λ without. below) given)

  pub calloc_good : (values : List (Option Value)) → (IsWithoutCalloc m → ⊥) → HasValue there (Int 64) (argument values 0) → HasValue there (Int 64) (argument values 1)
      → given_type m here.op ≡ Ptr
      → IsGoodOutcome m s (on_accesses s values [] (calloc_step s here.result values))
  unfolding on_accesses calloc_step
  calloc_good values with_calloc n k given =
      integer_good is_good there 64 64 (argument values 0) _ n (λ size. integer_good is_good there 64 64 (argument values 1) _ k (λ count. allocated_good (size * count) (λ without. absurd (with_calloc without)) given))

  freed_good : (base : Base) (off : ℕ) → access_answer there Free base off 0 1 ≡ Fine → is_value_type (given_type m here.op) ≡ false → IsGoodOutcome m s (freed s base)
  freed_good Null off fine given = on.goes_good m s good setting nothing_happened plain given
  freed_good (Object o) off fine given =
      on.goes_under m s good setting (record s.shared { births = after_death there o.birth s.task (chain_of s) }) (telling (death_of s o.birth ∷ [])) plain
      (births_ended m there o.birth s.task (chain_of s) good.births (freed-region there o off fine))
      (change-only_grows there (after_death there o.birth s.task (chain_of s)) _ (died there o.birth s.task (chain_of s)))
      (λ without small. small_ended there o.birth s.task (chain_of s) small) given

  free_with : (found : Option Value) → HasValue there Ptr found → is_value_type (given_type m here.op) ≡ false
      → IsGoodOutcome m s (with_pointer found (λ base off. on_access s Free base off 0 1 (with_pointer found (λ b o. freed s b))))
  unfolding with_pointer
  free_with None h given = absurd h
  free_with (Some (Integer n)) h given = let e = h.0 in absurd cc
  free_with (Some (Address base off)) h given = access_good m s Free base (off % 2 ^ 64) 0 1 _ good.births h.1 (λ fine. freed_good base (off % 2 ^ 64) fine given)
  free_with (Some (IntegerAndBit n bit)) h given = let e = h.0 in absurd cc

  pub free_good : (values : List (Option Value)) → HasValue there Ptr (argument values 0) → is_value_type (given_type m here.op) ≡ false
      → IsGoodOutcome m s (on_accesses s values (Freed 0 ∷ []) (free_step s values))
  unfolding on_accesses free_step
  free_good values h given = free_with (argument values 0) h given

  -- a block with a new size
  resized_good : (base : Base) (off size : ℕ) → size < 2 ^ 64 → IsKnownBase there base → access_answer there Free base off 0 1 ≡ Fine → given_type m here.op ≡ Ptr → IsGoodOutcome m s (resized s here.result base size)
  resized_good Null off size below known fine given = allocated_good size (λ without. below) given
  resized_good (Object o) off size below known fine given =
      let one : List Birth = births_with s size in
      let bytes : List SourceByte = take size (bytes_in (get_object there o)) in
      let two : List Birth = births_copied s o size in
      let three : List Birth = births_resized s o size in
      let change_one = bore there Heap s.task (chain_of s) (size ∷ []) in
      let grow_one : OnlyGrow there one = change-only_grows there one _ change_one in
      let good_one : AreGoodBirths m one = births_born m there Heap s.task (chain_of s) (size ∷ []) good.births in
      let known_bytes : AreKnownBytes one bytes = bytes-grow there one bytes grow_one (taken-known there size (bytes_in (get_object there o)) (object-known m there o good.births)) in
      let good_two : AreGoodBirths m two = births_written m one (Object (block_of (length there))) 0 bytes good_one known_bytes in
      let change_two = wrote one (Object (block_of (length there))) 0 bytes in
      let grow_two : OnlyGrow there two = change-only_grows there two _ (both there one two _ _ change_one change_two) in
      let change_three = died two o.birth s.task (chain_of s) in
      let grow_three : OnlyGrow there three = change-only_grows there three _ (both there two three _ _ (both there one two _ _ change_one change_two) change_three) in
      let good_three : AreGoodBirths m three = births_ended m two o.birth s.task (chain_of s) good_two (λ birth at global. by_birth (slice_get there o.birth) refl grow_two birth at global) in
      let rest : OnlyGrow one three = change-only_grows one three _ (both one two three _ _ change_two change_three) in
      on.gives_under m s good setting (record s.shared { births = three }) Ptr (block_pointer (length there)) (telling (block_news s size ∷ death_of s o.birth ∷ [])) plain good_three grow_three
      (λ without small.
      small_ended two o.birth s.task (chain_of s)
      (small_written one (Object (block_of (length there))) 0 bytes (small_born there Heap s.task (chain_of s) (size ∷ []) (one_size size below) small)))
      given refl refl
      (born-grows one three (block_of (length there)) rest (block_born size))
    where
      by_birth : (found : Option Birth) → slice_get there o.birth ≡ found → OnlyGrow there (births_copied s o size) → (birth : Birth) → slice_get (births_copied s o size) o.birth ≡ Some birth
          → birth.region ≡ Globals → ⊥
      by_birth None e grow birth at global = absurd (not_there known e)
        where
          not_there : IsKnownBase there (Object o) → slice_get there o.birth ≡ None → ⊥
          not_there (x, found) e = let none : get_object there o ≡ None = ap (λ (b : Option Birth). object_in b o.index) e in absurd cc
      by_birth (Some old) e grow birth at global =
          let (later, found, alike) = grow o.birth old e in
          let same_one : later ≡ birth = cc in
          freed-region there o off fine old e (sym alike.region ∙ (ap (λ (b : Birth). b.region) same_one ∙ global))

  realloc_with : (found size : Option Value) → HasValue there Ptr found → HasValue there (Int 64) size → given_type m here.op ≡ Ptr
      → IsGoodOutcome m s (with_pointer found (λ base off. on_access s Free base off 0 1 (with_pointer found (λ b o. with_integer 64 size (λ n. resized s here.result b n)))))
  unfolding with_pointer
  realloc_with None size h k given = absurd h
  realloc_with (Some (Integer n)) size h k given = let e = h.0 in absurd cc
  realloc_with (Some (Address base off)) size h k given =
      access_good m s Free base (off % 2 ^ 64) 0 1 _ good.births h.1 (λ fine.
      bounded_good is_good there 64 64 size _ k (λ n below. resized_good base (off % 2 ^ 64) n below h.1 fine given))
  realloc_with (Some (IntegerAndBit n bit)) size h k given = let e = h.0 in absurd cc

  pub realloc_good : (values : List (Option Value)) → HasValue there Ptr (argument values 0) → HasValue there (Int 64) (argument values 1) → given_type m here.op ≡ Ptr
      → IsGoodOutcome m s (on_accesses s values (Freed 0 ∷ []) (realloc_step s here.result values))
  unfolding on_accesses realloc_step
  realloc_good values h k given = realloc_with (argument values 0) (argument values 1) h k given
