-- The end of a run of a small module, shown by evaluation: turn words that repeat, and at most 20 steps. This project's
-- choice.
use Rattle.std.specs.Prelude.{ℕ, List, [], length, Option, Some, None, option_map, option_and_then}
use Rattle.std.specs.List.{flat_map}
use Rattle.hw_base.specs.Bytes.{le_bytes, le_number, byte_order}
use Rattle.hw_base.specs.declared.pointers.Base.TheVariants.{Object}
use Rattle.hw_base.specs.declared.pointers.Obj.{Obj}
use Rattle.hw_base.specs.declared.pointers.Pointer.{Pointer}
use Rattle.hw_base.specs.declared.pointers.Site.{Site}
use Rattle.hw_tags.specs.declared.words_spec.WordsSpec.TheVariants.{Cycle}
use Rattle.hw_tags.specs.InputState.{InputState}
use Rattle.hw_tags.specs.TaskRuns.{Spent, Ended, IsStuck, world_step, run_from}
use Rattle.hw_tags.specs.Turn.{unfinished_from}
use Rattle.hw_tags.specs.Word.{repeated, word}
use Rattle.ir_core.specs.declared.ir_module.Module.{Module}
use Rattle.ir_core.specs.Blocks.{block_holding, entry_from}
use Rattle.ir_core.specs.IndexSteps.{inner_steps}
use Rattle.ir_arith.specs.Binary.{add_result, sub_result, mul_result, udiv_result, urem_result, is_least_by_minus_one, signed_division, shl_result, lshr_result, ashr_result}
use Rattle.ir_arith.specs.TwosComplement.{signed_of, unsigned_of, fits_signed, fits_unsigned}
use Rattle.ir_meaning.specs.AccessRule.{access_rule}
use Rattle.ir_meaning.specs.AddressSteps.{alloca_step, steps_bytes, gep_step}
use Rattle.ir_meaning.specs.ArithmeticSteps.{binary_step, icmp_step, cast_step, select_step, freeze_step, extract_step, bits_step, overflow_step}
use Rattle.ir_meaning.specs.Births.{Life, SourceObject, get_object, changed_at, written_from}
use Rattle.ir_meaning.specs.BlockFunctions.{malloc_step, calloc_step, free_step, realloc_step}
use Rattle.ir_meaning.specs.BranchSteps.{phi_values, with_results, br_step, br_if_step, switch_target, switch_step, unreachable_step}
use Rattle.ir_meaning.specs.ByteFunctions.{copy_step, set_step, memcmp_step}
use Rattle.ir_meaning.specs.CallSteps.{on_arguments, call_step, ret_step}
use Rattle.ir_meaning.specs.Encoding.{pointer_bytes, data_numbers, int_from, are_pieces, pointer_from}
use Rattle.ir_meaning.specs.LibraryCalls.{on_string, on_accesses, nothing_step, lifetime_step}
use Rattle.ir_meaning.specs.MemorySteps.{load_step, store_step, rmw_step, cmpxchg_step}
use Rattle.ir_meaning.specs.Operands.{all_single, with_named, with_integer, with_pointer, with_pair}
use Rattle.ir_meaning.specs.PointerComparison.{pointers_equal, pointers_ordered}
use Rattle.ir_meaning.specs.Runs.{source_run, printed_by}
use Rattle.ir_meaning.specs.Start.{with_parts, source_start}
use Rattle.ir_meaning.specs.State.{News, SourceReport, SourceEnding, SourceWorld, SourceRun}
use Rattle.ir_meaning.specs.StepEnds.{on_answer, on_read, on_integer}
use Rattle.ir_meaning.specs.Strings.{string_from}
use Rattle.ir_meaning.specs.TaskFunctions.{create_step, join_step, mutex_init_step, mutex_lock_step, mutex_unlock_step, mutex_destroy_step}
use Rattle.ir_meaning.specs.TextFunctions.{on_whole, strlen_step, puts_step, putchar_step, getchar_step, exit_step, abort_step}

-- the site of an instruction
abbrev pub site : (func inst : ℕ) → Site
site func inst = record { func = func; inst = inst }

-- the object of a birth with this index
abbrev pub object_of : (birth index : ℕ) → Obj
object_of birth index = record { birth = birth; index = index }

-- the pointer so many bytes after the start of an object
abbrev pub pointer_to : Obj → (off : ℕ) → Pointer
pointer_to o off = record { base = Object o; off = off }

-- naming this definition in a line `unfolding` opens all that its own line names
unfoldable pub run_is_computed : ℕ
unfolding le_bytes le_number byte_order repeated word block_holding entry_from inner_steps add_result sub_result mul_result udiv_result urem_result is_least_by_minus_one signed_division shl_result lshr_result ashr_result signed_of unsigned_of fits_signed fits_unsigned access_rule alloca_step steps_bytes gep_step binary_step icmp_step cast_step select_step freeze_step extract_step bits_step overflow_step changed_at written_from malloc_step calloc_step free_step realloc_step phi_values with_results br_step br_if_step switch_target switch_step unreachable_step copy_step set_step memcmp_step on_arguments call_step ret_step pointer_bytes data_numbers int_from are_pieces pointer_from on_string on_accesses nothing_step lifetime_step load_step store_step rmw_step cmpxchg_step all_single with_named with_integer with_pointer with_pair pointers_equal pointers_ordered source_run with_parts source_start on_answer on_read on_integer string_from create_step join_step mutex_init_step mutex_lock_step mutex_unlock_step mutex_destroy_step on_whole strlen_step puts_step putchar_step getchar_step exit_step abort_step world_step run_from unfinished_from
run_is_computed = 0

abbrev pub run_with_input : Module → (turns input : List ℕ) → SourceRun
run_with_input program turns input = source_run program input (word (Cycle turns)) 20

abbrev pub example_run : Module → (turns : List ℕ) → SourceRun
example_run program turns = run_with_input program turns []

-- ---- what is shown of a run

-- the end of a run, the number of the step in which it came, counted from 1, and what the run printed
pub record SourceEnd : Type 0 where
  pub ending : SourceEnding
  pub step : ℕ
  pub output : List ℕ

abbrev pub end_of : SourceRun → Option SourceEnd
end_of (Ended w reports ending) = Some (record { ending = ending; step = w.steps; output = printed_by (Ended w reports ending) })
end_of (Spent w reports) = None
end_of IsStuck = None

-- the last state of a run
abbrev pub last_world : SourceRun → Option SourceWorld
last_world (Ended w reports ending) = Some w
last_world (Spent w reports) = Some w
last_world IsStuck = None

abbrev pub life_in : Obj → SourceWorld → Option Life
life_in o w = option_map (λ (x : SourceObject). x.life) (get_object w.shared.births o)

abbrev pub bytes_left : Obj → SourceWorld → Option ℕ
bytes_left o w = option_map (λ (x : SourceObject). length x.bytes) (get_object w.shared.births o)

-- how many steps a run made that hasn't ended
abbrev pub steps_of : SourceRun → Option ℕ
steps_of (Ended w reports ending) = None
steps_of (Spent w reports) = Some w.steps
steps_of IsStuck = None

-- ---- examples

-- how an example ends, in which step, and with which output
unfoldable pub shown_end : Module → (turns : List ℕ) → Option SourceEnd
unfolding run_is_computed
shown_end program turns = end_of (example_run program turns)

-- the same with this input
unfoldable pub shown_end_with : Module → (turns input : List ℕ) → Option SourceEnd
unfolding run_is_computed
shown_end_with program turns input = end_of (run_with_input program turns input)

-- the life of an object in the last state of an example, and how many bytes it has there
unfoldable pub shown_life : Module → (turns : List ℕ) → Obj → Option Life
unfolding run_is_computed
shown_life program turns o = option_and_then (life_in o) (last_world (example_run program turns))

unfoldable pub shown_bytes : Module → (turns : List ℕ) → Obj → Option ℕ
unfolding run_is_computed
shown_bytes program turns o = option_and_then (bytes_left o) (last_world (example_run program turns))

-- how many turn words an example drew
unfoldable pub shown_turns : Module → (turns : List ℕ) → Option ℕ
unfolding run_is_computed
shown_turns program turns = option_map (λ (w : SourceWorld). w.turns) (last_world (example_run program turns))

-- how many steps an example made that hasn't ended within its bound
unfoldable pub shown_spent : Module → (turns : List ℕ) → Option ℕ
unfolding run_is_computed
shown_spent program turns = steps_of (example_run program turns)

abbrev pub news_of : SourceRun → List News
news_of (Ended w reports ending) = flat_map (λ (report : SourceReport). report.news) reports
news_of (Spent w reports) = flat_map (λ (report : SourceReport). report.news) reports
news_of IsStuck = []

-- the births and deaths of an example in order
unfoldable pub shown_news : Module → (turns : List ℕ) → List News
unfolding run_is_computed
shown_news program turns = news_of (example_run program turns)

-- how much of this input an example took
unfoldable pub shown_input : Module → (turns input : List ℕ) → Option InputState
unfolding run_is_computed
shown_input program turns input = option_map (λ (w : SourceWorld). w.shared.input) (last_world (run_with_input program turns input))
