-- Runs of small modules, shown by evaluation on the small map: stacks of 64 bytes for two tasks, and a heap of 64 bytes. Tag
-- words and turn words repeat, and a task remembers one frame and one block. This project's choice.
use Rattle.std.specs.Prelude.{ℕ, List, [], ◌∷◌, ◌++◌}
use Rattle.hw_base.specs.Bytes.{le_bytes, le_number, byte_of, byte_order}
use Rattle.hw_base.specs.declared.accesses.Access.{Access}
use Rattle.hw_shadow.specs.TagRule.{first_mismatch}
use Rattle.hw_tags.specs.LeastPlace.{first_place}
use Rattle.hw_tags.specs.TaskRuns.{Spent, Ended, IsStuck, world_step, run_from}
use Rattle.hw_tags.specs.Turn.{unfinished_from}
use Rattle.hw_tags.specs.Word.{repeated}
use Rattle.dbg_sites.specs.ChainTable.{entry_from, pushed, chain_within}
use Rattle.global_tags.specs.GlobalBytes.{with_pieces, with_globals}
use Rattle.global_tags.specs.GlobalPlaces.{constants_size, variables_size}
use Rattle.ir_arith.specs.Binary.{add_result, sub_result, mul_result, udiv_result, urem_result, is_least_by_minus_one, signed_division, shl_result, lshr_result, ashr_result}
use Rattle.ir_arith.specs.BitIntrinsics.{reversed_bytes, bswap_result, fshl_result, fshr_result, smin_result, smax_result, abs_result}
use Rattle.ir_arith.specs.TwosComplement.{signed_of, unsigned_of, fits_signed, fits_unsigned}
use Rattle.ir_core.specs.Blocks.{block_holding, entry_from as phi_entry_from}
use Rattle.ir_core.specs.IndexSteps.{inner_steps}
use Rattle.ir_core.specs.declared.ir_module.Module.{Module}
use Rattle.ir_lib.specs.Strings.{scan_bound, string_from, checked_from}
use Rattle.mi_code.specs.EdgeMoves.{phi_moves, case_edges}
use Rattle.mi_code.specs.Instrumentation.{code_length, later_starts, code_of_instruction, code_from, code_of_function, functions_from, instrumented}
use Rattle.stack_tags.specs.FrameSteps.{with_variables, after_entry, entered, left}
use Rattle.tag_alloc.specs.HeapBlocks.{with_block}
use Rattle.tag_alloc.specs.HeapSteps.{after_birth, allocated, after_death}
use Rattle.tbi_memory.specs.AddressSpace.{written, zeros}
use Rattle.tbi_memory.specs.MappedBytes.{byte_at, write, read_bytes}
use Rattle.tbi_memory.specs.SmallSpace.{small_map}
use Rattle.ir_machine.specs.declared.found.Found.{Found}
use Rattle.ir_machine.specs.State.{MachineSetting, MachineEnding, Reported, MachineRun}
use Rattle.ir_machine.specs.AddressSteps.{alloca_step, stepped_address, gep_step}
use Rattle.ir_machine.specs.ArithmeticSteps.{binary_step, icmp_step, cast_step, bits_step, overflow_step, select_step, freeze_step, extract_step}
use Rattle.ir_machine.specs.BlockFunctions.{malloc_step, free_step, realloc_step}
use Rattle.ir_machine.specs.BranchSteps.{with_registers, br_step, br_if_step, case_for, switch_step, unreachable_step}
use Rattle.ir_machine.specs.ByteFunctions.{copy_step, set_step, memcmp_step}
use Rattle.ir_machine.specs.CallSteps.{with_arguments, enter_step, call_step, leave_step, ret_step}
use Rattle.ir_machine.specs.CheckSteps.{one_step, sized_step, str_step, free_check_step}
use Rattle.ir_machine.specs.InstructionStep.{steps_within, machine_step}
use Rattle.ir_machine.specs.MemorySteps.{load_step, store_step, rmw_step, cmpxchg_step}
use Rattle.ir_machine.specs.Runs.{machine_run}
use Rattle.ir_machine.specs.Start.{machine_start}
use Rattle.ir_machine.specs.TaskFunctions.{create_step, join_step, mutex_init_step, mutex_lock_step, mutex_unlock_step}
use Rattle.ir_machine.specs.TextFunctions.{strlen_step, puts_step, putchar_step, getchar_step, exit_step, abort_step}

-- ---- what a run shows

-- what it printed, how many steps it made, and how it ended, if it did
pub data ShownRun : Type 0 where
  SpentAfter : (output : List ℕ) → (steps : ℕ) → ShownRun
  EndedAfter : (output : List ℕ) → (steps : ℕ) → MachineEnding → ShownRun
  WasStuck : ShownRun

-- the bytes that steps printed, in order
abbrev pub output_of : List (List ℕ) → List ℕ
output_of [] = []
output_of (bytes ∷ reports) = bytes ++ output_of reports

abbrev pub shown_of : MachineRun → ShownRun
shown_of (Spent w reports) = SpentAfter (output_of reports) w.steps
shown_of (Ended w reports ending) = EndedAfter (output_of reports) w.steps ending
shown_of IsStuck = WasStuck

-- ---- example runs

-- a module on the small map, with these tag words and this input
abbrev pub example_setting : Module → (tags input : List ℕ) → MachineSetting
example_setting program tags input =
    record { places = small_map; program = program; code = instrumented program; word = repeated tags; ring = 1; input = input }

-- the run of a module with tag words, turn words and an input, of so many steps at most
unfoldable pub shown_run : Module → (tags turns input : List ℕ) → (bound : ℕ) → ShownRun
unfolding le_bytes le_number byte_of byte_order first_mismatch first_place world_step run_from unfinished_from repeated entry_from pushed chain_within with_pieces with_globals constants_size variables_size add_result sub_result mul_result udiv_result urem_result is_least_by_minus_one signed_division shl_result lshr_result ashr_result reversed_bytes bswap_result fshl_result fshr_result smin_result smax_result abs_result signed_of unsigned_of fits_signed fits_unsigned block_holding phi_entry_from inner_steps scan_bound string_from checked_from phi_moves case_edges code_length later_starts code_of_instruction code_from code_of_function functions_from with_variables after_entry entered left with_block after_birth allocated after_death written zeros byte_at write read_bytes alloca_step stepped_address gep_step binary_step icmp_step cast_step bits_step overflow_step select_step freeze_step extract_step malloc_step free_step realloc_step with_registers br_step br_if_step case_for switch_step unreachable_step copy_step set_step memcmp_step with_arguments enter_step call_step leave_step ret_step one_step sized_step str_step free_check_step steps_within machine_step load_step store_step rmw_step cmpxchg_step machine_run machine_start create_step join_step mutex_init_step mutex_lock_step mutex_unlock_step strlen_step puts_step putchar_step getchar_step exit_step abort_step
shown_run program tags turns input bound =
    shown_of (machine_run (example_setting program tags input) (repeated turns) bound)

-- an example by its tag words alone: turn words of 0, no input and 20 steps at most
abbrev pub example_run : Module → (tags : List ℕ) → ShownRun
example_run program tags = shown_run program tags (0 ∷ []) [] 20

-- a failing check of a task after this output: the access, its size and number, the step, the chain, and what was found
abbrev pub reported : (output : List ℕ) → Access → (size number task step chain : ℕ) → Found → ShownRun
reported output access size number task step chain found =
    EndedAfter output step
    (Reported (record { access = access; size = size; number = number; task = task; step = step; chain = chain; found = found }))
