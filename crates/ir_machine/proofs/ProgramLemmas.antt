-- The sizes of variables, as they are kept with the code.
use Rattle.std.proofs.Common.{◌≡◌, ◌<◌, ◌^◌, ℕ, zero, suc, List, [], ◌∷◌, map, refl, sym, ap, ◌∙◌, subst, Option, Some, None, arith}
use Rattle.std.specs.Prelude.{All, slice_get, unwrap_or}
use Rattle.std.proofs.lemmas.Option.{slice_get_within, get_or_from_slice_get}
use Rattle.hw_base.specs.AddressMap.{program_map}
use Rattle.hw_tags.specs.declared.options.Options.{Options}
use Rattle.ir_core.specs.declared.ir_module.Function.{Function}
use Rattle.ir_core.specs.declared.ir_module.Module.{Module}
use Rattle.mi_code.specs.declared.code_functions.CodeFunction.{CodeFunction}
use Rattle.ir_machine.specs.CallSteps.{variables_by, variables_of}
use Rattle.ir_machine.specs.MachineStates.{IsSettingOf}
use Rattle.ir_machine.specs.Programs.{AreSmall, HasProgram, sizes_at}
use Rattle.ir_machine.specs.State.{MachineSetting}
use Rattle.ir_machine.specs.declared.program.Program.{Program}

pub sizes-kept : (functions : List Function) (func : ℕ) → variables_by (slice_get functions func) ≡ unwrap_or (slice_get (map (λ (f : Function). f.allocas) functions) func) []
sizes-kept [] zero = refl
sizes-kept [] (suc func) = refl
sizes-kept (f ∷ functions) zero = refl
sizes-kept (f ∷ functions) (suc func) = sizes-kept functions func

abbrev HasSmall : Function → Type 0
HasSmall f = All (λ size. size < 2 ^ 64) f.allocas

small-by : (functions : List Function) (func : ℕ) (found : Option Function) → All HasSmall functions → slice_get functions func ≡ found
    → All (λ size. size < 2 ^ 64) (variables_by found)
small-by functions func None small is = λ k d within. absurd (omega arith)
small-by functions func (Some f) small is =
    subst HasSmall (get_or_from_slice_get functions func f f is) (small func f (slice_get_within functions func f is))

pub are-small : (m : Module) (program : Program) → All HasSmall m.functions → ((func : ℕ) → variables_of m func ≡ sizes_at program func) → AreSmall program
are-small m program small same func =
    subst (λ (sizes : List ℕ). All (λ size. size < 2 ^ 64) sizes) (same func) (small-by m.functions func (slice_get m.functions func) small refl)

-- a setting of the module has the program
pub has-program : (setting : MachineSetting) (m : Module) (functions : List CodeFunction) (options : Options) (program : Program)
    → IsSettingOf setting m functions options → program.code ≡ functions → ((func : ℕ) → variables_of m func ≡ sizes_at program func) → HasProgram setting program
unfolding program_map
has-program setting m functions options program is code same =
    record {
      has = record { code = is.code_is ∙ sym code; most_frames = ap (λ places. places.most_frames) is.places_are };
      variables = λ func. ap (λ (n : Module). variables_of n func) is.program_is ∙ same func;
    }
