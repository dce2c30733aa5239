-- How the machine follows steps that only compute: going on with a result, traps, and operands.
use Rattle.std.proofs.Common.{◌≡◌, ℕ, ◌+◌, ◌*◌, ◌%◌, ◌^◌, Bool, List, [], ◌∷◌, length, slice_get, slice_set, Option, Some, None, refl, sym, ◌∙◌, ap, subst, arith}
use Rattle.std.specs.Prelude.{option_and_then}
use Rattle.std.proofs.lemmas.List.{length-set}
use Rattle.hw_base.specs.Bits.{bit_of}
use Rattle.hw_base.specs.declared.endings.Trap.{Trap}
use Rattle.hw_base.specs.declared.pointers.Site.{Site}
use Rattle.hw_tags.specs.TaskRuns.{Ends}
use Rattle.dbg_sites.proofs.ChainLemmas.{pushed-front, pushed-within}
use Rattle.dbg_sites.specs.ChainTable.{ChainEntry}
use Rattle.ir_core.specs.declared.ir_module.Function.{Function}
use Rattle.ir_core.specs.declared.ir_module.Module.{Module}
use Rattle.ir_meaning.specs.Values.{Value, Integer, Address, IntegerAndBit}
use Rattle.ir_meaning.specs.State.{SourceOutcome, nothing_happened}
use Rattle.ir_meaning.specs.Operands.{single, with_named, with_integer}
use Rattle.ir_meaning.specs.StepEnds as source
use Rattle.ir_machine.specs.State.{MachineSetting, MachineShared, MachineSeen, MachineOutcome}
use Rattle.ir_machine.specs.StepEnds as machine
use Rattle.ir_tasks.specs.Frames.{Frame}
use Rattle.mi_code.specs.Instrumentation.{place_of}
use Rattle.mi_code.specs.MachineOperands.{registers_of, result_register}
use Rattle.tag_story.specs.Story.{StoryBirth, Story, value_image}
use Rattle.tag_story.specs.Telling.{all_told}
use Rattle.tag_story.specs.ToldRun.{ToldSeen, source_seen, told_outcome}
use Rattle.simulation.specs.Parts.{IsChain, IsKnownValue, HasRegisters}
use Rattle.simulation.specs.Relation.{story_setting, SeenLike, SeenRelated}
use Rattle.step_simulation.specs.Following.{KeepsOthers, KeepsOthersOf, Follows}
use Rattle.step_simulation.proofs.RegisterImages.{IsSingle, register-set, pair-set, past-set}

-- the machine follows the source's outcome in this state
abbrev pub FollowsIn : MachineSetting → ToldSeen → MachineSeen → SourceOutcome → MachineOutcome → Type 0
FollowsIn setting t m outcome r = Follows setting t m.shared (told_outcome (story_setting setting) t outcome) r

-- ---- going on

-- the source goes on with these registers, and the machine with these numbers
abbrev pub source_moved : ToldSeen → List (Option Value) → ToldSeen
source_moved t values = record t { frame = record t.frame { registers = values; inst = t.frame.inst + 1 } }

abbrev pub machine_moved : MachineSeen → List ℕ → MachineSeen
machine_moved m numbers = record m { frame = record m.frame { registers = numbers; place = m.frame.place + 1 } }

pub same-function : (program : Module) (func : ℕ) (f g : Function) → slice_get program.functions func ≡ Some f → slice_get program.functions func ≡ Some g → f ≡ g
same-function program func f g h k = cc

-- the machine's frame is at its Source instruction, so that the next place is that of the next instruction
abbrev pub IsBeforeNext : MachineSetting → ToldSeen → MachineSeen → Function → Type 0
IsBeforeNext setting t m f =
    (slice_get setting.program.functions t.frame.func ≡ Some f) × (m.frame.place + 1 ≡ place_of setting.program f (t.frame.inst + 1))

-- the source goes on at another instruction, and the machine at its place
pub at-related : (setting : MachineSetting) (t : ToldSeen) (m : MachineSeen) (f : Function) (values : List (Option Value)) (inst : ℕ) (frame : Frame) → SeenLike setting t m → slice_get setting.program.functions t.frame.func ≡ Some f → length values ≡ length t.frame.registers → HasRegisters t.shared.story.births values frame.registers → frame.func ≡ m.frame.func → frame.chain ≡ m.frame.chain → frame.place ≡ place_of setting.program f inst → SeenRelated setting (record t { frame = record t.frame { registers = values; inst = inst } }) (record m { frame = frame })
at-related setting t m f values inst frame like there count has func chain place =
    record {
      like = record {
        shared = like.shared;
        task = like.task;
        frame = record {
          func = func ∙ like.frame.func;
          sized = λ g h. count ∙ like.frame.sized g h;
          variables = like.frame.variables;
          registers = has;
          chain = subst (λ n. IsChain m.shared.chains n t.frame.chain) (sym chain) like.frame.chain;
        };
        callers = like.callers;
        owned = like.owned;
        finished = like.finished;
        step = like.step;
        there = like.there;
        few = like.few;
        tables = like.tables;
        started = like.started;
      };
      place = λ g h. place ∙ ap (λ (k : Function). place_of setting.program k inst) (same-function setting.program t.frame.func f g there h);
    }

-- nothing changes for the other tasks
pub others-kept : (t : ToldSeen) (shared : MachineShared) → KeepsOthersOf t shared t.shared.story shared
others-kept t shared = record { chains = λ number chain h. h; places = λ o x h. h; frames = λ task other. refl }

-- one change after another
pub others-on : (acting : ℕ) (a b c : List ChainEntry) (u v w : Story) → KeepsOthers acting a u b v → KeepsOthers acting b v c w → KeepsOthers acting a u c w
others-on acting a b c u v w first second =
    record {
      chains = λ number chain h. second.chains number chain (first.chains number chain h);
      places = λ o x h. second.places o x (first.places o x h);
      frames = λ task other. second.frames task other ∙ first.frames task other;
    }

-- both go on at the next instruction
pub moved-related : (setting : MachineSetting) (t : ToldSeen) (m : MachineSeen) (f : Function) (values : List (Option Value)) (numbers : List ℕ) → SeenLike setting t m → IsBeforeNext setting t m f → length values ≡ length t.frame.registers → HasRegisters t.shared.story.births values numbers → SeenRelated setting (source_moved t values) (machine_moved m numbers)
moved-related setting t m f values numbers like before count has =
    at-related setting t m f values (t.frame.inst + 1) (record m.frame { registers = numbers; place = m.frame.place + 1 }) like before.0 count has refl refl before.1

-- nothing is given
pub goes_on-follows : (setting : MachineSetting) (t : ToldSeen) (m : MachineSeen) (f : Function) → SeenLike setting t m → IsBeforeNext setting t m f → FollowsIn setting t m (source.goes_on (source_seen t) nothing_happened) (machine.goes_on m)
unfolding all_told
goes_on-follows setting t m f like before =
    (machine_moved m m.frame.registers, refl, moved-related setting t m f t.frame.registers m.frame.registers like before refl like.frame.registers, others-kept t m.shared)

-- a result that isn't a pair
pub gives-follows : (setting : MachineSetting) (t : ToldSeen) (m : MachineSeen) (f : Function) (result : Option ℕ) (v : Value) (n : ℕ) → SeenLike setting t m → IsBeforeNext setting t m f → IsKnownValue t.shared.story.births v → IsSingle v → n ≡ value_image t.shared.story.births v → FollowsIn setting t m (source.gives (source_seen t) result v) (machine.gives m (result_register f result) n)
unfolding all_told
gives-follows setting t m f None v n like before known one image =
    let size = like.frame.sized f before.0 in (
      machine_moved m (slice_set m.frame.registers (registers_of f) n),
      refl,
      moved-related setting t m f t.frame.registers (slice_set m.frame.registers (registers_of f) n) like before refl
          (past-set t.shared.story.births t.frame.registers m.frame.registers (registers_of f) n (omega (arith, size)) like.frame.registers),
      others-kept t m.shared,
    )
gives-follows setting t m f (Some r) v n like before known one image = (
  machine_moved m (slice_set m.frame.registers (2 * r) n),
  refl,
  moved-related setting t m f (slice_set t.frame.registers r (Some v)) (slice_set m.frame.registers (2 * r) n) like before (length-set t.frame.registers r (Some v))
      (register-set t.shared.story.births t.frame.registers m.frame.registers r v n like.frame.registers known one image),
  others-kept t m.shared,
)

-- a pair
pub pair-follows : (setting : MachineSetting) (t : ToldSeen) (m : MachineSeen) (f : Function) (result : Option ℕ) (n : ℕ) (bit : Bool) → SeenLike setting t m → IsBeforeNext setting t m f → FollowsIn setting t m (source.gives (source_seen t) result (IntegerAndBit n (bit_of bit))) (machine.gives_pair m (result_register f result) n bit)
unfolding all_told
pair-follows setting t m f None n bit like before =
    let size = like.frame.sized f before.0 in
    let first = past-set t.shared.story.births t.frame.registers m.frame.registers (registers_of f) n (omega (arith, size)) like.frame.registers in (
      machine_moved m (slice_set (slice_set m.frame.registers (registers_of f) n) (registers_of f + 1) (bit_of bit)),
      refl,
      moved-related setting t m f t.frame.registers _ like before refl
          (past-set t.shared.story.births t.frame.registers (slice_set m.frame.registers (registers_of f) n) (registers_of f + 1) (bit_of bit) (omega (arith, size)) first),
      others-kept t m.shared,
    )
pair-follows setting t m f (Some r) n bit like before = (
  machine_moved m (slice_set (slice_set m.frame.registers (2 * r) n) (2 * r + 1) (bit_of bit)),
  refl,
  moved-related setting t m f (slice_set t.frame.registers r (Some (IntegerAndBit n (bit_of bit)))) _ like before (length-set t.frame.registers r _)
      (pair-set t.shared.story.births t.frame.registers m.frame.registers r n (bit_of bit) like.frame.registers),
  others-kept t m.shared,
)

-- ---- traps

-- the site of the source's instruction
abbrev pub own_site : ToldSeen → Site
own_site t = record { func = t.frame.func; inst = t.frame.inst }

pub traps-follows : (setting : MachineSetting) (t : ToldSeen) (m : MachineSeen) (trap : Trap) → SeenLike setting t m → FollowsIn setting t m (source.traps (source_seen t) trap) (machine.traps m (own_site t) trap)
unfolding all_told
traps-follows setting t m trap like = (
  (machine.chain_known m (own_site t)).shared,
  m.frame ∷ m.callers,
  machine.chain_at m (own_site t),
  ap (λ task. Ends (machine.chain_known m (own_site t)).shared (m.frame ∷ m.callers) [] (Rattle.ir_machine.specs.State.Trapped trap task (machine.chain_at m (own_site t)))) like.task,
  record {
    there = pushed-within m.shared.chains m.frame.chain (own_site t);
    sites = pushed-front m.shared.chains m.frame.chain (own_site t) like.shared.table like.frame.chain.there ∙ ap (λ chain. own_site t ∷ chain) like.frame.chain.sites;
  },
)

-- ---- operands

-- a number is the image of an operand's value, if it has one
abbrev pub IsNumberOf : List StoryBirth → (number : ℕ) → Option Value → Type 0
IsNumberOf births number value = (v : Value) → value ≡ Some v → (number ≡ value_image births v) × IsKnownValue births v

pub integer-follows : (setting : MachineSetting) (t : ToldSeen) (m : MachineSeen) (width : ℕ) (o : Option Value) (number : ℕ) (go : ℕ → SourceOutcome) (r : ℕ → MachineOutcome) → IsNumberOf t.shared.story.births number o → ((n : ℕ) → FollowsIn setting t m (go n) (r n)) → FollowsIn setting t m (with_integer width o go) (r (number % 2 ^ width))
unfolding with_integer
integer-follows setting t m width None number go r is follows = tt
integer-follows setting t m width (Some (Integer n)) number go r is follows =
    let same : n ≡ number = sym (is (Integer n) refl).0 in
    subst (λ k. FollowsIn setting t m (go (n % 2 ^ width)) (r (k % 2 ^ width))) same (follows (n % 2 ^ width))
integer-follows setting t m width (Some (Address base off)) number go r is follows = tt
integer-follows setting t m width (Some (IntegerAndBit n bit)) number go r is follows = tt

-- the same, where the machine takes the number later
pub integer-known : (setting : MachineSetting) (t : ToldSeen) (m : MachineSeen) (width : ℕ) (o : Option Value) (number : ℕ) (go : ℕ → SourceOutcome) (r : MachineOutcome) → IsNumberOf t.shared.story.births number o → ((n : ℕ) → n ≡ number % 2 ^ width → FollowsIn setting t m (go n) r) → FollowsIn setting t m (with_integer width o go) r
unfolding with_integer
integer-known setting t m width None number go r is follows = tt
integer-known setting t m width (Some (Integer n)) number go r is follows = follows (n % 2 ^ width) (ap (λ k. k % 2 ^ width) (sym (is (Integer n) refl).0))
integer-known setting t m width (Some (Address base off)) number go r is follows = tt
integer-known setting t m width (Some (IntegerAndBit n bit)) number go r is follows = tt

pub value-follows : (setting : MachineSetting) (t : ToldSeen) (m : MachineSeen) (o : Option Value) (number : ℕ) (go : Value → SourceOutcome) (r : MachineOutcome) → IsNumberOf t.shared.story.births number o → ((v : Value) → IsSingle v → IsKnownValue t.shared.story.births v → number ≡ value_image t.shared.story.births v → FollowsIn setting t m (go v) r) → FollowsIn setting t m (with_named (option_and_then single o) go) r
unfolding with_named
value-follows setting t m None number go r is follows = tt
value-follows setting t m (Some (Integer n)) number go r is follows = follows (Integer n) tt tt (is (Integer n) refl).0
value-follows setting t m (Some (Address base off)) number go r is follows =
    let image = is (Address base off) refl in follows (Address base off) tt image.1 image.0
value-follows setting t m (Some (IntegerAndBit n bit)) number go r is follows = tt

pub named-follows : {X : Type 0} (setting : MachineSetting) (t : ToldSeen) (m : MachineSeen) (o : Option X) (go : X → SourceOutcome) (r : MachineOutcome) → ((x : X) → o ≡ Some x → FollowsIn setting t m (go x) r) → FollowsIn setting t m (with_named o go) r
unfolding with_named
named-follows setting t m None go r follows = tt
named-follows setting t m (Some x) go r follows = follows x refl
