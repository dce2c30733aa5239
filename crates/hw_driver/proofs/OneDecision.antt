-- A command and a text come to one decision.
use Rattle.std.proofs.Common.{◌≡◌, ℕ, List, [], Some, None, inl, inr, sym, ◌∙◌, ap, subst}
use Rattle.hw_base.specs.declared.endings.Status.{Status}
use Rattle.hw_base.specs.AddressMap.{program_map}
use Rattle.hw_tags.specs.declared.options.Options.{Options}
use Rattle.hw_tags.specs.TaskRuns.{Spent, Ended, IsStuck}
use Rattle.hw_tags.specs.Word as words
use Rattle.ir_core.specs.declared.ir_module.Module.{Module}
use Rattle.ir_core.specs.declared.refusals.Refusal.{Refusal}
use Rattle.mi_code.specs.Instrumentation.{instrumented}
use Rattle.ir_accept.proofs.OneAnswer as accepting
use Rattle.built_rows.specs.Unbuilt.{unbuilt}
use Rattle.ir_machine.specs.Runs.{run_of, machine_run}
use Rattle.ir_machine.specs.State.{MachineWorld, MachineEnding, MachineRun, Exited, Trapped, Reported, IsFull}
use Rattle.hw_run.specs.RunEnds.{Shows, ShowsEnding, IsGathered}
use Rattle.hw_run.specs.declared.ends.Gathered.{Gathered}
use Rattle.hw_driver.specs.Line.{Line}
use Rattle.hw_driver.specs.Answer.{Decision, FileRead, Whole, TooLong, IsOptionsOf, IsRun, IsRefused, refused_decision, gathered_of, IsRunOf, JudgesText}

-- ---- what a run shows

one_show : (output : List ℕ) (status : Status) (text : List ℕ) (g h : Gathered) → Shows output status text g → Shows output status text h → g ≡ h
one_show output status text g h a b =
    λ i. record { output = (a.output_is ∙ sym b.output_is) i; status = (a.status_is ∙ sym b.status_is) i; text = (a.text_is ∙ sym b.text_is) i }

one_ending : (m : Module) (w : MachineWorld) (output : List ℕ) (ending : MachineEnding) (g h : Gathered) → ShowsEnding m w output ending g → ShowsEnding m w output ending h → g ≡ h
one_ending m w output (Exited n) g h a b = one_show _ _ _ g h a b
one_ending m w output (Trapped trap task chain) g h a b = one_show _ _ _ g h a b
one_ending m w output (Reported raw) g h a b = one_show _ _ _ g h a b
one_ending m w output (IsFull full) g h a b = one_show _ _ _ g h a b

one_gathered : (m : Module) (bound : ℕ) (run : MachineRun) (g h : Gathered) → IsGathered m bound run g → IsGathered m bound run h → g ≡ h
one_gathered m bound (Spent w pieces) g h a b = one_show _ _ _ g h a b
one_gathered m bound (Ended w pieces ending) g h a b = one_ending m w _ ending g h a b
one_gathered m bound IsStuck g h a b = absurd a

-- ---- decisions

by_gathered : (d e : Decision) → gathered_of d ≡ gathered_of e → d ≡ e
by_gathered d e h = λ i. record { status = (h i).status; output = (h i).output; text = (h i).text }

-- the options of a command make one run
one_run : (l : Line) (m : Module) (o p : Options) (input : List ℕ) → IsOptionsOf l o → IsOptionsOf l p → run_of m o input ≡ run_of m p input
one_run l m o p input a b =
    λ i. machine_run (record {
      places = program_map ((a.heap ∙ sym b.heap) i);
      program = m;
      code = instrumented m;
      word = words.word ((a.tags ∙ sym b.tags) i);
      ring = (a.ring ∙ sym b.ring) i;
      input = input;
    }) (words.word ((a.turns ∙ sym b.turns) i)) ((a.steps ∙ sym b.steps) i)

-- a module comes to one decision under a command
module_decision : (l : Line) (m : Module) (d e : Decision) → IsRunOf l m d → IsRunOf l m e → d ≡ e
module_decision l m d e r q =
    let steps : r.options.steps ≡ q.options.steps = r.options_right.steps ∙ sym q.options_right.steps in
    let run : run_of m r.options [] ≡ run_of m q.options [] = one_run l m r.options q.options [] r.options_right q.options_right in
    by_gathered d e (one_gathered m q.options.steps (run_of m q.options []) (gathered_of d) (gathered_of e)
    (subst (λ x. IsGathered m q.options.steps x (gathered_of d)) run (subst (λ n. IsGathered m n (run_of m r.options []) (gathered_of d)) steps (r.decision [])))
    (q.decision []))

none_or_some : (r : Refusal) → None ≡ Some r → ⊥
none_or_some r h = cc

one_some : (a b : Refusal) → Some a ≡ Some b → a ≡ b
one_some a b h = cc

one_run_module : (read : FileRead) (m n : Module) → IsRun read m → IsRun read n → m ≡ n
one_run_module (Whole text) m n a b = accepting.one_module text m n a.0 b.0
one_run_module TooLong m n a b = absurd a

never_both : (read : FileRead) (m : Module) (r : Refusal) → IsRun read m → IsRefused read r → ⊥
never_both (Whole text) m r a (inl faulty) = accepting.never_both text m r a.0 faulty
never_both (Whole text) m r a (inr u) = none_or_some r (sym a.1 ∙ (ap unbuilt (accepting.one_module text m u.0 a.0 u.1) ∙ u.2))
never_both TooLong m r a refused = absurd a

one_refusal : (read : FileRead) (a b : Refusal) → IsRefused read a → IsRefused read b → a ≡ b
one_refusal (Whole text) a b (inl h) (inl g) = accepting.one_fault text a b h g
one_refusal (Whole text) a b (inl h) (inr g) = absurd (accepting.never_both text g.0 a g.1 h)
one_refusal (Whole text) a b (inr h) (inl g) = absurd (accepting.never_both text h.0 b h.1 g)
one_refusal (Whole text) a b (inr h) (inr g) = one_some a b (sym h.2 ∙ (ap unbuilt (accepting.one_module text h.0 g.0 h.1 g.1) ∙ g.2))
one_refusal TooLong a b h g = h ∙ sym g

-- a command and a text come to one decision
pub one_decision : (l : Line) (read : FileRead) (d e : Decision) → JudgesText l read d → JudgesText l read e → d ≡ e
one_decision l read d e (inl r) (inl q) =
    module_decision l q.m d e (subst (λ x. IsRunOf l x d) (one_run_module read r.m q.m r.accepted q.accepted) r.run) q.run
one_decision l read d e (inl r) (inr q) = absurd (never_both read r.m q.refusal r.accepted q.refused)
one_decision l read d e (inr r) (inl q) = absurd (never_both read q.m r.refusal q.accepted r.refused)
one_decision l read d e (inr r) (inr q) = r.decision ∙ (ap refused_decision (one_refusal read r.refusal q.refusal r.refused q.refused) ∙ sym q.decision)
