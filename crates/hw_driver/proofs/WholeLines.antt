-- Each closing text is a text of whole lines.
use Rattle.std.proofs.Common.{◌≡◌, ℕ, ◌+◌, ◌-◌, ◌<◌, List, [], ◌∷◌, ◌++◌, length, get_or, Some, None, refl, sym, ◌∙◌, ap, subst, inl, inr, arith, length-append, append-nil, append_assoc}
use Rattle.std.specs.Prelude.{Option, codes}
use Rattle.std.specs.Fmt.{decimal}
use Rattle.std.proofs.lemmas.List.{get_or-append-add}
use Rattle.std.specs.Int.{w32, cast_signed}
use Rattle.hw_base.specs.declared.pointers.Site.{Site}
use Rattle.hw_tags.specs.TaskRuns.{Spent, Ended, IsStuck}
use Rattle.hw_shadow.specs.declared.mismatch.Mismatch.{Mismatch}
use Rattle.hw_shadow.specs.declared.mismatch.Mismatch.TheVariants.{Unmapped, Tags}
use Rattle.dbg_sites.specs.ChainTable.{ChainEntry, chain_of}
use Rattle.ir_core.specs.declared.ir_module.Module.{Module}
use Rattle.ir_core.specs.declared.refusals.Refusal.{Refusal}
use Rattle.ir_machine.specs.Runs.{run_of}
use Rattle.ir_machine.specs.State.{MachineRun, Exited, Trapped, Reported, IsFull}
use Rattle.ir_machine.specs.declared.found.Found.{Found}
use Rattle.ir_machine.specs.declared.found.Found.TheVariants.{Memory as InMemory, Block as OfBlock}
use Rattle.ir_machine.specs.declared.found.Raw.{Raw}
use Rattle.hw_report.specs.ReportText.{hexadecimal, access_line, pointer_text, memory_text, end_text, granule_text, unmapped_line, mismatch_line, block_line, found_line, report_lines}
use Rattle.hw_report.specs.Sites.{function_name, site_line, chain_lines}
use Rattle.hw_run.specs.Closing.{step_text, exit_text, trap_text, spent_line, asked_text, living_text}
use Rattle.hw_run.specs.RunEnds.{IsGathered}
use Rattle.hw_run.specs.declared.ends.Gathered.{Gathered}
use Rattle.ir_core.specs.Faults.{fault_number, fault_name}
use Rattle.ir_core.specs.Refusals.{refused_line}
use Rattle.hw_driver.specs.Line.{Line}
use Rattle.hw_driver.specs.Closing.{usage_line, file_fault_line, memory_line}
use Rattle.hw_driver.specs.Answer.{Decision, FilesChange, FileRead, JudgesText, file_read, file_failed, memory_failed, Decides, gathered_of}
use Rattle.hw_driver.specs.Lines.{EndsAtLf}

-- a text whose last byte is LF
record Ends (text : List ℕ) : Type 0 where
  some : 0 < length text
  last : get_or text (length text - 1) 0 ≡ 10

Ends-after : (front text : List ℕ) → Ends text → Ends (front ++ text)
Ends-after front text e = record {
  some = omega (arith, size, e.some);
  last = ap (λ (k : ℕ). get_or (front ++ text) k 0) place ∙ get_or-append-add front text (length text - 1) 0 ∙ e.last;
}
  where
    size : length (front ++ text) ≡ length front + length text
    size = length-append front text

    place : length (front ++ text) - 1 ≡ length front + (length text - 1)
    place = omega (arith, size, e.some)

Ends-lf : (front : List ℕ) → Ends (front ++ 10 ∷ [])
Ends-lf front = Ends-after front (10 ∷ []) (record { some = omega arith; last = refl })

refused_ends : (r : Refusal) → Ends (refused_line r)
refused_ends r =
    Ends-lf (codes "refused: " ++ decimal (fault_number r.fault) ++ codes " " ++ fault_name r.fault ++ codes " at " ++ decimal r.line ++ codes ":" ++ decimal r.column)

-- ---- the closing texts of runs

at_lf : (text : List ℕ) → Ends text → EndsAtLf text
at_lf text e = λ some. e.last

is_at_lf : (text other : List ℕ) → text ≡ other → EndsAtLf other → EndsAtLf text
is_at_lf text other e h = subst EndsAtLf (sym e) h

step_ends : (step : ℕ) → Ends (step_text step)
unfolding step_text
step_ends step = Ends-lf (codes ", step " ++ decimal step)

spent_ends : (bound : ℕ) → Ends (spent_line bound)
unfolding spent_line
spent_ends bound = Ends-lf (codes "spent: step " ++ decimal bound)

site_ends : (m : Module) (site : Site) → Ends (site_line m site)
site_ends m site = Ends-after (codes "  at " ++ function_name m site.func) (codes " ?\n") (record { some = omega arith; last = refl })

chain_ends : (m : Module) (front : List ℕ) (sites : List Site) → Ends front → Ends (front ++ chain_lines m sites)
chain_ends m front [] e = subst Ends (sym (append-nil front)) e
chain_ends m front (site ∷ sites) e =
    subst Ends (append_assoc front (site_line m site) (chain_lines m sites)) (chain_ends m (front ++ site_line m site) sites (Ends-after front (site_line m site) (site_ends m site)))

-- ---- what was found

unmapped_ends : (address : ℕ) → Ends (unmapped_line address)
unfolding unmapped_line
unmapped_ends address = Ends-lf (codes "unmapped: " ++ hexadecimal 16 address)

granule_ends : (granule : ℕ) → Ends (granule_text granule)
unfolding granule_text
granule_ends granule = Ends-lf (codes ", granule " ++ hexadecimal 16 granule)

mismatch_ends : (found : Mismatch) → Ends (mismatch_line found)
mismatch_ends (Unmapped address) = unmapped_ends address
mismatch_ends (Tags granule pointer memory last end) =
    Ends-after (pointer_text pointer ++ memory_text memory ++ end_text last end) (granule_text granule) (granule_ends granule)

block_ends : (block : Option ℕ) → Ends (block_line block)
unfolding block_line
block_ends None = record { some = omega arith; last = refl }
block_ends (Some tag) = Ends-lf (codes "block: tag " ++ hexadecimal 2 tag)

found_ends : (found : Found) → Ends (found_line found)
found_ends (InMemory mismatch) = mismatch_ends mismatch
found_ends (OfBlock mismatch) = block_ends mismatch.block

report_ends : (m : Module) (chains : List ChainEntry) (raw : Raw) → Ends (report_lines m chains raw)
report_ends m chains raw =
    Ends-after (access_line raw.access raw.size raw.number raw.task raw.step ++ chain_lines m (chain_of chains raw.chain)) (found_line raw.found) (found_ends raw.found)

gathered_ends : (m : Module) (bound : ℕ) (r : MachineRun) (g : Gathered) → IsGathered m bound r g → EndsAtLf g.text
gathered_ends m bound (Spent w pieces) g h = is_at_lf g.text _ h.text_is (at_lf _ (spent_ends bound))
gathered_ends m bound (Ended w pieces (Exited n)) g h =
    is_at_lf g.text _ h.text_is (at_lf _ (Ends-after (exit_text (cast_signed w32 n)) (step_text w.steps) (step_ends w.steps)))
gathered_ends m bound (Ended w pieces (Trapped trap task chain)) g h =
    is_at_lf g.text _ h.text_is (at_lf _ (chain_ends m (trap_text trap task ++ step_text w.steps) (chain_of w.shared.chains chain)
    (Ends-after (trap_text trap task) (step_text w.steps) (step_ends w.steps))))
gathered_ends m bound (Ended w pieces (Reported raw)) g h = is_at_lf g.text _ h.text_is (at_lf _ (report_ends m w.shared.chains raw))
gathered_ends m bound (Ended w pieces (IsFull full)) g h =
    is_at_lf g.text _ h.text_is (at_lf _ (Ends-after (asked_text full.space full.asked ++ living_text full.living) (step_text w.steps) (step_ends w.steps)))
gathered_ends m bound IsStuck g h = absurd h

text_ends : (l : Line) (read : FileRead) (d : Decision) → JudgesText l read d → EndsAtLf d.text
text_ends l read d (inl r) = gathered_ends r.m r.run.options.steps (run_of r.m r.run.options []) (gathered_of d) (r.run.decision [])
text_ends l read d (inr r) = subst (λ (x : Decision). EndsAtLf x.text) (sym r.decision) (at_lf (refused_line r.refusal) (refused_ends r.refusal))

usage_ends : Ends usage_line
usage_ends = record { some = omega arith; last = refl }

file_fault_ends : Ends file_fault_line
file_fault_ends = record { some = omega arith; last = refl }

memory_ends : Ends memory_line
memory_ends = record { some = omega arith; last = refl }

pub Decides-lines : (words : Option Line) (files : FilesChange) (d : Decision) → Decides files words d → EndsAtLf d.text
Decides-lines None files d decided = subst (λ (x : Decision). EndsAtLf x.text) (sym decided.2) (at_lf usage_line usage_ends)
Decides-lines (Some l) files d (file_read j) = text_ends l j.read d j.text
Decides-lines (Some l) files d (file_failed once grown is) = subst (λ (x : Decision). EndsAtLf x.text) (sym is) (at_lf file_fault_line file_fault_ends)
Decides-lines (Some l) files d (memory_failed reads same is) = subst (λ (x : Decision). EndsAtLf x.text) (sym is) (at_lf memory_line memory_ends)
