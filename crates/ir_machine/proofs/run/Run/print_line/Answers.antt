use Rattle.std.proofs.Common.{◌≡◌, ◌+◌, ◌++◌, ◌∷◌, [], List, ℕ, sym, ap, ◌∙◌, subst, Ok}
use Rattle.hw_tags.specs.TaskRuns.{Goes}
use Rattle.ir_lib.specs.Strings.{string_at}
use Rattle.ir_tasks.specs.Frames.{at_place}
use Rattle.tbi_memory.specs.AddressSpace.{AddressSpace}
use Rattle.ir_machine.specs.RunStates.{RunState, only_task, shared_of, with_frame}
use Rattle.ir_machine.specs.State.{MachineOutcome, MachineSeen}
use Rattle.ir_machine.specs.StepEnds.{advanced, prints, with_result}
use Rattle.ir_machine.proofs.run.Run.print_line.Goals as goal

pub returns : goal.returns
returns c bytes is =
    let inside = c.self.inside in
    let to = c.args.to in
    let before : MachineSeen = only_task (shared_of inside.memory inside.globals inside.heap.state inside.stacks inside.births inside.drawn inside.chains) inside.calls inside.step in
    let view : before ≡ c.args.self.now.seen = ap (λ (v : RunState). v.seen) c.self.view_is in
    let here : string_at inside.memory c.args.start ≡ Ok bytes = subst (λ (s : MachineSeen). string_at s.shared.memory c.args.start ≡ Ok bytes) (sym view) is in
    let set = c.set_result.new.self in
    let after = c.go_to.new.self in
    let text : c.push_string.new.out.items ≡ bytes = c.in-Ok.ensures.ok bytes here ∙ ap (λ (l : List ℕ). l ++ bytes) c.clear.ensures.items in
    let printed : after.printed ≡ bytes ++ 10 ∷ [] =
    ap (λ (v : RunState). v.printed) c.go_to.ensures
    ∙ (ap (λ (v : RunState). v.printed) c.set_result.ensures ∙ (c.in-Ok-push.ensures.items ∙ ap (λ (l : List ℕ). l ++ 10 ∷ []) text)) in
    let seen : after.seen ≡ advanced (with_result before to 0) =
    ap (λ (v : RunState). v.seen) c.go_to.ensures
    ∙ (ap (λ n. (with_frame set (at_place set.seen.frame (n + 1))).seen) c.place.ensures ∙ ap (λ (v : RunState). advanced v.seen) c.set_result.ensures) in
    ap (λ (s : MachineSeen). prints s to 0 (bytes ++ 10 ∷ [])) (sym view)
    ∙ (ap (λ (s : MachineSeen). Goes s (bytes ++ 10 ∷ [])) (sym seen) ∙ ap (Goes after.seen) (sym printed))
