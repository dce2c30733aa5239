-- Questions of instructions, from one to the next.
use Rattle.std.proofs.Common.{◌≡◌, ℕ, ◌+◌, ◌<◌, List, ◌∷◌, ◌++◌, length, drop, get_or, ap, sym, ◌∙◌, arith, add-one, append_assoc}
use Rattle.std.proofs.Math.Seq.{drop-cons}
use Rattle.ir_core.specs.declared.ir_module.Inst.{Inst}
use Rattle.ir_core.specs.declared.ir_module.Function.{Function}
use Rattle.ir_check_flow.specs.declared.home.Home.{Home}
use Rattle.ir_check_flow.specs.declared.question.Question.{Question}
use Rattle.ir_check_flow.specs.Questions.{inst_questions, questions_in}

pub next_of : {A : Type 0} (list : List A) (i : ℕ) (d : A) → i < length list → drop i list ≡ get_or list i d ∷ drop (i + 1) list
next_of list i d h = drop-cons list i d h ∙ ap (λ k. get_or list i d ∷ drop k list) (sym (add-one i))

pub more_asked : (f : Function) (homes : List Home) (b first : ℕ) (found more : List Question) (insts : List Inst) (i : ℕ) (inst : Inst) (x : List Question)
    → i < length insts → inst ≡ get_or insts i inst → more ≡ found ++ inst_questions f homes b (first + i) inst
    → found ++ questions_in f homes b (first + i) (drop i insts) ≡ x
    → more ++ questions_in f homes b (first + (i + 1)) (drop (i + 1) insts) ≡ x
more_asked f homes b first found more insts i inst x there at e h =
    let n : first + (i + 1) ≡ first + i + 1 = omega arith in
    let front : drop i insts ≡ inst ∷ drop (i + 1) insts = next_of insts i inst there ∙ ap (λ (it : Inst). it ∷ drop (i + 1) insts) (sym at) in
    ap (λ list. list ++ questions_in f homes b (first + (i + 1)) (drop (i + 1) insts)) e
    ∙ ap (λ k. (found ++ inst_questions f homes b (first + i) inst) ++ questions_in f homes b k (drop (i + 1) insts)) n
    ∙ append_assoc found (inst_questions f homes b (first + i) inst) (questions_in f homes b (first + i + 1) (drop (i + 1) insts))
    ∙ ap (λ list. found ++ questions_in f homes b (first + i) list) (sym front) ∙ h
