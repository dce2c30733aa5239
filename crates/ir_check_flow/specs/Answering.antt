-- Which questions are open: some path leads to the block where the register is asked for, and none of the blocks on it before
-- is the one that defines it. Up to 128 questions are answered at once.
use Rattle.std.specs.Prelude.{◌≡◌, ℕ, ◌+◌, ◌<◌, ◌↔◌, List, [], ◌∷◌, length, slice_get, slice_index, slice_set, bit_or, ◌^◌, Bool, not, ◌==◌, Option, None, Some}
use Rattle.std.specs.Int.{bit_at}
use Rattle.ir_core.specs.declared.faults.Fault.TheVariants.{NotOnEveryPath}
use Rattle.ir_core.specs.declared.refusals.Refusal.{Refusal}
use Rattle.ir_check_types.specs.Order.{refusal_at, earlier, unless}
use Rattle.ir_check_flow.specs.declared.question.Question.{Question}
use Rattle.ir_check_flow.specs.Ways.{IsPath}
use Rattle.ir_check_flow.specs.Spreading.{HasBit}

-- none of the blocks is this one
abbrev pub NoneIs : (home : ℕ) → List ℕ → Type 0
NoneIs home [] = Unit {0}
NoneIs home (block ∷ blocks) = (home ≡ block → ⊥) × NoneIs home blocks

pub record IsOpenQuestion (ways : List (List ℕ)) (q : Question) : Type 0 where
  pub before : List ℕ
  pub path : IsPath ways q.at before
  pub none : NoneIs q.home before

-- the refusals for open questions
pub record IsOpenAmong (ways : List (List ℕ)) (questions : List Question) (refusal : Refusal) : Type 0 where
  pub number : ℕ
  pub question : Question
  pub there : slice_get questions number ≡ Some question
  pub refused : refusal ≡ refusal_at NotOnEveryPath question.place
  pub open_one : IsOpenQuestion ways question

-- each block has the questions whose registers it defines
pub record AreAnswered (count : ℕ) (questions : List Question) (answered : List ℕ) : Type 0 where
  pub same : length answered ≡ count
  pub home : (block k : ℕ) (q : Question) → block < count → slice_get questions k ≡ Some q → HasBit (slice_index answered block) k ↔ (q.home ≡ block)
  pub rest : (block k : ℕ) → length questions + k < 128 → bit_at (slice_index answered block) (length questions + k) ≡ 0

-- a question is marked in the block that answers it
abbrev pub marked : List ℕ → (k home : ℕ) → List ℕ
marked answered k home = slice_set answered home (bit_or (slice_index answered home) (2 ^ k))

-- the questions from number k on
abbrev pub all_marked : List ℕ → (k : ℕ) → List Question → List ℕ
all_marked answered k [] = answered
all_marked answered k (q ∷ questions) = all_marked (marked answered k q.home) (k + 1) questions

-- a question has come to its block
abbrev pub has_come : List ℕ → (k : ℕ) → Question → Bool
has_come reach k q = bit_at (slice_index reach q.at) k == 1

-- the first refusal for questions from number k on that have come
abbrev pub come_fault : List ℕ → (k : ℕ) → List Question → Option Refusal
come_fault reach k [] = None
come_fault reach k (q ∷ questions) = earlier (unless (not (has_come reach k q)) NotOnEveryPath q.place) (come_fault reach (k + 1) questions)
