-- What comes along paths: questions by number, of which each is answered in some blocks. A question is open at a block if some
-- path leads there on which no block answers it. Sets of up to 128 questions are numbers, a bit a question.
use Rattle.std.specs.Prelude.{◌≡◌, ℕ, ◌+◌, ◌-◌, ◌^◌, ◌<◌, ◌≤◌, ◌⊎◌, ◌↔◌, List, [], ◌∷◌, map, length, slice_index, sum_by, bit_and}
use Rattle.std.specs.Global.{Vec}
use Rattle.std.specs.List.{All, Contains}
use Rattle.std.specs.Int.{bit_at}
use Rattle.ir_check_flow.specs.Ways.{IsPath, Leads}

-- the set has this question
abbrev pub HasBit : (set question : ℕ) → Type 0
HasBit set question = bit_at set question ≡ 1

-- the questions of a set that aren't in another
abbrev pub without : (set other : ℕ) → ℕ
without set other = bit_and set (2 ^ 128 - 1 - other)

-- none of the blocks answers the question
abbrev pub NoneAnswers : (answered : List ℕ) → (question : ℕ) → List ℕ → Type 0
NoneAnswers answered question [] = Unit {0}
NoneAnswers answered question (block ∷ blocks) = (bit_at (slice_index answered block) question ≡ 0) × NoneAnswers answered question blocks

-- some path leads to the block, and no block on it before answers the question
pub record IsOpen (ways : List (List ℕ)) (answered : List ℕ) (question block : ℕ) : Type 0 where
  pub before : List ℕ
  pub path : IsPath ways block before
  pub unanswered : NoneAnswers answered question before

-- at each block the open ones among the questions
abbrev pub AreOpen : (ways : List (List ℕ)) → (answered : List ℕ) → (asked : ℕ) → (reach : List ℕ) → Type 0
AreOpen ways answered asked reach =
    (block question : ℕ) → question < 128 → HasBit (slice_index reach block) question ↔ (HasBit asked question × IsOpen ways answered question block)

-- how many questions have not come to blocks, weighed: a number that falls whenever one comes to one more block
abbrev pub room_left : List ℕ → ℕ
room_left reach = sum_by (λ (set : ℕ). 2 ^ 128 - set) reach

-- what came to a block becomes part of what is there
pub record IsReached (to bits : ℕ) (reach work reached working : List ℕ) : Type 0 where
  pub same : length reached ≡ length reach
  pub grows : (block question : ℕ) → HasBit (slice_index reach block) question → HasBit (slice_index reached block) question
  pub comes : (question : ℕ) → HasBit bits question → HasBit (slice_index reached to) question
  pub only : (block question : ℕ) → HasBit (slice_index reached block) question
      → HasBit (slice_index reach block) question ⊎ ((block ≡ to) × HasBit bits question)
  pub kept : (block : ℕ) → Contains work block → Contains working block
  pub pending : (block : ℕ) → (slice_index reached block ≡ slice_index reach block) ⊎ Contains working block
  pub inside : (count : ℕ) → to < count → All (λ block. block < count) work → All (λ block. block < count) working
  pub room : room_left reached + length working ≤ room_left reach + length work

-- the same for several blocks
pub record AreReached (targets : List ℕ) (bits : ℕ) (reach work reached working : List ℕ) : Type 0 where
  pub same : length reached ≡ length reach
  pub grows : (block question : ℕ) → HasBit (slice_index reach block) question → HasBit (slice_index reached block) question
  pub comes : (to question : ℕ) → Contains targets to → HasBit bits question → HasBit (slice_index reached to) question
  pub only : (block question : ℕ) → HasBit (slice_index reached block) question
      → HasBit (slice_index reach block) question ⊎ (Contains targets block × HasBit bits question)
  pub kept : (block : ℕ) → Contains work block → Contains working block
  pub pending : (block : ℕ) → (slice_index reached block ≡ slice_index reach block) ⊎ Contains working block
  pub inside : (count : ℕ) → All (λ block. block < count) targets → All (λ block. block < count) work → All (λ block. block < count) working
  pub room : room_left reached + length working ≤ room_left reach + length work

-- what is open at a block and isn't answered there has come to the blocks that it leads to
abbrev pub IsPassedOn : (ways : List (List ℕ)) → (answered reach : List ℕ) → (from : ℕ) → Type 0
IsPassedOn ways answered reach from =
    (to question : ℕ) → question < 128 → Leads ways from to → HasBit (slice_index reach from) question
    → bit_at (slice_index answered from) question ≡ 0 → HasBit (slice_index reach to) question

-- while questions spread: what has come is open, and what has not been passed on yet is work to do
pub record IsSpreading (ways : List (List ℕ)) (answered : List ℕ) (asked : ℕ) (reach work : List ℕ) : Type 0 where
  pub same : length reach ≡ length ways
  pub start : (question : ℕ) → HasBit asked question → HasBit (slice_index reach 0) question
  pub sound : (block question : ℕ) → question < 128 → HasBit (slice_index reach block) question
      → HasBit asked question × IsOpen ways answered question block
  pub done : (block : ℕ) → Contains work block ⊎ IsPassedOn ways answered reach block
  pub inside : All (λ block. block < length ways) work

-- each block that another leads to is there
abbrev pub AreWays : (count : ℕ) → List (List ℕ) → Type 0
AreWays count ways = All (λ targets. All (λ to. to < count) targets) ways

-- lists of lists
abbrev pub lists_of : List (Vec ℕ) → List (List ℕ)
lists_of lists = map (λ (list : Vec ℕ). list.items) lists
