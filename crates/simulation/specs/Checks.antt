-- What a check of the machine finds, beside what the story says of the same access or free.
use Rattle.std.specs.Prelude.{◌≡◌, Bool, true, false, Option, Some, None}
use Rattle.ir_machine.specs.declared.found.Found.{Found}
use Rattle.ir_machine.specs.declared.found.Found.TheVariants.{Memory, Block as OfBlock}
use Rattle.ir_meaning.specs.AccessRule.{AccessAnswer, Fine, Violates, WritesConstant, IsOutside, NoAnswer}
use Rattle.tag_story.specs.Judging.{refusing_by}
use Rattle.tag_story.specs.declared.judgement.Coincidence.{Coincidence}
use Rattle.tag_story.specs.declared.judgement.Judgement.{Judgement}
use Rattle.tag_story.specs.declared.judgement.Judgement.TheVariants.{Passes, Refused}
use Rattle.tag_story.specs.declared.judgement.Refusing.{Refusing}
use Rattle.tag_story.specs.declared.judgement.Refusing.TheVariants.{Block}

-- what a check finds is what the story says refuses the access
abbrev pub refusing_found : Found → Refusing
refusing_found (Memory mismatch) = refusing_by mismatch
refusing_found (OfBlock mismatch) = Block mismatch.block

-- it finds nothing if the story says that the access passes, and else just what the story says refuses it
abbrev pub FindsJudged : Judgement → Option Found → Type 0
FindsJudged (Passes coincidence) found = found ≡ None
FindsJudged (Refused refused) found = (one : Found) × ((found ≡ Some one) × (refusing_found one ≡ refused))

-- the story says that it passes
abbrev pub IsPassed : Judgement → Type 0
IsPassed judgement = (coincidence : Coincidence) × (judgement ≡ Passes coincidence)

-- what the access rule says lies within a living object: it is fine, or a write to a constant, which is a trap
abbrev pub lies_inside : AccessAnswer → Bool
lies_inside Fine = true
lies_inside WritesConstant = true
lies_inside (Violates kind) = false
lies_inside (IsOutside reason) = false
lies_inside NoAnswer = false
