use Rattle.std.proofs.Common.{subst}
use Rattle.step_simulation.proofs.StringsFollow as strings
use Rattle.step_simulation.proofs.StringsFollow.{string-checked}
use Rattle.ir_lib.specs.Strings.{checked_string}
use Rattle.tag_story.specs.Story.{number_of}
use Rattle.step_simulation.proofs.laws.strings_are_found.Goals as goal

pub returns-clause-whole : goal.returns-clause-whole
returns-clause-whole c setting t m base off bytes is related small same =
    subst (λ answer. strings.FindsString setting t m is related.like base answer (checked_string m.shared.memory (number_of t.shared.story.births base off))) same
    (string-checked setting t m is related.like base off small)

pub returns-clause-refused : goal.returns-clause-refused
returns-clause-refused c setting t m base off at kind refused is related small same judged =
    let number = number_of t.shared.story.births base at in
    let r = checked_string m.shared.memory (number_of t.shared.story.births base off) in
    subst (λ judgement. strings.FindsByte setting t m is related.like number judgement r) judged
    (subst (λ answer. strings.FindsString setting t m is related.like base answer r) same (string-checked setting t m is related.like base off small))
