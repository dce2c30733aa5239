use Rattle.std.proofs.Common.{ℕ, ◌≡◌, ◌+◌, ◌%◌, ◌^◌, sym, ap, ◌∙◌, arith}
use Rattle.rand_pcg.specs.Lcg.{Lcg}
use Rattle.hw_tags.specs.Word.{repeated, generated}
use Rattle.hw_tags.proofs.WordLemmas.{generated_zero, generated_step}
use Rattle.hw_tags.proofs.words.Source.next.Goals as goal

pub returns-in-Repeated-clause-first : goal.returns-in-Repeated-clause-first
returns-in-Repeated-clause-first c =
    let here : c.in-Repeated.list.at ≡ c.in-Repeated.list.at + 0 = omega arith in
    rw c.in-Repeated.is (c.next.ensures.first ∙ ap (repeated c.in-Repeated.list.list) here)

pub returns-in-Repeated-clause-rest : goal.returns-in-Repeated-clause-rest
returns-in-Repeated-clause-rest c k = rw c.in-Repeated.is (c.next.ensures.rest k)

pub returns-in-Generated-clause-first : goal.returns-in-Generated-clause-first
returns-in-Generated-clause-first c =
    rw c.in-Generated.is
    (c.low_byte.ensures ∙ ap (λ (s : ℕ × Lcg). s.0 % 2 ^ 8) c.next_word.ensures
    ∙ sym (generated_zero c.in-Generated.generator))

pub returns-in-Generated-clause-rest : goal.returns-in-Generated-clause-rest
returns-in-Generated-clause-rest c k =
    rw c.in-Generated.is
    (ap (λ (s : ℕ × Lcg). generated s.1 k) c.next_word.ensures ∙ generated_step c.in-Generated.generator k)
