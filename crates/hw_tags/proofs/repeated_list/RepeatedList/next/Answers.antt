use Rattle.std.proofs.Common.{◌≡◌, ◌+◌, length, sym, ap, ◌∙◌, arith}
use Rattle.hw_tags.specs.Word.{repeated}
use Rattle.hw_tags.proofs.WordLemmas.{repeated_within, repeated_again}
use Rattle.hw_tags.proofs.repeated_list.RepeatedList.next.Goals as goal
use Rattle.hw_tags.proofs.repeated_list.RepeatedList.next.Goals.{then-following-len, else-following-len}

pub returns-clause-first : goal.returns-clause-first
returns-clause-first c =
    rw c.as_slice.ensures (sym (repeated_within _ _ c.args.self.now.within))

pub returns-clause-rest : goal.returns-clause-rest
returns-clause-rest c k =
    elim c.if-following-len.branch [
      | then-following-len w ↦
          let here : c.if-following-len.self + k ≡ k = omega arith in
          let past : length c.args.self.now.list + k ≡ c.args.self.now.at + (k + 1) = omega arith in
          ap (repeated c.args.self.now.list) here ∙ sym (repeated_again c.args.self.now.list k)
          ∙ ap (repeated c.args.self.now.list) past
      | else-following-len w ↦
          let further : c.if-following-len.self + k ≡ c.args.self.now.at + (k + 1) = omega arith in
          ap (repeated c.args.self.now.list) further
    ]
