use Rattle.std.proofs.Common.{◌≡◌, ◌+◌, ◌<◌, ◌≤◌, length, sym, ap, ◌∙◌, subst, List, arith}
use Rattle.hw_holes.specs.FreeRanges.{AreApart, HolesState, IsNotFree, first_reaching, given}
use Rattle.hw_holes.specs.declared.ranges.FreeRange.{FreeRange}
use Rattle.hw_holes.proofs.RangeLemmas.{first_reaching-at, given-before-at, given-new-at, AreApart-given}
use Rattle.hw_holes.proofs.holes.Holes.give.Goals as goal
use Rattle.hw_holes.proofs.holes.Holes.give.Goals.{else-place-len-via-then-place-len+else-index-at, else-place-len-via-else-place-len}

given_before : (c : goal.After-put_joined) → c.put_joined.new.ranges.items ≡ given c.args.at c.args.size c.self.inside.ranges.items
given_before c =
    let first = c.first_reaching-place.ensures ∙ ap (λ (l : List FreeRange). first_reaching c.args.at l) c.deref.ensures.value in
    let within : c.first_reaching-place.result < length c.self.inside.ranges.items = omega arith in
    c.put_joined.ensures.items ∙ given-before-at c.args.at c.args.size c.self.inside.ranges.items c.remove-before.new.self.items c.first_reaching-place.result c.remove-before.result c.index.result.now
    first within c.remove-before.ensures.value c.index.ensures c.if-index-at.true c.remove-before.ensures.items

given_new : (c : goal.After-put_joined-else-place-len) → c.put_joined-else-place-len.new.ranges.items ≡ given c.args.at c.args.size c.self.inside.ranges.items
given_new c =
    let first = c.first_reaching-place.ensures ∙ ap (λ (l : List FreeRange). first_reaching c.args.at l) c.deref.ensures.value in
    let len : c.len.result ≡ length c.self.inside.ranges.items = omega arith in
    elim c.else-place-len.branch [
      | else-place-len-via-then-place-len+else-index-at w ↦
          let read = w.index.ensures in
          let apart = w.if-index-at.false in
          c.put_joined-else-place-len.ensures.items ∙ given-new-at c.args.at c.args.size c.self.inside.ranges.items c.first_reaching-place.result w.index.result.now first
          (λ _ touch. apart (ap (λ (r : FreeRange). r.to) read ∙ touch))
      | else-place-len-via-else-place-len w ↦
          let past = w.if-place-len.false in
          c.put_joined-else-place-len.ensures.items ∙ given-new-at c.args.at c.args.size c.self.inside.ranges.items c.first_reaching-place.result (record { from = 0; to = 0 }) first
          (λ within. absurd (omega (arith, within, past, len)))
    ]

pub invariant_of-self : goal.invariant_of-self
invariant_of-self c =
    let low_ = ap (λ (s : HolesState). s.low) c.self.view_is in
    let high_ = ap (λ (s : HolesState). s.high) c.self.view_is in
    let above_low = c.requires.above_low in
    let below_high = c.requires.below_high in
    let above : c.self.inside.low ≤ c.args.at = omega (arith, low_, above_low) in
    let below : c.args.at + c.args.size ≤ c.self.inside.high = omega (arith, high_, below_high) in
    let free = subst (λ (s : HolesState). IsNotFree c.args.at c.args.size s.ranges) (sym c.self.view_is) c.requires.not_free in
    subst (λ (l : List FreeRange). AreApart c.self.inside.low c.self.inside.high l) (sym (given_before c))
    (AreApart-given c.args.at c.args.size c.self.inside.low c.self.inside.high c.self.inside.ranges.items c.requires.not_empty c.requires.at_in_steps c.requires.size_in_steps above below free c.self.invariant)

pub returns-then-index-at-clause-ranges : goal.returns-then-index-at-clause-ranges
returns-then-index-at-clause-ranges c = given_before c ∙ ap (λ (s : HolesState). given c.args.at c.args.size s.ranges) c.self.view_is

pub put_joined-requires-else-place-len-clause-within :
    goal.put_joined-requires-else-place-len-clause-within
put_joined-requires-else-place-len-clause-within c =
    let first = c.first_reaching-place.ensures ∙ ap (λ (l : List FreeRange). first_reaching c.args.at l) c.deref.ensures.value in
    let within = first_reaching-at c.args.at c.self.inside.ranges.items c.first_reaching-place.result first in
    omega arith

pub invariant_of-self-else-place-len : goal.invariant_of-self-else-place-len
invariant_of-self-else-place-len c =
    let low_ = ap (λ (s : HolesState). s.low) c.self.view_is in
    let high_ = ap (λ (s : HolesState). s.high) c.self.view_is in
    let above_low = c.requires.above_low in
    let below_high = c.requires.below_high in
    let above : c.self.inside.low ≤ c.args.at = omega (arith, low_, above_low) in
    let below : c.args.at + c.args.size ≤ c.self.inside.high = omega (arith, high_, below_high) in
    let free = subst (λ (s : HolesState). IsNotFree c.args.at c.args.size s.ranges) (sym c.self.view_is) c.requires.not_free in
    subst (λ (l : List FreeRange). AreApart c.self.inside.low c.self.inside.high l) (sym (given_new c))
    (AreApart-given c.args.at c.args.size c.self.inside.low c.self.inside.high c.self.inside.ranges.items c.requires.not_empty c.requires.at_in_steps c.requires.size_in_steps above below free c.self.invariant)

pub returns-else-place-len-clause-ranges : goal.returns-else-place-len-clause-ranges
returns-else-place-len-clause-ranges c = given_new c ∙ ap (λ (s : HolesState). given c.args.at c.args.size s.ranges) c.self.view_is
