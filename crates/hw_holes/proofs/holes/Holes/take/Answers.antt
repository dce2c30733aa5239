use Rattle.std.proofs.Common.{◌≡◌, length, sym, ap, ◌∙◌, subst, List, arith}
use Rattle.hw_holes.specs.FreeRanges.{AreApart, HolesState, first_fit, place_for, taken}
use Rattle.hw_holes.specs.declared.ranges.FreeRange.{FreeRange}
use Rattle.hw_holes.proofs.RangeLemmas.{first_fit-below, first_fit-none, taken-at-place, AreApart-taken}
use Rattle.hw_holes.proofs.holes.Holes.take.Goals as goal

pub returns-then-place-len-clause-place : goal.returns-then-place-len-clause-place
returns-then-place-len-clause-place c =
    let first = c.first_fit-place.ensures ∙ ap (λ (l : List FreeRange). first_fit c.args.size l) c.deref.ensures.value in
    let len : c.len.result ≡ length c.self.inside.ranges.items = omega arith in
    let none = first_fit-none c.args.size c.self.inside.ranges.items (sym first ∙ c.if-place-len.true ∙ len) in
    sym none.0 ∙ ap (λ (s : HolesState). place_for c.args.size s.ranges) c.self.view_is

pub returns-then-place-len-clause-ranges : goal.returns-then-place-len-clause-ranges
returns-then-place-len-clause-ranges c =
    let first = c.first_fit-place.ensures ∙ ap (λ (l : List FreeRange). first_fit c.args.size l) c.deref.ensures.value in
    let len : c.len.result ≡ length c.self.inside.ranges.items = omega arith in
    let none = first_fit-none c.args.size c.self.inside.ranges.items (sym first ∙ c.if-place-len.true ∙ len) in
    ap (λ (s : HolesState). s.ranges) (sym c.self.view_is) ∙ sym none.1 ∙ ap (λ (s : HolesState). taken c.args.size s.ranges) c.self.view_is

pub index-range-requires : goal.index-range-requires
index-range-requires c =
    let first = c.first_fit-place.ensures ∙ ap (λ (l : List FreeRange). first_fit c.args.size l) c.deref.ensures.value in
    let len : c.len.result ≡ length c.self.inside.ranges.items = omega arith in
    let within = first_fit-below c.args.size c.self.inside.ranges.items c.first_fit-place.result first (λ all_. c.if-place-len.false (all_ ∙ sym len)) in
    omega arith

pub overflow_add-rest : goal.overflow_add-rest
overflow_add-rest c =
    let first = c.first_fit-place.ensures ∙ ap (λ (l : List FreeRange). first_fit c.args.size l) c.deref.ensures.value in
    let len : c.len.result ≡ length c.self.inside.ranges.items = omega arith in
    let within = first_fit-below c.args.size c.self.inside.ranges.items c.first_fit-place.result first (λ all_. c.if-place-len.false (all_ ∙ sym len)) in
    let at_ = taken-at-place c.args.size c.self.inside.ranges.items c.first_fit-place.result c.index-range.result.now first within c.index-range.ensures in
    let fit = at_.fit in
    omega (arith, fit)

pub remove-requires : goal.remove-requires
remove-requires c =
    let first = c.first_fit-place.ensures ∙ ap (λ (l : List FreeRange). first_fit c.args.size l) c.deref.ensures.value in
    let len : c.len.result ≡ length c.self.inside.ranges.items = omega arith in
    let within = first_fit-below c.args.size c.self.inside.ranges.items c.first_fit-place.result first (λ all_. c.if-place-len.false (all_ ∙ sym len)) in
    omega arith

pub index_mut-requires : goal.index_mut-requires
index_mut-requires c =
    let first = c.first_fit-place.ensures ∙ ap (λ (l : List FreeRange). first_fit c.args.size l) c.deref.ensures.value in
    let len : c.len.result ≡ length c.self.inside.ranges.items = omega arith in
    let within = first_fit-below c.args.size c.self.inside.ranges.items c.first_fit-place.result first (λ all_. c.if-place-len.false (all_ ∙ sym len)) in
    omega arith

pub invariant_of-self : goal.invariant_of-self
invariant_of-self c =
    let first = c.first_fit-place.ensures ∙ ap (λ (l : List FreeRange). first_fit c.args.size l) c.deref.ensures.value in
    let len : c.len.result ≡ length c.self.inside.ranges.items = omega arith in
    let within = first_fit-below c.args.size c.self.inside.ranges.items c.first_fit-place.result first (λ all_. c.if-place-len.false (all_ ∙ sym len)) in
    let at_ = taken-at-place c.args.size c.self.inside.ranges.items c.first_fit-place.result c.index-range.result.now first within c.index-range.ensures in
    subst (λ (l : List FreeRange). AreApart c.self.inside.low c.self.inside.high l) (at_.whole c.if-rest-range.true ∙ sym c.remove.ensures.items)
    (AreApart-taken c.args.size c.self.inside.low c.self.inside.high c.self.inside.ranges.items c.requires.not_empty c.requires.in_steps c.self.invariant)

pub invariant_of-self-else-rest-range : goal.invariant_of-self-else-rest-range
invariant_of-self-else-rest-range c =
    let first = c.first_fit-place.ensures ∙ ap (λ (l : List FreeRange). first_fit c.args.size l) c.deref.ensures.value in
    let len : c.len.result ≡ length c.self.inside.ranges.items = omega arith in
    let within = first_fit-below c.args.size c.self.inside.ranges.items c.first_fit-place.result first (λ all_. c.if-place-len.false (all_ ∙ sym len)) in
    let at_ = taken-at-place c.args.size c.self.inside.ranges.items c.first_fit-place.result c.index-range.result.now first within c.index-range.ensures in
    subst (λ (l : List FreeRange). AreApart c.self.inside.low c.self.inside.high l) (at_.part c.if-rest-range.false)
    (AreApart-taken c.args.size c.self.inside.low c.self.inside.high c.self.inside.ranges.items c.requires.not_empty c.requires.in_steps c.self.invariant)

pub returns-then-rest-range-clause-place : goal.returns-then-rest-range-clause-place
returns-then-rest-range-clause-place c =
    let first = c.first_fit-place.ensures ∙ ap (λ (l : List FreeRange). first_fit c.args.size l) c.deref.ensures.value in
    let len : c.len.result ≡ length c.self.inside.ranges.items = omega arith in
    let within = first_fit-below c.args.size c.self.inside.ranges.items c.first_fit-place.result first (λ all_. c.if-place-len.false (all_ ∙ sym len)) in
    let at_ = taken-at-place c.args.size c.self.inside.ranges.items c.first_fit-place.result c.index-range.result.now first within c.index-range.ensures in
    sym at_.found ∙ ap (λ (s : HolesState). place_for c.args.size s.ranges) c.self.view_is

pub returns-then-rest-range-clause-ranges : goal.returns-then-rest-range-clause-ranges
returns-then-rest-range-clause-ranges c =
    let first = c.first_fit-place.ensures ∙ ap (λ (l : List FreeRange). first_fit c.args.size l) c.deref.ensures.value in
    let len : c.len.result ≡ length c.self.inside.ranges.items = omega arith in
    let within = first_fit-below c.args.size c.self.inside.ranges.items c.first_fit-place.result first (λ all_. c.if-place-len.false (all_ ∙ sym len)) in
    let at_ = taken-at-place c.args.size c.self.inside.ranges.items c.first_fit-place.result c.index-range.result.now first within c.index-range.ensures in
    c.remove.ensures.items ∙ sym (at_.whole c.if-rest-range.true) ∙ ap (λ (s : HolesState). taken c.args.size s.ranges) c.self.view_is

pub returns-else-rest-range-clause-place : goal.returns-else-rest-range-clause-place
returns-else-rest-range-clause-place c =
    let first = c.first_fit-place.ensures ∙ ap (λ (l : List FreeRange). first_fit c.args.size l) c.deref.ensures.value in
    let len : c.len.result ≡ length c.self.inside.ranges.items = omega arith in
    let within = first_fit-below c.args.size c.self.inside.ranges.items c.first_fit-place.result first (λ all_. c.if-place-len.false (all_ ∙ sym len)) in
    let at_ = taken-at-place c.args.size c.self.inside.ranges.items c.first_fit-place.result c.index-range.result.now first within c.index-range.ensures in
    sym at_.found ∙ ap (λ (s : HolesState). place_for c.args.size s.ranges) c.self.view_is

pub returns-else-rest-range-clause-ranges : goal.returns-else-rest-range-clause-ranges
returns-else-rest-range-clause-ranges c =
    let first = c.first_fit-place.ensures ∙ ap (λ (l : List FreeRange). first_fit c.args.size l) c.deref.ensures.value in
    let len : c.len.result ≡ length c.self.inside.ranges.items = omega arith in
    let within = first_fit-below c.args.size c.self.inside.ranges.items c.first_fit-place.result first (λ all_. c.if-place-len.false (all_ ∙ sym len)) in
    let at_ = taken-at-place c.args.size c.self.inside.ranges.items c.first_fit-place.result c.index-range.result.now first within c.index-range.ensures in
    sym (at_.part c.if-rest-range.false) ∙ ap (λ (s : HolesState). taken c.args.size s.ranges) c.self.view_is
