-- The machine follows comparisons of pointers: wherever the source has an answer, the numbers of the pointers have the same.
use Rattle.std.proofs.Common.{◌≡◌, ℕ, zero, suc, ◌+◌, ◌-◌, ◌*◌, ◌%◌, ◌^◌, ◌<◌, ◌≤◌, ◌==◌, ◌&&◌, Bool, true, false, not, nat_lt, nat_le, leb, eqb, max, if◌then◌else◌, Option, Some, None, option_map, refl, sym, ◌∙◌, ap, subst, inl, inr, arith, pos, negsuc, int_lt, int_le}
use Rattle.std.proofs.lemmas.Bool.{le-leb, leb-true, eq-eqb, eqb-true}
use Rattle.std.proofs.lemmas.Bool.{cases_lt}
use Rattle.std.proofs.lemmas.Bool.Decides.{leb_tells, eqb_tells}
use Rattle.hw_base.specs.declared.operators.Pred.{Pred}
use Rattle.hw_base.specs.declared.operators.Pred.TheVariants.{Eq, Ne, Ugt, Uge, Ult, Ule, Sgt, Sge, Slt, Sle}
use Rattle.ir_arith.proofs.TwosComplementLaws.{signed_of-low, signed_of-high}
use Rattle.ir_arith.specs.Comparison.{compare_result}
use Rattle.ir_arith.specs.TwosComplement.{signed_of}
use Rattle.hw_base.specs.AddressMap.{rounded_size}
use Rattle.hw_base.specs.declared.pointers.Base.{Base}
use Rattle.hw_base.specs.declared.pointers.Base.TheVariants.{Null, Object}
use Rattle.hw_base.specs.declared.pointers.Obj.{Obj}
use Rattle.ir_machine.specs.State.{MachineSetting}
use Rattle.ir_meaning.specs.Births.{SourceObject, is_living, get_object}
use Rattle.ir_meaning.specs.Encoding.{same_object}
use Rattle.ir_meaning.specs.PointerComparison.{null_equal, is_within, objects_equal, pointers_equal, unsigned_code, offsets_ordered, pointers_ordered, pointers_compared}
use Rattle.tag_story.specs.Story.{Placed}
use Rattle.tag_story.specs.StoryFacts.{AreApart, IsLaidOut}
use Rattle.tag_story.specs.ToldRun.{ToldShared}
use Rattle.simulation.proofs.ObjectPlaces.{IsPlacedAs, placed-as, placed-there}
use Rattle.simulation.proofs.Sizes.{size-rounded, both, if-some, same-placed}
use Rattle.step_simulation.proofs.PointerFollows.{start_in, start_of}
use Rattle.simulation.specs.Parts.{AreTold}
use Rattle.simulation.specs.Relation.{IsSetting, story_setting}

-- ---- tests of numbers

leb-same : (a b c d : ℕ) → (a ≤ b → c ≤ d) → (c ≤ d → a ≤ b) → leb a b ≡ leb c d
leb-same a b c d to from =
    elim (leb_tells a b) [
      | inl holds ↦ holds.0 ∙ sym (le-leb c d (to holds.1))
      | inr fails ↦
          elim (leb_tells c d) [
            | inl holds ↦ let below = fails.1 in let other = from holds.1 in absurd (omega arith)
            | inr also ↦ fails.0 ∙ sym also.0
          ]
    ]

eqb-same : (a b c d : ℕ) → (a ≡ b → c ≡ d) → (c ≡ d → a ≡ b) → eqb a b ≡ eqb c d
eqb-same a b c d to from =
    elim (eqb_tells a b) [
      | inl holds ↦ holds.0 ∙ sym (eq-eqb c d (to holds.1))
      | inr fails ↦
          elim (eqb_tells c d) [
            | inl holds ↦ absurd (fails.1 (from holds.1))
            | inr also ↦ fails.0 ∙ sym also.0
          ]
    ]

-- ---- the order of numbers after one start

le-after : (start a b : ℕ) → nat_le a b ≡ nat_le (start + a) (start + b)
le-after start a b = leb-same a b (start + a) (start + b) (λ h. omega arith) (λ h. omega arith)

lt-after : (start a b : ℕ) → nat_lt a b ≡ nat_lt (start + a) (start + b)
lt-after start a b = leb-same (suc a) b (suc (start + a)) (start + b) (λ h. omega arith) (λ h. omega arith)

eq-after : (start a b : ℕ) → (a == b) ≡ (start + a == start + b)
eq-after start a b = eqb-same a b (start + a) (start + b) (λ h. omega arith) (λ h. omega arith)

-- both numbers have the same sign bit in 64 bits
data SameSign (p q : ℕ) : Type 0 where
  BothLow : p < 2 ^ 63 → q < 2 ^ 63 → SameSign p q
  BothHigh : 2 ^ 63 ≤ p → p < 2 ^ 64 → 2 ^ 63 ≤ q → q < 2 ^ 64 → SameSign p q

signed-lt : (p q : ℕ) → SameSign p q → int_lt (signed_of 64 p) (signed_of 64 q) ≡ nat_lt p q
signed-lt p q (BothLow a b) = ap (λ z. int_lt z (signed_of 64 q)) (signed_of-low 64 p a) ∙ ap (λ z. int_lt (pos p) z) (signed_of-low 64 q b)
signed-lt p q (BothHigh a b c d) =
    ap (λ z. int_lt z (signed_of 64 q)) (signed_of-high 64 p a b) ∙ ap (λ z. int_lt (negsuc (2 ^ 64 - suc p)) z) (signed_of-high 64 q c d)
    ∙ leb-same (suc (2 ^ 64 - suc q)) (2 ^ 64 - suc p) (suc p) q (λ h. omega arith) (λ h. omega arith)

signed-le : (p q : ℕ) → SameSign p q → int_le (signed_of 64 p) (signed_of 64 q) ≡ nat_le p q
signed-le p q (BothLow a b) = ap (λ z. int_le z (signed_of 64 q)) (signed_of-low 64 p a) ∙ ap (λ z. int_le (pos p) z) (signed_of-low 64 q b)
signed-le p q (BothHigh a b c d) =
    ap (λ z. int_le z (signed_of 64 q)) (signed_of-high 64 p a b) ∙ ap (λ z. int_le (negsuc (2 ^ 64 - suc p)) z) (signed_of-high 64 q c d)
    ∙ leb-same (2 ^ 64 - suc q) (2 ^ 64 - suc p) p q (λ h. omega arith) (λ h. omega arith)

other-sign : (p q : ℕ) → SameSign p q → SameSign q p
other-sign p q (BothLow a b) = BothLow b a
other-sign p q (BothHigh a b c d) = BothHigh c d a b

-- offsets are compared as the numbers that they lead to
compare-after : (pred : Pred) (start a b : ℕ) → SameSign (start + a) (start + b) → compare_result (unsigned_code pred) 64 a b ≡ compare_result pred 64 (start + a) (start + b)
compare-after Eq start a b same = eq-after start a b
compare-after Ne start a b same = ap not (eq-after start a b)
compare-after Ugt start a b same = lt-after start b a
compare-after Uge start a b same = le-after start b a
compare-after Ult start a b same = lt-after start a b
compare-after Ule start a b same = le-after start a b
compare-after Sgt start a b same = lt-after start b a ∙ sym (signed-lt (start + b) (start + a) (other-sign (start + a) (start + b) same))
compare-after Sge start a b same = le-after start b a ∙ sym (signed-le (start + b) (start + a) (other-sign (start + a) (start + b) same))
compare-after Slt start a b same = lt-after start a b ∙ sym (signed-lt (start + a) (start + b) same)
compare-after Sle start a b same = le-after start a b ∙ sym (signed-le (start + a) (start + b) same)

-- ---- the numbers of two pointers

module _ (setting : MachineSetting) (t : ToldShared) (is : IsSetting setting) (laid : IsLaidOut (story_setting setting) t.story) (told : AreTold t.source.births t.story.births) where
  at : (o : Obj) (x : SourceObject) → get_object t.source.births o ≡ Some x → IsPlacedAs t.story o x
  at o x found = placed-as setting t.source.births t.story o x is laid told found

  -- the number of a pointer at an offset
  abbrev number_at : Base → ℕ → ℕ
  number_at base off = (start_of t.story.births base + off) % 2 ^ 64

  start-at : (o : Obj) (x : SourceObject) (p : IsPlacedAs t.story o x) → start_of t.story.births (Object o) ≡ p.placed.tag * 2 ^ 56 + p.placed.at
  start-at o x p = ap start_in (placed-there t.story o x p)

  -- ---- null

  null-differs : (o : Obj) (object : Option SourceObject) (off null_off : ℕ) (bit : Bool) → get_object t.source.births o ≡ object → null_equal object off null_off ≡ Some bit → (bit ≡ false) × (number_at Null null_off ≡ number_at (Object o) off → ⊥)
  null-differs o None off null_off bit found h = absurd cc
  null-differs o (Some x) off null_off bit found h =
      let some = if-some ((null_off == 0) && nat_le off x.size) false bit h in
      let tests = both (null_off == 0) (nat_le off x.size) some.0 in
      let zero_off = eqb-true null_off 0 tests.0 in
      let inside = leb-true off x.size tests.1 in
      let place = at o x found in
      let start = start-at o x place in
      let size = place.size in
      let rounded = size-rounded place.placed.size in
      let low = place.some_tag in
      let high = place.tag in
      let below = place.below in
      (sym some.1, λ same. absurd (omega (arith, zero_off, inside, start, size, rounded, low, high, below, same)))

  -- ---- two objects

  same-start : (o p : Obj) → same_object o p ≡ true → start_of t.story.births (Object p) ≡ start_of t.story.births (Object o)
  same-start o p h = ap start_in (same-placed t.story.births o p h)

  apart-numbers : (x y : Placed) (a b : ℕ) → AreApart x y → a < max x.size 1 → b < max y.size 1 → x.tag < 256 → y.tag < 256 → x.at + rounded_size x.size < 2 ^ 56 → y.at + rounded_size y.size < 2 ^ 56 → (x.tag * 2 ^ 56 + x.at + a) % 2 ^ 64 ≡ (y.tag * 2 ^ 56 + y.at + b) % 2 ^ 64 → ⊥
  apart-numbers x y a b apart inside also tag other high above same =
      let first = within-rounded x.size a inside in
      let second = within-rounded y.size b also in
      elim apart [
        | inl below ↦ omega (arith, first, second, tag, other, high, above, same, below)
        | inr below ↦ omega (arith, first, second, tag, other, high, above, same, below)
      ]
    where
      within-rounded : (size off : ℕ) → off < max size 1 → off < rounded_size size
      within-rounded zero off h = omega (arith, h)
      within-rounded (suc n) off h = omega (arith, h)

  objects-differ : (o p : Obj) (object other : Option SourceObject) (a b : ℕ) (bit : Bool) → get_object t.source.births o ≡ object → get_object t.source.births p ≡ other → same_object o p ≡ false → objects_equal object a other b ≡ Some bit → (bit ≡ false) × (number_at (Object o) a ≡ number_at (Object p) b → ⊥)
  objects-differ o p None other a b bit found also differ h = absurd cc
  objects-differ o p (Some x) None a b bit found also differ h = absurd cc
  objects-differ o p (Some x) (Some y) a b bit found also differ h =
      let some = if-some (is_within x a && is_within y b) false bit h in
      let tests = both (is_within x a) (is_within y b) some.0 in
      let first = both (is_living x.life) (nat_lt a (max x.size 1)) tests.0 in
      let second = both (is_living y.life) (nat_lt b (max y.size 1)) tests.1 in
      let place = at o x found in
      let next = at p y also in (
        sym some.1,
        by_places place next (ap is_living (sym place.life) ∙ first.0) (ap is_living (sym next.life) ∙ second.0)
            (subst (λ n. a < max n 1) (sym place.size) (leb-true (suc a) (max x.size 1) first.1))
            (subst (λ n. b < max n 1) (sym next.size) (leb-true (suc b) (max y.size 1) second.1)),
      )
    where
      by_places : (place : IsPlacedAs t.story o x) (next : IsPlacedAs t.story p y) → is_living place.birth.life ≡ true → is_living next.birth.life ≡ true → a < max place.placed.size 1 → b < max next.placed.size 1 → number_at (Object o) a ≡ number_at (Object p) b → ⊥
      by_places place next alive living inside within same =
          elim (laid.apart o.birth o.index p.birth p.index place.birth next.birth place.placed next.placed place.object next.object alive living) [
            | inl apart ↦
                apart-numbers place.placed next.placed a b apart inside within place.tag next.tag place.below next.below
                (ap (λ s. (s + a) % 2 ^ 64) (sym (start-at o x place)) ∙ same ∙ ap (λ s. (s + b) % 2 ^ 64) (start-at p y next))
            | inr one ↦
                let birth = eq-eqb o.birth p.birth one.0 in
                let index = eq-eqb o.index p.index one.1 in
                let equal : ((o.birth == p.birth) && (o.index == p.index)) ≡ true = ap (λ c. c && (o.index == p.index)) birth ∙ index in
                absurd (let wrong : true ≡ false = sym equal ∙ differ in cc)
          ]

  -- ---- equality

  differs : (n m : ℕ) (bit : Bool) → bit ≡ false → (n ≡ m → ⊥) → bit ≡ (n == m)
  differs n m bit none apart =
      elim (eqb_tells n m) [
        | inl holds ↦ absurd (apart holds.1)
        | inr fails ↦ none ∙ sym fails.0
      ]

  same-modulo : (start a b : ℕ) → a < 2 ^ 64 → b < 2 ^ 64 → (a == b) ≡ ((start + a) % 2 ^ 64 == (start + b) % 2 ^ 64)
  same-modulo start a b small little = eqb-same a b ((start + a) % 2 ^ 64) ((start + b) % 2 ^ 64) (λ h. ap (λ n. (start + n) % 2 ^ 64) h) (λ h. omega (arith, small, little, h))

  equal-numbers : (p q : Base) (a b : ℕ) (bit : Bool) → a < 2 ^ 64 → b < 2 ^ 64 → pointers_equal t.source.births p a q b ≡ Some bit → bit ≡ (number_at p a == number_at q b)
  unfolding pointers_equal
  equal-numbers Null Null a b bit small little h = let is : (a == b) ≡ bit = cc in sym is ∙ same-modulo 0 a b small little
  equal-numbers Null (Object o) a b bit small little h =
      let apart = null-differs o (get_object t.source.births o) b a bit refl h in
      differs (number_at Null a) (number_at (Object o) b) bit apart.0 apart.1
  equal-numbers (Object o) Null a b bit small little h =
      let apart = null-differs o (get_object t.source.births o) a b bit refl h in
      differs (number_at (Object o) a) (number_at Null b) bit apart.0 (λ same. apart.1 (sym same))
  equal-numbers (Object o) (Object p) a b bit small little h = by_test (same_object o p) refl h
    where
      by_test : (test : Bool) → same_object o p ≡ test → (if test then Some (a == b) else objects_equal (get_object t.source.births o) a (get_object t.source.births p) b) ≡ Some bit → bit ≡ (number_at (Object o) a == number_at (Object p) b)
      by_test true same e =
          let is : (a == b) ≡ bit = cc in
          sym is ∙ same-modulo (start_of t.story.births (Object o)) a b small little ∙ ap (λ s. number_at (Object o) a == (s + b) % 2 ^ 64) (sym (same-start o p same))
      by_test false differ e =
          let apart = objects-differ o p (get_object t.source.births o) (get_object t.source.births p) a b bit refl refl differ e in
          differs (number_at (Object o) a) (number_at (Object p) b) bit apart.0 apart.1

  -- ---- order

  same-sign : (tag place a b : ℕ) → tag < 256 → place + a < 2 ^ 56 → place + b < 2 ^ 56 → SameSign (tag * 2 ^ 56 + place + a) (tag * 2 ^ 56 + place + b)
  same-sign tag place a b few below under =
      elim (cases_lt tag 128) [
        | inl low ↦ BothLow (omega (arith, low, below)) (omega (arith, low, under))
        | inr high ↦ BothHigh (omega (arith, high)) (omega (arith, few, below)) (omega (arith, high)) (omega (arith, few, under))
      ]

  ordered-offsets : (pred : Pred) (o : Obj) (object : Option SourceObject) (a b : ℕ) (answer : Bool) → get_object t.source.births o ≡ object → offsets_ordered pred object a b ≡ Some answer → answer ≡ compare_result pred 64 (number_at (Object o) a) (number_at (Object o) b)
  ordered-offsets pred o None a b answer found h = absurd cc
  ordered-offsets pred o (Some x) a b answer found h =
      let some = if-some (nat_le a x.size && nat_le b x.size) (compare_result (unsigned_code pred) 64 a b) answer h in
      let tests = both (nat_le a x.size) (nat_le b x.size) some.0 in
      sym some.1 ∙ by_place (at o x found) (leb-true a x.size tests.0) (leb-true b x.size tests.1)
    where
      by_place : (place : IsPlacedAs t.story o x) → a ≤ x.size → b ≤ x.size → compare_result (unsigned_code pred) 64 a b ≡ compare_result pred 64 (number_at (Object o) a) (number_at (Object o) b)
      by_place place inside within =
          let start = place.placed.tag * 2 ^ 56 + place.placed.at in
          let size = place.size in
          let rounded = size-rounded place.placed.size in
          let below = place.below in
          let tag = place.tag in
          let first : place.placed.at + a < 2 ^ 56 = omega (arith, size, rounded, below, inside) in
          let second : place.placed.at + b < 2 ^ 56 = omega (arith, size, rounded, below, within) in
          let is = start-at o x place in
          let one : place.placed.tag * 2 ^ 56 + place.placed.at + a ≡ number_at (Object o) a = omega (arith, is, first, tag) in
          let two : place.placed.tag * 2 ^ 56 + place.placed.at + b ≡ number_at (Object o) b = omega (arith, is, second, tag) in
          compare-after pred (place.placed.tag * 2 ^ 56 + place.placed.at) a b (same-sign place.placed.tag place.placed.at a b tag first second)
          ∙ ap (λ n. compare_result pred 64 n (place.placed.tag * 2 ^ 56 + place.placed.at + b)) one
          ∙ ap (λ n. compare_result pred 64 (number_at (Object o) a) n) two

  ordered-numbers : (pred : Pred) (p q : Base) (a b : ℕ) (answer : Bool) → pointers_ordered t.source.births pred p a q b ≡ Some answer → answer ≡ compare_result pred 64 (number_at p a) (number_at q b)
  unfolding pointers_ordered
  ordered-numbers pred Null q a b answer h = absurd cc
  ordered-numbers pred (Object o) Null a b answer h = absurd cc
  ordered-numbers pred (Object o) (Object p) a b answer h = by_test (same_object o p) refl h
    where
      by_test : (test : Bool) → same_object o p ≡ test → (if test then offsets_ordered pred (get_object t.source.births o) a b else None) ≡ Some answer → answer ≡ compare_result pred 64 (number_at (Object o) a) (number_at (Object p) b)
      by_test true same e =
          ordered-offsets pred o (get_object t.source.births o) a b answer refl e
          ∙ ap (λ s. compare_result pred 64 (number_at (Object o) a) ((s + b) % 2 ^ 64)) (sym (same-start o p same))
      by_test false differ e = absurd cc

  unequal-numbers : (p q : Base) (a b : ℕ) (answer : Bool) → a < 2 ^ 64 → b < 2 ^ 64 → (equal : Option Bool) → pointers_equal t.source.births p a q b ≡ equal → option_map not equal ≡ Some answer → answer ≡ not (number_at p a == number_at q b)
  unequal-numbers p q a b answer small little None is h = absurd cc
  unequal-numbers p q a b answer small little (Some bit) is h =
      let same : not bit ≡ answer = cc in sym same ∙ ap not (equal-numbers p q a b bit small little is)

  -- the answer of the source is that of the numbers
  pub compared-numbers : (pred : Pred) (p q : Base) (a b : ℕ) (answer : Bool) → a < 2 ^ 64 → b < 2 ^ 64 → pointers_compared t.source.births pred p a q b ≡ Some answer → answer ≡ compare_result pred 64 (number_at p a) (number_at q b)
  compared-numbers Eq p q a b answer small little h = equal-numbers p q a b answer small little h
  compared-numbers Ne p q a b answer small little h = unequal-numbers p q a b answer small little (pointers_equal t.source.births p a q b) refl h
  compared-numbers Ugt p q a b answer small little h = ordered-numbers Ugt p q a b answer h
  compared-numbers Uge p q a b answer small little h = ordered-numbers Uge p q a b answer h
  compared-numbers Ult p q a b answer small little h = ordered-numbers Ult p q a b answer h
  compared-numbers Ule p q a b answer small little h = ordered-numbers Ule p q a b answer h
  compared-numbers Sgt p q a b answer small little h = ordered-numbers Sgt p q a b answer h
  compared-numbers Sge p q a b answer small little h = ordered-numbers Sge p q a b answer h
  compared-numbers Slt p q a b answer small little h = ordered-numbers Slt p q a b answer h
  compared-numbers Sle p q a b answer small little h = ordered-numbers Sle p q a b answer h
