-- The types that are laid out at no depth are those that hold themselves, or a type that does.
use Rattle.std.proofs.Common.{◌≡◌, ℕ, ◌+◌, ◌<◌, ◌≤◌, zero, suc, true, false, ◌||◌, List, [], ◌∷◌, length, All, arith, refl, sym, ◌∙◌, ap, inl, inr, ◌⊎◌, subst, eqb, eqb-true, ◌↔◌}
use Rattle.std.specs.List.{Contains, list_any, IsDistinct, AllByRecursion}
use Rattle.std.proofs.lemmas.Bool.{cases_lt, cases_Bool}
use Rattle.std.proofs.lemmas.List.Elements.{All-nil, All-cons, All-contains}
use Rattle.std.proofs.lemmas.Map.Keys.{IsDistinct-cons}
use Rattle.std.proofs.lemmas.Map.Steps.{length-le_from_distinct_below}
use Rattle.ir_core.proofs.Capping.{layout_at-capped}
use Rattle.ir_core.proofs.Deepening.{IsLaid, parts_laid, laid_parts, past_is_loop, nothing_at_first, length-within, within_more, loop_is, is_loop-capped}
use Rattle.ir_core.specs.Layout.{layout_at, capped, type_layout, layouts_within, layouts_of, exact_layouts}
use Rattle.ir_core.specs.Progress.{is_loop, type_at}
use Rattle.ir_core.specs.Holding.{held, Holds, part, nowhere, Leads, at_once, over, IsCircular, itself, another}
use Rattle.ir_core.specs.declared.types.IrType.{IrType}
use Rattle.ir_core.specs.declared.types.TypeLayout.{TypeLayout}
use Rattle.ir_core.specs.declared.types.TypeLayout.TheVariants.{Loop}

-- some of these types isn't laid out
record IsUnlaid (layouts : List TypeLayout) (ns : List ℕ) : Type 0 where
  number : ℕ
  among : Contains ns number
  not_laid : is_loop (layout_at layouts number) ≡ true

Contains-here : (n : ℕ) (ns : List ℕ) → Contains (n ∷ ns) n
Contains-here n ns = (0, (omega arith), refl)

Contains-later : (n m : ℕ) (ns : List ℕ) → Contains ns m → Contains (n ∷ ns) m
Contains-later n m ns h = (suc h.0, (omega arith), h.2)

-- all are laid out, or one isn't
laid_or_not : (layouts : List TypeLayout) (ns : List ℕ) → All (IsLaid layouts) ns ⊎ IsUnlaid layouts ns
laid_or_not layouts [] = inl (All-nil (IsLaid layouts))
laid_or_not layouts (n ∷ ns) =
    elim (cases_Bool (is_loop (layout_at layouts n))) [
      | inl not_laid ↦ inr (record { number = n; among = Contains-here n ns; not_laid = not_laid })
      | inr laid ↦
          elim (laid_or_not layouts ns) [
            | inl all ↦ inl (All-cons (IsLaid layouts) n ns laid all)
            | inr one ↦ inr (record { number = one.number; among = Contains-later n one.number ns one.among; not_laid = one.not_laid })
          ]
    ]

module _ (types : List IrType) (fields : List ℕ) where
  abbrev layouts_to : ℕ → List TypeLayout
  layouts_to k = layouts_within types fields k

  past_types : (k n : ℕ) → length types ≤ n → is_loop (layout_at (layouts_to k) n) ≡ true
  past_types k n past = past_is_loop (layouts_to k) n (let e : length (layouts_to k) ≡ length types = length-within types fields k in omega arith)

  -- what a type that is laid out holds is laid out one type less deep
  record IsLaidAbove (k m : ℕ) : Type 0 where
    depth : ℕ
    less : depth < k
    laid : IsLaid (layouts_to depth) m

  laid_held : (k n m : ℕ) → Holds types fields n m → IsLaid (layouts_to k) n → IsLaidAbove k m
  laid_held zero n m h laid = let no : is_loop (layout_at (layouts_to zero) n) ≡ true = ap is_loop (nothing_at_first types fields n) in cc
  laid_held (suc k) n m (part inside among) laid =
      let e : is_loop (type_layout fields (layouts_to k) (type_at types n)) ≡ false = sym (ap is_loop (within_more types fields k n inside)) ∙ laid in
      record { depth = k; less = omega arith; laid = All-contains (IsLaid (layouts_to k)) (held fields (type_at types n)) m (parts_laid fields (layouts_to k) (type_at types n) e) among }
  laid_held (suc k) n m (nowhere past) laid = let no : is_loop (layout_at (layouts_to (suc k)) n) ≡ true = past_types (suc k) n past in cc

  laid_led : (k n m : ℕ) → Leads types fields n m → IsLaid (layouts_to k) n → IsLaidAbove k m
  laid_led k n m (at_once h) laid = laid_held k n m h laid
  laid_led k n m (over {m = j} h more) laid =
      let one = laid_held k n j h laid in
      let rest = laid_led one.depth j m more one.laid in
      record { depth = rest.depth; less = (let a = one.less in let b = rest.less in omega arith); laid = rest.laid }

  -- so what holds itself is laid out at no depth
  circle_unlaid : (bound k m : ℕ) → k < bound → Leads types fields m m → IsLaid (layouts_to k) m → ⊥
  circle_unlaid zero k m below circle laid = omega arith
  circle_unlaid (suc bound) k m below circle laid =
      let next = laid_led k m m circle laid in
      let a = next.less in
      circle_unlaid bound next.depth m (omega arith) circle next.laid

  circular_unlaid : (k n : ℕ) → IsCircular types fields n → IsLaid (layouts_to k) n → ⊥
  circular_unlaid k n (itself circle) laid = circle_unlaid (suc k) k n (omega arith) circle laid
  circular_unlaid k n (another {m = m} way circle) laid =
      let next = laid_led k n m way laid in circle_unlaid (suc next.depth) next.depth m (omega arith) circle next.laid

  -- what isn't laid out holds a type that isn't one type less deep
  record HoldsUnlaid (k n : ℕ) : Type 0 where
    number : ℕ
    holds : Holds types fields n number
    not_laid : is_loop (layout_at (layouts_to k) number) ≡ true

  unlaid_held : (k n : ℕ) → is_loop (layout_at (layouts_to (suc k)) n) ≡ true → HoldsUnlaid k n
  unlaid_held k n h =
      elim (cases_lt n (length types)) [
        | inr past ↦ record { number = n; holds = nowhere past; not_laid = past_types k n past }
        | inl inside ↦
            elim (laid_or_not (layouts_to k) (held fields (type_at types n))) [
              | inr one ↦ record { number = one.number; holds = part inside one.among; not_laid = one.not_laid }
              | inl all ↦
                  let e : is_loop (type_layout fields (layouts_to k) (type_at types n)) ≡ true = sym (ap is_loop (within_more types fields k n inside)) ∙ h in
                  let no : is_loop (type_layout fields (layouts_to k) (type_at types n)) ≡ false = laid_parts fields (layouts_to k) (type_at types n) all in
                  cc
            ]
      ]

  leads_on : (n m k : ℕ) → Leads types fields n m → Holds types fields m k → Leads types fields n k
  leads_on n m k (at_once h) last = over h (at_once last)
  leads_on n m k (over {m = j} h more) last = over h (leads_on j m k more last)

  -- a number is among those passed on the way
  abbrev IsPassed : List ℕ → ℕ → Type 0
  IsPassed passed q = list_any (eqb q) passed ≡ true

  apart : (n : ℕ) (ns : List ℕ) → list_any (eqb n) ns ≡ false → AllByRecursion (λ y. eqb n y ≡ false) ns
  apart n [] h = tt
  apart n (m ∷ ns) h =
      elim (cases_Bool (eqb n m)) [
        | inl same ↦ cc
        | inr other ↦ (other, apart n ns (let e : (false || list_any (eqb n) ns) ≡ false = subst (λ b. (b || list_any (eqb n) ns) ≡ false) other h in e))
      ]

  -- a walk from a first type to another, over distinct types
  record IsWalk (first here : ℕ) (passed : List ℕ) : Type 0 where
    begun : (first ≡ here) ⊎ Leads types fields first here
    distinct : IsDistinct eqb passed
    there : (q : ℕ) → IsPassed passed q → q < length types
    led : (q : ℕ) → IsPassed passed q → Leads types fields q here

  found : (first here : ℕ) → (first ≡ here) ⊎ Leads types fields first here → Leads types fields here here → IsCircular types fields first
  found first here (inl same) circle = subst (IsCircular types fields) (sym same) (itself circle)
  found first here (inr way) circle = another way circle

  -- the walk goes on
  walk_on : (first here next : ℕ) (passed : List ℕ) → IsWalk first here passed → here < length types → list_any (eqb here) passed ≡ false → Holds types fields here next → IsWalk first next (here ∷ passed)
  walk_on first here next passed w inside new h = record {
    begun = inr (elim w.begun [ inl same ↦ subst (λ n. Leads types fields n next) (sym same) (at_once h) | inr way ↦ leads_on first here next way h ]);
    distinct = IsDistinct-cons eqb here passed (apart here passed new) w.distinct;
    there = λ q among. elim (cases_Bool (eqb q here)) [
      | inl same ↦ let e : q ≡ here = eqb-true q here same in subst (λ n. n < length types) (sym e) inside
      | inr other ↦ w.there q (subst (λ b. (b || list_any (eqb q) passed) ≡ true) other among)
    ];
    led = λ q among. elim (cases_Bool (eqb q here)) [
      | inl same ↦ let e : q ≡ here = eqb-true q here same in subst (λ n. Leads types fields n next) (sym e) (at_once h)
      | inr other ↦ leads_on q here next (w.led q (subst (λ b. (b || list_any (eqb q) passed) ≡ true) other among)) h
    ];
  }

  -- it has come to an end, or to a type that it hasn't passed
  arrived : (first here : ℕ) (passed : List ℕ) → IsWalk first here passed → IsCircular types fields first ⊎ ((here < length types) × (list_any (eqb here) passed ≡ false))
  arrived first here passed w =
      elim (cases_lt here (length types)) [
        | inr past ↦ inl (found first here w.begun (at_once (nowhere past)))
        | inl inside ↦
            elim (cases_Bool (list_any (eqb here) passed)) [
              | inl again ↦ inl (found first here w.begun (w.led here again))
              | inr new ↦ inr (inside, new)
            ]
      ]

  -- there are no more types to pass than there are types
  passed_few : (first here : ℕ) (passed : List ℕ) → IsWalk first here passed → here < length types → list_any (eqb here) passed ≡ false → length (here ∷ passed) ≤ length types
  passed_few first here passed w inside new =
      length-le_from_distinct_below (here ∷ passed) (length types) (IsDistinct-cons eqb here passed (apart here passed new) w.distinct)
      (λ q among. elim (cases_Bool (eqb q here)) [
        | inl same ↦ let e : q ≡ here = eqb-true q here same in subst (λ n. n < length types) (sym e) inside
        | inr other ↦ w.there q (subst (λ b. (b || list_any (eqb q) passed) ≡ true) other among)
      ])

  -- so the walk comes to an end
  walk_ends : (k first here : ℕ) (passed : List ℕ) → IsWalk first here passed → k + length passed ≡ length types → is_loop (layout_at (layouts_to k) here) ≡ true → IsCircular types fields first
  walk_ends zero first here passed w long not_laid =
      elim (arrived first here passed w) [
        | inl done ↦ done
        | inr new ↦ let few = passed_few first here passed w new.0 new.1 in absurd (omega arith)
      ]
  walk_ends (suc k) first here passed w long not_laid =
      elim (arrived first here passed w) [
        | inl done ↦ done
        | inr new ↦
            let one = unlaid_held k here not_laid in
            walk_ends k first one.number (here ∷ passed) (walk_on first here one.number passed w new.0 new.1 one.holds) (omega arith) one.not_laid
      ]

  start : (n : ℕ) → IsWalk n n []
  unfolding IsDistinct
  start n = record { begun = inl refl; distinct = tt; there = λ q among. cc; led = λ q among. cc }

  -- a type's layout is Loop exactly where it is circular
  pub loop_circular : (n : ℕ) → layout_at (layouts_of types fields) n ≡ Loop → IsCircular types fields n
  loop_circular n h =
      let e : layout_at (layouts_of types fields) n ≡ capped (layout_at (exact_layouts types fields) n) = layout_at-capped (exact_layouts types fields) n in
      let not_laid : is_loop (layout_at (exact_layouts types fields) n) ≡ true = sym (is_loop-capped (layout_at (exact_layouts types fields) n)) ∙ (sym (ap is_loop e) ∙ ap is_loop h) in
      walk_ends (length types) n n [] (start n) (omega arith) not_laid

  pub circular_loop : (n : ℕ) → IsCircular types fields n → layout_at (layouts_of types fields) n ≡ Loop
  circular_loop n h =
      let e : layout_at (layouts_of types fields) n ≡ capped (layout_at (exact_layouts types fields) n) = layout_at-capped (exact_layouts types fields) n in
      elim (cases_Bool (is_loop (layout_at (exact_layouts types fields) n))) [
        | inl never ↦ e ∙ ap capped (loop_is (layout_at (exact_layouts types fields) n) never)
        | inr laid ↦ absurd (circular_unlaid (length types) n h laid)
      ]

  pub circles_are_loops : (n : ℕ) → (layout_at (layouts_of types fields) n ≡ Loop) ↔ IsCircular types fields n
  circles_are_loops n = (loop_circular n, circular_loop n)

-- and so it is of layouts that are those
pub loops_by : (types : List IrType) (fields : List ℕ) (layouts : List TypeLayout) → layouts ≡ layouts_of types fields → (n : ℕ) → (layout_at layouts n ≡ Loop) ↔ IsCircular types fields n
loops_by types fields layouts e n = subst (λ l. (layout_at l n ≡ Loop) ↔ IsCircular types fields n) (sym e) (circles_are_loops types fields n)
