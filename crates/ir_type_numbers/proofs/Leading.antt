-- Where names lead, and the layout of one that leads to no type.
use Rattle.std.proofs.Common.{◌≡◌, ℕ, ◌<◌, ◌≤◌, zero, suc, Bool, true, false, cond, List, length, slice_get, Some, arith, refl, sym, ◌∙◌, ap, inl, inr, subst}
use Rattle.std.proofs.lemmas.Bool.{cases_lt}
use Rattle.std.proofs.lemmas.List.{get_or-map, get_or_past}
use Rattle.std.proofs.lemmas.List.FromFn.{get_or-map-range_with_len, length-map-range_with_len}
use Rattle.std.proofs.lemmas.Option.{slice_get_within}
use Rattle.std.proofs.Math.ListN.{length-map}
use Rattle.ir_core.proofs.Capping.{layout_at-capped}
use Rattle.ir_core.proofs.Deepening.{nothing_at_first, within_more}
use Rattle.ir_core.specs.declared.token.Token.{Token}
use Rattle.ir_core.specs.declared.types.IrType.{IrType}
use Rattle.ir_core.specs.declared.types.IrType.TheVariants.{Void, Array}
use Rattle.ir_core.specs.declared.types.TypeLayout.TheVariants.{Loop}
use Rattle.ir_core.specs.Layout.{layout_at, layouts_within, layouts_of, exact_layouts, capped, array_layout, type_layout}
use Rattle.ir_core.specs.Progress.{type_at}
use Rattle.ir_grammar.specs.declared.spelled.SpelledType.{SpelledType}
use Rattle.ir_grammar.specs.declared.spelled.SpelledType.TheVariants as spelled
use Rattle.ir_type_numbers.specs.Numbering.{number_at, twice, leads_within, far_leads, is_no_name, led_to, stands_for, module_type, module_types, IsLeading}

length-leads : (k : ℕ) (leads : List ℕ) → length (leads_within k leads) ≡ length leads
unfolding leads_within
length-leads zero leads = refl
length-leads (suc k) leads = length-map (leads_within k leads) (number_at (leads_within k leads)) ∙ length-leads k leads

-- two steps are one and another
twice_at : (leads : List ℕ) (n : ℕ) → n < length leads → number_at (twice leads) n ≡ number_at leads (number_at leads n)
twice_at leads n h = get_or-map (number_at leads) leads n 0 0 h

-- twice as many steps are so many, and so many more
more_steps : (k : ℕ) (leads : List ℕ) (n : ℕ) → n < length leads → number_at (leads_within (suc k) leads) n ≡ number_at (leads_within k leads) (number_at (leads_within k leads) n)
unfolding leads_within
more_steps k leads n h = twice_at (leads_within k leads) n (subst (λ m. n < m) (sym (length-leads k leads)) h)

-- what leads to itself in one step does so in all
stays : (k : ℕ) (leads : List ℕ) (n : ℕ) → n < length leads → number_at leads n ≡ n → number_at (leads_within k leads) n ≡ n
unfolding leads_within
stays zero leads n h e = e
stays (suc k) leads n h e =
    let before : number_at (leads_within k leads) n ≡ n = stays k leads n h e in
    more_steps k leads n h ∙ (ap (number_at (leads_within k leads)) before ∙ before)

-- no step leads out of the list
steps_inside : (leads : List ℕ) → ((n : ℕ) → n < length leads → number_at leads n < length leads) → (k n : ℕ) → n < length leads → number_at (leads_within k leads) n < length leads
unfolding leads_within
steps_inside leads inside zero n h = inside n h
steps_inside leads inside (suc k) n h =
    subst (λ m. m < length leads) (sym (more_steps k leads n h))
    (steps_inside leads inside k (number_at (leads_within k leads) n) (steps_inside leads inside k n h))

-- one step first or last is the same
step_first : (leads : List ℕ) → ((n : ℕ) → n < length leads → number_at leads n < length leads) → (k n : ℕ) → n < length leads → number_at (leads_within k leads) (number_at leads n) ≡ number_at leads (number_at (leads_within k leads) n)
unfolding leads_within
step_first leads inside zero n h = refl
step_first leads inside (suc k) n h =
    let far : ℕ → ℕ = number_at (leads_within k leads) in
    more_steps k leads (number_at leads n) (inside n h)
    ∙ (ap far (step_first leads inside k n h)
    ∙ (step_first leads inside k (far n) (steps_inside leads inside k n h)
    ∙ ap (number_at leads) (sym (more_steps k leads n h))))

stands_at : (types : List SpelledType) (leads : List ℕ) (n : ℕ) → n < length types → number_at (stands_for types leads) n ≡ led_to types n (number_at (far_leads leads) n)
stands_at types leads n h = get_or-map-range_with_len (λ m. led_to types m (number_at (far_leads leads) m)) 0 (length types) n n 0 h (omega arith)

stands_within : (types : List SpelledType) (leads : List ℕ) → length (stands_for types leads) ≡ length types
stands_within types leads = length-map-range_with_len (λ m. led_to types m (number_at (far_leads leads) m)) 0 (length types)

led_to_itself : (types : List SpelledType) (n : ℕ) (b : Bool) → cond b n n ≡ n
led_to_itself types n true = refl
led_to_itself types n false = refl

pub stands_for_itself : (types : List SpelledType) (leads : List ℕ) (n : ℕ) → n < length types → number_at leads n ≡ n → number_at (stands_for types leads) n ≡ n
stands_for_itself types leads n h e =
    elim (cases_lt n (length leads)) [
      | inl less ↦ stands_at types leads n h ∙ (ap (led_to types n) (stays 32 leads n less e) ∙ led_to_itself types n (is_no_name (slice_get types n)))
      | inr past ↦
          let far_zero : number_at (far_leads leads) n ≡ 0 = get_or_past (far_leads leads) n 0 (subst (λ m. m ≤ n) (sym (length-leads 32 leads)) past) in
          let zero_is : number_at leads n ≡ 0 = get_or_past leads n 0 past in
          let far_is : number_at (far_leads leads) n ≡ n = far_zero ∙ (sym zero_is ∙ e) in
          stands_at types leads n h ∙ (ap (led_to types n) far_is ∙ led_to_itself types n (is_no_name (slice_get types n)))
    ]

led_to_end : (types : List SpelledType) (own end : ℕ) → is_no_name (slice_get types end) ≡ true → led_to types own end ≡ end
led_to_end types own end e = ap (λ b. cond b end own) e

pub stands_for_another : (types : List SpelledType) (leads : List ℕ) (n : ℕ) → IsLeading types leads → n < length types → is_no_name (slice_get types (number_at (far_leads leads) n)) ≡ true
    → number_at (stands_for types leads) n ≡ number_at (stands_for types leads) (number_at leads n)
stands_for_another types leads n l h ends =
    let inside : (m : ℕ) → m < length leads → number_at leads m < length leads = λ m lt. subst (λ k. number_at leads m < k) (sym l.same) (l.inside m (subst (λ k. m < k) l.same lt)) in
    let end : ℕ = number_at (far_leads leads) n in
    let next : ℕ = number_at leads n in
    let far_next : number_at (far_leads leads) next ≡ end = step_first leads inside 32 n (subst (λ k. n < k) (sym l.same) h) ∙ l.own end ends in
    let here : number_at (stands_for types leads) n ≡ end = stands_at types leads n h ∙ led_to_end types n end ends in
    let there : number_at (stands_for types leads) next ≡ end = stands_at types leads next (l.inside n h) ∙ (ap (led_to types next) far_next ∙ led_to_end types next end ends) in
    here ∙ sym there

-- a type that holds itself is laid out at no depth
never_laid : (types : List IrType) (fields : List ℕ) (k n : ℕ) → n < length types → type_at types n ≡ Array 1 n → layout_at (layouts_within types fields k) n ≡ Loop
never_laid types fields zero n h e = nothing_at_first types fields n
never_laid types fields (suc k) n h e =
    within_more types fields k n h
    ∙ (ap (type_layout fields (layouts_within types fields k)) e ∙ ap (array_layout 1) (never_laid types fields k n h e))

pub name_of_no_type : (types : List SpelledType) (leads fields : List ℕ) (n : ℕ) (name : Token) → slice_get types n ≡ Some (spelled.Named name) → number_at (stands_for types leads) n ≡ n
    → layout_at (layouts_of (module_types types (stands_for types leads)) fields) n ≡ Loop
name_of_no_type types leads fields n name named itself =
    let numbers : List ℕ = stands_for types leads in
    let entries : List IrType = module_types types numbers in
    let h : n < length types = slice_get_within types n (spelled.Named name) named in
    let entry : type_at entries n ≡ module_type numbers n (slice_get types n) = get_or-map-range_with_len (λ m. module_type numbers m (slice_get types m)) 0 (length types) n n Void h (omega arith) in
    let is : type_at entries n ≡ Array 1 n = entry ∙ (ap (module_type numbers n) named ∙ ap (Array 1) itself) in
    let inside : n < length entries = subst (λ m. n < m) (sym (length-map-range_with_len (λ m. module_type numbers m (slice_get types m)) 0 (length types))) h in
    layout_at-capped (exact_layouts entries fields) n ∙ ap capped (never_laid entries fields (length entries) n inside is)
