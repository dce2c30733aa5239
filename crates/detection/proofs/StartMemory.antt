-- What is mapped before anything is loaded, where it ends, and that all its tags are those of a story without births.
use Rattle.std.proofs.Common.{◌≡◌, ℕ, zero, suc, ◌+◌, ◌*◌, ◌/◌, ◌%◌, ◌^◌, ◌<◌, ◌&&◌, ◌||◌, Bool, true, false, nat_le, nat_lt, if◌then◌else◌, max, List, [], ◌∷◌, length, map, replicate, slice_get, Some, None, refl, ◌∙◌, ap, subst, arith}
use Rattle.std.proofs.lemmas.Bool.Decides.{nat_tests}
use Rattle.std.proofs.lemmas.List.{length-replicate}
use Rattle.std.proofs.lemmas.List.Sums.{sum_by-cons}
use Rattle.std.specs.Prelude.{is_some, sum_by}
use Rattle.std.specs.List.{list_any}
use Rattle.global_tags.proofs.GlobalLemmas.{variables_at-aligned}
use Rattle.global_tags.specs.GlobalPlaces.{global_size, constants_size, variables_at, variables_size, layout_of}
use Rattle.hw_base.specs.AddressMap.{rounded_size}
use Rattle.ir_core.specs.declared.ir_module.GlobalVar.{GlobalVar}
use Rattle.ir_core.specs.declared.types.TypeLayout.{TypeLayout}
use Rattle.ir_lib.specs.Strings.{mapped_end}
use Rattle.ir_machine.specs.State.{MachineSetting}
use Rattle.tag_story.proofs.BirthPlaces.{rounded-some}
use Rattle.tag_story.specs.Story.{StorySetting, no_story}
use Rattle.tag_story.specs.StoryTags.{owner_from, freed_tag}
use Rattle.tbi_memory.proofs.StartLemmas.{byte_at-zeros}
use Rattle.tbi_memory.specs.AddressSpace.{Mapped, zeros, is_in, granules_of, mapped_ranges, zero_if, all_zeros}
use Rattle.tbi_memory.specs.MappedBytes.{byte_at}
use Rattle.simulation.specs.Parts.{HasTags, IsMapped}
use Rattle.simulation.specs.Relation.{IsSetting, story_setting}

-- ---- granules of ranges

-- a range of whole granules has an address exactly if its granules have the address's granule
range-same : (at count g : ℕ) → at % 16 ≡ 0 → count % 16 ≡ 0 → is_in g (granules_of (record { at = at; count = count })) ≡ is_in (16 * g) (record { at = at; count = count })
range-same at count g first whole = let same : (nat_le (at / 16) g && nat_lt g (at / 16 + count / 16)) ≡ (nat_le at (16 * g) && nat_lt (16 * g) (at + count)) = grind (arith, nat_tests) in same

is-zero : (b : Bool) → is_some (zero_if b) ≡ b
is-zero true = refl
is-zero false = refl

-- ---- the globals take whole granules

sum-whole : (f : GlobalVar → ℕ) (globals : List GlobalVar) → ((g : GlobalVar) → f g % 16 ≡ 0) → sum_by f globals % 16 ≡ 0
sum-whole f [] each = refl
sum-whole f (g ∷ globals) each =
    let all = sum_by-cons f g globals in
    let first = each g in
    let rest = sum-whole f globals each in
    omega (arith, all, first, rest)

if-whole : (bit : Bool) (a b : ℕ) → a % 16 ≡ 0 → b % 16 ≡ 0 → (if bit then a else b) % 16 ≡ 0
if-whole true a b h k = h
if-whole false a b h k = k

constants-whole : (layouts : List TypeLayout) (globals : List GlobalVar) → constants_size layouts globals % 16 ≡ 0
unfolding constants_size
constants-whole layouts globals =
    sum-whole (λ (g : GlobalVar). if g.constant then rounded_size (global_size layouts g) else 0) globals
    (λ g. if-whole g.constant (rounded_size (global_size layouts g)) 0 (rounded-some (global_size layouts g)).1 refl)

variables-whole : (layouts : List TypeLayout) (globals : List GlobalVar) → variables_size layouts globals % 16 ≡ 0
unfolding variables_size
variables-whole layouts globals =
    sum-whole (λ (g : GlobalVar). if g.constant then 0 else rounded_size (global_size layouts g)) globals
    (λ g. if-whole g.constant 0 (rounded_size (global_size layouts g)) refl (rounded-some (global_size layouts g)).1)

-- ---- the end of mapped memory

max-below : (a b n : ℕ) → a < n → b < n → max a b < n
max-below a b n h k = omega (arith, h, k)

ends-below : (ranges : List Mapped) (n : ℕ) → 0 < n → ((k : ℕ) (range : Mapped) → slice_get ranges k ≡ Some range → range.at + range.count < n) → mapped_end (all_zeros ranges) < n
unfolding zeros
ends-below [] n some all = some
ends-below (range ∷ ranges) n some all =
    max-below (range.at + length {A = ℕ} (replicate range.count 0)) (mapped_end (all_zeros ranges)) n
    (let here = all 0 range refl in let many : length {A = ℕ} (replicate range.count 0) ≡ range.count = length-replicate {A = ℕ} range.count 0 in omega (arith, here, many))
    (ends-below ranges n some (λ k other h. all (suc k) other h))

module _ (setting : MachineSetting) (is : IsSetting setting) where
  abbrev e : StorySetting
  e = story_setting setting

  -- what is mapped
  abbrev pub ranges : List Mapped
  ranges = mapped_ranges setting.places (layout_of setting.places setting.program.layouts setting.program.globals)

  pub start-mapped : IsMapped e (all_zeros ranges)
  start-mapped a = ap is_some (byte_at-zeros ranges a) ∙ is-zero (list_any (is_in a) ranges)

  -- a mapped byte is 0
  pub start-zero : (address : ℕ) → list_any (is_in address) ranges ≡ true → byte_at (all_zeros ranges) address ≡ Some 0
  start-zero address mapped = byte_at-zeros ranges address ∙ ap zero_if mapped

  pub start-ends : mapped_end (all_zeros ranges) < 2 ^ 56
  start-ends = ends-below ranges (2 ^ 56) (omega arith) within
    where
      within : (k : ℕ) (range : Mapped) → slice_get ranges k ≡ Some range → range.at + range.count < 2 ^ 56
      within zero range h =
          let own : record { at = setting.places.globals_at; count = constants_size setting.program.layouts setting.program.globals } ≡ range = cc in
          subst (λ (r : Mapped). r.at + r.count < 2 ^ 56) own (let globals = is.room.globals_below in let stacks = is.room.stacks_below in let end = is.below in omega (arith, globals, stacks, end))
      within (suc zero) range h =
          let own : record { at = variables_at setting.places setting.program.layouts setting.program.globals; count = variables_size setting.program.layouts setting.program.globals } ≡ range = cc in
          subst (λ (r : Mapped). r.at + r.count < 2 ^ 56) own (let globals = is.room.globals_below in let stacks = is.room.stacks_below in let end = is.below in omega (arith, globals, stacks, end))
      within (suc (suc zero)) range h =
          let own : record { at = setting.places.stacks_at; count = setting.places.most_tasks * setting.places.stack_length } ≡ range = cc in
          subst (λ (r : Mapped). r.at + r.count < 2 ^ 56) own (let stacks = is.room.stacks_below in let end = is.below in omega (arith, stacks, end))
      within (suc (suc (suc zero))) range h =
          let own : record { at = setting.places.heap_at; count = setting.places.heap_length } ≡ range = cc in
          subst (λ (r : Mapped). r.at + r.count < 2 ^ 56) own is.below
      within (suc (suc (suc (suc k)))) range h = absurd cc

  abbrev either : Bool → Bool → Bool → Bool → Bool
  either a b c d = a || (b || (c || (d || false)))

  same-ranges : (g : ℕ) → list_any (is_in g) (map granules_of ranges) ≡ list_any (is_in (16 * g)) ranges
  same-ranges g =
      let constants = range-same setting.places.globals_at (constants_size setting.program.layouts setting.program.globals) g is.room.globals_aligned (constants-whole setting.program.layouts setting.program.globals) in
      let variables = range-same (variables_at setting.places setting.program.layouts setting.program.globals) (variables_size setting.program.layouts setting.program.globals) g (variables_at-aligned setting.places setting.program.layouts setting.program.globals) (variables-whole setting.program.layouts setting.program.globals) in
      let stacks = range-same setting.places.stacks_at (setting.places.most_tasks * setting.places.stack_length) g is.room.stacks_aligned stacks-whole in
      let heap = range-same setting.places.heap_at setting.places.heap_length g is.room.heap_aligned is.whole in
      same-either _ _ _ _ _ _ _ _ constants variables stacks heap
    where
      same-either : (a b c d x y z w : Bool) → a ≡ x → b ≡ y → c ≡ z → d ≡ w → either a b c d ≡ either x y z w
      same-either a b c d x y z w p q r s = ap (λ u. either u b c d) p ∙ ap (λ u. either x u c d) q ∙ ap (λ u. either x y u d) r ∙ ap (either x y z) s

      stacks-whole : (setting.places.most_tasks * setting.places.stack_length) % 16 ≡ 0
      stacks-whole = ap (λ n. n * setting.places.stack_length % 16) is.tasks ∙ (let whole = is.room.stack_aligned in omega (arith, whole))

  pub start-tags : HasTags e no_story (all_zeros (map granules_of ranges))
  unfolding owner_from freed_tag
  start-tags g = byte_at-zeros (map granules_of ranges) g ∙ ap zero_if (same-ranges g) ∙ by_mapped (list_any (is_in (16 * g)) ranges)
    where
      by_mapped : (b : Bool) → zero_if b ≡ (if b then Some 0 else None)
      by_mapped true = refl
      by_mapped false = refl
