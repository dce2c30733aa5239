-- What steps add together, and the words that are left after them.
use Rattle.std.proofs.Common.{◌≡◌, ◌≢◌, ℕ, ◌+◌, ◌≤◌, length, refl, ap, sym, ◌∙◌, subst, Option, Some, None, arith}
use Rattle.hw_base.specs.declared.pointers.Site.{Site}
use Rattle.hw_tags.specs.Words.{coming}
use Rattle.hw_tags.specs.declared.words.Words.{Words}
use Rattle.ir_machine.specs.RunStates.{RunState, AddsChain, AreNext, Grows, GrowsLittle, HasDrawn, IsOutcome}
use Rattle.ir_machine.specs.State.{MachineOutcome, MachineSeen, MachineSetting, MachineShared}
use Rattle.ir_machine.specs.StepEnds.{chain_known, with_result}
use Rattle.ir_machine.specs.declared.progress.Progress.{Progress}
use Rattle.ir_machine.specs.declared.progress.Progress.TheVariants.{NoMemory}
use Rattle.ir_machine.proofs.StepGrowth.{AddsAt, adds-site, outcome-adds}

-- ---- words

-- no word was drawn
pub draws-none : (most : ℕ) (words : Words) (before after : ℕ) → after ≡ before → HasDrawn most words words before after
draws-none most words before after same =
    record { count = 0; few = omega arith; drawn = omega (arith, same); rest = λ k. ap (coming words) (more k) }
  where
    more : (k : ℕ) → k ≡ k + 0
    more k = omega arith

-- one word was drawn
pub draws-one : (words next : Words) (before : ℕ) → ((k : ℕ) → coming next k ≡ coming words (k + 1)) → HasDrawn 1 words next before (before + 1)
draws-one words next before rest = record { count = 1; few = omega arith; drawn = refl; rest = rest }

draws-then : (a b : ℕ) (words next last : Words) (before between after : ℕ) → HasDrawn a words next before between → HasDrawn b next last between after
    → HasDrawn (a + b) words last before after
draws-then a b words next last before between after first second =
    let few = first.few in
    let more = second.few in
    let drawn = first.drawn in
    let later = second.drawn in
    record {
      count = first.count + second.count;
      few = omega (arith, few, more);
      drawn = omega (arith, drawn, later);
      rest = λ k. second.rest k ∙ (first.rest (k + second.count) ∙ ap (coming words) (sum k));
    }
  where
    sum : (k : ℕ) → k + second.count + first.count ≡ k + (first.count + second.count)
    sum k = omega arith

draws-most : (a b : ℕ) (words next : Words) (before after : ℕ) → a ≤ b → HasDrawn a words next before after → HasDrawn b words next before after
draws-most a b words next before after most drawn =
    let few = drawn.few in
    record { count = drawn.count; few = omega (arith, few, most); drawn = drawn.drawn; rest = drawn.rest }

-- the words that are left are still those of the setting
pub next-words : (setting : MachineSetting) (most : ℕ) (words next : Words) (before after : ℕ) → AreNext setting words before → HasDrawn most words next before after
    → AreNext setting next after
next-words setting most words next before after are drawn k =
    let n = drawn.drawn in
    let sum : before + (k + drawn.count) ≡ after + k = omega (arith, n) in
    drawn.rest k ∙ (are (k + drawn.count) ∙ ap setting.word sum)

-- ---- what is shared

-- one after the other
pub grows-then : (a b c d e f : ℕ) (words next last : Words) (before between after : MachineShared) → Grows a b c words next before between → Grows d e f next last between after
    → Grows (a + d) (b + e) (c + f) words last before after
grows-then a b c d e f words next last before between after first second =
    let chains = first.chains in
    let more_chains = second.chains in
    let births = first.births in
    let more_births = second.births in
    let stacks = first.stacks_are in
    let more_stacks = second.stacks_are in
    let rings = first.rings_are in
    let more_rings = second.rings_are in
    record {
      chains = omega (arith, chains, more_chains);
      births = omega (arith, births, more_births);
      drawn = draws-then c f words next last before.drawn between.drawn after.drawn first.drawn second.drawn;
      stacks_are = omega (arith, stacks, more_stacks);
      rings_are = omega (arith, rings, more_rings);
    }

-- a step may add as much
pub grows-little : (a b c : ℕ) (words next : Words) (before after : MachineShared) → a ≤ 2 → b ≤ 1 → c ≤ 2 → Grows a b c words next before after → GrowsLittle words next before after
grows-little a b c words next before after most_a most_b most_c grows =
    let chains = grows.chains in
    let births = grows.births in
    record {
      chains = omega (arith, chains, most_a);
      births = omega (arith, births, most_b);
      drawn = draws-most c 2 words next before.drawn after.drawn most_c grows.drawn;
      stacks_are = grows.stacks_are;
      rings_are = grows.rings_are;
    }

pub adds-grow : (words : Words) (before after : MachineShared) → AddsChain before after → Grows 1 0 0 words words before after
adds-grow words before after adds =
    let births = adds.births in
    record {
      chains = adds.chains;
      births = omega (arith, births);
      drawn = draws-none 0 words before.drawn after.drawn adds.drawn;
      stacks_are = adds.stacks_are;
      rings_are = adds.rings_are;
    }

-- nothing but a chain may be added
pub adds-little : (words : Words) (before after : MachineShared) → AddsChain before after → GrowsLittle words words before after
adds-little words before after adds =
    grows-little 1 0 0 words words before after (omega arith) (omega arith) (omega arith) (adds-grow words before after adds)

-- the chain of a site
pub site-grows : (words : Words) (s : MachineSeen) (site : Site) → Grows 1 0 0 words words s.shared (chain_known s site).shared
site-grows words s site = adds-grow words s.shared (chain_known s site).shared (adds-site s site)

-- a step that draws no word and has no birth
pub outcome-little : (words : Words) (before : MachineShared) (outcome : MachineOutcome) (progress : Progress) (v : RunState) → IsOutcome outcome progress v → progress ≢ NoMemory
    → AddsAt before outcome → GrowsLittle words words before v.seen.shared
outcome-little words before outcome progress v is some adds =
    adds-little words before v.seen.shared (outcome-adds before outcome progress v is some adds)

-- ---- what a result keeps

pub result-keeps : (s : MachineSeen) (to : Option ℕ) (n : ℕ) → (with_result s to n).shared ≡ s.shared
result-keeps s None n = refl
result-keeps s (Some to) n = refl

pub result-place : (s : MachineSeen) (to : Option ℕ) (n : ℕ) → (with_result s to n).frame.place ≡ s.frame.place
result-place s None n = refl
result-place s (Some to) n = refl

-- ---- births and deaths

-- a birth after the chain of its site was added
pub birth-grows : (words next : Words) (s : MachineSeen) (site : Site) (pushed born after : MachineShared) → pushed ≡ (chain_known s site).shared
    → Grows 0 1 1 words next pushed born → after ≡ born → Grows 1 1 1 words next s.shared after
birth-grows words next s site pushed born after same grows kept =
    subst (Grows 1 1 1 words next s.shared) (sym kept)
    (grows-then 1 0 0 0 1 1 words words next s.shared (chain_known s site).shared born (site-grows words s site)
    (subst (λ (shared : MachineShared). Grows 0 1 1 words next shared born) same grows))

-- a death after the chain of its site was added
pub death-grows : (words next : Words) (s : MachineSeen) (site : Site) (pushed dead after : MachineShared) → pushed ≡ (chain_known s site).shared
    → Grows 0 0 1 words next pushed dead → after ≡ dead → Grows 1 0 1 words next s.shared after
death-grows words next s site pushed dead after same grows kept =
    subst (Grows 1 0 1 words next s.shared) (sym kept)
    (grows-then 1 0 0 0 0 1 words words next s.shared (chain_known s site).shared dead (site-grows words s site)
    (subst (λ (shared : MachineShared). Grows 0 0 1 words next shared dead) same grows))

-- only the chain of a site was added
pub site-little : (words next : Words) (s : MachineSeen) (site : Site) (after : MachineShared) → next ≡ words → after ≡ (chain_known s site).shared → GrowsLittle words next s.shared after
site-little words next s site after same_words same =
    subst (λ (w : Words). GrowsLittle words w s.shared after) (sym same_words)
    (subst (GrowsLittle words words s.shared) (sym same)
    (grows-little 1 0 0 words words s.shared (chain_known s site).shared (omega arith) (omega arith) (omega arith) (site-grows words s site)))
