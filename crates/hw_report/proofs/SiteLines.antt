-- The lines of a chain, site by site.
use Rattle.std.proofs.Common.{◌≡◌, ℕ, zero, suc, ◌-◌, ◌<◌, List, [], ◌∷◌, ◌++◌, refl, ap, sym, ◌∙◌, append_assoc, Option, Some, None, arith}
use Rattle.std.proofs.lemmas.List.{append-nil}
use Rattle.hw_base.specs.declared.pointers.Site.{Site}
use Rattle.dbg_sites.specs.ChainLinks.{IsPart}
use Rattle.dbg_sites.specs.ChainTable.{ChainEntry, part_of, chain_within}
use Rattle.ir_core.specs.declared.ir_module.Module.{Module}
use Rattle.hw_report.specs.Sites.{site_line, chain_lines}

some-is : (a b : Site × ℕ) → Some a ≡ Some b → a ≡ b
some-is a b h = cc

part-is : (part : Option ChainEntry) (site : Site) (rest : ℕ) → IsPart part (Some (site, rest)) → part ≡ Some (record { site = site; rest = rest })
part-is None site rest h = absurd (cc)
part-is (Some entry) site rest h =
    let entry_with : Site × ℕ → Option ChainEntry = λ p. Some (record { site = p.0; rest = p.1 }) in
    ap entry_with (sym (some-is (site, rest) (entry.site, entry.rest) h))

part-none : (part : Option ChainEntry) → IsPart part None → part ≡ None
part-none None h = refl
part-none (Some entry) h = absurd (cc)

within-next : (table : List ChainEntry) (most number : ℕ) (entry : ChainEntry) → part_of table number ≡ Some entry
    → chain_within table (suc most) number ≡ entry.site ∷ chain_within table most entry.rest
unfolding chain_within
within-next table most number entry here = rw (here, chain_within) refl

within-end : (table : List ChainEntry) (most number : ℕ) → part_of table number ≡ None → chain_within table most number ≡ []
unfolding chain_within
within-end table zero number none = refl
within-end table (suc most) number none = rw (none, chain_within) refl

pub within-none : (table : List ChainEntry) (number : ℕ) → chain_within table 0 number ≡ []
unfolding chain_within
within-none table number = refl

module _ (m : Module) (table : List ChainEntry) (left number : ℕ) (text whole : List ℕ) (so_far : text ++ chain_lines m (chain_within table left number) ≡ whole) where
  -- the line of one more site
  pub next-line : (site : Site) (rest : ℕ) → 0 < left → IsPart (part_of table number) (Some (site, rest))
      → (text ++ site_line m site) ++ chain_lines m (chain_within table (left - 1) rest) ≡ whole
  next-line site rest more part =
      let count : left ≡ suc (left - 1) = omega arith in
      let sites : chain_within table left number ≡ site ∷ chain_within table (left - 1) rest =
      ap (λ (n : ℕ). chain_within table n number) count ∙ within-next table (left - 1) number _ (part-is (part_of table number) site rest part) in
      append_assoc text (site_line m site) (chain_lines m (chain_within table (left - 1) rest))
      ∙ (ap (λ (more_sites : List Site). text ++ chain_lines m more_sites) (sym sites) ∙ so_far)

  no-more : chain_within table left number ≡ [] → text ≡ whole
  no-more none = sym (append-nil text) ∙ (ap (λ (sites : List Site). text ++ chain_lines m sites) (sym none) ∙ so_far)

  -- the chain has no more sites
  pub all-lines : IsPart (part_of table number) None → text ≡ whole
  all-lines part = no-more (within-end table left number (part-none (part_of table number) part))

  -- as many sites were shown as the chain's number says
  pub last-line : left ≡ 0 → text ≡ whole
  last-line none = no-more (ap (λ (n : ℕ). chain_within table n number) none ∙ within-none table number)
