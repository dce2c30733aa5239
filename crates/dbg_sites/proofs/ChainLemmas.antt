-- Laws of the chain table: a push gives equal numbers exactly for equal chains.
use Rattle.std.proofs.Common.{◌≡◌, ◌≢◌, ℕ, zero, suc, ◌+◌, ◌<◌, ◌≤◌, Bool, true, false, ◌&&◌, List, [], ◌∷◌, ◌++◌, length, Option, Some, None, refl, sym, ◌∙◌, ap, inl, inr, arith, length-append}
use Rattle.std.specs.Prelude.{slice_get, ◌==◌, ◌⊎◌}
use Rattle.std.proofs.lemmas.Bool.Decides.{nat_tests}
use Rattle.std.proofs.lemmas.Option.{slice_get_within}
use Rattle.hw_base.specs.declared.pointers.Site.{Site}
use Rattle.dbg_sites.specs.ChainTable.{ChainEntry, is_entry, entry_from, numbered, pushed, part_of, chain_within, chain_of, IsChainTable}

-- ---- elements of a list with one more

pub slice_get-push_old : {A : Type 0} (xs : List A) (x : A) (i : ℕ) → i < length xs → slice_get (xs ++ x ∷ []) i ≡ slice_get xs i
slice_get-push_old [] x i h = absurd (omega arith)
slice_get-push_old (y ∷ ys) x zero h = refl
slice_get-push_old (y ∷ ys) x (suc i) h = slice_get-push_old ys x i (omega arith)

pub slice_get-push_new : {A : Type 0} (xs : List A) (x : A) → slice_get (xs ++ x ∷ []) (length xs) ≡ Some x
slice_get-push_new [] x = refl
slice_get-push_new (y ∷ ys) x = slice_get-push_new ys x

pub slice_get-push : {A : Type 0} (xs : List A) (x z : A) (i : ℕ) → slice_get (xs ++ x ∷ []) i ≡ Some z → (slice_get xs i ≡ Some z) ⊎ ((i ≡ length xs) × (x ≡ z))
slice_get-push [] x z zero h = inr (refl, cc)
slice_get-push [] x z (suc i) h = absurd (cc)
slice_get-push (y ∷ ys) x z zero h = inl h
slice_get-push (y ∷ ys) x z (suc i) h =
    elim (slice_get-push ys x z i h) [
      | inl old ↦ inl old
      | inr new ↦ inr (ap suc new.0, new.1)
    ]

-- ---- entries

both : (s t : Bool) → s && t ≡ true → (s ≡ true) × (t ≡ true)
both true t h = (refl, h)
both false t h = absurd (cc)

entries-equal : (a b : ChainEntry) → a.site.func ≡ b.site.func → a.site.inst ≡ b.site.inst → a.rest ≡ b.rest → a ≡ b
entries-equal a b f i r =
    let to : ℕ → ℕ → ℕ → ChainEntry = λ func inst rest. record { site = record { func = func; inst = inst }; rest = rest } in
    ap (λ (n : ℕ). to n a.site.inst a.rest) f ∙ (ap (λ (n : ℕ). to b.site.func n a.rest) i ∙ ap (λ (n : ℕ). to b.site.func b.site.inst n) r)

is_entry-equal : (site : Site) (rest : ℕ) (entry : ChainEntry) → is_entry site rest entry ≡ true → entry ≡ record { site = site; rest = rest }
is_entry-equal site rest entry h =
    let outer = both (entry.site.func == site.func && entry.site.inst == site.inst) (entry.rest == rest) h in
    let inner = both (entry.site.func == site.func) (entry.site.inst == site.inst) outer.0 in
    let f : (entry.site.func == site.func) ≡ true = inner.0 in
    let i : (entry.site.inst == site.inst) ≡ true = inner.1 in
    let r : (entry.rest == rest) ≡ true = outer.1 in
    let fe : entry.site.func ≡ site.func = grind (arith, nat_tests) in
    let ie : entry.site.inst ≡ site.inst = grind (arith, nat_tests) in
    let re : entry.rest ≡ rest = grind (arith, nat_tests) in
    entries-equal entry (record { site = site; rest = rest }) fe ie re

self : (n : ℕ) → (n == n) ≡ true
self n = grind (arith, nat_tests)

is_entry-self : (site : Site) (rest : ℕ) → is_entry site rest (record { site = site; rest = rest }) ≡ true
is_entry-self site rest =
    ap (λ (t : Bool). t && site.inst == site.inst && rest == rest) (self site.func)
    ∙ (ap (λ (t : Bool). t && rest == rest) (self site.inst) ∙ self rest)

-- a place or a later one
place_on : Bool → ℕ → Option ℕ → Option ℕ
place_on t place later = elim t [ true ↦ Some place | false ↦ later ]

entry_from-suc : (entry : ChainEntry) (table : List ChainEntry) (site : Site) (rest place : ℕ) → entry_from (entry ∷ table) site rest place ≡ place_on (is_entry site rest entry) place (entry_from table site rest (place + 1))
unfolding entry_from place_on
entry_from-suc entry table site rest place = refl

place_on-some : (t : Bool) (place found : ℕ) (later : Option ℕ) → place_on t place later ≡ Some found → ((t ≡ true) × (place ≡ found)) ⊎ (later ≡ Some found)
unfolding place_on
place_on-some true place found later h = inl (refl, cc)
place_on-some false place found later h = inr h

place_on-none : (t : Bool) (place : ℕ) (later : Option ℕ) → place_on t place later ≡ None → (t ≡ false) × (later ≡ None)
unfolding place_on
place_on-none true place later h = absurd (cc)
place_on-none false place later h = (refl, h)

-- what is found is the entry
entry_from-some : (table : List ChainEntry) (site : Site) (rest place found : ℕ) → entry_from table site rest place ≡ Some found → (i : ℕ) × (found ≡ place + i) × (slice_get table i ≡ Some (record { site = site; rest = rest }))
unfolding entry_from
entry_from-some [] site rest place found h = absurd (cc)
entry_from-some (entry ∷ table) site rest place found h =
    elim (place_on-some (is_entry site rest entry) place found (entry_from table site rest (place + 1)) (sym (entry_from-suc entry table site rest place) ∙ h)) [
      | inl here ↦ let number = here.1 in (0, omega arith, ap Some (is_entry-equal site rest entry here.0))
      | inr later ↦ let (i, number, there) = entry_from-some table site rest (place + 1) found later in (suc i, omega arith, there)
    ]

-- where none is found, the entry isn't there
entry_from-none : (table : List ChainEntry) (site : Site) (rest place i : ℕ) → entry_from table site rest place ≡ None → slice_get table i ≢ Some (record { site = site; rest = rest })
entry_from-none [] site rest place i h there = cc
entry_from-none (entry ∷ table) site rest place zero h there =
    let parts = place_on-none (is_entry site rest entry) place (entry_from table site rest (place + 1)) (sym (entry_from-suc entry table site rest place) ∙ h) in
    let same : entry ≡ record { site = site; rest = rest } = cc in
    let yes_ : is_entry site rest entry ≡ true = ap (is_entry site rest) same ∙ is_entry-self site rest in
    let no = parts.0 in
    cc
entry_from-none (entry ∷ table) site rest place (suc i) h there =
    let parts = place_on-none (is_entry site rest entry) place (entry_from table site rest (place + 1)) (sym (entry_from-suc entry table site rest place) ∙ h) in
    entry_from-none table site rest (place + 1) i parts.1 there

-- ---- chains

-- the sites of a chain by its part
chain_on : Option ChainEntry → (ChainEntry → List Site) → List Site
chain_on o rest = elim o [ None ↦ [] | Some entry ↦ entry.site ∷ rest entry ]

chain_within-suc : (table : List ChainEntry) (most number : ℕ) → chain_within table (suc most) number ≡ chain_on (part_of table number) (λ entry. chain_within table most entry.rest)
unfolding chain_within chain_on
chain_within-suc table most number = refl

chain_within-zero : (table : List ChainEntry) (number : ℕ) → chain_within table zero number ≡ []
unfolding chain_within
chain_within-zero table number = refl

chain_within-none : (table : List ChainEntry) (most : ℕ) → chain_within table most 0 ≡ []
unfolding chain_within
chain_within-none table zero = refl
chain_within-none table (suc most) = refl

chain_on-none : (o : Option ChainEntry) (rest : ChainEntry → List Site) → o ≡ None → chain_on o rest ≡ []
unfolding chain_on
chain_on-none None rest h = refl
chain_on-none (Some entry) rest h = absurd (cc)

chain_on-some : (o : Option ChainEntry) (rest : ChainEntry → List Site) (entry : ChainEntry) → o ≡ Some entry → chain_on o rest ≡ entry.site ∷ rest entry
unfolding chain_on
chain_on-some None rest entry h = absurd (cc)
chain_on-some (Some other) rest entry h = let same : other ≡ entry = cc in ap (λ (e : ChainEntry). e.site ∷ rest e) same

chain_on-same : (o : Option ChainEntry) (rest other : ChainEntry → List Site) → ((entry : ChainEntry) → o ≡ Some entry → rest entry ≡ other entry) → chain_on o rest ≡ chain_on o other
unfolding chain_on
chain_on-same None rest other h = refl
chain_on-same (Some entry) rest other h = ap (λ (sites : List Site). entry.site ∷ sites) (h entry refl)

-- as many sites as the number says are enough
chain_within-same : (table : List ChainEntry) → IsChainTable table → (most more number : ℕ) → number ≤ most → number ≤ more → chain_within table most number ≡ chain_within table more number
chain_within-same table t most more zero h k = chain_within-none table most ∙ sym (chain_within-none table more)
chain_within-same table t zero more (suc place) h k = absurd (omega arith)
chain_within-same table t (suc most) zero (suc place) h k = absurd (omega arith)
chain_within-same table t (suc most) (suc more) (suc place) h k =
    chain_within-suc table most (suc place)
    ∙ (chain_on-same (slice_get table place) (λ (entry : ChainEntry). chain_within table most entry.rest) (λ (entry : ChainEntry). chain_within table more entry.rest)
    (λ (entry : ChainEntry) (e : slice_get table place ≡ Some entry). let below = t.earlier place entry e in chain_within-same table t most more entry.rest (omega arith) (omega arith))
    ∙ sym (chain_within-suc table more (suc place)))

-- a chain is its front site and the chain of the rest
pub chain_of-entry : (table : List ChainEntry) → IsChainTable table → (place : ℕ) (entry : ChainEntry) → slice_get table place ≡ Some entry → chain_of table (suc place) ≡ entry.site ∷ chain_of table entry.rest
chain_of-entry table t place entry e =
    let below = t.earlier place entry e in
    chain_within-suc table place (suc place)
    ∙ (chain_on-some (slice_get table place) (λ (entry : ChainEntry). chain_within table place entry.rest) entry e
    ∙ ap (λ (sites : List Site). entry.site ∷ sites) (chain_within-same table t place entry.rest entry.rest below (omega arith)))

-- numbers of a table keep their chains when the table grows
chain_within-push : (table : List ChainEntry) (new : ChainEntry) → IsChainTable table → (most number : ℕ) → number ≤ length table → chain_within (table ++ new ∷ []) most number ≡ chain_within table most number
chain_within-push table new t zero number h = chain_within-zero (table ++ new ∷ []) number ∙ sym (chain_within-zero table number)
chain_within-push table new t (suc most) zero h = chain_within-none (table ++ new ∷ []) (suc most) ∙ sym (chain_within-none table (suc most))
chain_within-push table new t (suc most) (suc place) h =
    chain_within-suc (table ++ new ∷ []) most (suc place)
    ∙ (ap (λ (o : Option ChainEntry). chain_on o (λ (entry : ChainEntry). chain_within (table ++ new ∷ []) most entry.rest)) (slice_get-push_old table new place (omega arith))
    ∙ (chain_on-same (slice_get table place) (λ (entry : ChainEntry). chain_within (table ++ new ∷ []) most entry.rest) (λ (entry : ChainEntry). chain_within table most entry.rest)
    (λ (entry : ChainEntry) (e : slice_get table place ≡ Some entry). let below = t.earlier place entry e in chain_within-push table new t most entry.rest (omega arith))
    ∙ sym (chain_within-suc table most (suc place))))

pub chain_of-push : (table : List ChainEntry) (new : ChainEntry) → IsChainTable table → (number : ℕ) → number ≤ length table → chain_of (table ++ new ∷ []) number ≡ chain_of table number
chain_of-push table new t number h = chain_within-push table new t number number h

-- ---- the table

pub empty_table : IsChainTable []
empty_table = record { earlier = λ i entry e. absurd (cc); once = λ i j entry e f. absurd (cc) }

pub table-push : (table : List ChainEntry) (new : ChainEntry) → IsChainTable table → new.rest ≤ length table → ((i : ℕ) → slice_get table i ≢ Some new) → IsChainTable (table ++ new ∷ [])
table-push table new t below absent =
    record {
      earlier = λ i entry e. elim (slice_get-push table new entry i e) [
        | inl old ↦ t.earlier i entry old
        | inr last ↦ let at = last.0 in let same = ap (λ (x : ChainEntry). x.rest) last.1 in omega arith
      ];
      once = λ i j entry e f. once i j entry (slice_get-push table new entry i e) (slice_get-push table new entry j f);
    }
  where
    once : (i j : ℕ) (entry : ChainEntry) → (slice_get table i ≡ Some entry) ⊎ ((i ≡ length table) × (new ≡ entry)) → (slice_get table j ≡ Some entry) ⊎ ((j ≡ length table) × (new ≡ entry)) → i ≡ j
    once i j entry (inl a) (inl b) = t.once i j entry a b
    once i j entry (inl a) (inr b) = absurd (absent i (a ∙ ap Some (sym b.1)))
    once i j entry (inr a) (inl b) = absurd (absent j (b ∙ ap Some (sym a.1)))
    once i j entry (inr a) (inr b) = a.0 ∙ sym b.0

-- what a push is, by whether the entry was there
module _ (table : List ChainEntry) (rest : ℕ) (site : Site) where
  front : (o : Option ℕ) → entry_from table site rest 0 ≡ o → IsChainTable table → rest ≤ length table → chain_of (numbered table site rest o).table (numbered table site rest o).number ≡ site ∷ chain_of table rest
  front (Some place) e t below =
      let (i, number, there) = entry_from-some table site rest 0 place e in
      let at : place + 1 ≡ suc i = omega arith in
      ap (chain_of table) at ∙ chain_of-entry table t i (record { site = site; rest = rest }) there
  front None e t below =
      let new : ChainEntry = record { site = site; rest = rest } in
      let at : length table + 1 ≡ suc (length table) = omega arith in
      ap (chain_of (table ++ new ∷ [])) at
      ∙ (chain_of-entry (table ++ new ∷ []) (table-push table new t below (λ i. entry_from-none table site rest 0 i e)) (length table) new (slice_get-push_new table new)
      ∙ ap (λ (sites : List Site). site ∷ sites) (chain_of-push table new t rest below))

  pub pushed-front : IsChainTable table → rest ≤ length table → chain_of (pushed table rest site).table (pushed table rest site).number ≡ site ∷ chain_of table rest
  unfolding pushed
  pushed-front t below = front (entry_from table site rest 0) refl t below

  earlier : (o : Option ℕ) (number : ℕ) → IsChainTable table → number ≤ length table → chain_of (numbered table site rest o).table number ≡ chain_of table number
  earlier (Some place) number t h = refl
  earlier None number t h = chain_of-push table (record { site = site; rest = rest }) t number h

  pub pushed-earlier : (number : ℕ) → IsChainTable table → number ≤ length table → chain_of (pushed table rest site).table number ≡ chain_of table number
  unfolding pushed
  pushed-earlier number t h = earlier (entry_from table site rest 0) number t h

  within : (o : Option ℕ) → entry_from table site rest 0 ≡ o → (numbered table site rest o).number ≤ length (numbered table site rest o).table
  within (Some place) e =
      let (i, number, there) = entry_from-some table site rest 0 place e in
      let below = slice_get_within table i (record { site = site; rest = rest }) there in
      omega arith
  within None e = let longer = length-append table (record { site = site; rest = rest } ∷ []) in omega arith

  pub pushed-within : (pushed table rest site).number ≤ length (pushed table rest site).table
  unfolding pushed
  pushed-within = within (entry_from table site rest 0) refl

  kept : (o : Option ℕ) → entry_from table site rest 0 ≡ o → IsChainTable table → rest ≤ length table → IsChainTable (numbered table site rest o).table
  kept (Some place) e t below = t
  kept None e t below = table-push table (record { site = site; rest = rest }) t below (λ i. entry_from-none table site rest 0 i e)

  pub pushed-table : IsChainTable table → rest ≤ length table → IsChainTable (pushed table rest site).table
  unfolding pushed
  pushed-table t below = kept (entry_from table site rest 0) refl t below

-- ---- equal chains have one number

entry-there : (table : List ChainEntry) (i : ℕ) → i < length table → (entry : ChainEntry) × (slice_get table i ≡ Some entry)
entry-there [] i h = absurd (omega arith)
entry-there (entry ∷ table) zero h = (entry, refl)
entry-there (entry ∷ table) (suc i) h = entry-there table i (omega arith)

chains-equal : (table : List ChainEntry) → IsChainTable table → (most number other : ℕ) → number ≤ most → number ≤ length table → other ≤ length table → chain_of table number ≡ chain_of table other → number ≡ other
chains-equal table t most zero zero m h k e = refl
chains-equal table t most zero (suc j) m h k e =
    let (f, there) = entry-there table j (omega arith) in
    let front = chain_of-entry table t j f there in
    let none = chain_within-none table 0 in
    absurd (cc)
chains-equal table t most (suc i) zero m h k e =
    let (f, there) = entry-there table i (omega arith) in
    let front = chain_of-entry table t i f there in
    let none = chain_within-none table 0 in
    absurd (cc)
chains-equal table t zero (suc i) (suc j) m h k e = absurd (omega arith)
chains-equal table t (suc most) (suc i) (suc j) m h k e =
    let (a, here) = entry-there table i (omega arith) in
    let (b, there) = entry-there table j (omega arith) in
    let ea = chain_of-entry table t i a here in
    let eb = chain_of-entry table t j b there in
    let both_ : a.site ∷ chain_of table a.rest ≡ b.site ∷ chain_of table b.rest = sym ea ∙ (e ∙ eb) in
    let sites : a.site ≡ b.site = cc in
    let rests : chain_of table a.rest ≡ chain_of table b.rest = cc in
    let la = t.earlier i a here in
    let lb = t.earlier j b there in
    let rest = chains-equal table t most a.rest b.rest (omega arith) (omega arith) (omega arith) rests in
    let same : a ≡ b = entries-equal a b (ap (λ (s : Site). s.func) sites) (ap (λ (s : Site). s.inst) sites) rest in
    ap suc (t.once i j a here (there ∙ ap Some (sym same)))

pub chain_of-equal : (table : List ChainEntry) (number other : ℕ) → IsChainTable table → number ≤ length table → other ≤ length table → chain_of table number ≡ chain_of table other → number ≡ other
chain_of-equal table number other t h k e = chains-equal table t number number other (omega arith) h k e
