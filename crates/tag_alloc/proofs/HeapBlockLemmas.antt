-- Laws of the table of blocks, by places in the list.
use Rattle.std.proofs.Common.{◌≡◌, ◌≢◌, ℕ, zero, suc, Bool, true, false, not, List, [], ◌∷◌, Option, Some, None, refl, sym, ◌∙◌, ap, subst, inl, inr, arith}
use Rattle.std.specs.Prelude.{slice_get, ◌⊎◌, ◌==◌, nat_lt, if◌then◌else◌}
use Rattle.std.specs.List.{filter}
use Rattle.std.proofs.lemmas.Bool.{cond-true}
use Rattle.std.proofs.lemmas.Bool.Decides.{nat_tests}
use Rattle.hw_base.specs.TaggedAddress.{address_of, pointer_tag}
use Rattle.tag_alloc.specs.declared.blocks.Block.{Block}
use Rattle.tag_alloc.specs.declared.blocks.FreeMismatch.{FreeMismatch}
use Rattle.tag_alloc.specs.HeapBlocks.{HeapState, with_block, without_block, block_at, mismatch_with, free_mismatch, IsFreeable}

-- a block before the others, or after the first of them
put : Bool → Block → Block → List Block → List Block → List Block
put t block other blocks later = if t then block ∷ other ∷ blocks else other ∷ later

with_block-suc : (block other : Block) (blocks : List Block) → with_block block (other ∷ blocks) ≡ put (nat_lt block.at other.at) block other blocks (with_block block blocks)
unfolding with_block put
with_block-suc block other blocks = refl

put-born : (t : Bool) (block other : Block) (blocks later : List Block) → (i : ℕ) × (slice_get later i ≡ Some block) → (i : ℕ) × (slice_get (put t block other blocks later) i ≡ Some block)
unfolding put
put-born true block other blocks later h = (0, refl)
put-born false block other blocks later (i, h) = (suc i, h)

pub with_block-born : (block : Block) (blocks : List Block) → (i : ℕ) × (slice_get (with_block block blocks) i ≡ Some block)
unfolding with_block
with_block-born block [] = (0, refl)
with_block-born block (other ∷ blocks) =
    let (i, h) = put-born (nat_lt block.at other.at) block other blocks (with_block block blocks) (with_block-born block blocks) in
    (i, ap (λ (xs : List Block). slice_get xs i) (with_block-suc block other blocks) ∙ h)

put-stays : (t : Bool) (block first other : Block) (blocks later : List Block) (i : ℕ) → slice_get (first ∷ blocks) i ≡ Some other → ((k : ℕ) → slice_get blocks k ≡ Some other → (j : ℕ) × (slice_get later j ≡ Some other)) → (j : ℕ) × (slice_get (put t block first blocks later) j ≡ Some other)
unfolding put
put-stays true block first other blocks later i h rest = (suc i, h)
put-stays false block first other blocks later zero h rest = (0, h)
put-stays false block first other blocks later (suc i) h rest = let (j, there) = rest i h in (suc j, there)

pub with_block-stays : (block other : Block) (blocks : List Block) (i : ℕ) → slice_get blocks i ≡ Some other → (j : ℕ) × (slice_get (with_block block blocks) j ≡ Some other)
with_block-stays block other [] i h = cc
with_block-stays block other (first ∷ blocks) i h =
    let (j, there) = put-stays (nat_lt block.at first.at) block first other blocks (with_block block blocks) i h (with_block-stays block other blocks) in
    (j, ap (λ (xs : List Block). slice_get xs j) (with_block-suc block first blocks) ∙ there)

put-no_other : (t : Bool) (block first other : Block) (blocks later : List Block) (i : ℕ) → slice_get (put t block first blocks later) i ≡ Some other → ((k : ℕ) → slice_get later k ≡ Some other → (other ≡ block) ⊎ ((j : ℕ) × (slice_get blocks j ≡ Some other))) → (other ≡ block) ⊎ ((j : ℕ) × (slice_get (first ∷ blocks) j ≡ Some other))
unfolding put
put-no_other true block first other blocks later zero h rest = inl cc
put-no_other true block first other blocks later (suc i) h rest = inr (i, h)
put-no_other false block first other blocks later zero h rest = inr (0, h)
put-no_other false block first other blocks later (suc i) h rest =
    elim (rest i h) [
      | inl same ↦ inl same
      | inr there ↦ inr (suc there.0, there.1)
    ]

pub with_block-no_other : (block other : Block) (blocks : List Block) (i : ℕ) → slice_get (with_block block blocks) i ≡ Some other → (other ≡ block) ⊎ ((j : ℕ) × (slice_get blocks j ≡ Some other))
unfolding with_block
with_block-no_other block other [] zero h = inl cc
with_block-no_other block other [] (suc i) h = cc
with_block-no_other block other (first ∷ blocks) i h =
    put-no_other (nat_lt block.at first.at) block first other blocks (with_block block blocks) i
    (sym (ap (λ (xs : List Block). slice_get xs i) (with_block-suc block first blocks)) ∙ h)
    (with_block-no_other block other blocks)

-- a filtered list has the elements that pass
filter-at : {A : Type 0} (p : A → Bool) (y x : A) (ys rest : List A) (t : Bool) → p y ≡ t → ((i : ℕ) → slice_get rest i ≡ Some x → (p x ≡ true) × ((j : ℕ) × (slice_get ys j ≡ Some x))) → (i : ℕ) → slice_get (if t then y ∷ rest else rest) i ≡ Some x → (p x ≡ true) × ((j : ℕ) × (slice_get (y ∷ ys) j ≡ Some x))
filter-at p y x ys rest true e later zero h = let same : y ≡ x = cc in (subst (λ z. p z ≡ true) same e, (0, h))
filter-at p y x ys rest true e later (suc i) h = let (pass, (j, there)) = later i h in (pass, (suc j, there))
filter-at p y x ys rest false e later i h = let (pass, (j, there)) = later i h in (pass, (suc j, there))

pub filter-has : {A : Type 0} (p : A → Bool) (xs : List A) (i : ℕ) (x : A) → slice_get (filter p xs) i ≡ Some x → (p x ≡ true) × ((j : ℕ) × (slice_get xs j ≡ Some x))
filter-has p [] i x h = cc
filter-has p (y ∷ ys) i x h = filter-at p y x ys (filter p ys) (p y) refl (λ k g. filter-has p ys k x g) i h

kept-at : {A : Type 0} (p : A → Bool) (y x : A) (ys rest : List A) (t : Bool) → p y ≡ t → p x ≡ true → ((i : ℕ) → slice_get ys i ≡ Some x → (j : ℕ) × (slice_get rest j ≡ Some x)) → (i : ℕ) → slice_get (y ∷ ys) i ≡ Some x → (j : ℕ) × (slice_get (if t then y ∷ rest else rest) j ≡ Some x)
kept-at p y x ys rest true e pass later zero h = (0, h)
kept-at p y x ys rest true e pass later (suc i) h = let (j, there) = later i h in (suc j, there)
kept-at p y x ys rest false e pass later zero h = let same : y ≡ x = cc in let no = subst (λ z. p z ≡ false) same e in absurd (cc)
kept-at p y x ys rest false e pass later (suc i) h = later i h

-- and it keeps each of them
pub filter-keeps : {A : Type 0} (p : A → Bool) (xs : List A) (i : ℕ) (x : A) → slice_get xs i ≡ Some x → p x ≡ true → (j : ℕ) × (slice_get (filter p xs) j ≡ Some x)
filter-keeps p [] i x h pass = absurd (cc)
filter-keeps p (y ∷ ys) i x h pass = kept-at p y x ys (filter p ys) (p y) refl pass (λ k g. filter-keeps p ys k x g pass) i h

elsewhere : (a b : ℕ) → not (a == b) ≡ true → a ≢ b
elsewhere a b h = grind (arith, nat_tests)

elsewhere-true : (a b : ℕ) → a ≢ b → not (a == b) ≡ true
elsewhere-true a b h = grind (arith, nat_tests)

pub without_block-dead : (address : ℕ) (block : Block) (blocks : List Block) (i : ℕ) → slice_get (without_block address blocks) i ≡ Some block → (block.at ≢ address) × ((j : ℕ) × (slice_get blocks j ≡ Some block))
without_block-dead address block blocks i h =
    let (pass, there) = filter-has (λ (b : Block). not (b.at == address)) blocks i block h in
    (elsewhere block.at address pass, there)

pub without_block-stays : (address : ℕ) (block : Block) (blocks : List Block) (i : ℕ) → slice_get blocks i ≡ Some block → block.at ≢ address → (j : ℕ) × (slice_get (without_block address blocks) j ≡ Some block)
without_block-stays address block blocks i h other = filter-keeps (λ (b : Block). not (b.at == address)) blocks i block h (elsewhere-true block.at address other)

-- the free rule, by the test on the number and the block at its address
tags-equal : (s : Bool) (a b : ℕ) (found : FreeMismatch) → (a == b) ≡ s → (if s then None else Some found) ≡ None → a ≡ b
tags-equal true a b found e h = grind (arith, nat_tests)
tags-equal false a b found e h = absurd (cc)

rule-none : (t : Bool) (pointer : ℕ) (o : Option Block) → (if t then None else mismatch_with pointer o) ≡ None → (t ≡ true) ⊎ ((block : Block) × (o ≡ Some block) × (block.tag ≡ pointer))
rule-none true pointer o h = inl refl
rule-none false pointer None h = absurd (cc)
rule-none false pointer (Some block) h = inr (block, refl, tags-equal (block.tag == pointer) block.tag pointer (record { pointer = pointer; block = Some block.tag }) refl h)

none-rule : (t : Bool) (pointer : ℕ) (o : Option Block) → (t ≡ true) ⊎ ((block : Block) × (o ≡ Some block) × (block.tag ≡ pointer)) → (if t then None else mismatch_with pointer o) ≡ None
none-rule true pointer o h = refl
none-rule false pointer o (inl h) = cc
none-rule false pointer o (inr (block, there, same)) =
    ap (mismatch_with pointer) there
    ∙ (let e : (block.tag == pointer) ≡ true = grind (arith, nat_tests) in cond-true (block.tag == pointer) None (Some (record { pointer = pointer; block = Some block.tag })) e)

pub free_mismatch-none : (heap : HeapState) (number : ℕ) → free_mismatch heap number ≡ None → IsFreeable heap number
free_mismatch-none heap number h =
    elim (rule-none (number == 0) (pointer_tag number) (block_at heap (address_of number)) h) [
      | inl e ↦ inl (grind (arith, nat_tests))
      | inr there ↦ inr there
    ]

pub freeable-none : (heap : HeapState) (number : ℕ) → IsFreeable heap number → free_mismatch heap number ≡ None
freeable-none heap number (inl e) = none-rule (number == 0) (pointer_tag number) (block_at heap (address_of number)) (inl (grind (arith, nat_tests)))
freeable-none heap number (inr there) = none-rule (number == 0) (pointer_tag number) (block_at heap (address_of number)) (inr there)
