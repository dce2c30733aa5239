-- The tables of blocks and of frames stay related when the chain table grows and births are added, and when a birth dies that is
-- none of theirs.
use Rattle.std.proofs.Common.{◌≡◌, ◌≢◌, ℕ, zero, suc, List, [], ◌∷◌, length, take, slice_get, Some, refl, ◌∙◌, ap}
use Rattle.dbg_sites.proofs.ChainLemmas.{pushed-earlier}
use Rattle.dbg_sites.specs.ChainTable.{ChainEntry, pushed, IsChainTable}
use Rattle.hw_base.specs.declared.pointers.Site.{Site}
use Rattle.ir_machine.proofs.KeptTables.{pushed-grows}
use Rattle.ir_meaning.specs.Births.{changed_at}
use Rattle.stack_tags.specs.Frames.{LivingFrame}
use Rattle.stack_tags.specs.declared.frame_record.FrameRecord.{FrameRecord}
use Rattle.tag_alloc.specs.declared.blocks.Block.{Block}
use Rattle.tag_alloc.specs.declared.blocks.Freed.{Freed}
use Rattle.tag_story.specs.Story.{StoryBirth, OpenFrame, FreedBlock, EndedFrame}
use Rattle.simulation.specs.BirthsAndDeaths.{ChainsStay}
use Rattle.simulation.specs.Parts.{IsBlockOf, IsFreedOf, AreEach, IsFrameOf, IsEndedOf}
use Rattle.std.proofs.Common.{arith}

-- ---- chains

pub pushed-stay : (table : List ChainEntry) (rest : ℕ) (site : Site) → IsChainTable table → ChainsStay table (pushed table rest site).table
pushed-stay table rest site is number chain h =
    let grows = pushed-grows table rest site in
    let there = h.there in
    record { there = omega (arith, grows, there); sites = pushed-earlier table rest site number is h.there ∙ h.sites }

-- ---- lists item by item

pub each-map : {X Y : Type 0} (R S : X → Y → Type 0) (xs : List X) (ys : List Y) → ((x : X) (y : Y) → R x y → S x y) → AreEach R xs ys → AreEach S xs ys
each-map R S [] [] go h = tt
each-map R S [] (y ∷ ys) go h = h
each-map R S (x ∷ xs) [] go h = h
each-map R S (x ∷ xs) (y ∷ ys) go h = (go x y h.0, each-map R S xs ys go h.1)

-- the same, for a fact that the second list has
pub each-map_in : {X Y : Type 0} (R S : X → Y → Type 0) (xs : List X) (ys : List Y) → ((x : X) (y : Y) (i : ℕ) → slice_get ys i ≡ Some y → R x y → S x y) → AreEach R xs ys → AreEach S xs ys
each-map_in R S [] [] go h = tt
each-map_in R S [] (y ∷ ys) go h = h
each-map_in R S (x ∷ xs) [] go h = h
each-map_in R S (x ∷ xs) (y ∷ ys) go h = (go x y 0 refl h.0, each-map_in R S xs ys (λ z w i there. go z w (suc i) there) h.1)

pub each-take : {X Y : Type 0} (R : X → Y → Type 0) (n : ℕ) (xs : List X) (ys : List Y) → AreEach R xs ys → AreEach R (take n xs) (take n ys)
each-take R zero xs ys h = tt
each-take R (suc n) [] [] h = tt
each-take R (suc n) [] (y ∷ ys) h = absurd h
each-take R (suc n) (x ∷ xs) [] h = absurd h
each-take R (suc n) (x ∷ xs) (y ∷ ys) h = (h.0, each-take R n xs ys h.1)

pub each-length : {X Y : Type 0} (R : X → Y → Type 0) (xs : List X) (ys : List Y) → AreEach R xs ys → length xs ≡ length ys
each-length R [] [] h = refl
each-length R [] (y ∷ ys) h = absurd h
each-length R (x ∷ xs) [] h = absurd h
each-length R (x ∷ xs) (y ∷ ys) h = ap suc (each-length R xs ys h.1)

pub take-again : {X : Type 0} (n : ℕ) (x : X) (xs : List X) → take n (x ∷ take n xs) ≡ take n (x ∷ xs)
take-again zero x xs = refl
take-again (suc n) x xs = ap (λ ys. x ∷ ys) (shorter n xs)
  where
    shorter : {X : Type 0} (n : ℕ) (xs : List X) → take n (take (suc n) xs) ≡ take n xs
    shorter zero xs = refl
    shorter (suc n) [] = refl
    shorter (suc n) (y ∷ ys) = ap (λ zs. y ∷ zs) (shorter n ys)

-- ---- births

-- all births but one stay as they are
abbrev pub StayBut : (number : ℕ) → (births after : List StoryBirth) → Type 0
StayBut number births after = (n : ℕ) (birth : StoryBirth) → n ≢ number → slice_get births n ≡ Some birth → slice_get after n ≡ Some birth

pub changed-other : {X : Type 0} (f : X → X) (xs : List X) (i j : ℕ) (x : X) → j ≢ i → slice_get xs j ≡ Some x → slice_get (changed_at f xs i) j ≡ Some x
unfolding changed_at
changed-other f [] i j x other h = h
changed-other f (y ∷ ys) zero zero x other h = absurd (other refl)
changed-other f (y ∷ ys) zero (suc j) x other h = h
changed-other f (y ∷ ys) (suc i) zero x other h = h
changed-other f (y ∷ ys) (suc i) (suc j) x other h = changed-other f ys i j x (λ same. other (ap suc same)) h

pub changed-here : {X : Type 0} (f : X → X) (xs : List X) (i : ℕ) (x : X) → slice_get xs i ≡ Some x → slice_get (changed_at f xs i) i ≡ Some (f x)
unfolding changed_at
changed-here f [] i x h = absurd cc
changed-here f (y ∷ ys) zero x h = let same : y ≡ x = cc in ap (λ z. Some (f z)) same
changed-here f (y ∷ ys) (suc i) x h = changed-here f ys i x h

module _ (table table_after : List ChainEntry) (births after : List StoryBirth) (number : ℕ) (chains : ChainsStay table table_after) (stay : StayBut number births after) where
  pub block-kept : (block : Block) (birth : StoryBirth) → block.birth ≢ number → IsBlockOf table births block birth → IsBlockOf table_after after block birth
  block-kept block birth other is =
      record {
        there = stay block.birth birth other is.there;
        region = is.region;
        alive = is.alive;
        objects = is.objects;
        born = chains block.born birth.born is.born;
      }

  pub freed-kept : (freed : Freed) (x : FreedBlock) → x.birth ≢ number → IsFreedOf table births freed x → IsFreedOf table_after after freed x
  freed-kept freed x other is =
      record {
        birth = is.birth;
        block = is.block;
        story = is.story;
        there = stay x.birth is.story other is.there;
        chain = is.chain;
        dead = is.dead;
        born = chains freed.block.born is.story.born is.born;
        died = chains freed.died is.chain is.died;
      }

  pub frame-kept : (living : LivingFrame) (frame : OpenFrame) → frame.birth ≢ number → IsFrameOf table births living frame → IsFrameOf table_after after living frame
  frame-kept living frame other is =
      record {
        birth = is.birth;
        low = is.low;
        story = is.story;
        there = stay frame.birth is.story other is.there;
        region = is.region;
        alive = is.alive;
        objects = is.objects;
        born = chains living.frame.born is.story.born is.born;
      }

  pub ended-kept : (ended : FrameRecord) (x : EndedFrame) → x.birth ≢ number → IsEndedOf table births ended x → IsEndedOf table_after after ended x
  ended-kept ended x other is =
      record {
        birth = is.birth;
        story = is.story;
        there = stay x.birth is.story other is.there;
        region = is.region;
        objects = is.objects;
        chain = is.chain;
        dead = is.dead;
        number = is.number;
        died_at = is.died_at;
        born = chains ended.born is.story.born is.born;
        died = chains is.number is.chain is.died;
      }
