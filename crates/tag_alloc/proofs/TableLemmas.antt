-- The blocks of a table with an entry a granule: which one begins at an address, and what a birth and a death do to them.
use Rattle.std.proofs.Common.{◌≡◌, ◌≢◌, ℕ, zero, suc, ◌+◌, ◌-◌, ◌*◌, ◌/◌, ◌%◌, ◌<◌, ◌≤◌, Bool, true, false, ◌&&◌, List, [], ◌∷◌, ◌++◌, length, Option, Some, None, refl, sym, ◌∙◌, ap, arith}
use Rattle.std.specs.Prelude.{◌==◌, nat_le, if◌then◌else◌, replicate, slice_get, slice_set, take, unwrap_or, Result, Ok, Err, is_ok, IsOk}
use Rattle.std.proofs.lemmas.List.{take_all}
use Rattle.std.specs.List.{find}
use Rattle.std.proofs.lemmas.Bool.{cond-true, cond-false}
use Rattle.std.proofs.lemmas.Bool.Decides.{nat_tests}
use Rattle.tag_alloc.specs.declared.blocks.Block.{Block}
use Rattle.tag_alloc.specs.HeapBlocks.{with_block, without_block}
use Rattle.tag_alloc.specs.HeapTables.{BlocksState, blocks_of, AreAt, entry_number}
use Rattle.tag_alloc.proofs.GapLemmas.{with_block-first, with_block-later, with_block-none, without-past, without-here}

-- the block that begins at an address
abbrev pub found_at : ℕ → List Block → Option Block
found_at address blocks = find (λ block. block.at == address) blocks

pub found_at-past : (address : ℕ) (block : Block) (blocks : List Block) → block.at ≢ address → found_at address (block ∷ blocks) ≡ found_at address blocks
found_at-past address block blocks other = cond-false (block.at == address) (Some block) (found_at address blocks) (grind (arith, nat_tests))

found_at-here : (address : ℕ) (block : Block) (blocks : List Block) → block.at ≡ address → found_at address (block ∷ blocks) ≡ Some block
found_at-here address block blocks same = cond-true (block.at == address) (Some block) (found_at address blocks) (grind (arith, nat_tests))

-- no block begins between granules
pub found_at-between : (address at : ℕ) (entries : List (Option Block)) → AreAt at entries → ((i : ℕ) → address ≢ at + 16 * i) → found_at address (blocks_of entries) ≡ None
found_at-between address at [] a apart = refl
found_at-between address at (None ∷ entries) a apart = found_at-between address (at + 16) entries a.1 (λ i e. apart (suc i) (omega (arith, e)))
found_at-between address at (Some block ∷ entries) a apart =
    let here : block.at ≡ at = a.0 in
    let other : block.at ≢ address = λ e. apart 0 (omega (arith, e, here)) in
    found_at-past address block (blocks_of entries) other
    ∙ found_at-between address (at + 16) entries a.1 (λ i e. apart (suc i) (omega (arith, e)))

-- at a granule it is that of the entry
pub found_at-entry : (address at i : ℕ) (entries : List (Option Block)) → AreAt at entries → address ≡ at + 16 * i → found_at address (blocks_of entries) ≡ unwrap_or (slice_get entries i) None
found_at-entry address at i [] a same = refl
found_at-entry address at zero (None ∷ entries) a same = found_at-between address (at + 16) entries a.1 (λ i e. absurd (omega (arith, e, same)))
found_at-entry address at zero (Some block ∷ entries) a same = let here : block.at ≡ at = a.0 in found_at-here address block (blocks_of entries) (omega arith)
found_at-entry address at (suc i) (None ∷ entries) a same = found_at-entry address (at + 16) i entries a.1 (omega arith)
found_at-entry address at (suc i) (Some block ∷ entries) a same =
    let here : block.at ≡ at = a.0 in
    found_at-past address block (blocks_of entries) (λ e. absurd (omega (arith, e, here, same)))
    ∙ found_at-entry address (at + 16) i entries a.1 (omega arith)

number-cases : (t : Bool) (low address i : ℕ) → (if t then Some ((address - low) / 16) else None) ≡ Some i → (t ≡ true) × (i ≡ (address - low) / 16)
number-cases true low address i h = (refl, cc)
number-cases false low address i h = absurd (cc)

number-none : (t : Bool) (n : ℕ) → (if t then Some n else None) ≡ None → t ≡ false
number-none true n h = absurd (cc)
number-none false n h = refl

both-tests : (s t : Bool) → s && t ≡ true → (s ≡ true) × (t ≡ true)
both-tests true t h = (refl, h)
both-tests false t h = absurd (cc)

pub entry_number-some : (low address i : ℕ) → entry_number low address ≡ Some i → address ≡ low + 16 * i
entry_number-some low address i h =
    let (tests, same) = number-cases (nat_le low address && ((address - low) % 16 == 0)) low address i h in
    let (above, steps) = both-tests (nat_le low address) ((address - low) % 16 == 0) tests in
    let above_ : low ≤ address = grind (arith, nat_tests) in
    let steps_ : (address - low) % 16 ≡ 0 = grind (arith, nat_tests) in
    omega (arith, same, above_, steps_)

one-fails : (s t : Bool) → s && t ≡ false → s ≡ true → t ≡ false
one-fails true t h k = h
one-fails false t h k = absurd (cc)

pub entry_number-none : (low address : ℕ) → entry_number low address ≡ None → (i : ℕ) → address ≢ low + 16 * i
entry_number-none low address h i e =
    let tests = number-none (nat_le low address && ((address - low) % 16 == 0)) ((address - low) / 16) h in
    let above_ : low ≤ address = omega arith in
    let steps_ : (address - low) % 16 ≡ 0 = omega arith in
    let above : nat_le low address ≡ true = grind (arith, nat_tests) in
    let steps : ((address - low) % 16 == 0) ≡ true = grind (arith, nat_tests) in
    let fails = one-fails (nat_le low address) ((address - low) % 16 == 0) tests above in
    cc

-- ---- a birth

with_block-above : (block : Block) (at : ℕ) (entries : List (Option Block)) → AreAt at entries → block.at < at → with_block block (blocks_of entries) ≡ block ∷ blocks_of entries
with_block-above block at [] a below = with_block-none block
with_block-above block at (None ∷ entries) a below = with_block-above block (at + 16) entries a.1 (omega arith)
with_block-above block at (Some other ∷ entries) a below =
    let here : other.at ≡ at = a.0 in
    with_block-first block other (blocks_of entries) (omega arith)

pub blocks_of-put : (block : Block) (at i : ℕ) (entries : List (Option Block)) → AreAt at entries → block.at ≡ at + 16 * i → slice_get entries i ≡ Some None → blocks_of (slice_set entries i (Some block)) ≡ with_block block (blocks_of entries)
blocks_of-put block at i [] a same unused = absurd (cc)
blocks_of-put block at zero (None ∷ entries) a same unused = sym (with_block-above block (at + 16) entries a.1 (omega arith))
blocks_of-put block at zero (Some other ∷ entries) a same unused = absurd (cc)
blocks_of-put block at (suc i) (None ∷ entries) a same unused = blocks_of-put block (at + 16) i entries a.1 (omega arith) unused
blocks_of-put block at (suc i) (Some other ∷ entries) a same unused =
    let here : other.at ≡ at = a.0 in
    ap (λ (l : List Block). other ∷ l) (blocks_of-put block (at + 16) i entries a.1 (omega arith) unused)
    ∙ sym (with_block-later block other (blocks_of entries) (omega arith))

pub AreAt-put : (block : Block) (at i : ℕ) (entries : List (Option Block)) → AreAt at entries → block.at ≡ at + 16 * i → AreAt at (slice_set entries i (Some block))
AreAt-put block at i [] a same = tt
AreAt-put block at zero (entry ∷ entries) a same = (omega arith, a.1)
AreAt-put block at (suc i) (entry ∷ entries) a same = (a.0, AreAt-put block (at + 16) i entries a.1 (omega arith))

-- ---- a death

without-above : (address at : ℕ) (entries : List (Option Block)) → AreAt at entries → address < at → without_block address (blocks_of entries) ≡ blocks_of entries
without-above address at [] a below = refl
without-above address at (None ∷ entries) a below = without-above address (at + 16) entries a.1 (omega arith)
without-above address at (Some other ∷ entries) a below =
    let here : other.at ≡ at = a.0 in
    without-past address other (blocks_of entries) (λ e. absurd (omega (arith, e, here, below)))
    ∙ ap (λ (l : List Block). other ∷ l) (without-above address (at + 16) entries a.1 (omega arith))

pub blocks_of-remove : (address at i : ℕ) (entries : List (Option Block)) → AreAt at entries → address ≡ at + 16 * i → blocks_of (slice_set entries i None) ≡ without_block address (blocks_of entries)
blocks_of-remove address at i [] a same = refl
blocks_of-remove address at zero (None ∷ entries) a same = sym (without-above address (at + 16) entries a.1 (omega arith))
blocks_of-remove address at zero (Some other ∷ entries) a same =
    let here : other.at ≡ at = a.0 in
    sym (without-here address other (blocks_of entries) (omega arith) ∙ without-above address (at + 16) entries a.1 (omega arith))
blocks_of-remove address at (suc i) (None ∷ entries) a same = blocks_of-remove address (at + 16) i entries a.1 (omega arith)
blocks_of-remove address at (suc i) (Some other ∷ entries) a same =
    let here : other.at ≡ at = a.0 in
    ap (λ (l : List Block). other ∷ l) (blocks_of-remove address (at + 16) i entries a.1 (omega arith))
    ∙ sym (without-past address other (blocks_of entries) (λ e. absurd (omega (arith, e, here, same))))

pub AreAt-remove : (at i : ℕ) (entries : List (Option Block)) → AreAt at entries → AreAt at (slice_set entries i None)
AreAt-remove at i [] a = tt
AreAt-remove at zero (entry ∷ entries) a = (tt, a.1)
AreAt-remove at (suc i) (entry ∷ entries) a = (a.0, AreAt-remove (at + 16) i entries a.1)

slice_set-past : (i : ℕ) (entries : List (Option Block)) (entry : Option Block) → length entries ≤ i → slice_set entries i entry ≡ entries
slice_set-past i [] entry h = refl
slice_set-past zero (first ∷ entries) entry h = absurd (omega arith)
slice_set-past (suc i) (first ∷ entries) entry h = ap (λ (l : List (Option Block)). first ∷ l) (slice_set-past i entries entry (omega arith))

-- past the entries nothing changes
pub without-past_entries : (address at i : ℕ) (entries : List (Option Block)) → AreAt at entries → address ≡ at + 16 * i → length entries ≤ i → blocks_of entries ≡ without_block address (blocks_of entries)
without-past_entries address at i entries a same past =
    ap blocks_of (sym (slice_set-past i entries None past)) ∙ blocks_of-remove address at i entries a same

-- ---- more entries

blocks_of-none : (n : ℕ) → blocks_of (replicate n None) ≡ []
blocks_of-none zero = refl
blocks_of-none (suc n) = blocks_of-none n

pub blocks_of-more : (n : ℕ) (entries : List (Option Block)) → blocks_of (entries ++ replicate n None) ≡ blocks_of entries
blocks_of-more n [] = blocks_of-none n
blocks_of-more n (None ∷ entries) = blocks_of-more n entries
blocks_of-more n (Some block ∷ entries) = ap (λ (l : List Block). block ∷ l) (blocks_of-more n entries)

AreAt-none : (n at : ℕ) → AreAt at (replicate n None)
AreAt-none zero at = tt
AreAt-none (suc n) at = (tt, AreAt-none n (at + 16))

pub AreAt-more : (n at : ℕ) (entries : List (Option Block)) → AreAt at entries → AreAt at (entries ++ replicate n None)
AreAt-more n at [] a = AreAt-none n at
AreAt-more n at (entry ∷ entries) a = (a.0, AreAt-more n (at + 16) entries a.1)

-- an entry that is there, and whose block isn't, has none
unused-entry : (i : ℕ) (entries : List (Option Block)) → i < length entries → unwrap_or (slice_get entries i) None ≡ None → slice_get entries i ≡ Some None
unused-entry i [] within none_ = absurd (omega arith)
unused-entry zero (entry ∷ entries) within none_ = ap Some none_
unused-entry (suc i) (entry ∷ entries) within none_ = unused-entry i entries (omega arith) none_

-- an entry that is there, and at whose granule no block begins, has none
pub unused-place : (address at i : ℕ) (entries : List (Option Block)) → AreAt at entries → address ≡ at + 16 * i → i < length entries → found_at address (blocks_of entries) ≡ None → slice_get entries i ≡ Some None
unused-place address at i entries a same within unused = unused-entry i entries within (sym (found_at-entry address at i entries a same) ∙ unused)

-- ---- the state of a table after a change of its blocks

abbrev state_of : List Block → ℕ → ℕ → BlocksState
state_of blocks low high = record { blocks = blocks; low = low; high = high }

pub changed-state : (f : List Block → List Block) (blocks after : List Block) (low high : ℕ) (now : BlocksState) → ◌≡◌ {A = BlocksState} (record { blocks = blocks; low = low; high = high }) now → after ≡ f blocks → ◌≡◌ {A = BlocksState} (record { blocks = after; low = low; high = high }) (record { blocks = f now.blocks; low = now.low; high = now.high })
changed-state f blocks after low high now view e =
    ap (λ (l : List Block). state_of l low high) e
    ∙ ap (λ (s : BlocksState). state_of (f s.blocks) s.low s.high) view

pub resized : {E : Type 0} (r : Result (Unit {0}) E) (n gap : ℕ) (old new : List (Option Block)) → new ≡ (if is_ok r then take n old ++ replicate gap None else old) → IsOk r → length old ≤ n → new ≡ old ++ replicate gap None
resized (Ok _) n gap old new e ok fewer = e ∙ ap (λ (l : List (Option Block)). l ++ replicate gap None) (take_all n old fewer)
resized (Err _) n gap old new e ok fewer = absurd (cc)
