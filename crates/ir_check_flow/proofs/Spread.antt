-- Questions that come to several blocks, and along all paths.
use Rattle.std.specs.Global.{Vec}
use Rattle.std.proofs.Common.{drop, replicate, ◌≡◌, ◌≢◌, ℕ, zero, suc, ◌+◌, ◌^◌, ◌<◌, ◌⊎◌, inl, inr, List, [], ◌∷◌, ◌++◌, take, length, get_or, refl, sym, ap, subst, ◌∙◌, arith, add-one}
use Rattle.std.proofs.Math.Seq.{take-suc, get_or-append_seam, take-append_seam}
use Rattle.std.proofs.Math.ListN.{set, get_or-append, length-set}
use Rattle.std.proofs.lemmas.List.{length-append, length-map, length-replicate, get_or-map, get_or-set_same, get_or-set_other}
use Rattle.std.proofs.lemmas.Nat.Bits.{bit_at-zero}
use Rattle.std.proofs.lemmas.List.Elements.{Contains-append_left, Contains-append_right, Contains-append_cases}
use Rattle.std.proofs.lemmas.Bool.{cases_eq}
use Rattle.std.specs.List.{All, Contains}
use Rattle.std.specs.Int.{bit_at}
use Rattle.ir_check_flow.specs.Ways.{IsPath, entry, onward, Leads}
use Rattle.ir_check_flow.specs.Spreading.{HasBit, without, lists_of, IsReached, AreReached, IsOpen, AreOpen, NoneAnswers, IsPassedOn, IsSpreading, AreWays}
use Rattle.ir_check_flow.proofs.QuestionBits.{of_left, is_left}

-- nothing has come yet
pub none_yet : (bits : ℕ) (reach work : List ℕ) → AreReached [] bits reach work reach work
none_yet bits reach work = record {
  same = refl;
  grows = λ block q h. h;
  comes = λ to q h. absurd (omega (arith, h.1));
  only = λ block q h. inl h;
  kept = λ block h. h;
  pending = λ block. inl refl;
  inside = λ count targets all. all;
  room = omega arith;
}

is_last : (to x : ℕ) → Contains (to ∷ []) x → x ≡ to
is_last to x (zero, within, e) = sym e
is_last to x (suc k, within, e) = absurd (omega arith)

-- and then to one block more
came : (done : List ℕ) (to bits : ℕ) (reach work first working second last : List ℕ)
    → AreReached done bits reach work first working → IsReached to bits first working second last
    → (x q : ℕ) → Contains done x ⊎ Contains (to ∷ []) x → HasBit bits q → HasBit (get_or second x 0) q
came done to bits reach work first working second last h k x q (inl there) has = k.grows x q (h.comes x q there has)
came done to bits reach work first working second last h k x q (inr there) has =
    subst (λ (b : ℕ). HasBit (get_or second b 0) q) (sym (is_last to x there)) (k.comes q has)

only_these : (done : List ℕ) (to bits : ℕ) (reach : List ℕ) (block q : ℕ)
    → HasBit (get_or reach block 0) q ⊎ (Contains done block × HasBit bits q)
    → HasBit (get_or reach block 0) q ⊎ (Contains (done ++ to ∷ []) block × HasBit bits q)
only_these done to bits reach block q (inl h) = inl h
only_these done to bits reach block q (inr h) = inr (Contains-append_left done (to ∷ []) block h.0, h.1)

only_one_more : (done : List ℕ) (to bits : ℕ) (reach work first working : List ℕ) → AreReached done bits reach work first working
    → (block q : ℕ) → HasBit (get_or first block 0) q ⊎ ((block ≡ to) × HasBit bits q)
    → HasBit (get_or reach block 0) q ⊎ (Contains (done ++ to ∷ []) block × HasBit bits q)
only_one_more done to bits reach work first working h block q (inl has) = only_these done to bits reach block q (h.only block q has)
only_one_more done to bits reach work first working h block q (inr has) =
    inr (subst (λ (b : ℕ). Contains (done ++ to ∷ []) b) (sym has.0) (Contains-append_right done (to ∷ []) to (0, omega arith, refl)), has.1)

pending_too : (reach first second working last : List ℕ) (block : ℕ) → ((b : ℕ) → Contains working b → Contains last b)
    → (get_or first block 0 ≡ get_or reach block 0) ⊎ Contains working block → (get_or second block 0 ≡ get_or first block 0) ⊎ Contains last block
    → (get_or second block 0 ≡ get_or reach block 0) ⊎ Contains last block
pending_too reach first second working last block kept (inl a) (inl b) = inl (b ∙ a)
pending_too reach first second working last block kept (inl a) (inr b) = inr b
pending_too reach first second working last block kept (inr a) other = inr (kept block a)

front_all : (count : ℕ) (done : List ℕ) (to : ℕ) → All (λ block. block < count) (done ++ to ∷ []) → All (λ block. block < count) done
front_all count done to all k d within =
    subst (λ (n : ℕ). n < count) (get_or-append done (to ∷ []) d k within)
    (all k d (subst (λ (n : ℕ). k < n) (sym (length-append done (to ∷ []))) (omega arith)))

last_all : (count : ℕ) (done : List ℕ) (to : ℕ) → All (λ block. block < count) (done ++ to ∷ []) → to < count
last_all count done to all =
    subst (λ (n : ℕ). n < count) (get_or-append_seam done to [] 0)
    (all (length done) 0 (subst (λ (n : ℕ). length done < n) (sym (length-append done (to ∷ []))) (omega arith)))

pub one_more : (done : List ℕ) (to bits : ℕ) (reach work first working second last : List ℕ)
    → AreReached done bits reach work first working → IsReached to bits first working second last
    → AreReached (done ++ to ∷ []) bits reach work second last
one_more done to bits reach work first working second last h k = record {
  same = k.same ∙ h.same;
  grows = λ block q has. k.grows block q (h.grows block q has);
  comes = λ x q there has. came done to bits reach work first working second last h k x q (Contains-append_cases done (to ∷ []) x there) has;
  only = λ block q has. only_one_more done to bits reach work first working h block q (k.only block q has);
  kept = λ block there. k.kept block (h.kept block there);
  pending = λ block. pending_too reach first second working last block k.kept (h.pending block) (k.pending block);
  inside = λ count targets all. k.inside count (last_all count done to targets) (h.inside count (front_all count done to targets) all);
  room = let a = h.room in let b = k.room in omega arith;
}

-- what is before the next target, with it
pub next_target : (targets : List ℕ) (i d bits : ℕ) (reach work reached working : List ℕ) → i < length targets
    → AreReached (take i targets ++ get_or targets i d ∷ []) bits reach work reached working
    → AreReached (take (i + 1) targets) bits reach work reached working
next_target targets i d bits reach work reached working there h =
    subst (λ (list : List ℕ). AreReached list bits reach work reached working) (sym (ap (λ k. take k targets) (add-one i) ∙ take-suc targets i d there)) h

-- ---- along all paths

-- a block's questions go on to where it leads
opened : (ways : List (List ℕ)) (answered : List ℕ) (q from to : ℕ) → IsOpen ways answered q from → bit_at (get_or answered from 0) q ≡ 0
    → Leads ways from to → IsOpen ways answered q to
opened ways answered q from to h clear leads = record {
  before = from ∷ h.before;
  path = onward from to h.before h.path leads;
  unanswered = (clear, h.unanswered);
}

sound_too : (ways : List (List ℕ)) (answered : List ℕ) (asked from bits : ℕ) (reach work : List ℕ) → IsSpreading ways answered asked reach work
    → get_or answered from 0 < 2 ^ 128 → bits ≡ without (get_or reach from 0) (get_or answered from 0)
    → (block q : ℕ) → q < 128 → HasBit (get_or reach block 0) q ⊎ (Leads ways from block × HasBit bits q)
    → HasBit asked q × IsOpen ways answered q block
sound_too ways answered asked from bits reach work h small e block q below (inl has) = h.sound block q below has
sound_too ways answered asked from bits reach work h small e block q below (inr has) =
    let left = of_left (get_or reach from 0) (get_or answered from 0) q small below (subst (λ (n : ℕ). HasBit n q) e has.1) in
    let old = h.sound from q below left.0 in
    (old.0, opened ways answered q from block old.1 left.1 has.0)

-- the block that was taken from the work
done_here : (ways : List (List ℕ)) (answered : List ℕ) (from bits : ℕ) (reach work reached working : List ℕ)
    → get_or answered from 0 < 2 ^ 128 → bits ≡ without (get_or reach from 0) (get_or answered from 0)
    → AreReached (get_or ways from []) bits reach work reached working
    → (get_or reached from 0 ≡ get_or reach from 0) ⊎ Contains working from
    → Contains working from ⊎ IsPassedOn ways answered reached from
done_here ways answered from bits reach work reached working small e h (inr there) = inl there
done_here ways answered from bits reach work reached working small e h (inl same) =
    inr (λ to q below leads has clear. h.comes to q leads
    (subst (λ (n : ℕ). HasBit n q) (sym e) (is_left (get_or reach from 0) (get_or answered from 0) q small below (subst (λ (n : ℕ). HasBit n q) same has) clear)))

-- a block that was left in it, or had nothing to pass on
passed_before : (ways : List (List ℕ)) (answered : List ℕ) (targets : List ℕ) (block bits : ℕ) (reach work reached working : List ℕ)
    → AreReached targets bits reach work reached working → IsPassedOn ways answered reach block
    → (get_or reached block 0 ≡ get_or reach block 0) ⊎ Contains working block
    → Contains working block ⊎ IsPassedOn ways answered reached block
passed_before ways answered targets block bits reach work reached working h passed (inr there) = inl there
passed_before ways answered targets block bits reach work reached working h passed (inl same) =
    inr (λ to q below leads has clear. h.grows to q (passed to q below leads (subst (λ (n : ℕ). HasBit n q) same has) clear))

done_there : (ways : List (List ℕ)) (answered : List ℕ) (targets : List ℕ) (from block bits : ℕ) (reach work reached working : List ℕ)
    → AreReached targets bits reach work reached working → block ≢ from
    → Contains (work ++ from ∷ []) block ⊎ IsPassedOn ways answered reach block
    → Contains working block ⊎ IsPassedOn ways answered reached block
done_there ways answered targets from block bits reach work reached working h other (inl there) =
    elim (Contains-append_cases work (from ∷ []) block there) [ inl a ↦ inl (h.kept block a) | inr b ↦ absurd (other (is_last from block b)) ]
done_there ways answered targets from block bits reach work reached working h other (inr passed) =
    passed_before ways answered targets block bits reach work reached working h passed (h.pending block)

done_now : (ways : List (List ℕ)) (answered : List ℕ) (asked from bits : ℕ) (reach work popped reached working : List ℕ)
    → IsSpreading ways answered asked reach popped → popped ≡ work ++ from ∷ []
    → get_or answered from 0 < 2 ^ 128 → bits ≡ without (get_or reach from 0) (get_or answered from 0)
    → AreReached (get_or ways from []) bits reach work reached working
    → (block : ℕ) → (block ≡ from) ⊎ (block ≢ from) → Contains working block ⊎ IsPassedOn ways answered reached block
done_now ways answered asked from bits reach work popped reached working h p small e r block (inl same) =
    subst (λ (b : ℕ). Contains working b ⊎ IsPassedOn ways answered reached b) (sym same)
    (done_here ways answered from bits reach work reached working small e r (r.pending from))
done_now ways answered asked from bits reach work popped reached working h p small e r block (inr other) =
    done_there ways answered (get_or ways from []) from block bits reach work reached working r other
    (subst (λ (list : List ℕ). Contains list block ⊎ IsPassedOn ways answered reach block) p (h.done block))

pub spread_more : (ways : List (List ℕ)) (answered : List ℕ) (asked from bits : ℕ) (reach work popped reached working : List ℕ)
    → IsSpreading ways answered asked reach popped → popped ≡ work ++ from ∷ [] → AreWays (length ways) ways
    → get_or answered from 0 < 2 ^ 128 → bits ≡ without (get_or reach from 0) (get_or answered from 0)
    → AreReached (get_or ways from []) bits reach work reached working
    → IsSpreading ways answered asked reached working
spread_more ways answered asked from bits reach work popped reached working h p inside small e r =
    let all : All (λ block. block < length ways) (work ++ from ∷ []) = subst (λ (list : List ℕ). All (λ block. block < length ways) list) p h.inside in
    record {
      same = r.same ∙ h.same;
      start = λ q has. r.grows 0 q (h.start q has);
      sound = λ block q below has. sound_too ways answered asked from bits reach popped h small e block q below (r.only block q has);
      done = λ block. done_now ways answered asked from bits reach work popped reached working h p small e r block (cases_eq block from);
      inside = r.inside (length ways) (inside from [] (last_all (length ways) work from all)) (front_all (length ways) work from all);
    }

-- what is asked comes along each path on which nothing answers it
arrives : (ways : List (List ℕ)) (answered : List ℕ) (asked : ℕ) (reach : List ℕ) → IsSpreading ways answered asked reach [] → (q : ℕ) → q < 128
    → HasBit asked q → {block : ℕ} {before : List ℕ} → IsPath ways block before → NoneAnswers answered q before → HasBit (get_or reach block 0) q
arrives ways answered asked reach h q below has entry none = h.start q has
arrives ways answered asked reach h q below has (onward from to before path leads) none =
    let here = arrives ways answered asked reach h q below has path none.1 in
    elim (h.done from) [ inl there ↦ absurd (omega (arith, there.1)) | inr passed ↦ passed to q below leads here none.0 ]

pub all_open : (ways : List (List ℕ)) (answered : List ℕ) (asked : ℕ) (reach : List ℕ) → IsSpreading ways answered asked reach [] → AreOpen ways answered asked reach
all_open ways answered asked reach h block q below =
    (h.sound block q below, λ found. arrives ways answered asked reach h q below found.0 found.1.path found.1.unanswered)

-- ---- the lists of a program

pub targets_inside : (ways : List (Vec ℕ)) (count from : ℕ) (d : Vec ℕ) → from < length ways → AreWays count (lists_of ways)
    → All (λ to. to < count) (get_or ways from d).items
targets_inside ways count from d there inside =
    subst (λ (list : List ℕ). All (λ to. to < count) list) (get_or-map (λ (list : Vec ℕ). list.items) ways from d [] there)
    (inside from [] (subst (λ (n : ℕ). from < n) (sym (length-map ways (λ (list : Vec ℕ). list.items))) there))

-- what was written to a vector's elements is what it has
pub written_back : (n : ℕ) (new old : List ℕ) → length new ≡ n → take n (new ++ drop (length new) old) ≡ new
written_back n new old e = subst (λ (k : ℕ). take k (new ++ drop (length new) old) ≡ new) e (take-append_seam new (drop (length new) old))

-- ---- the start

abbrev pub zeros : ℕ → List ℕ
zeros n = replicate n 0

nothing : (n block : ℕ) → get_or (zeros n) block 0 ≡ 0
nothing zero block = refl
nothing (suc n) zero = refl
nothing (suc n) (suc block) = nothing n block

asked_at : (n asked : ℕ) → 0 < n → get_or (set (zeros n) 0 asked) 0 0 ≡ asked
asked_at n asked h = get_or-set_same (zeros n) 0 asked 0 (subst (λ (k : ℕ). 0 < k) (sym (length-replicate n 0)) h)

at_the_start : (ways : List (List ℕ)) (answered : List ℕ) (n asked block q : ℕ) → 0 < n → (block ≡ 0) ⊎ (block ≢ 0)
    → HasBit (get_or (set (zeros n) 0 asked) block 0) q → HasBit asked q × IsOpen ways answered q block
at_the_start ways answered n asked block q h (inl e) has = (
  subst (λ (k : ℕ). HasBit k q) (asked_at n asked h) (subst (λ (b : ℕ). HasBit (get_or (set (zeros n) 0 asked) b 0) q) e has),
  subst (λ (b : ℕ). IsOpen ways answered q b) (sym e) (record { before = []; path = entry; unanswered = tt }),
)
at_the_start ways answered n asked block q h (inr other) has =
    let none : get_or (set (zeros n) 0 asked) block 0 ≡ 0 = get_or-set_other (zeros n) 0 block asked 0 other ∙ nothing n block in
    let clear : bit_at (get_or (set (zeros n) 0 asked) block 0) q ≡ 0 = ap (λ k. bit_at k q) none ∙ bit_at-zero q in
    absurd (omega (arith, clear, has))

done_at_start : (ways : List (List ℕ)) (answered : List ℕ) (n asked block : ℕ) → (block ≡ 0) ⊎ (block ≢ 0)
    → Contains (0 ∷ []) block ⊎ IsPassedOn ways answered (set (zeros n) 0 asked) block
done_at_start ways answered n asked block (inl e) = inl (0, omega arith, sym e)
done_at_start ways answered n asked block (inr other) =
    let none : get_or (set (zeros n) 0 asked) block 0 ≡ 0 = get_or-set_other (zeros n) 0 block asked 0 other ∙ nothing n block in
    let clear : (q : ℕ) → bit_at (get_or (set (zeros n) 0 asked) block 0) q ≡ 0 = λ q. ap (λ k. bit_at k q) none ∙ bit_at-zero q in
    inr (λ to q below leads has answers. absurd (omega (arith, clear q, has)))

entry_inside : (count : ℕ) → 0 < count → All (λ block. block < count) (0 ∷ [])
entry_inside count h zero d within = h
entry_inside count h (suc k) d within = absurd (omega arith)

pub at_first : (ways : List (List ℕ)) (answered : List ℕ) (asked : ℕ) → 0 < length ways
    → IsSpreading ways answered asked (set (zeros (length ways)) 0 asked) (0 ∷ [])
at_first ways answered asked h = record {
  same = length-set (zeros (length ways)) 0 asked ∙ length-replicate (length ways) 0;
  start = λ q has. subst (λ (k : ℕ). HasBit k q) (sym (asked_at (length ways) asked h)) has;
  sound = λ block q below has. at_the_start ways answered (length ways) asked block q h (cases_eq block 0) has;
  done = λ block. done_at_start ways answered (length ways) asked block (cases_eq block 0);
  inside = entry_inside (length ways) h;
}
