-- Lists of predecessors as vectors, and what they have.
use Rattle.std.specs.Global.{Vec}
use Rattle.std.proofs.Common.{◌≡◌, ◌≢◌, ℕ, zero, suc, ◌+◌, ◌<◌, ◌⊎◌, inl, inr, List, [], ◌∷◌, ◌++◌, replicate, length, get_or, refl, sym, subst, ap, ◌∙◌, arith}
use Rattle.std.proofs.Math.ListN.{set, length-set}
use Rattle.std.proofs.lemmas.List.{get_or-set_same, get_or-set_other, get_or-map, length-replicate}
use Rattle.std.proofs.lemmas.List.Elements.{Contains-append_left, Contains-append_right, Contains-append_cases}
use Rattle.std.proofs.lemmas.Bool.{cases_eq}
use Rattle.std.specs.List.{Contains}
use Rattle.ir_check_flow.specs.Phis.{add_predecessor, add_predecessors, predecessors_from, predecessors_of}
use Rattle.ir_check_flow.specs.Spreading.{lists_of}
use Rattle.ir_check_flow.specs.Ways.{Leads}

set_mapped : (lists : List (Vec ℕ)) (to : ℕ) (list : Vec ℕ) → lists_of (set lists to list) ≡ set (lists_of lists) to list.items
set_mapped [] to list = refl
set_mapped (x ∷ lists) zero list = refl
set_mapped (x ∷ lists) (suc to) list = ap (λ (rest : List (List ℕ)). x.items ∷ rest) (set_mapped lists to list)

pub predecessor_added : (lists : List (Vec ℕ)) (from to : ℕ) (d new : Vec ℕ) → to < length lists → new.items ≡ (get_or lists to d).items ++ from ∷ []
    → lists_of (set lists to new) ≡ add_predecessor (lists_of lists) from to
predecessor_added lists from to d new there e =
    let front : get_or (lists_of lists) to [] ≡ (get_or lists to d).items = get_or-map (λ (list : Vec ℕ). list.items) lists to d [] there in
    set_mapped lists to new ∙ ap (λ (list : List ℕ). set (lists_of lists) to list) (e ∙ ap (λ (list : List ℕ). list ++ from ∷ []) (sym front))

-- ---- what the lists have

add_length : (lists : List (List ℕ)) (from : ℕ) (targets : List ℕ) → length (add_predecessors lists from targets) ≡ length lists
add_length lists from [] = refl
add_length lists from (to ∷ targets) =
    add_length (add_predecessor lists from to) from targets ∙ length-set lists to (get_or lists to [] ++ from ∷ [])

pub from_length : (lists : List (List ℕ)) (from : ℕ) (ways : List (List ℕ)) → length (predecessors_from lists from ways) ≡ length lists
from_length lists from [] = refl
from_length lists from (targets ∷ ways) = from_length (add_predecessors lists from targets) (from + 1) ways ∙ add_length lists from targets

last_of : (list : List ℕ) (x : ℕ) → Contains (list ++ x ∷ []) x
last_of list x = Contains-append_right list (x ∷ []) x (0, omega arith, refl)

one_of : (x y : ℕ) → Contains (x ∷ []) y → y ≡ x
one_of x y (zero, within, e) = sym e
one_of x y (suc k, within, e) = absurd (omega arith)

-- one more predecessor
one_there : (lists : List (List ℕ)) (from to b p : ℕ) → b < length lists → (b ≡ to) ⊎ (b ≢ to)
    → Contains (get_or lists b []) p ⊎ ((b ≡ to) × (p ≡ from)) → Contains (get_or (add_predecessor lists from to) b []) p
one_there lists from to b p within (inl same) h =
    let at : get_or (add_predecessor lists from to) to [] ≡ get_or lists to [] ++ from ∷ [] =
    get_or-set_same lists to (get_or lists to [] ++ from ∷ []) [] (subst (λ (n : ℕ). n < length lists) same within) in
    subst (λ (n : ℕ). Contains (get_or (add_predecessor lists from to) n []) p) (sym same)
    (subst (λ (list : List ℕ). Contains list p) (sym at)
    (elim h [
      | inl old ↦ Contains-append_left (get_or lists to []) (from ∷ []) p (subst (λ (n : ℕ). Contains (get_or lists n []) p) same old)
      | inr new ↦ subst (λ (n : ℕ). Contains (get_or lists to [] ++ from ∷ []) n) (sym new.1) (last_of (get_or lists to []) from)
    ]))
one_there lists from to b p within (inr other) h =
    subst (λ (list : List ℕ). Contains list p) (sym (get_or-set_other lists to b (get_or lists to [] ++ from ∷ []) [] other))
    (elim h [ inl old ↦ old | inr new ↦ absurd (other new.0) ])

one_only : (lists : List (List ℕ)) (from to b p : ℕ) → b < length lists → (b ≡ to) ⊎ (b ≢ to)
    → Contains (get_or (add_predecessor lists from to) b []) p → Contains (get_or lists b []) p ⊎ ((b ≡ to) × (p ≡ from))
one_only lists from to b p within (inl same) h =
    let at : get_or (add_predecessor lists from to) to [] ≡ get_or lists to [] ++ from ∷ [] =
    get_or-set_same lists to (get_or lists to [] ++ from ∷ []) [] (subst (λ (n : ℕ). n < length lists) same within) in
    let here : Contains (get_or lists to [] ++ from ∷ []) p =
    subst (λ (list : List ℕ). Contains list p) at (subst (λ (n : ℕ). Contains (get_or (add_predecessor lists from to) n []) p) same h) in
    elim (Contains-append_cases (get_or lists to []) (from ∷ []) p here) [
      | inl old ↦ inl (subst (λ (n : ℕ). Contains (get_or lists n []) p) (sym same) old)
      | inr new ↦ inr (same, one_of from p new)
    ]
one_only lists from to b p within (inr other) h =
    inl (subst (λ (list : List ℕ). Contains list p) (get_or-set_other lists to b (get_or lists to [] ++ from ∷ []) [] other) h)

still : (lists : List (List ℕ)) (from to b : ℕ) → b < length lists → b < length (add_predecessor lists from to)
still lists from to b h = subst (λ (n : ℕ). b < n) (sym (length-set lists to (get_or lists to [] ++ from ∷ []))) h

front_or_rest : (to : ℕ) (targets : List ℕ) (b : ℕ) → Contains (to ∷ targets) b → (b ≡ to) ⊎ Contains targets b
front_or_rest to targets b (zero, within, e) = inl (sym e)
front_or_rest to targets b (suc k, within, e) = inr (k, omega arith, e)

in_rest : (to : ℕ) (targets : List ℕ) (b : ℕ) → Contains targets b → Contains (to ∷ targets) b
in_rest to targets b h = (suc h.0, omega (arith, h.1), h.2)

-- a block's predecessors after those by one block's targets
all_there : (lists : List (List ℕ)) (from : ℕ) (targets : List ℕ) (b p : ℕ) → b < length lists
    → Contains (get_or lists b []) p ⊎ (Contains targets b × (p ≡ from)) → Contains (get_or (add_predecessors lists from targets) b []) p
all_there lists from [] b p within (inl h) = h
all_there lists from [] b p within (inr h) = absurd (omega (arith, h.0.1))
all_there lists from (to ∷ targets) b p within (inl h) =
    all_there (add_predecessor lists from to) from targets b p (still lists from to b within) (inl (one_there lists from to b p within (cases_eq b to) (inl h)))
all_there lists from (to ∷ targets) b p within (inr h) =
    elim (front_or_rest to targets b h.0) [
      | inl here ↦ all_there (add_predecessor lists from to) from targets b p (still lists from to b within)
          (inl (one_there lists from to b p within (cases_eq b to) (inr (here, h.1))))
      | inr later ↦ all_there (add_predecessor lists from to) from targets b p (still lists from to b within) (inr (later, h.1))
    ]

all_only : (lists : List (List ℕ)) (from : ℕ) (targets : List ℕ) (b p : ℕ) → b < length lists
    → Contains (get_or (add_predecessors lists from targets) b []) p → Contains (get_or lists b []) p ⊎ (Contains targets b × (p ≡ from))
all_only lists from [] b p within h = inl h
all_only lists from (to ∷ targets) b p within h =
    elim (all_only (add_predecessor lists from to) from targets b p (still lists from to b within) h) [
      | inl before ↦ elim (one_only lists from to b p within (cases_eq b to) before) [
        | inl old ↦ inl old
        | inr new ↦ inr ((0, omega arith, sym new.0), new.1)
      ]
      | inr more ↦ inr (in_rest to targets b more.0, more.1)
    ]

-- block number p - from of the ways leads to the block
pub record LeadsFrom (ways : List (List ℕ)) (from p b : ℕ) : Type 0 where
  pub number : ℕ
  pub leads : Contains (get_or ways number []) b
  pub is : p ≡ from + number

leads_later : (targets : List ℕ) (ways : List (List ℕ)) (from p b : ℕ) → LeadsFrom ways (from + 1) p b → LeadsFrom (targets ∷ ways) from p b
leads_later targets ways from p b h = record { number = suc h.number; leads = h.leads; is = let e = h.is in omega arith }

leads_cases : (targets : List ℕ) (ways : List (List ℕ)) (from p b number : ℕ) → Contains (get_or (targets ∷ ways) number []) b → p ≡ from + number
    → (Contains targets b × (p ≡ from)) ⊎ LeadsFrom ways (from + 1) p b
leads_cases targets ways from p b zero h e = inl (h, omega arith)
leads_cases targets ways from p b (suc number) h e = inr (record { number = number; leads = h; is = omega arith })

still_all : (lists : List (List ℕ)) (from : ℕ) (targets : List ℕ) (b : ℕ) → b < length lists → b < length (add_predecessors lists from targets)
still_all lists from targets b h = subst (λ (n : ℕ). b < n) (sym (add_length lists from targets)) h

ways_there : (lists : List (List ℕ)) (from : ℕ) (ways : List (List ℕ)) (b p : ℕ) → b < length lists
    → Contains (get_or lists b []) p ⊎ LeadsFrom ways from p b → Contains (get_or (predecessors_from lists from ways) b []) p
ways_there lists from [] b p within (inl h) = h
ways_there lists from [] b p within (inr h) = absurd (omega (arith, h.leads.1))
ways_there lists from (targets ∷ ways) b p within (inl h) =
    ways_there (add_predecessors lists from targets) (from + 1) ways b p (still_all lists from targets b within) (inl (all_there lists from targets b p within (inl h)))
ways_there lists from (targets ∷ ways) b p within (inr h) =
    elim (leads_cases targets ways from p b h.number h.leads h.is) [
      | inl here ↦ ways_there (add_predecessors lists from targets) (from + 1) ways b p (still_all lists from targets b within) (inl (all_there lists from targets b p within (inr here)))
      | inr later ↦ ways_there (add_predecessors lists from targets) (from + 1) ways b p (still_all lists from targets b within) (inr later)
    ]

ways_only : (lists : List (List ℕ)) (from : ℕ) (ways : List (List ℕ)) (b p : ℕ) → b < length lists
    → Contains (get_or (predecessors_from lists from ways) b []) p → Contains (get_or lists b []) p ⊎ LeadsFrom ways from p b
ways_only lists from [] b p within h = inl h
ways_only lists from (targets ∷ ways) b p within h =
    elim (ways_only (add_predecessors lists from targets) (from + 1) ways b p (still_all lists from targets b within) h) [
      | inl before ↦ elim (all_only lists from targets b p within before) [
        | inl old ↦ inl old
        | inr new ↦ inr (record { number = 0; leads = new.0; is = let e = new.1 in omega arith })
      ]
      | inr more ↦ inr (leads_later targets ways from p b more)
    ]

nothing_before : (n b p : ℕ) → Contains (get_or (replicate {A = List ℕ} n []) b []) p → ⊥
nothing_before zero b p h = omega (arith, h.1)
nothing_before (suc n) zero p h = omega (arith, h.1)
nothing_before (suc n) (suc b) p h = nothing_before n b p h

within_empty : (ways : List (List ℕ)) (b : ℕ) → b < length ways → b < length (replicate {A = List ℕ} (length ways) [])
within_empty ways b h = subst (λ (n : ℕ). b < n) (sym (length-replicate {A = List ℕ} (length ways) [])) h

-- the predecessors of a block are those that lead to it
pub is_predecessor : (ways : List (List ℕ)) (b p : ℕ) → b < length ways → Leads ways p b → Contains (get_or (predecessors_of ways) b []) p
is_predecessor ways b p within h =
    ways_there (replicate {A = List ℕ} (length ways) []) 0 ways b p (within_empty ways b within) (inr (record { number = p; leads = h; is = omega arith }))

pub predecessor_leads : (ways : List (List ℕ)) (b p : ℕ) → b < length ways → Contains (get_or (predecessors_of ways) b []) p → Leads ways p b
predecessor_leads ways b p within h =
    elim (ways_only (replicate {A = List ℕ} (length ways) []) 0 ways b p (within_empty ways b within) h) [
      | inl none ↦ absurd (nothing_before (length ways) b p none)
      | inr found ↦ (let e = found.is in let same : found.number ≡ p = omega arith in subst (λ (n : ℕ). Leads ways n b) same found.leads)
    ]
