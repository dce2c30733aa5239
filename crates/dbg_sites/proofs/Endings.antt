-- A chain among so many numbers that ends at all ends within as many steps: of the numbers from which it ends within m steps
-- there are more with each m, until there are no more at all.
use Rattle.std.proofs.Common.{◌≡◌, ℕ, zero, suc, ◌+◌, ◌<◌, ◌≤◌, ◌-◌, ◌⊎◌, inl, inr, Bool, true, false, Option, Some, None, if◌then◌else◌, arith, refl, sym, ap, ◌∙◌}

abbrev pub ends : (ℕ → Option ℕ) → ℕ → Option ℕ → Bool
ends step n None = true
ends step zero (Some k) = false
ends step (suc n) (Some k) = ends step n (step k)

pub ends_more : (step : ℕ → Option ℕ) (n : ℕ) (o : Option ℕ) → ends step n o ≡ true → ends step (suc n) o ≡ true
ends_more step n None h = refl
ends_more step zero (Some k) h = cc
ends_more step (suc n) (Some k) h = ends_more step n (step k) h

ends_by : (step : ℕ → Option ℕ) (more n : ℕ) (o : Option ℕ) → ends step n o ≡ true → ends step (more + n) o ≡ true
ends_by step zero n o h = let e : zero + n ≡ n = omega arith in rw e h
ends_by step (suc more) n o h = let e : suc more + n ≡ suc (more + n) = omega arith in rw e (ends_more step (more + n) o (ends_by step more n o h))

-- how many numbers below this one pass a test
count : (ℕ → Bool) → ℕ → ℕ
count p zero = 0
count p (suc n) = (if p n then 1 else 0) + count p n

one_or_none : (b : Bool) → (if b then 1 else 0) ≤ 1
one_or_none true = omega arith
one_or_none false = omega arith

one_more : (b c : Bool) → (b ≡ true → c ≡ true) → (if b then 1 else 0) ≤ (if c then 1 else 0)
one_more true true h = omega arith
one_more true false h = absurd (let e : false ≡ true = h refl in cc)
one_more false true h = omega arith
one_more false false h = omega arith

one_same : (b c : Bool) → (b ≡ true → c ≡ true) → (if c then 1 else 0) ≤ (if b then 1 else 0) → b ≡ c
one_same true true h e = refl
one_same true false h e = absurd (let f : false ≡ true = h refl in cc)
one_same false true h e = absurd (omega arith)
one_same false false h e = refl

count_below : (p : ℕ → Bool) (n : ℕ) → count p n ≤ n
unfolding count
count_below p zero = omega arith
count_below p (suc n) = let rest = count_below p n in let one = one_or_none (p n) in omega arith

count_more : (p q : ℕ → Bool) (n : ℕ) → ((k : ℕ) → p k ≡ true → q k ≡ true) → count p n ≤ count q n
unfolding count
count_more p q zero h = omega arith
count_more p q (suc n) h = let rest = count_more p q n h in let one = one_more (p n) (q n) (h n) in omega arith

same_at : (p q : ℕ → Bool) (n k : ℕ) → ((j : ℕ) → j < n → p j ≡ q j) → p n ≡ q n → k < suc n → (k < n) ⊎ (k ≡ n) → p k ≡ q k
same_at p q n k below here h (inl less) = below k less
same_at p q n k below here h (inr same) = rw same here

less_or_same : (k n : ℕ) → k < suc n → (k < n) ⊎ (k ≡ n)
less_or_same k n h = search arith

count_same : (p q : ℕ → Bool) (n : ℕ) → ((k : ℕ) → p k ≡ true → q k ≡ true) → count q n ≤ count p n → (k : ℕ) → k < n → p k ≡ q k
unfolding count
count_same p q zero h e k less = absurd (omega arith)
count_same p q (suc n) h e k less =
    let rest = count_more p q n h in
    let one = one_more (p n) (q n) (h n) in
    let below : (j : ℕ) → j < n → p j ≡ q j = λ j l. count_same p q n h (omega arith) j l in
    let here : p n ≡ q n = one_same (p n) (q n) (h n) (omega arith) in
    same_at p q n k below here less (less_or_same k n less)

-- ---- a step among so many numbers

abbrev pub StaysBelow : ℕ → (ℕ → Option ℕ) → Type 0
StaysBelow size step = (k j : ℕ) → k < size → step k ≡ Some j → j < size

-- after m steps no further number is added
abbrev IsSettled : ℕ → (ℕ → Option ℕ) → ℕ → Type 0
IsSettled size step m = (k : ℕ) → k < size → ends step m (Some k) ≡ ends step (suc m) (Some k)

next_same : (size : ℕ) (step : ℕ → Option ℕ) (m n k : ℕ) (o : Option ℕ) → StaysBelow size step → k < size → step k ≡ o
    → ((j : ℕ) → j < size → ends step (n + m) (Some j) ≡ ends step m (Some j)) → ends step (n + m) o ≡ ends step m o
next_same size step m n k None stays less e h = refl
next_same size step m n k (Some j) stays less e h = h j (stays k j less e)

settled : (size : ℕ) (step : ℕ → Option ℕ) (m n : ℕ) → StaysBelow size step → IsSettled size step m → (k : ℕ) → k < size → ends step (n + m) (Some k) ≡ ends step m (Some k)
settled size step m zero stays h k less = let e : zero + m ≡ m = omega arith in ap (λ i. ends step i (Some k)) e
settled size step m (suc n) stays h k less =
    let e : suc n + m ≡ suc (n + m) = omega arith in
    let one : ends step (suc n + m) (Some k) ≡ ends step (suc (n + m)) (Some k) = ap (λ i. ends step i (Some k)) e in
    let two : ends step (n + m) (step k) ≡ ends step m (step k) = next_same size step m n k (step k) stays less refl (settled size step m n stays h) in
    one ∙ two ∙ sym (h k less)

-- a number of steps after which it is settled
record Settling (size : ℕ) (step : ℕ → Option ℕ) (most : ℕ) : Type 0 where
  at : ℕ
  early : suc at ≤ most
  same : IsSettled size step at

grows : (size : ℕ) (step : ℕ → Option ℕ) (m : ℕ) → Settling size step m ⊎ (m ≤ count (λ k. ends step m (Some k)) size)
grows size step zero = inr (omega arith)
grows size step (suc m) = more (grows size step m)
  where
    next : (m ≤ count (λ k. ends step m (Some k)) size) → (count (λ k. ends step (suc m) (Some k)) size ≤ count (λ k. ends step m (Some k)) size) ⊎ (count (λ k. ends step m (Some k)) size < count (λ k. ends step (suc m) (Some k)) size)
        → Settling size step (suc m) ⊎ (suc m ≤ count (λ k. ends step (suc m) (Some k)) size)
    next h (inl less) = inl (record { at = m; early = omega arith; same = count_same (λ k. ends step m (Some k)) (λ k. ends step (suc m) (Some k)) size (λ k e. ends_more step m (Some k) e) less })
    next h (inr more) = inr (omega arith)

    more : Settling size step m ⊎ (m ≤ count (λ k. ends step m (Some k)) size) → Settling size step (suc m) ⊎ (suc m ≤ count (λ k. ends step (suc m) (Some k)) size)
    more (inl s) = inl (record { at = s.at; early = omega (arith, s.early); same = s.same })
    more (inr h) = next h (search arith)

settles : (size : ℕ) (step : ℕ → Option ℕ) → Settling size step (suc size) ⊎ (suc size ≤ count (λ k. ends step (suc size) (Some k)) size) → Settling size step (suc size)
settles size step (inl s) = s
settles size step (inr h) = let b = count_below (λ k. ends step (suc size) (Some k)) size in absurd (omega arith)

by_order : (size : ℕ) (step : ℕ → Option ℕ) (n at : ℕ) (o : Option ℕ) → (n ≤ at) ⊎ (at ≤ n) → at ≤ size
    → ends step n o ≡ true → ((more : ℕ) → ends step (more + at) o ≡ ends step at o) → ends step size o ≡ true
by_order size step n at o (inl less) small h same =
    let e : (size - n) + n ≡ size = omega arith in let t = ends_by step (size - n) n o h in sym (ap (λ i. ends step i o) e) ∙ t
by_order size step n at o (inr more) small h same =
    let e : (n - at) + at ≡ n = omega arith in
    let t : ends step at o ≡ true = sym (same (n - at)) ∙ (ap (λ i. ends step i o) e ∙ h) in
    let f : (size - at) + at ≡ size = omega arith in
    sym (ap (λ i. ends step i o) f) ∙ ends_by step (size - at) at o t

order_of : (n at : ℕ) → (n ≤ at) ⊎ (at ≤ n)
order_of n at = search arith

-- a chain that ends, ends within as many steps as there are numbers
pub ends_within : (size : ℕ) (step : ℕ → Option ℕ) → StaysBelow size step → (k n : ℕ) → k < size → ends step n (Some k) ≡ true → ends step size (Some k) ≡ true
ends_within size step stays k n less h =
    let s : Settling size step (suc size) = settles size step (grows size step (suc size)) in
    by_order size step n s.at (Some k) (order_of n s.at) (omega (arith, s.early)) h (λ more. settled size step s.at more stays s.same k less)
