-- The bytes at the front that pass a test: how many they are, whatever follows.
use Rattle.std.proofs.Common.{◌≡◌, ℕ, ◌+◌, ◌<◌, ◌≤◌, List, [], ◌∷◌, ◌++◌, Bool, true, false, length, take, arith, refl, sym, subst, suc}
use Rattle.std.specs.List.{prefix_len, AllPass}
use Rattle.std.proofs.lemmas.Bool.{cond-true, cond-false}
use Rattle.std.proofs.lemmas.List.{get_or-take}
use Rattle.std.proofs.lemmas.List.Elements.{All-head, All-tail}
use Rattle.std.proofs.lemmas.List.Folds.{length-prefix_len}
use Rattle.std.proofs.lemmas.List.Sums.{prefix_len_passes}

-- bytes that pass are counted
pub prefix_all : (p : ℕ → Bool) (s t : List ℕ) → AllPass p s → length s ≤ prefix_len p (s ++ t)
prefix_all p [] t h = omega arith
prefix_all p (b ∷ s) t h =
    let here : p b ≡ true = All-head (λ x. p x ≡ true) b s h in
    let more : length s ≤ prefix_len p (s ++ t) = prefix_all p s t (All-tail (λ x. p x ≡ true) b s h) in
    let e = cond-true (p b) (1 + prefix_len p (s ++ t)) 0 here in
    omega arith

-- up to one that doesn't pass
pub prefix_stop : (p : ℕ → Bool) (s : List ℕ) (c : ℕ) (t : List ℕ) → AllPass p s → p c ≡ false → prefix_len p (s ++ c ∷ t) ≡ length s
prefix_stop p [] c t h stop = cond-false (p c) (1 + prefix_len p t) 0 stop
prefix_stop p (b ∷ s) c t h stop =
    let here : p b ≡ true = All-head (λ x. p x ≡ true) b s h in
    let more : prefix_len p (s ++ c ∷ t) ≡ length s = prefix_stop p s c t (All-tail (λ x. p x ≡ true) b s h) stop in
    let e = cond-true (p b) (1 + prefix_len p (s ++ c ∷ t)) 0 here in
    omega arith

-- or to the end
pub prefix_whole : (p : ℕ → Bool) (s : List ℕ) → AllPass p s → prefix_len p s ≡ length s
prefix_whole p [] h = refl
prefix_whole p (b ∷ s) h =
    let here : p b ≡ true = All-head (λ x. p x ≡ true) b s h in
    let more : prefix_len p s ≡ length s = prefix_whole p s (All-tail (λ x. p x ≡ true) b s h) in
    let e = cond-true (p b) (1 + prefix_len p s) 0 here in
    omega arith

-- a first byte that passes is counted with the rest
pub prefix_cons : (p : ℕ → Bool) (b : ℕ) (s : List ℕ) → p b ≡ true → prefix_len p (b ∷ s) ≡ suc (prefix_len p s)
prefix_cons p b s here = let e = cond-true (p b) (1 + prefix_len p s) 0 here in omega arith

-- those that are counted pass
pub front_passes : (p : ℕ → Bool) (text : List ℕ) → AllPass p (take (prefix_len p text) text)
front_passes p text k d inside =
    let below : k < prefix_len p text = omega (arith, length-prefix_len p text) in
    subst (λ b. p b ≡ true) (sym (get_or-take (prefix_len p text) text k d below)) (prefix_len_passes p text k d below)
