-- What holds of each of a list's elements, from one to the next.
use Rattle.std.proofs.Common.{ℕ, zero, suc, ◌+◌, ◌<◌, List, [], ◌∷◌, take, length, get_or, sym, ap, subst, ◌∙◌, arith, add-one}
use Rattle.std.proofs.Math.Seq.{take-suc, take-length}
use Rattle.std.proofs.lemmas.List.Elements.{All-append}
use Rattle.std.specs.List.{All}

all_one : {A : Type 0} (P : A → Type 0) (x : A) → P x → All P (x ∷ [])
all_one P x h zero d within = h
all_one P x h (suc k) d within = absurd (omega arith)

pub all_more : {A : Type 0} (P : A → Type 0) (xs : List A) (i : ℕ) (d : A) → i < length xs → All P (take i xs) → P (get_or xs i d) → All P (take (i + 1) xs)
all_more {A} P xs i d there all here =
    subst (λ (list : List A). All P list) (sym (ap (λ k. take k xs) (add-one i) ∙ take-suc xs i d there))
    (All-append P (take i xs) (get_or xs i d ∷ []) all (all_one P (get_or xs i d) here))

pub all_of : {A : Type 0} (P : A → Type 0) (xs : List A) → All P (take (length xs) xs) → All P xs
all_of {A} P xs all = subst (λ (list : List A). All P list) (take-length xs) all
