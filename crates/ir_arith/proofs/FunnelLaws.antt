-- Laws of funnel shifts: the bits of two values that come together.
use Rattle.std.proofs.Common.{◌≡◌, ℕ, ◌+◌, ◌-◌, ◌*◌, ◌/◌, ◌%◌, ◌^◌, ◌<◌, ◌≤◌, sym, ◌∙◌, ap, ap₂, subst, arith, bit_or, pow_pos, pow-add, mod-lt, div-add-mod', mod-eq_of_lt, div-one, mul-one}
use Rattle.std.proofs.Math.Nat.{mul-add-div_right, mul-div-mul_right, mul-mod_left}
use Rattle.std.proofs.lemmas.Nat.{or_shifted, shr_below, mul-add-lt, mod-mul-add, div-mul-add, mod-pow-add, shl-shr}
use Rattle.ir_arith.specs.BitIntrinsics.{fshl_result, fshr_result}
use Rattle.ir_arith.proofs.Residues.{mod_128}

-- the low k bits, moved up by s places, are what is left of the moved number in k + s bits
moved_up : (s k a : ℕ) → a * 2 ^ s % 2 ^ (k + s) ≡ (a % 2 ^ k) * 2 ^ s
moved_up s k a =
    let low = mul-mod_left a (2 ^ s) in
    mod-pow-add (a * 2 ^ s) k s ∙ ap₂ (λ x y. (x % 2 ^ k) * 2 ^ s + y) (shl-shr a s) low ∙ omega arith

-- below them there is room for s bits
joined_below' : (s k a t : ℕ) → t < 2 ^ s → (a % 2 ^ k) * 2 ^ s + t < 2 ^ (k + s)
joined_below' s k a t small =
    let inside : a % 2 ^ k < 2 ^ k = mod-lt a (pow_pos k) in
    subst (λ n. (a % 2 ^ k) * 2 ^ s + t < n) (omega (arith, pow-add 2 k s)) (mul-add-lt (a % 2 ^ k) (2 ^ s) t (2 ^ k) inside small)

joined_sum : (s k a t : ℕ) → t < 2 ^ s → bit_or (a * 2 ^ s % 2 ^ (k + s)) t ≡ a * 2 ^ s % 2 ^ (k + s) + t
joined_sum s k a t small = rw (moved_up s k a) (or_shifted (a % 2 ^ k) s t small)

joined_mod : (s k a t : ℕ) → t < 2 ^ s → (a * 2 ^ s + t) % 2 ^ (k + s) ≡ a * 2 ^ s % 2 ^ (k + s) + t
joined_mod s k a t small =
    let n = a * 2 ^ s in let m = 2 ^ (k + s) in
    let fits : n % m + t < m = subst (λ x. x + t < m) (sym (moved_up s k a)) (joined_below' s k a t small) in
    let split : n + t ≡ n / m * m + (n % m + t) = omega (arith, div-add-mod' n m) in
    ap (λ x. x % m) split ∙ mod-mul-add (n / m) m (n % m + t) fits

-- the two values together, moved up by s places: the top k + s bits
shl_top : (s k a b : ℕ) → (a * 2 ^ (k + s) + b) * 2 ^ s / 2 ^ (k + s) ≡ a * 2 ^ s + b / 2 ^ k
shl_top s k a b =
    let m = 2 ^ (k + s) in
    let spread : (a * m + b) * 2 ^ s ≡ (a * 2 ^ s) * m + b * 2 ^ s = omega arith in
    ap (λ x. x / m) spread ∙ mul-add-div_right (pow_pos (k + s)) (a * 2 ^ s) (b * 2 ^ s)
    ∙ ap (λ x. a * 2 ^ s + b * 2 ^ s / x) (pow-add 2 k s) ∙ ap (λ x. a * 2 ^ s + x) (mul-div-mul_right b (2 ^ k) (pow_pos s))

-- the two values together, moved down by s places
shr_both : (s k a b : ℕ) → (a * 2 ^ (k + s) + b) / 2 ^ s ≡ a * 2 ^ k + b / 2 ^ s
shr_both s k a b =
    let spread : a * 2 ^ (k + s) + b ≡ (a * 2 ^ k) * 2 ^ s + b = ap (λ x. a * x + b) (pow-add 2 k s) ∙ omega arith in
    ap (λ x. x / 2 ^ s) spread ∙ mul-add-div_right (pow_pos s) (a * 2 ^ k) b

-- ---- what the code computes, at a width of w bits

pub joined_value : (w s a b : ℕ) → w ≤ 128 → s < w → b < 2 ^ w
    → bit_or (a * 2 ^ s % 2 ^ 128 % 2 ^ w) (b / 2 ^ (w - s)) ≡ a * 2 ^ s % 2 ^ w + b / 2 ^ (w - s)
joined_value w s a b top inside below =
    let width : (w - s) + s ≡ w = omega arith in
    let turned : s + (w - s) ≡ w = omega arith in
    let small : b / 2 ^ (w - s) < 2 ^ s = shr_below b s (w - s) (subst (λ x. b < 2 ^ x) (sym turned) below) in
    ap (λ x. bit_or x (b / 2 ^ (w - s))) (mod_128 w (a * 2 ^ s) top)
    ∙ subst (λ x. bit_or (a * 2 ^ s % 2 ^ x) (b / 2 ^ (w - s)) ≡ a * 2 ^ s % 2 ^ x + b / 2 ^ (w - s)) width (joined_sum s (w - s) a (b / 2 ^ (w - s)) small)

pub joined_below : (w s a b : ℕ) → w ≤ 128 → s < w → b < 2 ^ w → bit_or (a * 2 ^ s % 2 ^ 128 % 2 ^ w) (b / 2 ^ (w - s)) < 2 ^ w
joined_below w s a b top inside below =
    let width : (w - s) + s ≡ w = omega arith in
    let turned : s + (w - s) ≡ w = omega arith in
    let small : b / 2 ^ (w - s) < 2 ^ s = shr_below b s (w - s) (subst (λ x. b < 2 ^ x) (sym turned) below) in
    let sum : (a * 2 ^ s % 2 ^ w) + b / 2 ^ (w - s) < 2 ^ w =
    subst (λ x. a * 2 ^ s % 2 ^ x + b / 2 ^ (w - s) < 2 ^ x) width
    (subst (λ x. x + b / 2 ^ (w - s) < 2 ^ ((w - s) + s)) (sym (moved_up s (w - s) a)) (joined_below' s (w - s) a (b / 2 ^ (w - s)) small)) in
    subst (λ x. x < 2 ^ w) (sym (joined_value w s a b top inside below)) sum

pub fshl_result_none : (w a b c : ℕ) → c % w ≡ 0 → a < 2 ^ w → b < 2 ^ w → a ≡ fshl_result w a b c
unfolding fshl_result
fshl_result_none w a b c none a_below b_below =
    sym (ap (λ s. (a * 2 ^ w + b) * 2 ^ s / 2 ^ w % 2 ^ w) none ∙ ap (λ x. x / 2 ^ w % 2 ^ w) (mul-one (a * 2 ^ w + b))
    ∙ ap (λ x. x % 2 ^ w) (div-mul-add a (2 ^ w) b b_below) ∙ mod-eq_of_lt a_below)

pub fshl_result_some : (w a b c s : ℕ) → s ≡ c % w → s < w → b < 2 ^ w → a * 2 ^ s % 2 ^ w + b / 2 ^ (w - s) ≡ fshl_result w a b c
unfolding fshl_result
fshl_result_some w a b c s is inside below =
    let width : (w - s) + s ≡ w = omega arith in
    let turned : s + (w - s) ≡ w = omega arith in
    let small : b / 2 ^ (w - s) < 2 ^ s = shr_below b s (w - s) (subst (λ x. b < 2 ^ x) (sym turned) below) in
    subst (λ x. a * 2 ^ s % 2 ^ x + b / 2 ^ (w - s) ≡ (a * 2 ^ x + b) * 2 ^ s / 2 ^ x % 2 ^ x) width
    (sym (ap (λ x. x % 2 ^ ((w - s) + s)) (shl_top s (w - s) a b) ∙ joined_mod s (w - s) a (b / 2 ^ (w - s)) small))
    ∙ ap (λ x. (a * 2 ^ w + b) * 2 ^ x / 2 ^ w % 2 ^ w) is

pub fshr_result_none : (w a b c : ℕ) → c % w ≡ 0 → b < 2 ^ w → b ≡ fshr_result w a b c
unfolding fshr_result
fshr_result_none w a b c none below =
    sym (ap (λ s. (a * 2 ^ w + b) / 2 ^ s % 2 ^ w) none ∙ ap (λ x. x % 2 ^ w) (div-one (a * 2 ^ w + b)) ∙ mod-mul-add a (2 ^ w) b below)

pub fshr_result_some : (w a b c s p : ℕ) → s ≡ c % w → 1 ≤ s → s < w → p ≡ w - s → b < 2 ^ w
    → a * 2 ^ p % 2 ^ w + b / 2 ^ (w - p) ≡ fshr_result w a b c
unfolding fshr_result
fshr_result_some w a b c s p is one inside places below =
    let width : p + s ≡ w = omega arith in
    let turned : s + p ≡ w = omega arith in
    let back : w - p ≡ s = omega arith in
    let small : b / 2 ^ s < 2 ^ p = shr_below b p s (subst (λ x. b < 2 ^ x) (sym width) below) in
    ap (λ x. a * 2 ^ p % 2 ^ w + b / 2 ^ x) back
    ∙ subst (λ x. a * 2 ^ p % 2 ^ x + b / 2 ^ s ≡ (a * 2 ^ p + b / 2 ^ s) % 2 ^ x) turned (sym (joined_mod p s a (b / 2 ^ s) small))
    ∙ subst (λ x. (a * 2 ^ p + b / 2 ^ s) % 2 ^ x ≡ (a * 2 ^ x + b) / 2 ^ s % 2 ^ x) width
    (ap (λ x. x % 2 ^ (p + s)) (sym (shr_both s p a b)))
    ∙ ap (λ x. (a * 2 ^ w + b) / 2 ^ x % 2 ^ w) is
