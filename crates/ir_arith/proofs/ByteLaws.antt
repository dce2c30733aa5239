-- Laws of reversed bytes: the machine's swap of 16 bytes, and its part at a width.
use Rattle.std.proofs.Common.{◌≡◌, ℕ, zero, suc, ◌+◌, ◌-◌, ◌*◌, ◌/◌, ◌%◌, ◌^◌, ◌<◌, ◌≤◌, refl, sym, ◌∙◌, ap, ap₂, subst, arith, pow_pos, pow-suc, pow-add, mul-div_cancel, add-mul, zero-mul}
use Rattle.std.proofs.Math.Nat.{div-div-eq-div-mul}
use Rattle.std.proofs.lemmas.Nat.{div_below, shr_below}
use Rattle.std.specs.Int.{swap_bytes, byte_at, w128}
use Rattle.ir_arith.specs.BitIntrinsics.{reversed_bytes, bswap_result}

reversed_bytes-suc : (k a : ℕ) → reversed_bytes (suc k) a ≡ a % 256 * 256 ^ k + reversed_bytes k (a / 256)
unfolding reversed_bytes
reversed_bytes-suc k a = refl

reversed_bytes-none : (a : ℕ) → reversed_bytes 0 a ≡ 0
unfolding reversed_bytes
reversed_bytes-none a = refl

-- byte i, and those above it
byte : (i k a : ℕ) → reversed_bytes (suc k) (a / 256 ^ suc i) ≡ byte_at (suc i) a * 256 ^ k + reversed_bytes k (a / 256 ^ suc (suc i))
byte i k a =
    reversed_bytes-suc k (a / 256 ^ suc i)
    ∙ ap (λ n. byte_at (suc i) a * 256 ^ k + reversed_bytes k n)
    (div-div-eq-div-mul a (256 ^ suc i) 256 ∙ ap (λ n. a / n) (sym (pow-suc 256 (suc i))))

grouped : (a b c d e f g h i j k l m n o p : ℕ)
    → a + (b + (c + (d + (e + (f + (g + (h + (i + (j + (k + (l + (m + (n + (o + p))))))))))))))
    ≡ a + b + c + d + e + f + g + h + i + j + k + l + m + n + o + p
grouped a b c d e f g h i j k l m n o p = omega arith

last_byte : (n b m : ℕ) → n ≡ b * 256 ^ 0 + reversed_bytes 0 m → n ≡ b
last_byte n b m e = e ∙ ap (λ t. b * 1 + t) (reversed_bytes-none m) ∙ omega arith

pub swap_bytes-reversed : (a : ℕ) → swap_bytes w128 a ≡ reversed_bytes 16 a
swap_bytes-reversed a =
    sym (reversed_bytes-suc 15 a
    ∙ ap (λ t. byte_at 0 a * 256 ^ 15 + t) (byte 0 14 a
    ∙ ap (λ t. byte_at 1 a * 256 ^ 14 + t) (byte 1 13 a
    ∙ ap (λ t. byte_at 2 a * 256 ^ 13 + t) (byte 2 12 a
    ∙ ap (λ t. byte_at 3 a * 256 ^ 12 + t) (byte 3 11 a
    ∙ ap (λ t. byte_at 4 a * 256 ^ 11 + t) (byte 4 10 a
    ∙ ap (λ t. byte_at 5 a * 256 ^ 10 + t) (byte 5 9 a
    ∙ ap (λ t. byte_at 6 a * 256 ^ 9 + t) (byte 6 8 a
    ∙ ap (λ t. byte_at 7 a * 256 ^ 8 + t) (byte 7 7 a
    ∙ ap (λ t. byte_at 8 a * 256 ^ 7 + t) (byte 8 6 a
    ∙ ap (λ t. byte_at 9 a * 256 ^ 6 + t) (byte 9 5 a
    ∙ ap (λ t. byte_at 10 a * 256 ^ 5 + t) (byte 10 4 a
    ∙ ap (λ t. byte_at 11 a * 256 ^ 4 + t) (byte 11 3 a
    ∙ ap (λ t. byte_at 12 a * 256 ^ 3 + t) (byte 12 2 a
    ∙ ap (λ t. byte_at 13 a * 256 ^ 2 + t) (byte 13 1 a
    ∙ ap (λ t. byte_at 14 a * 256 ^ 1 + t) (last_byte _ (byte_at 15 a) _ (byte 14 0 a))))))))))))))))
    ∙ grouped (byte_at 0 a * 256 ^ 15) (byte_at 1 a * 256 ^ 14) (byte_at 2 a * 256 ^ 13) (byte_at 3 a * 256 ^ 12) (byte_at 4 a * 256 ^ 11)
    (byte_at 5 a * 256 ^ 10) (byte_at 6 a * 256 ^ 9) (byte_at 7 a * 256 ^ 8) (byte_at 8 a * 256 ^ 7) (byte_at 9 a * 256 ^ 6)
    (byte_at 10 a * 256 ^ 5) (byte_at 11 a * 256 ^ 4) (byte_at 12 a * 256 ^ 3) (byte_at 13 a * 256 ^ 2) (byte_at 14 a * 256 ^ 1) (byte_at 15 a))

reversed_bytes-zero : (k : ℕ) → reversed_bytes k 0 ≡ 0
unfolding reversed_bytes
reversed_bytes-zero zero = refl
reversed_bytes-zero (suc k) = omega (arith, reversed_bytes-zero k)

-- j bytes more, all 0
pub reversed_bytes-wider : (k s j a : ℕ) → s ≡ k + j → a < 256 ^ k → reversed_bytes s a ≡ reversed_bytes k a * 256 ^ j
reversed_bytes-wider zero s j a e below =
    let none : a ≡ 0 = omega arith in
    rw none (reversed_bytes-zero s ∙ sym (ap (λ t. t * 256 ^ j) (reversed_bytes-zero 0) ∙ zero-mul (256 ^ j)))
reversed_bytes-wider (suc k) zero j a e below = absurd (omega arith)
reversed_bytes-wider (suc k) (suc s) j a e below =
    let split : s ≡ k + j = omega arith in
    let rest = reversed_bytes-wider k s j (a / 256) split (div_below a 256 (256 ^ k) (omega arith) (omega (arith, pow-suc 256 k))) in
    let power : 256 ^ s ≡ 256 ^ k * 256 ^ j = ap (λ n. 256 ^ n) split ∙ pow-add 256 k j in
    let first : a % 256 * 256 ^ s ≡ a % 256 * 256 ^ k * 256 ^ j = ap (λ n. a % 256 * n) power ∙ omega arith in
    let spread : a % 256 * 256 ^ k * 256 ^ j + reversed_bytes k (a / 256) * 256 ^ j ≡ (a % 256 * 256 ^ k + reversed_bytes k (a / 256)) * 256 ^ j =
    sym (add-mul (a % 256 * 256 ^ k) (reversed_bytes k (a / 256)) (256 ^ j)) in
    reversed_bytes-suc s a ∙ ap₂ (λ x y. x + y) first rest ∙ spread ∙ ap (λ t. t * 256 ^ j) (sym (reversed_bytes-suc k a))

pub pow_of_bytes : (k : ℕ) → 256 ^ k ≡ 2 ^ (8 * k)
pow_of_bytes zero = refl
pow_of_bytes (suc k) =
    let more : 8 * k + 8 ≡ 8 * suc k = omega arith in
    pow-suc 256 k ∙ ap (λ n. n * 256) (pow_of_bytes k) ∙ sym (pow-add 2 (8 * k) 8) ∙ ap (λ n. 2 ^ n) more

-- the top bytes of 16, at a width that is a multiple of 16
pub swap_bytes_shr : (w a : ℕ) → w ≤ 128 → w % 16 ≡ 0 → a < 2 ^ w → swap_bytes w128 a / 2 ^ (128 - w) ≡ bswap_result w a
unfolding bswap_result
swap_bytes_shr w a top even below =
    let k = w / 8 in let j = 16 - w / 8 in
    let bits : 8 * k ≡ w = omega arith in
    let rest : 8 * j ≡ 128 - w = omega arith in
    let small : a < 256 ^ k = subst (λ n. a < n) (ap (λ n. 2 ^ n) (sym bits) ∙ sym (pow_of_bytes k)) below in
    let power : 2 ^ (128 - w) ≡ 256 ^ j = ap (λ n. 2 ^ n) (sym rest) ∙ sym (pow_of_bytes j) in
    ap₂ (λ n m. n / m) (swap_bytes-reversed a ∙ reversed_bytes-wider k 16 j a (omega arith) small) power
    ∙ mul-div_cancel (reversed_bytes k a) (subst (λ n. 0 < n) power (pow_pos (128 - w)))

pub shr_to_width : (w n : ℕ) → w ≤ 128 → n < 2 ^ 128 → n / 2 ^ (128 - w) < 2 ^ w
shr_to_width w n top below =
    let whole : 128 ≡ w + (128 - w) = omega arith in shr_below n w (128 - w) (subst (λ k. n < 2 ^ k) whole below)
