-- The pieces that a sink is given.
use Rattle.std.proofs.Common.{◌≡◌, ℕ, zero, suc, ◌+◌, ◌-◌, ◌<◌, ◌≤◌, List, [], ◌∷◌, ◌++◌, length, take, drop, get_or, Some, None, sym, ◌∙◌, ap, subst, inl, inr, arith, append-nil}
use Rattle.std.specs.Prelude.{Option, All, ◌≢◌, ◌⊎◌}
use Rattle.std.proofs.lemmas.List.{append_assoc, get_or-drop, get_or-take, length-drop, length-take-le}
use Rattle.std.proofs.Math.Seq.{take-length}
use Rattle.std.proofs.lemmas.List.Elements.{All-append, All-weaker}
use Rattle.std.proofs.Math.Nat.{eq-or-lt_of_le}
use Rattle.hw_ports.specs.Written.{AddsPiece}
use Rattle.hw_driver.specs.Lines.{GivesEach, IsLine, IsRest, EndsAtLf}

-- nothing was given
pub GivesEach-none : (P : List ℕ → Type 0) (pieces : Option (List (List ℕ))) → GivesEach P pieces pieces
GivesEach-none P None = tt
GivesEach-none P (Some pieces) = record { given = []; grown = sym (append-nil pieces); each = λ k d less. absurd (omega (arith, less)) }

-- what was given first, and what was given then
pub GivesEach-more : (P : List ℕ → Type 0) (old mid new : Option (List (List ℕ))) → GivesEach P old mid → GivesEach P mid new → GivesEach P old new
GivesEach-more P None mid new p q = tt
GivesEach-more P (Some xs) None new p q = absurd p
GivesEach-more P (Some xs) (Some ys) None p q = absurd q
GivesEach-more P (Some xs) (Some ys) (Some zs) p q = record {
  given = p.given ++ q.given;
  grown = q.grown ∙ ap (λ (l : List (List ℕ)). l ++ q.given) p.grown ∙ append_assoc xs p.given q.given;
  each = All-append P p.given q.given p.each q.each;
}

-- one piece was given
pub GivesEach-one : (P : List ℕ → Type 0) (old new : Option (List (List ℕ))) (piece : List ℕ) → 0 < length piece → P piece → AddsPiece old new piece → GivesEach P old new
GivesEach-one P None new piece some so adds = tt
GivesEach-one P (Some xs) None piece some so adds = absurd adds
GivesEach-one P (Some xs) (Some ys) [] some so adds = absurd (omega (arith, some))
GivesEach-one P (Some xs) (Some ys) (byte ∷ bytes) some so adds = record { given = (byte ∷ bytes) ∷ []; grown = adds; each = lone }
  where
    lone : All P ((byte ∷ bytes) ∷ [])
    lone zero d less = so
    lone (suc k) d less = absurd (omega (arith, less))

pub GivesEach-weaker : (P Q : List ℕ → Type 0) (old new : Option (List (List ℕ))) → ((piece : List ℕ) → P piece → Q piece) → GivesEach P old new → GivesEach Q old new
GivesEach-weaker P Q None new so p = tt
GivesEach-weaker P Q (Some xs) None so p = absurd p
GivesEach-weaker P Q (Some xs) (Some ys) so p = record { given = p.given; grown = p.grown; each = All-weaker P Q so p.given p.each }

-- the rest of a line is one
pub IsLine-rest : (text piece : List ℕ) → IsLine text → IsRest text piece → IsLine piece
IsLine-rest text piece line r = subst IsLine (sym r.rest) (record {
  ends = get_or-drop r.from text (length (drop r.from text) - 1) 0 ∙ ap (λ (k : ℕ). get_or text k 0) last ∙ line.ends;
  once = λ k less lf. line.once (r.from + k) (omega (arith, size, less)) (sym (get_or-drop r.from text k 0) ∙ lf);
})
  where
    size : length (drop r.from text) ≡ length text - r.from
    size = length-drop r.from text

    last : r.from + (length (drop r.from text) - 1) ≡ length text - 1
    last = omega (arith, size, r.within)

-- all that is left of a text
pub rest_is : (text : List ℕ) (at : ℕ) → take (length text - at) (drop at text) ≡ drop at text
rest_is text at = rw (← length-drop at text) (take-length (drop at text))

-- the first line of what is left of a text of whole lines
IsLine-first : (text rest : List ℕ) (at n : ℕ) → rest ≡ drop at text → at < length text → 0 < n → n ≤ length rest
    → (n < length rest → get_or rest (n - 1) 0 ≡ 10) → ((k : ℕ) → k + 1 < n → get_or rest k 0 ≢ 10)
    → EndsAtLf text → IsLine (take n rest)
IsLine-first text rest at n is left some within ends once whole = record {
  ends = ap (λ (k : ℕ). get_or (take n rest) k 0) last ∙ get_or-take n rest (n - 1) 0 (omega arith) ∙ last_is (eq-or-lt_of_le within);
  once = λ k less lf. once k (omega (arith, size, less)) (sym (get_or-take n rest k 0 (omega (arith, size, less))) ∙ lf);
}
  where
    size : length (take n rest) ≡ n
    size = length-take-le n rest within

    last : length (take n rest) - 1 ≡ n - 1
    last = ap (λ (k : ℕ). k - 1) size

    room : length rest ≡ length text - at
    room = ap length is ∙ length-drop at text

    last_is : (n ≡ length rest) ⊎ (n < length rest) → get_or rest (n - 1) 0 ≡ 10
    last_is (inr less) = ends less
    last_is (inl all) =
        let end : at + (n - 1) ≡ length text - 1 = omega (arith, room, all) in
        ap (λ (l : List ℕ). get_or l (n - 1) 0) is ∙ get_or-drop at text (n - 1) 0 ∙ ap (λ (k : ℕ). get_or text k 0) end ∙ whole (omega arith)

-- one more piece that is the rest of a text
pub GivesEach-rest : (text : List ℕ) (at : ℕ) (old mid new : Option (List (List ℕ))) → at < length text → GivesEach (IsRest text) old mid
    → AddsPiece mid new (take (length text - at) (drop at text)) → GivesEach (IsRest text) old new
GivesEach-rest text at old mid new left before adds =
    GivesEach-more (IsRest text) old mid new before (GivesEach-one (IsRest text) mid new (take (length text - at) (drop at text)) some rest adds)
  where
    size : length (take (length text - at) (drop at text)) ≡ length text - at
    size = ap length (rest_is text at) ∙ length-drop at text

    some : 0 < length (take (length text - at) (drop at text))
    some = omega (arith, size, left)

    rest : IsRest text (take (length text - at) (drop at text))
    rest = record { from = at; within = left; rest = rest_is text at }

-- one more line of a text of whole lines, and what was left of it after each write
pub GivesEach-line : (text rest : List ℕ) (at n : ℕ) (old mid new : Option (List (List ℕ))) → rest ≡ drop at text → at < length text → (0 < length rest → 0 < n)
    → n ≤ length rest → (n < length rest → get_or rest (n - 1) 0 ≡ 10) → ((k : ℕ) → k + 1 < n → get_or rest k 0 ≢ 10) → EndsAtLf text
    → GivesEach IsLine old mid → GivesEach (IsRest (take (at + n - at) (drop at text))) mid new → GivesEach IsLine old new
GivesEach-line text rest at n old mid new is left some within ends once whole before given =
    GivesEach-more IsLine old mid new before (GivesEach-weaker (IsRest (take (at + n - at) (drop at text))) IsLine mid new
    (λ piece. IsLine-rest (take (at + n - at) (drop at text)) piece line) given)
  where
    room : length rest ≡ length text - at
    room = ap length is ∙ length-drop at text

    same : at + n - at ≡ n
    same = omega arith

    first : IsLine (take n rest)
    first = IsLine-first text rest at n is left (some (omega (arith, room, left))) within ends once whole

    line : IsLine (take (at + n - at) (drop at text))
    line = rw (same, ← is) first
