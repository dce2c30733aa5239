-- A text that is sent piece by piece.
use Rattle.std.proofs.Common.{◌≡◌, ℕ, ◌+◌, ◌-◌, List, ◌++◌, length, take, drop, Some, None, sym, ◌∙◌, ap, arith, length-append}
use Rattle.std.specs.Prelude.{Option}
use Rattle.std.specs.Io.KnownBytes.{Appends}
use Rattle.std.proofs.lemmas.List.{append_assoc, take-append-drop, length-drop}
use Rattle.std.proofs.Math.Seq.{take-add, take-length}
use Rattle.hw_driver.specs.Answer.{TookFront}

-- what was taken twice is taken together
pub Appends-trans : (old mid new : Option (List ℕ)) (a b : List ℕ) → Appends old mid a → Appends mid new b → Appends old new (a ++ b)
Appends-trans None mid new a b p q = tt
Appends-trans (Some xs) None new a b p q = absurd p
Appends-trans (Some xs) (Some ys) None a b p q = absurd q
Appends-trans (Some xs) (Some ys) (Some zs) a b p q = q ∙ ap (λ l. l ++ b) p ∙ append_assoc xs a b

-- the front and a piece behind it
piece : (text : List ℕ) (at n : ℕ) → take at text ++ take n (drop at text) ≡ take (at + n) text
piece text at n = sym (take-add at n text)

-- a piece of all that is left
pub piece_of_rest : (text : List ℕ) (at n : ℕ) → take at text ++ take n (take (length text - at) (drop at text)) ≡ take (at + n) text
piece_of_rest text at n =
    let all : take (length text - at) (drop at text) ≡ drop at text = rw (← length-drop at text) (take-length (drop at text)) in
    rw all (piece text at n)

-- a line that begins there
pub piece_of_line : (text : List ℕ) (at n : ℕ) → take at text ++ take (at + n - at) (drop at text) ≡ take (at + n) text
piece_of_line text at n = let same : at + n - at ≡ n = omega arith in rw same (piece text at n)

pub Appends-more : (old mid new : Option (List ℕ)) (text a b c : List ℕ) → Appends old mid a → Appends mid new b → a ++ b ≡ c → Appends old new c
Appends-more old mid new text a b c p q e = rw (← e) (Appends-trans old mid new a b p q)

-- a fault within a line is one within the text
pub TookFront-line : (old mid new : Option (List ℕ)) (start before now : ℕ) (text : List ℕ) (at n : ℕ)
    → Appends old mid (take at text) → before ≡ start
    → TookFront (record { taken_before = mid; taken_after = new; faults_before = before; faults_after = now }) (take (at + n - at) (drop at text))
    → TookFront (record { taken_before = old; taken_after = new; faults_before = start; faults_after = now }) text
TookFront-line old mid new start before now text at n sent quiet took = record {
  front = take at text ++ took.front;
  rest = took.rest ++ drop (at + n) text;
  whole = sym (regroup (take at text) took.front took.rest (drop (at + n) text)
      ∙ ap (λ l. take at text ++ l ++ drop (at + n) text) (sym took.whole)
      ∙ ap (λ l. l ++ drop (at + n) text) (piece_of_line text at n)
      ∙ take-append-drop (at + n) text);
  more = simp length-append (omega (arith, took.more));
  taken = Appends-trans old mid new (take at text) took.front sent took.taken;
  later = rw (← quiet) took.later;
  rose = rw (← quiet) took.rose;
}
  where
    regroup : (a b c d : List ℕ) → (a ++ b) ++ (c ++ d) ≡ a ++ (b ++ c) ++ d
    regroup a b c d = simp append_assoc
