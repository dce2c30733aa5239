-- Words of letters, their numbers, and the map that keeps them.
use Rattle.std.proofs.Common.{◌≡◌, ℕ, ◌+◌, ◌<◌, suc, Bool, true, false, ◌&&◌, cond, List, [], ◌∷◌, ◌++◌, length, map, drop, get_or, ◌-◌, Option, Some, None, arith, refl, sym, ◌∙◌, ap, inl, inr}
use Rattle.std.proofs.lemmas.Bool.{cases_Bool, eqb-true, eq-eqb}
use Rattle.std.proofs.Math.Seq.{drop-cons}
use Rattle.std.specs.Map.{lookup}
use Rattle.std.specs.Ordering.{is_eq}
use Rattle.std.proofs.Common.{Ordering}
use Rattle.std.specs.BTreeMap.{BTreeMap, get, Updates, is_at}
use Rattle.ir_type_numbers.specs.declared.letter.Letter.{Letter}
use Rattle.ir_type_numbers.specs.declared.letter.Letter.TheVariants.{Own, Void, Ptr, Int, Pair, Array, Struct, Part}
use Rattle.ir_type_numbers.specs.Numbering.{number_at}
use Rattle.ir_type_numbers.specs.Shapes.{longer_by, word_number, IsNumbering, Keeps, part_letter}
use Rattle.ir_type_numbers.specs.WordMap.{same_flag, same_letter, same_key, longer_in, IsWordMap}

same_flag_is : (a b : Bool) → same_flag a b ≡ true → a ≡ b
same_flag_is true true h = refl
same_flag_is true false h = cc
same_flag_is false true h = cc
same_flag_is false false h = refl

same_flag_self : (a : Bool) → same_flag a a ≡ true
same_flag_self true = refl
same_flag_self false = refl

same_letter_is : (a b : Letter) → same_letter a b ≡ true → a ≡ b
same_letter_is (Own a) (Own b) h = ap Own (eqb-true a b h)
same_letter_is Void Void h = refl
same_letter_is Ptr Ptr h = refl
same_letter_is (Int a) (Int b) h = ap Int (eqb-true a b h)
same_letter_is (Pair a) (Pair b) h = ap Pair (eqb-true a b h)
same_letter_is (Array a) (Array b) h = ap Array (eqb-true a b h)
same_letter_is (Struct a) (Struct b) h = ap Struct (same_flag_is a b h)
same_letter_is (Part a) (Part b) h = ap Part (eqb-true a b h)
same_letter_is _ _ h = cc

same_letter_self : (a : Letter) → same_letter a a ≡ true
same_letter_self (Own a) = eq-eqb a a refl
same_letter_self Void = refl
same_letter_self Ptr = refl
same_letter_self (Int a) = eq-eqb a a refl
same_letter_self (Pair a) = eq-eqb a a refl
same_letter_self (Array a) = eq-eqb a a refl
same_letter_self (Struct a) = same_flag_self a
same_letter_self (Part a) = eq-eqb a a refl

both : (a b : Bool) → (a && b) ≡ true → (a ≡ true) × (b ≡ true)
both true true h = (refl, refl)
both true false h = cc
both false b h = cc

of_both : (a b : Bool) → a ≡ true → b ≡ true → (a && b) ≡ true
of_both true true h k = refl
of_both true false h k = cc
of_both false b h k = cc

same_key_is : (p q : ℕ) (l k : Letter) → same_key (p, l) (q, k) ≡ true → (p ≡ q) × (l ≡ k)
same_key_is p q l k h =
    let parts = both _ _ h in
    (eqb-true p q parts.0, same_letter_is l k parts.1)

same_key_self : (p : ℕ) (l : Letter) → same_key (p, l) (p, l) ≡ true
same_key_self p l = of_both _ _ (eq-eqb p p refl) (same_letter_self l)

-- equal tests find the same
lookup_same : {K X : Type 0} (f g : K → Bool) → ((k : K) → f k ≡ g k) → (entries : List (K × X)) → lookup f entries ≡ lookup g entries
lookup_same f g h [] = refl
lookup_same f g h (entry ∷ entries) =
    let here : f entry.0 ≡ g entry.0 = h entry.0 in
    let rest : lookup f entries ≡ lookup g entries = lookup_same f g h entries in
    cc

-- a map that is ordered so that only the same keys are equal is read by its entries
pub longer-get : (cmp : ℕ × Letter → ℕ × Letter → Ordering) → ((x y : ℕ × Letter) → is_eq (cmp x y) ≡ same_key x y) → (map : BTreeMap (ℕ × Letter) ℕ) (p : ℕ) (l : Letter) → get cmp map (p, l) ≡ longer_in map.entries p l
longer-get cmp exact map p l = lookup_same (is_at (cmp (p, l))) (same_key (p, l)) (λ k. exact (p, l) k) map.entries

-- one more word has a number
pub record IsOneMore (before after : List ((ℕ × Letter) × ℕ)) (word : ℕ) (letter : Letter) (number : ℕ) : Type 0 where
  pub at : (p : ℕ) (l : Letter) → longer_in after p l ≡ cond (same_key (word, letter) (p, l)) (Some number) (longer_in before p l)
  pub absent : longer_in before word letter ≡ None

pub one_more : (cmp : ℕ × Letter → ℕ × Letter → Ordering) → ((x y : ℕ × Letter) → is_eq (cmp x y) ≡ same_key x y) → (before after : BTreeMap (ℕ × Letter) ℕ) (word : ℕ) (letter : Letter) (number : ℕ)
    → get cmp before (word, letter) ≡ None → Updates cmp before after (word, letter) (Some number) → IsOneMore before.entries after.entries word letter number
one_more cmp exact before after word letter number none updates = record {
  at = λ p l.
      let new = longer-get cmp exact after p l in
      let old = longer-get cmp exact before p l in
      let step = updates.0 (p, l) in
      let test = exact (word, letter) (p, l) in
      cc;
  absent = sym (longer-get cmp exact before word letter) ∙ none;
}

-- a word that has the new number, or had its number before
at_same : (before after : List ((ℕ × Letter) × ℕ)) (word : ℕ) (letter : Letter) (number p : ℕ) (l : Letter) → IsOneMore before after word letter number → same_key (word, letter) (p, l) ≡ true → longer_in after p l ≡ Some number
at_same before after word letter number p l more found = more.at p l ∙ ap (λ b. cond b (Some number) (longer_in before p l)) found

at_other : (before after : List ((ℕ × Letter) × ℕ)) (word : ℕ) (letter : Letter) (number p : ℕ) (l : Letter) → IsOneMore before after word letter number → same_key (word, letter) (p, l) ≡ false → longer_in after p l ≡ longer_in before p l
at_other before after word letter number p l more missed = more.at p l ∙ ap (λ b. cond b (Some number) (longer_in before p l)) missed

pub one_more_found : (before after : List ((ℕ × Letter) × ℕ)) (word : ℕ) (letter : Letter) (number : ℕ) → IsOneMore before after word letter number → longer_in after word letter ≡ Some number
one_more_found before after word letter number more = at_same before after word letter number word letter more (same_key_self word letter)

pub one_more_kept : (before after : List ((ℕ × Letter) × ℕ)) (word : ℕ) (letter : Letter) (number : ℕ) → IsOneMore before after word letter number → Keeps (longer_in before) (longer_in after)
one_more_kept before after word letter number more p n l h =
    elim (cases_Bool (same_key (word, letter) (p, l))) [
      | inl found ↦
          let is = same_key_is word p letter l found in
          let none : longer_in before word letter ≡ None = more.absent in
          let moved : longer_in before word letter ≡ longer_in before p l = ap (λ q. longer_in before q letter) is.0 ∙ ap (longer_in before p) is.1 in
          cc
      | inr missed ↦ at_other before after word letter number p l more missed ∙ h
    ]

pub one_more_map : (before after : List ((ℕ × Letter) × ℕ)) (word : ℕ) (letter : Letter) (count : ℕ) → IsWordMap before count → IsOneMore before after word letter (count + 1) → IsWordMap after (count + 1)
one_more_map before after word letter count was more = record {
  once = λ p q n l k hp hq.
      elim (cases_Bool (same_key (word, letter) (p, l))) [
        | inl same_p ↦
            let is_p = same_key_is word p letter l same_p in
            let new : longer_in after p l ≡ Some (count + 1) = at_same before after word letter (count + 1) p l more same_p in
            let e : n ≡ count + 1 = cc in
            elim (cases_Bool (same_key (word, letter) (q, k))) [
              | inl same_q ↦ let is_q = same_key_is word q letter k same_q in (sym is_p.0 ∙ is_q.0, sym is_p.1 ∙ is_q.1)
              | inr other_q ↦
                  let small = (was.counted q n k (sym (at_other before after word letter (count + 1) q k more other_q) ∙ hq)).1 in
                  absurd (omega (arith, small, e))
            ]
        | inr other_p ↦
            let old_p : longer_in before p l ≡ Some n = sym (at_other before after word letter (count + 1) p l more other_p) ∙ hp in
            elim (cases_Bool (same_key (word, letter) (q, k))) [
              | inl same_q ↦
                  let new : longer_in after q k ≡ Some (count + 1) = at_same before after word letter (count + 1) q k more same_q in
                  let e : n ≡ count + 1 = cc in
                  let small = (was.counted p n l old_p).1 in
                  absurd (omega (arith, small, e))
              | inr other_q ↦ was.once p q n l k old_p (sym (at_other before after word letter (count + 1) q k more other_q) ∙ hq)
            ]
      ];
  counted = λ p n l h.
      elim (cases_Bool (same_key (word, letter) (p, l))) [
        | inl found ↦
            let new : longer_in after p l ≡ Some (count + 1) = at_same before after word letter (count + 1) p l more found in
            let e : n ≡ count + 1 = cc in
            (omega (arith, e), omega (arith, e))
        | inr missed ↦
            let small = was.counted p n l (sym (at_other before after word letter (count + 1) p l more missed) ∙ h) in
            (small.0, omega (arith, small.1))
      ];
}

pub numbering : (entries : List ((ℕ × Letter) × ℕ)) (count : ℕ) → IsWordMap entries count → IsNumbering (longer_in entries)
numbering entries count map = record { once = map.once; positive = λ p n l h. (map.counted p n l h).0 }

-- the number of a longer word comes from that of the shorter
longer_by_some : (longer : ℕ → Letter → Option ℕ) (l : Letter) (shorter : Option ℕ) (n : ℕ) → longer_by longer l shorter ≡ Some n → (w : ℕ) × (shorter ≡ Some w) × (longer w l ≡ Some n)
longer_by_some longer l None n h = cc
longer_by_some longer l (Some w) n h = (w, refl, h)

-- two words with one number are the same
pub word_once : (longer : ℕ → Letter → Option ℕ) → IsNumbering longer → (xs ys : List Letter) (n : ℕ) → word_number longer xs ≡ Some n → word_number longer ys ≡ Some n → xs ≡ ys
word_once longer once [] [] n h k = refl
word_once longer once [] (y ∷ ys) n h k =
    let last = longer_by_some longer y (word_number longer ys) n k in
    let more = once.positive last.0 n y last.2 in
    let e : 0 ≡ n = cc in
    absurd (omega (arith, more, e))
word_once longer once (x ∷ xs) [] n h k =
    let last = longer_by_some longer x (word_number longer xs) n h in
    let more = once.positive last.0 n x last.2 in
    let e : 0 ≡ n = cc in
    absurd (omega (arith, more, e))
word_once longer once (x ∷ xs) (y ∷ ys) n h k =
    let a = longer_by_some longer x (word_number longer xs) n h in
    let b = longer_by_some longer y (word_number longer ys) n k in
    let same = once.once a.0 b.0 n x y a.2 b.2 in
    let rest : xs ≡ ys = word_once longer once xs ys a.0 a.1 (b.1 ∙ ap Some (sym same.0)) in
    let first : x ≡ y = same.1 in
    cc

-- words keep their numbers
pub word_kept : (before after : ℕ → Letter → Option ℕ) → Keeps before after → (word : List Letter) (n : ℕ) → word_number before word ≡ Some n → word_number after word ≡ Some n
word_kept before after keep [] n h = h
word_kept before after keep (l ∷ word) n h =
    let last = longer_by_some before l (word_number before word) n h in
    let shorter : word_number after word ≡ Some last.0 = word_kept before after keep word last.0 last.1 in
    ap (longer_by after l) shorter ∙ keep last.0 n l last.2

-- a letter in front of a word
pub word_longer : (longer : ℕ → Letter → Option ℕ) (l : Letter) (word : List Letter) (w n : ℕ) → word_number longer word ≡ Some w → longer w l ≡ Some n → word_number longer (l ∷ word) ≡ Some n
word_longer longer l word w n shorter last = ap (longer_by longer l) shorter ∙ last

-- a word with a last letter has another number than the empty one
pub word_positive : (longer : ℕ → Letter → Option ℕ) → IsNumbering longer → (word : List Letter) (l : Letter) (n : ℕ) → word_number longer (word ++ l ∷ []) ≡ Some n → 0 < n
word_positive longer once [] l n h =
    let last = longer_by_some longer l (Some 0) n h in
    once.positive last.0 n l last.2
word_positive longer once (x ∷ word) l n h =
    let last = longer_by_some longer x (word_number longer (word ++ l ∷ [])) n h in
    once.positive last.0 n x last.2

pub Keeps-both : (a b c : ℕ → Letter → Option ℕ) → Keeps a b → Keeps b c → Keeps a c
Keeps-both a b c first second p n l h = second p n l (first p n l h)

-- the letters of the parts from a place on, and of the part before them
pub with_part : (before after : ℕ → Letter → Option ℕ) (classes parts : List ℕ) (done number next : ℕ) (letters : List Letter) → done < length parts → Keeps before after
    → word_number before (map (part_letter classes) (drop (length parts - done) parts) ++ letters) ≡ Some number
    → after number (Part (number_at classes (get_or parts (length parts - 1 - done) 0))) ≡ Some next
    → word_number after (map (part_letter classes) (drop (length parts - (done + 1)) parts) ++ letters) ≡ Some next
with_part before after classes parts done number next letters h keep so_far last =
    let place : ℕ = length parts - (done + 1) in
    let inside : place < length parts = omega arith in
    let at : length parts - 1 - done ≡ place = omega arith in
    let behind : suc place ≡ length parts - done = omega arith in
    let part : ℕ = get_or parts place 0 in
    let dropped : drop place parts ≡ part ∷ drop (length parts - done) parts = drop-cons parts place 0 inside ∙ ap (λ n. part ∷ drop n parts) behind in
    let rest : List Letter = map (part_letter classes) (drop (length parts - done) parts) ++ letters in
    let here : after number (part_letter classes part) ≡ Some next = ap (λ n. after number (part_letter classes (get_or parts n 0))) (sym at) ∙ last in
    ap (λ ds. word_number after (map (part_letter classes) ds ++ letters)) dropped ∙ word_longer after (part_letter classes part) rest number next (word_kept before after keep rest number so_far) here
