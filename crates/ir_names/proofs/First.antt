-- The first of faults: that it is one of them, that none comes before it, and faults in several parts.
use Rattle.std.proofs.Common.{◌≡◌, zero, suc, List, [], ◌∷◌, ◌++◌, Bool, true, false, cond, ◌⊎◌, inl, inr, Option, Some, None, arith, refl, ap, ◌∙◌}
use Rattle.std.specs.List.{All, Contains}
use Rattle.std.specs.Result.{IfOk}
use Rattle.std.specs.Prelude.{Result, Ok, Err}
use Rattle.std.proofs.lemmas.List.Sums.{fold-append}
use Rattle.ir_core.specs.Faults.{fault_number}
use Rattle.ir_names.specs.declared.fault.NameFault.{NameFault}
use Rattle.ir_names.specs.First.{is_before, earlier, first_beside, first_fault}
use Rattle.ir_names.proofs.Orders.{precedes_self, taken_place, kept_place}

before_self : (f : NameFault) → is_before f f ≡ false
before_self f = precedes_self f.at.from (fault_number f.fault)

before_taken : (h g f : NameFault) → is_before h g ≡ true → is_before h f ≡ false → is_before g f ≡ false
before_taken h g f = taken_place h.at.from (fault_number h.fault) g.at.from (fault_number g.fault) f.at.from (fault_number f.fault)

before_kept : (h g f : NameFault) → is_before h g ≡ false → is_before g f ≡ false → is_before h f ≡ false
before_kept h g f = kept_place h.at.from (fault_number h.fault) g.at.from (fault_number g.fault) f.at.from (fault_number f.fault)

-- the fault comes neither behind the first so far nor behind these
record IsFirst (fault first : NameFault) (faults : List NameFault) : Type 0 where
  pub beside : is_before first fault ≡ false
  pub others : All (λ other. is_before other fault ≡ false) faults

front_too : (fault front : NameFault) (rest : List NameFault) → is_before front fault ≡ false → All (λ other. is_before other fault ≡ false) rest → All (λ other. is_before other fault ≡ false) (front ∷ rest)
front_too fault front rest here others zero d within = here
front_too fault front rest here others (suc k) d within = others k d (omega arith)

one_more : (fault first front : NameFault) (rest : List NameFault) (t : Bool) → is_before front first ≡ t → IsFirst fault (cond t front first) rest → IsFirst fault first (front ∷ rest)
one_more fault first front rest true before h = record {
  beside = before_taken front first fault before h.beside;
  others = front_too fault front rest h.beside h.others;
}
one_more fault first front rest false before h = record {
  beside = h.beside;
  others = front_too fault front rest (before_kept front first fault before h.beside) h.others;
}

first_of_all : (faults : List NameFault) (first fault : NameFault) → first_beside (Some first) faults ≡ Some fault → IsFirst fault first faults
first_of_all [] first fault e = let same : first ≡ fault = cc in record {
  beside = ap (λ f. is_before f fault) same ∙ before_self fault;
  others = λ k d within. absurd (omega arith);
}
first_of_all (front ∷ rest) first fault e = one_more fault first front rest (is_before front first) refl (first_of_all rest (cond (is_before front first) front first) fault e)

pub none_before : (faults : List NameFault) (fault : NameFault) → first_fault faults ≡ Some fault → All (λ other. is_before other fault ≡ false) faults
none_before [] fault e = cc
none_before (front ∷ rest) fault e = let h = first_of_all rest front fault e in front_too fault front rest h.beside h.others

further : (front fault : NameFault) (rest : List NameFault) → Contains rest fault → Contains (front ∷ rest) fault
further front fault rest h = (suc h.0, omega arith, h.2)

one_of : (front first fault : NameFault) (rest : List NameFault) (t : Bool) → (cond t front first ≡ fault) ⊎ Contains rest fault → (first ≡ fault) ⊎ Contains (front ∷ rest) fault
one_of front first fault rest true (inl e) = inr (0, omega arith, e)
one_of front first fault rest false (inl e) = inl e
one_of front first fault rest true (inr h) = inr (further front fault rest h)
one_of front first fault rest false (inr h) = inr (further front fault rest h)

among_beside : (faults : List NameFault) (first fault : NameFault) → first_beside (Some first) faults ≡ Some fault → (first ≡ fault) ⊎ Contains faults fault
among_beside [] first fault e = inl cc
among_beside (front ∷ rest) first fault e = one_of front first fault rest (is_before front first) (among_beside rest (cond (is_before front first) front first) fault e)

front_or_rest : (front fault : NameFault) (rest : List NameFault) → (front ≡ fault) ⊎ Contains rest fault → Contains (front ∷ rest) fault
front_or_rest front fault rest (inl e) = (0, omega arith, e)
front_or_rest front fault rest (inr h) = further front fault rest h

pub first_among : (faults : List NameFault) (fault : NameFault) → first_fault faults ≡ Some fault → Contains faults fault
first_among [] fault e = cc
first_among (front ∷ rest) fault e = front_or_rest front fault rest (among_beside rest front fault e)

never : (faults : List NameFault) (first : NameFault) → first_beside (Some first) faults ≡ None → ⊥
never [] first e = cc
never (front ∷ rest) first e = never rest (cond (is_before front first) front first) e

pub none_of_none : (faults : List NameFault) → first_fault faults ≡ None → faults ≡ []
none_of_none [] e = refl
none_of_none (front ∷ rest) e = absurd (never rest front e)

-- faults in four parts, one behind the other
pub in_parts : (own declares types constants : List NameFault) (a b c : Option NameFault)
    → a ≡ first_beside None own → b ≡ first_beside a declares → c ≡ first_beside b types
    → first_beside c constants ≡ first_fault (own ++ declares ++ types ++ constants)
in_parts own declares types constants a b c ea eb ec =
    let e = fold-append earlier None (own ++ declares ++ types) constants in
    let f = fold-append earlier None (own ++ declares) types in
    let g = fold-append earlier None own declares in
    cc

pub if_same : {T E : Type 0} (r : Result T E) (x y : T) → x ≡ y → IfOk r (λ f. f ≡ x) → IfOk r (λ f. f ≡ y)
if_same (Ok f) x y e h = h ∙ e
if_same (Err err) x y e h = h
