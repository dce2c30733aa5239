-- Pieces put behind others one after the other.
use Rattle.std.proofs.Common.{◌≡◌, ℕ, suc, ◌<◌, List, [], ◌++◌, length, get_or, drop, Option, Some, None, refl, sym, ◌∙◌, ap, append_assoc, append-nil}
use Rattle.std.proofs.Math.Seq.{drop-cons}
use Rattle.ir_core.specs.declared.operands.Part.{Part}
use Rattle.ir_grammar.specs.declared.spelled.TypedConstant.{TypedConstant}
use Rattle.ir_first_values.specs.Tables.{Tables, part_of}
use Rattle.ir_first_values.specs.FirstValues.{joined, element_by, elements_value}
use Rattle.ir_first_values.specs.Answers.{behind}

pub behind_joined : (old new : List Part) (a b : Option (List Part)) → behind old a ≡ Some new → behind new b ≡ behind old (joined a b)
behind_joined old new (Some xs) (Some ys) h =
    let e : old ++ xs ≡ new = cc in
    ap Some (ap (λ l. l ++ ys) (sym e) ∙ append_assoc old xs ys)
behind_joined old new (Some xs) None h = refl
behind_joined old new None b h = cc

pub behind_none : (old : List Part) (a : Option (List Part)) → behind old a ≡ None → a ≡ None
behind_none old (Some xs) h = cc
behind_none old None h = refl

pub none_behind : (old : List Part) (a : Option (List Part)) → a ≡ None → behind old a ≡ None
none_behind old (Some xs) h = cc
none_behind old None h = refl

pub joined_none : (a b : Option (List Part)) → a ≡ None → joined a b ≡ None
joined_none (Some xs) b h = cc
joined_none None b h = refl

pub behind_nothing : (old : List Part) → behind old (Some []) ≡ Some old
behind_nothing old = ap Some (append-nil old)

-- one more element
pub elements_more : (t : Tables) (inside : ℕ → ℕ → ℕ → Option (List Part)) (ty at k : ℕ) (es : List TypedConstant) (e : TypedConstant) → k < length es → elements_value t inside ty at k (drop k es) ≡ joined (element_by t inside at (get_or es k e) (part_of t ty k)) (elements_value t inside ty at (suc k) (drop (suc k) es))
elements_more t inside ty at k es e h = ap (elements_value t inside ty at k) (drop-cons es k e h)
