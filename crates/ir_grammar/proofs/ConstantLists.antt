-- The loops over elements, indices and flags.
use Rattle.std.proofs.Common.{ℕ, List, [], ◌∷◌, ◌++◌, length, ◌<◌, ◌≡◌, refl, ◌∙◌, ap, true, false, cond, Ok, Err}
use Rattle.ir_grammar.specs.declared.context.Context.TheVariants as at
use Rattle.ir_grammar.specs.declared.kind.Kind.TheVariants as k
use Rattle.ir_grammar.specs.declared.spelled.TypedConstant.{TypedConstant}
use Rattle.ir_grammar.specs.declared.spelled.TypedIndex.{TypedIndex}
use Rattle.ir_grammar.specs.declared.terminal.Terminal.{Terminal}
use Rattle.ir_grammar.specs.declared.terminal.Flaw.{Flaw}
use Rattle.ir_grammar.specs.Reading.{starts, first, is_empty}
use Rattle.ir_grammar.specs.Rules.{nothing, base}
use Rattle.ir_grammar.specs.Spelled.{Store}
use Rattle.ir_grammar.specs.Names.{element, index, shared}
use Rattle.ir_grammar.specs.Grammar.{production, read, with_front}
use Rattle.ir_grammar.specs.Types.{type_rule}
use Rattle.ir_grammar.specs.Constants.{flag, flags, constant_rule, typed_constant, comma_constant, more_elements, elements_rule, comma_index, indices}
use Rattle.ir_grammar.proofs.First.{shortens}
use Rattle.ir_grammar.proofs.Loops.{many_more, many_done, many_failed, skip_more, skip_done, skip_failed, commas_none, front_more, front_done}
use Rattle.ir_grammar.proofs.TypeLists.{type_full}

-- an element begins as its type
pub first_typed : first typed_constant ≡ first (type_rule at.Plain)
unfolding typed_constant
first_typed = ap (λ e. cond e (first (type_rule at.Plain) ++ first constant_rule) (first (type_rule at.Plain))) (type_full at.Plain)

pub starts_typed : (ts : List Terminal) → starts (first typed_constant) ts ≡ starts (first (type_rule at.Plain)) ts
starts_typed ts = ap (λ v. starts v ts) first_typed

pub typed_full : is_empty typed_constant ≡ false
unfolding typed_constant
typed_full = rw (type_full at.Plain) refl

pub elements_more : (levels : ℕ) (front : List TypedConstant) (ts : List Terminal) (st : Store) (x : TypedConstant × List Terminal × Store)
    → starts (k.Comma ∷ k.MetaComma ∷ []) ts ≡ true → read levels comma_constant ts st ≡ Ok x
    → with_front front (read levels more_elements ts st) ≡ with_front (front ++ x.0 ∷ []) (read levels more_elements x.1 x.2)
unfolding more_elements
elements_more levels front ts st x h e =
    ap (with_front front) (many_more shared production levels (base element) comma_constant ts st x (unfold comma_constant in refl) (unfold comma_constant in h) e)
    ∙ front_more front x.0 (read levels more_elements x.1 x.2)

pub elements_done : (levels : ℕ) (front : List TypedConstant) (ts : List Terminal) (st : Store)
    → starts (k.Comma ∷ k.MetaComma ∷ []) ts ≡ false → with_front front (read levels more_elements ts st) ≡ Ok (front, ts, st)
unfolding more_elements
elements_done levels front ts st h =
    ap (with_front front) (many_done shared production levels (base element) comma_constant ts st (unfold comma_constant in h)) ∙ front_done front ts st

pub elements_failed : (levels : ℕ) (front : List TypedConstant) (ts : List Terminal) (st : Store) (e : Flaw)
    → starts (k.Comma ∷ k.MetaComma ∷ []) ts ≡ true → read levels comma_constant ts st ≡ Err e → with_front front (read levels more_elements ts st) ≡ Err e
unfolding more_elements
elements_failed levels front ts st e h q =
    ap (with_front front) (many_failed shared production levels (base element) comma_constant ts st e (unfold comma_constant in h) q)

pub comma_constant_takes : (levels : ℕ) (ts : List Terminal) (st : Store) (x : TypedConstant × List Terminal × Store)
    → read levels comma_constant ts st ≡ Ok x → length x.1 < length ts
comma_constant_takes levels ts st x h = shortens shared production levels (base element) comma_constant ts st x (unfold comma_constant in refl) h

pub elements_none : (levels : ℕ) (ts : List Terminal) (st : Store) → starts (first typed_constant) ts ≡ false → read levels elements_rule ts st ≡ Ok ([], ts, st)
unfolding elements_rule
elements_none levels ts st h = commas_none shared production levels (base element) typed_constant more_elements ts st typed_full h

pub indices_more : (levels : ℕ) (front : List TypedIndex) (ts : List Terminal) (st : Store) (x : TypedIndex × List Terminal × Store)
    → starts (k.Comma ∷ k.MetaComma ∷ []) ts ≡ true → read levels comma_index ts st ≡ Ok x
    → with_front front (read levels indices ts st) ≡ with_front (front ++ x.0 ∷ []) (read levels indices x.1 x.2)
unfolding indices
indices_more levels front ts st x h e =
    ap (with_front front) (many_more shared production levels (base index) comma_index ts st x (unfold comma_index in refl) (unfold comma_index in h) e)
    ∙ front_more front x.0 (read levels indices x.1 x.2)

pub indices_done : (levels : ℕ) (front : List TypedIndex) (ts : List Terminal) (st : Store)
    → starts (k.Comma ∷ k.MetaComma ∷ []) ts ≡ false → with_front front (read levels indices ts st) ≡ Ok (front, ts, st)
unfolding indices
indices_done levels front ts st h =
    ap (with_front front) (many_done shared production levels (base index) comma_index ts st (unfold comma_index in h)) ∙ front_done front ts st

pub indices_failed : (levels : ℕ) (front : List TypedIndex) (ts : List Terminal) (st : Store) (e : Flaw)
    → starts (k.Comma ∷ k.MetaComma ∷ []) ts ≡ true → read levels comma_index ts st ≡ Err e → with_front front (read levels indices ts st) ≡ Err e
unfolding indices
indices_failed levels front ts st e h q =
    ap (with_front front) (many_failed shared production levels (base index) comma_index ts st e (unfold comma_index in h) q)

pub comma_index_takes : (levels : ℕ) (ts : List Terminal) (st : Store) (x : TypedIndex × List Terminal × Store)
    → read levels comma_index ts st ≡ Ok x → length x.1 < length ts
comma_index_takes levels ts st x h = shortens shared production levels (base index) comma_index ts st x (unfold comma_index in refl) h

pub flags_more : (levels : ℕ) (ts : List Terminal) (st : Store) (x : Unit {0} × List Terminal × Store)
    → starts (k.Flag ∷ k.InRange ∷ []) ts ≡ true → read levels flag ts st ≡ Ok x → read levels flags ts st ≡ read levels flags x.1 x.2
unfolding flags
flags_more levels ts st x h e = skip_more shared production levels nothing flag ts st x (unfold flag in refl) (unfold flag in h) e

pub flags_done : (levels : ℕ) (ts : List Terminal) (st : Store) → starts (k.Flag ∷ k.InRange ∷ []) ts ≡ false → read levels flags ts st ≡ Ok (tt, ts, st)
unfolding flags
flags_done levels ts st h = skip_done shared production levels nothing flag ts st (unfold flag in h)

pub flags_failed : (levels : ℕ) (ts : List Terminal) (st : Store) (e : Flaw)
    → starts (k.Flag ∷ k.InRange ∷ []) ts ≡ true → read levels flag ts st ≡ Err e → read levels flags ts st ≡ Err e
unfolding flags
flags_failed levels ts st e h q = skip_failed shared production levels nothing flag ts st e (unfold flag in h) q

pub flag_takes : (levels : ℕ) (ts : List Terminal) (st : Store) (x : Unit {0} × List Terminal × Store)
    → read levels flag ts st ≡ Ok x → length x.1 < length ts
flag_takes levels ts st x h = shortens shared production levels nothing flag ts st x (unfold flag in refl) h
