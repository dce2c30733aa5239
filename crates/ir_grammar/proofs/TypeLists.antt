-- The loop over types with commas between.
use Rattle.std.proofs.Common.{ℕ, List, [], ◌∷◌, ◌++◌, length, ◌<◌, ◌≡◌, refl, ◌∙◌, ap, true, false, Ok, Err}
use Rattle.ir_grammar.specs.declared.context.Context.{Context}
use Rattle.ir_grammar.specs.declared.context.Context.TheVariants as at
use Rattle.ir_grammar.specs.declared.kind.Kind.TheVariants as k
use Rattle.ir_grammar.specs.declared.terminal.Terminal.{Terminal}
use Rattle.ir_grammar.specs.declared.terminal.Flaw.{Flaw}
use Rattle.ir_grammar.specs.Reading.{starts, first, is_empty}
use Rattle.ir_grammar.specs.Rules.{base}
use Rattle.ir_grammar.specs.Spelled.{Store}
use Rattle.ir_grammar.specs.Names.{number, shared}
use Rattle.ir_grammar.specs.Grammar.{production, read, with_front}
use Rattle.ir_grammar.specs.Types.{type_rule, solid_type, int_type, named_type, array_type, braced_types, struct_type, packed_type, other_type, comma_type, more_types, types_rule}
use Rattle.ir_grammar.proofs.First.{shortens}
use Rattle.ir_grammar.proofs.Loops.{many_more, many_done, many_failed, commas_none, front_more, front_done}

pub types_more : (c : Context) (levels : ℕ) (front : List ℕ) (ts : List Terminal) (st : Store) (x : ℕ × List Terminal × Store)
    → starts (k.Comma ∷ k.MetaComma ∷ []) ts ≡ true → read levels (comma_type c) ts st ≡ Ok x
    → with_front front (read levels (more_types c) ts st) ≡ with_front (front ++ x.0 ∷ []) (read levels (more_types c) x.1 x.2)
unfolding more_types
types_more c levels front ts st x h e =
    ap (with_front front) (many_more shared production levels (base number) (comma_type c) ts st x (unfold comma_type in refl) (unfold comma_type in h) e)
    ∙ front_more front x.0 (read levels (more_types c) x.1 x.2)

pub types_done : (c : Context) (levels : ℕ) (front : List ℕ) (ts : List Terminal) (st : Store)
    → starts (k.Comma ∷ k.MetaComma ∷ []) ts ≡ false → with_front front (read levels (more_types c) ts st) ≡ Ok (front, ts, st)
unfolding more_types
types_done c levels front ts st h =
    ap (with_front front) (many_done shared production levels (base number) (comma_type c) ts st (unfold comma_type in h)) ∙ front_done front ts st

pub types_failed : (c : Context) (levels : ℕ) (front : List ℕ) (ts : List Terminal) (st : Store) (e : Flaw)
    → starts (k.Comma ∷ k.MetaComma ∷ []) ts ≡ true → read levels (comma_type c) ts st ≡ Err e → with_front front (read levels (more_types c) ts st) ≡ Err e
unfolding more_types
types_failed c levels front ts st e h q =
    ap (with_front front) (many_failed shared production levels (base number) (comma_type c) ts st e (unfold comma_type in h) q)

pub comma_type_takes : (c : Context) (levels : ℕ) (ts : List Terminal) (st : Store) (x : ℕ × List Terminal × Store)
    → read levels (comma_type c) ts st ≡ Ok x → length x.1 < length ts
comma_type_takes c levels ts st x h = shortens shared production levels (base number) (comma_type c) ts st x (unfold comma_type in refl) h

pub type_full : (c : Context) → is_empty (type_rule c) ≡ false
unfolding type_rule solid_type int_type named_type array_type braced_types struct_type packed_type other_type
type_full at.Plain = refl
type_full at.Global = refl
type_full at.GlobalTail = refl
type_full at.Declare = refl
type_full at.Parameter = refl
type_full at.DeclareTail = refl

pub types_none : (c : Context) (levels : ℕ) (ts : List Terminal) (st : Store)
    → starts (first (type_rule c)) ts ≡ false → read levels (types_rule c) ts st ≡ Ok ([], ts, st)
unfolding types_rule
types_none c levels ts st h = commas_none shared production levels (base number) (type_rule c) (more_types c) ts st (type_full c) h
