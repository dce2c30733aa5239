-- The loop over attributes, and the kinds at which one is read.
use Rattle.std.proofs.Common.{ℕ, List, [], ◌∷◌, length, ◌<◌, ◌≡◌, refl, true, false, ◌||◌, Ok, Err}
use Rattle.ir_grammar.specs.declared.context.Context.{Context}
use Rattle.ir_grammar.specs.declared.context.Context.TheVariants as at
use Rattle.ir_grammar.specs.declared.kind.Kind.{Kind}
use Rattle.ir_grammar.specs.declared.kind.Kind.TheVariants as k
use Rattle.ir_grammar.specs.declared.terminal.Terminal.{Terminal}
use Rattle.ir_grammar.specs.declared.terminal.Flaw.{Flaw}
use Rattle.ir_grammar.specs.Kinds.{is_same, is_among}
use Rattle.ir_grammar.specs.Reading.{starts, first, is_empty}
use Rattle.ir_grammar.specs.Rules.{nothing}
use Rattle.ir_grammar.specs.Spelled.{Store}
use Rattle.ir_grammar.specs.Names.{shared}
use Rattle.ir_grammar.specs.Grammar.{production, read}
use Rattle.ir_grammar.specs.Words.{attribute_words, refused_attributes}
use Rattle.ir_grammar.specs.Attributes.{word_attribute, align_attribute, convention_attribute, text_attribute, attribute, attributes}
use Rattle.ir_grammar.proofs.First.{shortens}
use Rattle.ir_grammar.proofs.Loops.{skip_more, skip_done, skip_failed}

pub attribute_kinds : (c : Context) (j : Kind) → is_among (first (attribute c)) j
    ≡ ((is_among (attribute_words c) j || is_among (k.Align ∷ k.CallingConvention ∷ k.Text ∷ k.OtherLayout ∷ k.AttrNumber ∷ []) j) || is_among (refused_attributes c) j)
unfolding is_same attribute word_attribute align_attribute convention_attribute text_attribute
attribute_kinds at.Plain k.Equals = refl
attribute_kinds at.Global k.Equals = refl
attribute_kinds at.GlobalTail k.Equals = refl
attribute_kinds at.Declare k.Equals = refl
attribute_kinds at.Parameter k.Equals = refl
attribute_kinds at.DeclareTail k.Equals = refl
attribute_kinds _ _ = refl

pub attribute_starts : (c : Context) (ts : List Terminal) → starts (first (attribute c)) ts
    ≡ ((starts (attribute_words c) ts || starts (k.Align ∷ k.CallingConvention ∷ k.Text ∷ k.OtherLayout ∷ k.AttrNumber ∷ []) ts) || starts (refused_attributes c) ts)
attribute_starts c [] = refl
attribute_starts c (t ∷ ts) = attribute_kinds c t.kind

pub attribute_full : (c : Context) → is_empty (attribute c) ≡ false
unfolding attribute word_attribute align_attribute convention_attribute text_attribute
attribute_full c = refl

pub attributes_more : (c : Context) (levels : ℕ) (ts : List Terminal) (st : Store) (x : Unit {0} × List Terminal × Store)
    → starts (first (attribute c)) ts ≡ true → read levels (attribute c) ts st ≡ Ok x → read levels (attributes c) ts st ≡ read levels (attributes c) x.1 x.2
unfolding attributes
attributes_more c levels ts st x h e = skip_more shared production levels nothing (attribute c) ts st x (attribute_full c) h e

pub attributes_done : (c : Context) (levels : ℕ) (ts : List Terminal) (st : Store) → starts (first (attribute c)) ts ≡ false → read levels (attributes c) ts st ≡ Ok (tt, ts, st)
unfolding attributes
attributes_done c levels ts st h = skip_done shared production levels nothing (attribute c) ts st h

pub attributes_failed : (c : Context) (levels : ℕ) (ts : List Terminal) (st : Store) (e : Flaw)
    → starts (first (attribute c)) ts ≡ true → read levels (attribute c) ts st ≡ Err e → read levels (attributes c) ts st ≡ Err e
unfolding attributes
attributes_failed c levels ts st e h q = skip_failed shared production levels nothing (attribute c) ts st e h q

pub attribute_takes : (c : Context) (levels : ℕ) (ts : List Terminal) (st : Store) (x : Unit {0} × List Terminal × Store)
    → read levels (attribute c) ts st ≡ Ok x → length x.1 < length ts
attribute_takes c levels ts st x h = shortens shared production levels nothing (attribute c) ts st x (attribute_full c) h
