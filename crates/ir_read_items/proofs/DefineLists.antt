-- The loop over the parts after a definition's parameters.
use Rattle.std.proofs.Common.{ℕ, List, [], ◌∷◌, length, ◌<◌, ◌≡◌, true, false, ◌||◌, Ok, Err}
use Rattle.ir_grammar.specs.declared.context.Context.TheVariants as at
use Rattle.ir_grammar.specs.declared.kind.Kind.TheVariants as k
use Rattle.ir_grammar.specs.declared.terminal.Terminal.{Terminal}
use Rattle.ir_grammar.specs.declared.terminal.Flaw.{Flaw}
use Rattle.ir_grammar.specs.Reading.{starts, first, is_empty}
use Rattle.ir_grammar.specs.Rules.{nothing}
use Rattle.ir_grammar.specs.Spelled.{Store}
use Rattle.ir_grammar.specs.Names.{shared}
use Rattle.ir_grammar.specs.Grammar.{production, read}
use Rattle.ir_grammar.specs.Attributes.{attribute}
use Rattle.ir_grammar.proofs.First.{shortens}
use Rattle.ir_grammar.proofs.Loops.{skip_more, skip_done, skip_failed}
use Rattle.ir_grammar.proofs.AttributeLists.{attribute_full}
use Rattle.ir_grammar.proofs.KindSets.{starts-append}
use Rattle.ir_read_items.specs.Items.{attachment, define_part, define_tail}

-- a part begins as an attachment or an attribute
pub part_starts : (ts : List Terminal) → starts (first define_part) ts ≡ (starts (k.MetaName ∷ k.MetaDefinition ∷ []) ts || starts (first (attribute at.Plain)) ts)
unfolding define_part attachment
part_starts ts = starts-append (k.MetaName ∷ k.MetaDefinition ∷ []) (first (attribute at.Plain)) ts

part_full : is_empty define_part ≡ false
unfolding define_part attachment
part_full = attribute_full at.Plain

pub parts_more : (levels : ℕ) (ts : List Terminal) (st : Store) (x : Unit {0} × List Terminal × Store)
    → starts (first define_part) ts ≡ true → read levels define_part ts st ≡ Ok x → read levels define_tail ts st ≡ read levels define_tail x.1 x.2
unfolding define_tail
parts_more levels ts st x h e = skip_more shared production levels nothing define_part ts st x part_full h e

pub parts_done : (levels : ℕ) (ts : List Terminal) (st : Store) → starts (first define_part) ts ≡ false → read levels define_tail ts st ≡ Ok (tt, ts, st)
unfolding define_tail
parts_done levels ts st h = skip_done shared production levels nothing define_part ts st h

pub parts_failed : (levels : ℕ) (ts : List Terminal) (st : Store) (e : Flaw)
    → starts (first define_part) ts ≡ true → read levels define_part ts st ≡ Err e → read levels define_tail ts st ≡ Err e
unfolding define_tail
parts_failed levels ts st e h q = skip_failed shared production levels nothing define_part ts st e h q

pub parts_take : (levels : ℕ) (ts : List Terminal) (st : Store) (x : Unit {0} × List Terminal × Store)
    → read levels define_part ts st ≡ Ok x → length x.1 < length ts
parts_take levels ts st x h = shortens shared production levels nothing define_part ts st x part_full h
