-- The loop over what follows the arguments of a call.
use Rattle.std.proofs.Common.{ℕ, List, [], ◌∷◌, length, ◌<◌, ◌≡◌, refl, true, false, ◌||◌, Ok, Err}
use Rattle.ir_grammar.specs.declared.context.Context.TheVariants as at
use Rattle.ir_grammar.specs.declared.kind.Kind.TheVariants as k
use Rattle.ir_grammar.specs.declared.terminal.Terminal.{Terminal}
use Rattle.ir_grammar.specs.declared.terminal.Flaw.{Flaw}
use Rattle.ir_grammar.specs.Reading.{starts, first, is_empty}
use Rattle.ir_grammar.specs.Rules.{nothing}
use Rattle.ir_grammar.specs.Spelled.{Store}
use Rattle.ir_grammar.specs.Names.{shared}
use Rattle.ir_grammar.specs.Grammar.{production, read}
use Rattle.ir_grammar.specs.Attributes.{attribute}
use Rattle.ir_grammar.specs.Calls.{call_part, call_tail}
use Rattle.ir_grammar.proofs.First.{shortens}
use Rattle.ir_grammar.proofs.Loops.{skip_more, skip_done, skip_failed}
use Rattle.ir_grammar.proofs.AttributeLists.{attribute_full}
use Rattle.ir_grammar.proofs.KindSets.{starts-append}

-- a part begins as an attribute, or with a bracket that is refused
pub part_starts : (ts : List Terminal) → starts (first call_part) ts ≡ (starts (first (attribute at.Plain)) ts || starts (k.OpenSquare ∷ []) ts)
unfolding call_part
part_starts ts = starts-append (first (attribute at.Plain)) (k.OpenSquare ∷ []) ts

part_full : is_empty call_part ≡ false
unfolding call_part
part_full = rw (attribute_full at.Plain) refl

pub parts_more : (levels : ℕ) (ts : List Terminal) (st : Store) (x : Unit {0} × List Terminal × Store)
    → starts (first call_part) ts ≡ true → read levels call_part ts st ≡ Ok x → read levels call_tail ts st ≡ read levels call_tail x.1 x.2
unfolding call_tail
parts_more levels ts st x h e = skip_more shared production levels nothing call_part ts st x part_full h e

pub parts_done : (levels : ℕ) (ts : List Terminal) (st : Store) → starts (first call_part) ts ≡ false → read levels call_tail ts st ≡ Ok (tt, ts, st)
unfolding call_tail
parts_done levels ts st h = skip_done shared production levels nothing call_part ts st h

pub parts_failed : (levels : ℕ) (ts : List Terminal) (st : Store) (e : Flaw)
    → starts (first call_part) ts ≡ true → read levels call_part ts st ≡ Err e → read levels call_tail ts st ≡ Err e
unfolding call_tail
parts_failed levels ts st e h q = skip_failed shared production levels nothing call_part ts st e h q

pub parts_take : (levels : ℕ) (ts : List Terminal) (st : Store) (x : Unit {0} × List Terminal × Store)
    → read levels call_part ts st ≡ Ok x → length x.1 < length ts
parts_take levels ts st x h = shortens shared production levels nothing call_part ts st x part_full h
