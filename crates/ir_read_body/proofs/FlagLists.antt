-- The loop over the flags of an instruction.
use Rattle.std.proofs.Common.{ℕ, List, [], ◌∷◌, length, ◌<◌, ◌≡◌, refl, true, false, Ok, Err}
use Rattle.ir_grammar.specs.declared.kind.Kind.TheVariants as k
use Rattle.ir_grammar.specs.declared.terminal.Terminal.{Terminal}
use Rattle.ir_grammar.specs.declared.terminal.Flaw.{Flaw}
use Rattle.ir_grammar.specs.Reading.{starts, take}
use Rattle.ir_grammar.specs.Rules.{token, the}
use Rattle.ir_grammar.specs.Spelled.{Store}
use Rattle.ir_grammar.specs.Names.{shared}
use Rattle.ir_grammar.specs.Grammar.{production, read}
use Rattle.ir_grammar.specs.Instructions.{instruction_flags}
use Rattle.ir_grammar.proofs.First.{shortens}
use Rattle.ir_grammar.proofs.Loops.{skip_more, skip_done, skip_failed}

pub flags_more : (levels : ℕ) (ts : List Terminal) (st : Store) (x : Terminal × List Terminal × Store)
    → starts (k.Flag ∷ []) ts ≡ true → take (k.Flag ∷ []) ts st ≡ Ok x → read levels instruction_flags ts st ≡ read levels instruction_flags x.1 x.2
unfolding instruction_flags
flags_more levels ts st x h e = skip_more shared production levels token (the k.Flag) ts st x refl h e

pub flags_done : (levels : ℕ) (ts : List Terminal) (st : Store) → starts (k.Flag ∷ []) ts ≡ false → read levels instruction_flags ts st ≡ Ok (tt, ts, st)
unfolding instruction_flags
flags_done levels ts st h = skip_done shared production levels token (the k.Flag) ts st h

pub flags_failed : (levels : ℕ) (ts : List Terminal) (st : Store) (e : Flaw)
    → starts (k.Flag ∷ []) ts ≡ true → take (k.Flag ∷ []) ts st ≡ Err e → read levels instruction_flags ts st ≡ Err e
unfolding instruction_flags
flags_failed levels ts st e h q = skip_failed shared production levels token (the k.Flag) ts st e h q

pub flag_takes : (ts : List Terminal) (st : Store) (x : Terminal × List Terminal × Store) → take (k.Flag ∷ []) ts st ≡ Ok x → length x.1 < length ts
flag_takes ts st x h = shortens shared production 0 token (the k.Flag) ts st x refl h
