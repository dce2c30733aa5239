use Rattle.std.proofs.Common.{sym, subst}
use Rattle.std.specs.List.{AllPass}
use Rattle.std.specs.Char.{is_ascii_digit}
use Rattle.std.proofs.lemmas.List.{take_rest}
use Rattle.ir_lex.proofs.Ranges.{digits_behind_minus}
use Rattle.ir_lex.proofs.front.is_in_range.Goals as goal

pub is_at_most-requires-clause-digits : goal.is_at_most-requires-clause-digits
is_at_most-requires-clause-digits c = subst (λ s. AllPass is_ascii_digit s) (sym (take_rest c.args.bytes.now 1)) (digits_behind_minus c.args.bytes.now c.requires c.if-first-eq45.true)
