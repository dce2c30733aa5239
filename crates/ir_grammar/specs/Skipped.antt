-- Runs of tokens that are skipped: only their brackets count.
use Rattle.ir_grammar.specs.declared.kind.Kind.TheVariants as k
use Rattle.ir_grammar.specs.Rules.{nothing, one, ◌∣◌, many, between, gone}
use Rattle.ir_grammar.specs.Names.{Production, any_inside}
use Rattle.ir_grammar.specs.Words.{all_but_brackets}

-- ( any )
unfoldable pub in_parens : Production nothing
in_parens = between k.OpenParen any_inside k.CloseParen

-- [ any ]
unfoldable pub in_squares : Production nothing
in_squares = between k.OpenSquare any_inside k.CloseSquare

-- { any }
unfoldable pub in_braces : Production nothing
in_braces = between k.OpenBrace any_inside k.CloseBrace

-- ( any ) | [ any ] | { any } | a token that is no bracket
unfoldable pub any_part : Production nothing
any_part = in_parens ∣ in_squares ∣ in_braces ∣ gone (one all_but_brackets)

-- any: the parts of a run
unfoldable pub any_run : Production nothing
any_run = gone (many any_part)
