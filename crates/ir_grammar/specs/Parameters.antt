-- The parameters of a function (LLVM Language Reference, "Functions"): types with attributes, and names that are read.
use Rattle.ir_grammar.specs.declared.context.Context.{Context}
use Rattle.ir_grammar.specs.declared.context.Context.TheVariants as at
use Rattle.ir_grammar.specs.declared.kind.Kind.TheVariants as k
use Rattle.ir_grammar.specs.Spelled.{token_in}
use Rattle.ir_grammar.specs.Rules.{token, base, option, list, one, ◌⨾◌, optional, many, between, just, ◌▷◌, items_of}
use Rattle.ir_grammar.specs.Names.{Production, parameter, parameters_inside}
use Rattle.ir_grammar.specs.Words.{locals, commas}
use Rattle.ir_grammar.specs.Types.{type_rule}
use Rattle.ir_grammar.specs.Attributes.{attributes}

-- local?
unfoldable pub maybe_local : Production (option token)
maybe_local = optional (one locals)

-- the place behind the type of a parameter
abbrev pub behind_type : Context → Context
behind_type at.Declare = at.Parameter
behind_type c = c

-- type attr* local?
unfoldable pub parameter_rule : Context → Production (base parameter)
parameter_rule c = just (λ v. record { ty = v.0; name = token_in v.1 }) (type_rule c ⨾ (attributes (behind_type c) ▷ maybe_local))

-- , type attr* local?
unfoldable pub comma_parameter : Context → Production (base parameter)
comma_parameter c = one commas ▷ parameter_rule c

-- (, type attr* local?)*
unfoldable pub more_parameters : Context → Production (list (base parameter))
more_parameters c = many (comma_parameter c)

-- params: type attr* local? (, type attr* local?)* or nothing
unfoldable pub parameters_rule : Context → Production (list (base parameter))
parameters_rule c = just items_of (optional (parameter_rule c ⨾ more_parameters c))

-- ( params )
unfoldable pub parameters : Context → Production (list (base parameter))
parameters c = between k.OpenParen (parameters_inside c) k.CloseParen
