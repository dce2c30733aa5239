-- Sets of kinds, as lists.
use Rattle.std.specs.Prelude.{List, Bool, not}
use Rattle.std.specs.List.{list_any, list_all}
use denote.Enum.Bare.{sameb}
use Rattle.ir_grammar.specs.contracts.kind.Kind.{the_type}
use Rattle.ir_grammar.specs.declared.kind.Kind.{Kind}

-- these are one kind
unfoldable pub is_same : Kind → Kind → Bool
is_same a b = sameb the_type a b

-- the kind is one of these
abbrev pub is_among : List Kind → Kind → Bool
is_among kinds k = list_any (λ j. is_same k j) kinds

-- no kind is in both lists
abbrev pub is_apart : List Kind → List Kind → Bool
is_apart some others = list_all (λ k. not (is_among others k)) some
