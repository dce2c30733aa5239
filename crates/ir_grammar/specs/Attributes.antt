-- Attributes (LLVM Language Reference, "Parameter Attributes", "Function Attributes", "Linkage Types" and others): words,
-- strings and numbers that are read and ignored. Which words pass is this project's choice.
use Rattle.std.specs.Prelude.{[], ◌∷◌}
use Rattle.ir_grammar.specs.declared.context.Context.{Context}
use Rattle.ir_grammar.specs.declared.context.Context.TheVariants as at
use Rattle.ir_grammar.specs.declared.kind.Kind.TheVariants as k
use Rattle.ir_grammar.specs.Rules.{nothing, one, refused, ◌⨾◌, ◌∣◌, optional, many, the, gone}
use Rattle.ir_grammar.specs.Names.{Production}
use Rattle.ir_grammar.specs.Words.{integers, texts, attribute_words, refused_attributes}
use Rattle.ir_grammar.specs.Skipped.{in_parens}

-- a power of two; on a global at most 16, and above that Unsupported
unfoldable pub alignment : Context → Production nothing
alignment at.Global = gone (the k.SmallPower) ∣ refused (k.Power ∷ k.GreatPower ∷ [])
alignment at.GlobalTail = gone (the k.SmallPower) ∣ refused (k.Power ∷ k.GreatPower ∷ [])
alignment c = gone (one (k.SmallPower ∷ k.Power ∷ k.GreatPower ∷ []))

-- word | word ( any )
unfoldable pub word_attribute : Context → Production nothing
word_attribute c = gone (one (attribute_words c) ⨾ optional in_parens)

-- align integer | align ( any )
unfoldable pub align_attribute : Context → Production nothing
align_attribute c = gone (the k.Align ⨾ (in_parens ∣ alignment c))

-- cc integer | cc ( any )
unfoldable pub convention_attribute : Production nothing
convention_attribute = gone (the k.CallingConvention ⨾ (in_parens ∣ gone (one integers)))

-- string | string = string
unfoldable pub text_attribute : Production nothing
text_attribute = gone (one texts ⨾ optional (the k.Equals ⨾ one texts))

-- word | word ( any ) | (align | cc) integer | string | string = string | attrnum
unfoldable pub attribute : Context → Production nothing
attribute c = word_attribute c ∣ align_attribute c ∣ convention_attribute ∣ text_attribute ∣ gone (the k.AttrNumber) ∣ refused (refused_attributes c)

-- attr*
unfoldable pub attributes : Context → Production nothing
attributes c = gone (many (attribute c))
