-- Lists of kinds that the shared productions name: what the LLVM Language Reference has as one class of words, and what
-- this program doesn't take.
use Rattle.std.specs.Prelude.{List, [], ◌∷◌}
use Rattle.ir_grammar.specs.declared.context.Context.{Context}
use Rattle.ir_grammar.specs.declared.context.Context.TheVariants as at
use Rattle.ir_grammar.specs.declared.kind.Kind.{Kind}
use Rattle.ir_grammar.specs.declared.kind.Kind.TheVariants as k

-- any integer
abbrev pub integers : List Kind
integers = k.Count ∷ k.SmallPower ∷ k.Power ∷ k.Negative ∷ k.GreatPower ∷ k.Great ∷ []

-- an integer from 0 to 2^64 - 1
abbrev pub counts : List Kind
counts = k.Count ∷ k.SmallPower ∷ k.Power ∷ []

-- a string
abbrev pub texts : List Kind
texts = k.Text ∷ k.OtherLayout ∷ []

-- a global
abbrev pub globals : List Kind
globals = k.Global ∷ k.UsedGlobal ∷ k.DebugGlobal ∷ []

-- a comma, whatever follows it
abbrev pub commas : List Kind
commas = k.Comma ∷ k.MetaComma ∷ []

-- `void`, whatever follows it
abbrev pub voids : List Kind
voids = k.Void ∷ k.VoidBeforeOperand ∷ []

-- a metadata name, whatever follows it
abbrev pub meta_names : List Kind
meta_names = k.MetaName ∷ k.MetaDefinition ∷ []

-- a local, whatever follows it
abbrev pub locals : List Kind
locals = k.Local ∷ k.LocalDefinition ∷ []

-- words that are Unsupported where a type, a value or an attribute may stand
abbrev pub refused_words : List Kind
refused_words = k.OtherWord ∷ k.OtherType ∷ k.LabelWord ∷ k.WideIntType ∷ []

-- words that are Unsupported where a type may stand; in a declare `external` and `extern_weak` are no such words, and
-- `metadata` is a type
abbrev pub refused_types : Context → List Kind
refused_types at.Declare = k.Target ∷ refused_words
refused_types at.DeclareTail = k.Target ∷ refused_words
refused_types _ = k.External ∷ k.MetadataWord ∷ k.Target ∷ refused_words

-- words and literals that are Unsupported where a value may stand: those of a type, a float, and constant expressions
abbrev pub refused_values : List Kind
refused_values = k.Float ∷ k.Binary ∷ k.BinaryRmw ∷ k.Icmp ∷ k.Cast ∷ k.Select ∷ k.ExtractValue ∷ refused_types at.Plain

-- words that are attributes wherever one may stand: all but the words of types and values, those that begin an item, an
-- instruction or a terminator, `global`, `constant`, and those that this program doesn't take
abbrev pub common_attributes : List Kind
common_attributes = k.Word ∷ k.DataLayout ∷ k.Triple ∷ k.TypeWord ∷ k.OpaqueWord ∷ k.Distinct ∷ k.Flag ∷ k.InRange ∷ k.SameSign ∷ k.Predicate
    ∷ k.Rmw ∷ k.Atomic ∷ k.Volatile ∷ k.Weak ∷ k.Order ∷ k.SyncScope ∷ k.To ∷ k.X ∷ []

-- words that are attributes in this place
abbrev pub attribute_words : Context → List Kind
attribute_words at.Plain = k.DollarWord ∷ k.Section ∷ common_attributes
attribute_words at.Global = k.DollarWord ∷ k.Section ∷ common_attributes
attribute_words at.GlobalTail = k.DollarWord ∷ common_attributes
attribute_words at.Declare = k.External ∷ k.DollarWord ∷ k.Section ∷ common_attributes
attribute_words at.Parameter = k.External ∷ k.DollarWord ∷ k.Section ∷ common_attributes
attribute_words at.DeclareTail = k.External ∷ k.Section ∷ common_attributes

-- words that are Unsupported where an attribute may stand. In a declare a type `metadata` may stand behind attributes, but
-- not behind those of a parameter;
-- behind a declare's parameters the next item may begin, with `target`, and not with a `$` word
abbrev pub refused_attributes : Context → List Kind
refused_attributes at.Declare = k.Target ∷ refused_words
refused_attributes at.Parameter = k.MetadataWord ∷ k.Target ∷ refused_words
refused_attributes at.DeclareTail = k.DollarWord ∷ k.MetadataWord ∷ refused_words
refused_attributes _ = k.External ∷ k.MetadataWord ∷ k.Target ∷ refused_words

-- every kind but brackets and the end of the text: what a skipped run holds
abbrev pub all_but_brackets : List Kind
all_but_brackets = k.Equals ∷ k.Comma ∷ k.MetaComma ∷ k.Less ∷ k.Greater ∷ k.Vector ∷ k.Dots ∷ k.OtherMark ∷ k.Label ∷ k.Local ∷ k.LocalDefinition ∷ k.Global
    ∷ k.UsedGlobal ∷ k.DebugGlobal ∷ k.MetaName ∷ k.MetaDefinition ∷ k.MetaNumber ∷ k.Bang ∷ k.AttrNumber ∷ k.DebugRecord ∷ k.Text ∷ k.OtherLayout ∷ k.Bytes ∷ k.Float ∷ k.Negative
    ∷ k.SmallPower ∷ k.Power ∷ k.Count ∷ k.GreatPower ∷ k.Great ∷ k.BitType ∷ k.IntType ∷ k.EmptyIntType ∷ k.WideIntType ∷ k.Ptr ∷ k.Void ∷ k.VoidBeforeOperand
    ∷ k.LabelWord ∷ k.MetadataWord ∷ k.Target ∷ k.OtherType ∷ k.True ∷ k.False ∷ k.Null ∷ k.ZeroWord ∷ k.GetElementPtr ∷ k.SourceFilename
    ∷ k.Define ∷ k.Declare ∷ k.AttributesWord ∷ k.GlobalWord ∷ k.ConstantWord ∷ k.DataLayout ∷ k.Triple ∷ k.TypeWord ∷ k.OpaqueWord
    ∷ k.Distinct ∷ k.Section ∷ k.Align ∷ k.CallingConvention ∷ k.Word ∷ k.DollarWord ∷ k.HexWord ∷ k.External ∷ k.OtherWord ∷ k.Binary
    ∷ k.BinaryRmw ∷ k.Rmw ∷ k.Icmp ∷ k.Cast ∷ k.Freeze ∷ k.Select ∷ k.Phi ∷ k.Alloca ∷ k.Load ∷ k.Store ∷ k.Fence ∷ k.AtomicRmw
    ∷ k.CmpXchg ∷ k.ExtractValue ∷ k.TailWord ∷ k.Call ∷ k.Ret ∷ k.Br ∷ k.Switch ∷ k.Unreachable ∷ k.Flag ∷ k.InRange ∷ k.SameSign
    ∷ k.Predicate ∷ k.Atomic ∷ k.Volatile ∷ k.Weak ∷ k.Order ∷ k.SyncScope ∷ k.To ∷ k.X ∷ []
