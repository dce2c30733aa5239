-- The kind of each token: a function of the token, its text and what comes after it: the next token, and after a `void`
-- those that tell whether an operand begins. The words are those of the LLVM
-- Language Reference; which of them are one kind, and which this program doesn't take, is this project's choice.
use Rattle.std.specs.Prelude.{ℕ, List, [], ◌∷◌, ◌++◌, length, drop, min, Bool, false, not, ◌&&◌, ◌||◌, ◌==◌, ◌-◌, ◌^◌, nat_eq, nat_lt, nat_le, if◌then◌else◌, codes, Option, None, Some, unwrap_or}
use Rattle.std.specs.List.{list_all, starts_with}
use Rattle.std.specs.Str.{bytes_eq}
use Rattle.std.specs.Str.Parse.{digits_value}
use Rattle.std.specs.Char.{is_ascii_digit}
use Rattle.std.specs.Int.{is_power_of_two}
use Rattle.ir_core.specs.declared.refusals.Place.{Place}
use Rattle.ir_core.specs.declared.token.Token.{Token}
use Rattle.ir_core.specs.declared.token.TokenKind.{TokenKind}
use Rattle.ir_core.specs.declared.token.TokenKind.TheVariants as tokens
use Rattle.ir_core.specs.contracts.token.TokenKind.{the_type}
use denote.Enum.Bare.{sameb}
use Rattle.ir_core.specs.Tokens.{bytes_of}
use Rattle.ir_text.specs.Names.{is_used_list, is_debug_function}
use Rattle.ir_text.specs.DataLayout.{is_layout_taken}
use Rattle.ir_grammar.specs.declared.kind.Kind.{Kind}
use Rattle.ir_grammar.specs.declared.kind.Kind.TheVariants as k
use Rattle.ir_grammar.specs.declared.terminal.Terminal.{Terminal}
use Rattle.ir_grammar.specs.Kinds.{is_same}

-- these are one kind of token
unfoldable pub is_token : TokenKind → TokenKind → Bool
is_token a b = sameb the_type b a

-- words with their kinds
abbrev pub Table : Type 0
Table = List (List ℕ × Kind)

-- the words of one kind
abbrev pub all_of : Kind → List (List ℕ) → Table
all_of kind [] = []
all_of kind (word ∷ words) = (word, kind) ∷ all_of kind words

-- the kind of a text that stands in the table
abbrev pub kind_in : Table → List ℕ → Option Kind
kind_in [] text = None
kind_in (entry ∷ rest) text = if bytes_eq text entry.0 then Some entry.1 else kind_in rest text

-- words of types and values
abbrev pub type_words : Table
type_words = all_of k.Ptr (codes "ptr" ∷ [])
    ++ all_of k.Void (codes "void" ∷ [])
    ++ all_of k.LabelWord (codes "label" ∷ [])
    ++ all_of k.MetadataWord (codes "metadata" ∷ [])
    ++ all_of k.Target (codes "target" ∷ [])
    ++ all_of k.OtherType (codes "half" ∷ codes "bfloat" ∷ codes "float" ∷ codes "double" ∷ codes "fp128"
    ∷ codes "x86_fp80" ∷ codes "ppc_fp128" ∷ codes "token" ∷ codes "x86_amx" ∷ [])
    ++ all_of k.True (codes "true" ∷ [])
    ++ all_of k.False (codes "false" ∷ [])
    ++ all_of k.Null (codes "null" ∷ [])
    ++ all_of k.ZeroWord (codes "undef" ∷ codes "poison" ∷ codes "zeroinitializer" ∷ [])
    ++ all_of k.GetElementPtr (codes "getelementptr" ∷ [])
    ++ all_of k.X (codes "x" ∷ [])
    ++ all_of k.To (codes "to" ∷ [])

-- words of items and attributes
abbrev pub item_words : Table
item_words = all_of k.SourceFilename (codes "source_filename" ∷ [])
    ++ all_of k.Define (codes "define" ∷ [])
    ++ all_of k.Declare (codes "declare" ∷ [])
    ++ all_of k.AttributesWord (codes "attributes" ∷ [])
    ++ all_of k.GlobalWord (codes "global" ∷ [])
    ++ all_of k.ConstantWord (codes "constant" ∷ [])
    ++ all_of k.DataLayout (codes "datalayout" ∷ [])
    ++ all_of k.Triple (codes "triple" ∷ [])
    ++ all_of k.TypeWord (codes "type" ∷ [])
    ++ all_of k.OpaqueWord (codes "opaque" ∷ [])
    ++ all_of k.Distinct (codes "distinct" ∷ [])
    ++ all_of k.Section (codes "section" ∷ [])
    ++ all_of k.Align (codes "align" ∷ [])
    ++ all_of k.CallingConvention (codes "cc" ∷ [])
    ++ all_of k.External (codes "external" ∷ codes "extern_weak" ∷ [])

-- words of instructions and terminators
abbrev pub body_words : Table
body_words = all_of k.Binary (codes "mul" ∷ codes "udiv" ∷ codes "sdiv" ∷ codes "urem" ∷ codes "srem" ∷ codes "shl"
    ∷ codes "lshr" ∷ codes "ashr" ∷ [])
    ++ all_of k.BinaryRmw (codes "add" ∷ codes "sub" ∷ codes "and" ∷ codes "or" ∷ codes "xor" ∷ [])
    ++ all_of k.Rmw (codes "xchg" ∷ codes "nand" ∷ codes "max" ∷ codes "min" ∷ codes "umax" ∷ codes "umin" ∷ [])
    ++ all_of k.Icmp (codes "icmp" ∷ [])
    ++ all_of k.Cast (codes "trunc" ∷ codes "zext" ∷ codes "sext" ∷ [])
    ++ all_of k.Freeze (codes "freeze" ∷ [])
    ++ all_of k.Select (codes "select" ∷ [])
    ++ all_of k.Phi (codes "phi" ∷ [])
    ++ all_of k.Alloca (codes "alloca" ∷ [])
    ++ all_of k.Load (codes "load" ∷ [])
    ++ all_of k.Store (codes "store" ∷ [])
    ++ all_of k.Fence (codes "fence" ∷ [])
    ++ all_of k.AtomicRmw (codes "atomicrmw" ∷ [])
    ++ all_of k.CmpXchg (codes "cmpxchg" ∷ [])
    ++ all_of k.ExtractValue (codes "extractvalue" ∷ [])
    ++ all_of k.TailWord (codes "tail" ∷ codes "musttail" ∷ codes "notail" ∷ [])
    ++ all_of k.Call (codes "call" ∷ [])
    ++ all_of k.Ret (codes "ret" ∷ [])
    ++ all_of k.Br (codes "br" ∷ [])
    ++ all_of k.Switch (codes "switch" ∷ [])
    ++ all_of k.Unreachable (codes "unreachable" ∷ [])
    ++ all_of k.Flag (codes "nsw" ∷ codes "nuw" ∷ codes "exact" ∷ codes "disjoint" ∷ codes "nneg" ∷ codes "inbounds" ∷ codes "nusw" ∷ [])
    ++ all_of k.InRange (codes "inrange" ∷ [])
    ++ all_of k.SameSign (codes "samesign" ∷ [])
    ++ all_of k.Predicate (codes "eq" ∷ codes "ne" ∷ codes "ugt" ∷ codes "uge" ∷ codes "ult" ∷ codes "ule" ∷ codes "sgt"
    ∷ codes "sge" ∷ codes "slt" ∷ codes "sle" ∷ [])
    ++ all_of k.Atomic (codes "atomic" ∷ [])
    ++ all_of k.Volatile (codes "volatile" ∷ [])
    ++ all_of k.Weak (codes "weak" ∷ [])
    ++ all_of k.Order (codes "unordered" ∷ codes "monotonic" ∷ codes "acquire" ∷ codes "release" ∷ codes "acq_rel" ∷ codes "seq_cst" ∷ [])
    ++ all_of k.SyncScope (codes "syncscope" ∷ [])

-- words that this program doesn't take
abbrev pub other_words : Table
other_words = all_of k.OtherWord (codes "asm" ∷ codes "byval" ∷ codes "inalloca" ∷ codes "preallocated"
    ∷ codes "swifterror" ∷ codes "thread_local" ∷ codes "addrspace" ∷ codes "comdat" ∷ codes "personality"
    ∷ codes "prefix" ∷ codes "prologue" ∷ codes "alias" ∷ codes "ifunc" ∷ codes "module" ∷ codes "uselistorder"
    ∷ codes "uselistorder_bb" ∷ codes "invoke" ∷ codes "landingpad" ∷ codes "resume" ∷ codes "indirectbr"
    ∷ codes "callbr" ∷ codes "cleanupret" ∷ codes "catchret" ∷ codes "catchswitch" ∷ codes "catchpad"
    ∷ codes "cleanuppad" ∷ codes "va_arg" ∷ codes "fadd" ∷ codes "fsub" ∷ codes "fmul" ∷ codes "fdiv" ∷ codes "frem"
    ∷ codes "fneg" ∷ codes "fcmp" ∷ codes "fptrunc" ∷ codes "fpext" ∷ codes "fptoui" ∷ codes "fptosi" ∷ codes "uitofp"
    ∷ codes "sitofp" ∷ codes "ptrtoint" ∷ codes "ptrtoaddr" ∷ codes "inttoptr" ∷ codes "bitcast"
    ∷ codes "addrspacecast" ∷ codes "insertvalue" ∷ codes "insertelement" ∷ codes "extractelement"
    ∷ codes "shufflevector" ∷ codes "blockaddress" ∷ codes "dso_local_equivalent" ∷ codes "no_cfi" ∷ [])

-- the first of these that is there
abbrev pub or_else : Option Kind → Option Kind → Option Kind
or_else None other = other
or_else (Some kind) other = Some kind

-- the digits behind `i` in a word of `i` and digits
abbrev pub is_int_type : List ℕ → Bool
is_int_type [] = false
is_int_type (b ∷ bs) = b == 105 && (not (length bs == 0) && list_all is_ascii_digit bs)

-- what fits in 128 bits
abbrev pub greatest : ℕ
greatest = 2 ^ 128 - 1

-- the number of these digits; from 2^128 on it is 2^128 - 1
abbrev pub number_of : List ℕ → ℕ
number_of digits = min (digits_value 10 digits) greatest

-- an integer type by its width in bits, 1 to 128
abbrev pub int_kind : ℕ → Kind
int_kind width = if width == 0 then k.EmptyIntType else (if width == 1 then k.BitType else (if nat_le width 128 then k.IntType else k.WideIntType))

-- another word
unfoldable pub other_word : List ℕ → Kind
other_word text =
    if is_int_type text then int_kind (number_of (drop 1 text))
    else (if starts_with nat_eq text (codes "$") then k.DollarWord
    else (if starts_with nat_eq text (codes "u0x") || starts_with nat_eq text (codes "s0x") then k.HexWord else k.Word))

-- a word
unfoldable pub word_kind : List ℕ → Kind
word_kind text =
    unwrap_or (or_else (kind_in type_words text) (or_else (kind_in item_words text) (or_else (kind_in body_words text) (kind_in other_words text))))
    (other_word text)

-- an integer that isn't negative, by its number
abbrev pub count_kind : ℕ → Kind
count_kind n =
    if is_power_of_two n then (if nat_le n 16 then k.SmallPower else (if nat_lt n (2 ^ 64) then k.Power else k.GreatPower))
    else (if nat_lt n (2 ^ 64) then k.Count else k.Great)

-- the digits of an integer, behind its `-`
abbrev pub digits_of : List ℕ → List ℕ
digits_of text = if starts_with nat_eq text (codes "-") then drop 1 text else text

-- an integer; `-0` isn't negative
unfoldable pub integer_kind : List ℕ → Kind
integer_kind text =
    if starts_with nat_eq text (codes "-") && not (number_of (digits_of text) == 0) then k.Negative else count_kind (number_of (digits_of text))

-- marks by themselves
abbrev pub mark_table : Table
mark_table = (codes "=", k.Equals) ∷ (codes ",", k.Comma) ∷ (codes "(", k.OpenParen) ∷ (codes ")", k.CloseParen) ∷ (codes "[", k.OpenSquare)
    ∷ (codes "]", k.CloseSquare) ∷ (codes "{", k.OpenBrace) ∷ (codes "}", k.CloseBrace) ∷ (codes ">", k.Greater) ∷ (codes "...", k.Dots) ∷ []

-- the next token is an integer
abbrev pub integer_follows : List Token → Bool
integer_follows [] = false
integer_follows (t ∷ ts) = is_token tokens.Integer t.kind

-- the next token is `=`
abbrev pub equals_follows : List ℕ → List Token → Bool
equals_follows source [] = false
equals_follows source (t ∷ ts) = is_token tokens.Mark t.kind && bytes_eq (bytes_of source t) (codes "=")

-- a mark; `<` before an integer is a vector
unfoldable pub mark_kind : List ℕ → Bool → Kind
mark_kind text integer =
    unwrap_or (kind_in mark_table text) (if bytes_eq text (codes "<") then (if integer then k.Vector else k.Less) else k.OtherMark)

-- a local, and whether `=` follows it
abbrev pub local_kind : Bool → Kind
local_kind equals = if equals then k.LocalDefinition else k.Local

-- a metadata name, and whether `=` follows it
abbrev pub meta_name_kind : Bool → Kind
meta_name_kind equals = if equals then k.MetaDefinition else k.MetaName

-- a global; those that list what has to be kept, and functions for debuggers, are read in their own way
abbrev pub global_kind : List ℕ → Kind
global_kind text = if is_used_list text then k.UsedGlobal else (if is_debug_function text then k.DebugGlobal else k.Global)

-- a string, by the data layout that it would write
abbrev pub text_kind : List ℕ → Kind
text_kind text = if is_layout_taken text then k.Text else k.OtherLayout

-- the kind of a token of this text; whether `=` and whether an integer follows it
abbrev pub token_kind : TokenKind → List ℕ → Bool → Bool → Kind
token_kind tokens.Word text equals integer = word_kind text
token_kind tokens.Label text equals integer = k.Label
token_kind tokens.Integer text equals integer = integer_kind text
token_kind tokens.Float text equals integer = k.Float
token_kind tokens.Local text equals integer = local_kind equals
token_kind tokens.Global text equals integer = global_kind text
token_kind tokens.MetaName text equals integer = meta_name_kind equals
token_kind tokens.MetaNumber text equals integer = k.MetaNumber
token_kind tokens.Bang text equals integer = k.Bang
token_kind tokens.AttrNumber text equals integer = k.AttrNumber
token_kind tokens.DebugRecord text equals integer = k.DebugRecord
token_kind tokens.Text text equals integer = text_kind text
token_kind tokens.Bytes text equals integer = k.Bytes
token_kind tokens.Mark text equals integer = mark_kind text integer

-- the kind that a token has as a word, and that of the end of the text for a token that is no word
abbrev pub word_of : List ℕ → Token → Kind
word_of source t = if is_token tokens.Word t.kind then word_kind (bytes_of source t) else k.End

-- the token is `(`
abbrev pub opens_parens : List ℕ → Token → Bool
opens_parens source t = is_token tokens.Mark t.kind && bytes_eq (bytes_of source t) (codes "(")

-- after flags comes `(` or `inrange`
abbrev pub parens_follow : List ℕ → List Token → Bool
parens_follow source [] = false
parens_follow source (t ∷ ts) =
    if is_same (word_of source t) k.Flag then parens_follow source ts else is_same (word_of source t) k.InRange || opens_parens source t

-- a local follows that is no name of a result, or a `getelementptr` that is a constant
abbrev pub operand_follows : List ℕ → List Token → Bool
operand_follows source [] = false
operand_follows source (t ∷ ts) =
    (is_token tokens.Local t.kind && not (equals_follows source ts)) || (is_same (word_of source t) k.GetElementPtr && parens_follow source ts)

-- a metadata name follows
abbrev pub meta_name_follows : List Token → Bool
meta_name_follows [] = false
meta_name_follows (t ∷ ts) = is_token tokens.MetaName t.kind

-- the kind of a token that has this kind by itself, before these tokens
unfoldable pub kind_before : List ℕ → List Token → Kind → Kind
kind_before source behind kind =
    if is_same kind k.Comma then (if meta_name_follows behind then k.MetaComma else kind)
    else (if is_same kind k.Void then (if operand_follows source behind then k.VoidBeforeOperand else kind) else kind)

-- the number that a token spells: an integer's digits, or an integer type's width
abbrev pub token_number : TokenKind → List ℕ → ℕ
token_number tokens.Word text = if is_int_type text then number_of (drop 1 text) else 0
token_number tokens.Integer text = number_of (digits_of text)
token_number kind text = 0

-- a token of the source, before these
abbrev pub terminal_of : List ℕ → Token → List Token → Terminal
terminal_of source t behind = record {
  kind = kind_before source behind (token_kind t.kind (bytes_of source t) (equals_follows source behind) (integer_follows behind));
  number = token_number t.kind (bytes_of source t);
  token = t;
}

-- the end of the text, with its place
abbrev pub end_of_text : Place → Terminal
end_of_text place = record { kind = k.End; number = 0; token = record { kind = tokens.Mark; from = 0; to = 0; place = place } }

-- the tokens of the source
abbrev pub terminals_of : List ℕ → List Token → List Terminal
terminals_of source [] = []
terminals_of source (t ∷ ts) = terminal_of source t ts ∷ terminals_of source ts

-- the tokens of the source, and behind them the end of the text, which is here
abbrev pub text_of : List ℕ → List Token → Place → List Terminal
text_of source tokens place = terminals_of source tokens ++ end_of_text place ∷ []
