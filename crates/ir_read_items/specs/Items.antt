-- The items of a module (LLVM Language Reference, "Module Structure" and what follows it), with the bodies of functions. What
-- this program doesn't take is Unsupported where an item may begin.
use Rattle.std.specs.Prelude.{List, [], ◌∷◌}
use Rattle.ir_grammar.specs.declared.context.Context.TheVariants as at
use Rattle.ir_grammar.specs.declared.kind.Kind.{Kind}
use Rattle.ir_grammar.specs.declared.kind.Kind.TheVariants as k
use Rattle.ir_grammar.specs.declared.spelled.SpelledType.TheVariants as types
use Rattle.ir_grammar.specs.declared.spelled.SpelledItem.TheVariants as items
use Rattle.ir_grammar.specs.Kinds.{is_same}
use Rattle.ir_grammar.specs.Rules.{token, base, pair, list, nothing, one, refused, ◌⨾◌, ◌∣◌, optional, many, act, the, gone, ◌▷◌, ◌◁◌}
use Rattle.ir_grammar.specs.Names.{Production, number, constant, parameter, block}
use Rattle.ir_grammar.specs.Words.{texts, globals, meta_names, locals, commas, refused_words}
use Rattle.ir_grammar.specs.Spelled.{add_type, add_item, add_declare}
use Rattle.ir_grammar.specs.SpelledBodies.{add_define}
use Rattle.ir_grammar.specs.Skipped.{in_squares, in_braces, in_parens}
use Rattle.ir_grammar.specs.Types.{type_rule}
use Rattle.ir_grammar.specs.Constants.{constant_rule}
use Rattle.ir_grammar.specs.Attributes.{attribute, attributes}
use Rattle.ir_grammar.specs.Parameters.{parameters}
use Rattle.ir_grammar.specs.Blocks.{function_body}

-- = string
unfoldable pub equals_text : Production nothing
equals_text = gone (the k.Equals ⨾ one texts)

-- source_filename = string
unfoldable pub source_filename : Production nothing
source_filename = act (λ v. add_item items.Skipped) (the k.SourceFilename ⨾ equals_text)

-- string, of a layout that this program takes
unfoldable pub layout_text : Production nothing
layout_text = gone (the k.Text) ∣ refused (k.OtherLayout ∷ [])

-- datalayout = string
unfoldable pub layout : Production nothing
layout = gone (the k.DataLayout ⨾ (the k.Equals ⨾ layout_text))

-- triple = string
unfoldable pub triple : Production nothing
triple = gone (the k.Triple ⨾ equals_text)

-- (datalayout | triple) = string
unfoldable pub target_line : Production nothing
target_line = layout ∣ triple

-- target (datalayout | triple) = string
unfoldable pub target : Production nothing
target = act (λ v. add_item items.Skipped) (the k.Target ⨾ target_line)

-- attributes attrnum = { any }
unfoldable pub attribute_group : Production nothing
attribute_group = act (λ v. add_item items.Skipped) (the k.AttributesWord ⨾ (the k.AttrNumber ⨾ (the k.Equals ⨾ in_braces)))

-- type | opaque
unfoldable pub type_body : Production (base number)
type_body = act (λ t. add_type types.Opaque) (the k.OpaqueWord) ∣ type_rule at.Plain

-- local = type (type | opaque)
unfoldable pub type_item : Production nothing
type_item = act (λ v. add_item (items.Type (v.0).token v.1)) (one locals ⨾ (the k.Equals ▷ (the k.TypeWord ▷ type_body)))

-- = attr* (global | constant) type
unfoldable pub global_head : Production (pair token (base number))
global_head = the k.Equals ▷ (attributes at.Global ▷ (one (k.GlobalWord ∷ k.ConstantWord ∷ []) ⨾ type_rule at.Plain))

-- ( any ) | string
unfoldable pub section_rest : Production nothing
section_rest = in_parens ∣ gone (one texts)

-- section string | section | section ( any ): the last two are attributes
unfoldable pub section : Production nothing
section = gone (the k.Section ⨾ optional section_rest)

-- metaname metanum
unfoldable pub attachment : Production nothing
attachment = gone (one meta_names ⨾ the k.MetaNumber)

-- section string | metaname metanum | attr
unfoldable pub global_part : Production nothing
global_part = section ∣ attachment ∣ attribute at.GlobalTail

-- , section string | , metaname metanum | , attr
unfoldable pub comma_part : Production nothing
comma_part = one commas ▷ global_part

-- gtail*
unfoldable pub global_tail : Production nothing
global_tail = gone (many comma_part)

-- const gtail*
unfoldable pub global_value : Production (base constant)
global_value = constant_rule ◁ global_tail

-- global = attr* (global | constant) type const gtail*
unfoldable pub global_item : Production nothing
global_item = act (λ v. add_item (items.Global (v.0).token (is_same (((v.1).0).0).kind k.ConstantWord) (((v.1).0).1) ((v.1).1)))
    (one (k.Global ∷ k.DebugGlobal ∷ []) ⨾ (global_head ⨾ global_value))

-- < { any } >
unfoldable pub packed_any : Production nothing
packed_any = gone (the k.Less ⨾ (in_braces ⨾ the k.Greater))

-- [ any ] | { any } | < { any } >
unfoldable pub used_value : Production nothing
used_value = in_squares ∣ in_braces ∣ packed_any

-- @llvm.used or @llvm.compiler.used = attr* (global | constant) type, any elements, and gtail*
unfoldable pub used_item : Production nothing
used_item = act (λ v. add_item items.Used) (the k.UsedGlobal ⨾ (global_head ⨾ (used_value ⨾ global_tail)))

-- (metaname metanum)*
unfoldable pub attachments : Production nothing
attachments = gone (many attachment)

-- a metaname before something else than `=`, metanum
unfoldable pub declare_attachment : Production nothing
declare_attachment = gone (the k.MetaName ⨾ the k.MetaNumber)

-- metaname metanum | attr; a `section` and its string are read as two attributes
unfoldable pub declare_part : Production nothing
declare_part = declare_attachment ∣ attribute at.DeclareTail

-- ftail*
unfoldable pub declare_tail : Production nothing
declare_tail = gone (many declare_part)

-- declare (metaname metanum)* attr* type
unfoldable pub declare_head : Production (base number)
declare_head = the k.Declare ▷ (attachments ▷ (attributes at.Declare ▷ type_rule at.Declare))

-- ( params ) ftail*
unfoldable pub declare_parameters : Production (list (base parameter))
declare_parameters = parameters at.Declare ◁ declare_tail

-- declare (metaname metanum)* attr* type global ( params ) ftail*
unfoldable pub declare_item : Production nothing
declare_item = act (λ v. add_declare ((v.1).0).token v.0 ((v.1).1)) (declare_head ⨾ (one globals ⨾ declare_parameters))

-- metaname metanum | attr; a `section` and its string are read as two attributes
unfoldable pub define_part : Production nothing
define_part = attachment ∣ attribute at.Plain

-- ftail*
unfoldable pub define_tail : Production nothing
define_tail = gone (many define_part)

-- define attr* type
unfoldable pub define_head : Production (base number)
define_head = the k.Define ▷ (attributes at.Plain ▷ type_rule at.Plain)

-- ftail* { block+ }
unfoldable pub define_body : Production (list (base block))
define_body = define_tail ▷ function_body

-- ( params ) ftail* { block+ }
unfoldable pub define_rest : Production (pair (list (base parameter)) (list (base block)))
define_rest = parameters at.Plain ⨾ define_body

-- define attr* type global ( params ) ftail* { block+ }
unfoldable pub define_item : Production nothing
define_item = act (λ v. add_define ((v.1).0).token v.0 (((v.1).1).0) (((v.1).1).1)) (define_head ⨾ (one globals ⨾ define_rest))

-- bang { any }
unfoldable pub bang_node : Production nothing
bang_node = gone (the k.Bang ⨾ in_braces)

-- metaname ( any )
unfoldable pub named_node : Production nothing
named_node = gone (one meta_names ⨾ in_parens)

-- bang { any } | metaname ( any )
unfoldable pub node : Production nothing
node = bang_node ∣ named_node

-- distinct?
unfoldable pub maybe_distinct : Production nothing
maybe_distinct = gone (optional (the k.Distinct))

-- metanum = distinct? node
unfoldable pub node_item : Production nothing
node_item = act (λ v. add_item (items.Node (v.0).token)) (the k.MetaNumber ⨾ (the k.Equals ⨾ (maybe_distinct ⨾ node)))

-- metaname = bang { any }, with a name of these kinds
unfoldable pub list_item : List Kind → Production nothing
list_item names = act (λ v. add_item (items.NodeList (v.0).token)) (one names ⨾ (the k.Equals ⨾ bang_node))

-- words that are Unsupported where an item may begin
abbrev pub refused_items : List Kind
refused_items = k.External ∷ k.MetadataWord ∷ k.DollarWord ∷ refused_words

-- an item that is no declare, where a metadata list has a name of these kinds
unfoldable pub item : List Kind → Production nothing
item names = source_filename ∣ target ∣ type_item ∣ global_item ∣ used_item ∣ attribute_group ∣ define_item ∣ node_item ∣ list_item names ∣ refused refused_items

-- items that are no declares, behind another such item or at the head of the text
unfoldable pub free_items : Production nothing
free_items = gone (many (item meta_names))

-- the item behind a declare, and those that follow it: there a metadata name without a `=` is an attachment of the declare,
-- and begins no list
unfoldable pub next_items : Production nothing
next_items = gone (item (k.MetaDefinition ∷ []) ⨾ free_items)

-- the items behind a declare, up to the next declare
unfoldable pub maybe_next_items : Production nothing
maybe_next_items = gone (optional next_items)

-- a declare, and the items up to the next declare
unfoldable pub declare_group : Production nothing
declare_group = gone (declare_item ⨾ maybe_next_items)

-- the declares, each with the items behind it
unfoldable pub declare_groups : Production nothing
declare_groups = gone (many declare_group)

-- item*, to the end of the text
unfoldable pub module_rule : Production nothing
module_rule = gone (free_items ⨾ (declare_groups ⨾ the k.End))
