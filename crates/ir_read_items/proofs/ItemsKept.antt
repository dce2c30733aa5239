-- Reading the items of a module keeps what was read sound.
use Rattle.std.proofs.Common.{◌+◌, List, [], ◌∷◌, length, arith}
use Rattle.ir_grammar.specs.declared.context.Context.TheVariants as at
use Rattle.ir_grammar.specs.declared.kind.Kind.{Kind}
use Rattle.ir_grammar.specs.declared.kind.Kind.TheVariants as k
use Rattle.ir_grammar.specs.declared.spelled.SpelledType.TheVariants as types
use Rattle.ir_grammar.specs.declared.spelled.SpelledItem.{SpelledItem}
use Rattle.ir_grammar.specs.declared.spelled.SpelledItem.TheVariants as items
use Rattle.ir_grammar.specs.Kinds.{is_same}
use Rattle.ir_grammar.specs.Rules.{Sort, nothing, token, base, pair, list, Value, one, ◌⨾◌, optional, many, act, the, gone, ◌▷◌}
use Rattle.ir_grammar.specs.Words.{texts, meta_names, locals, commas}
use Rattle.ir_grammar.specs.Names.{Base, number, constant, parameter, block, shared, Production}
use Rattle.ir_grammar.specs.Spelled.{Store, add_type, add_item}
use Rattle.ir_grammar.specs.Skipped.{in_squares, in_braces, in_parens}
use Rattle.ir_grammar.specs.Types.{type_rule}
use Rattle.ir_grammar.specs.Constants.{constant_rule}
use Rattle.ir_grammar.specs.Attributes.{attributes}
use Rattle.ir_grammar.specs.Parameters.{parameters}
use Rattle.ir_grammar.specs.Blocks.{function_body}
use Rattle.ir_grammar.specs.SoundStore.{IsSoundItem, counts_of, size_of}
use Rattle.ir_grammar.proofs.Kept.{SoundValue, items_in, fewer}
use Rattle.ir_grammar.proofs.SoundSteps.{reading, kept_type, kept_item, kept_declare}
use Rattle.ir_grammar.proofs.BodySteps.{kept_define}
use Rattle.ir_grammar.proofs.SharedKept.{Spares, gone_kept, then_kept, first_kept, type_kept, constant_kept, attribute_kept, attributes_kept, parameters_kept, in_parens_kept, in_squares_kept, in_braces_kept, word_kept}
use Rattle.ir_read_items.specs.Items.{equals_text, source_filename, layout_text, layout, triple, target_line, target, attribute_group, type_body, type_item, global_head, section_rest, section, attachment, global_part, comma_part, global_tail, global_value, global_item, packed_any, used_value, used_item, attachments, declare_attachment, declare_part, declare_tail, declare_head, declare_parameters, declare_item, define_part, define_tail, define_head, define_body, define_rest, define_item, bang_node, named_node, node, maybe_distinct, node_item, list_item, item, free_items, next_items, maybe_next_items, declare_group, declare_groups, module_rule}

-- an item that is added behind a rule
item_kept : {s : Sort Base} (a : Production s) (f : Value shared s → SpelledItem) → ((x : Value shared s) (st : Store) → SoundValue shared reading s x st → IsSoundItem (counts_of st) (f x)) → Spares s a 2
    → Spares nothing (act (λ x. add_item (f x)) a) 1
item_kept {s} a f h g = (1, 2, (λ x st from good sound. kept_item (f x) st (size_of st + items_in shared reading s x + 1) good (h x st sound) (omega arith)), g, omega arith)

equals_kept : Spares nothing equals_text 8
unfolding equals_text
equals_kept = gone_kept (the k.Equals ⨾ one texts) 8 (8, 8, omega arith, omega arith, omega arith)

source_kept : Spares nothing source_filename 1
unfolding source_filename
source_kept = item_kept (the k.SourceFilename ⨾ equals_text) (λ x. items.Skipped) (λ x st h. tt) (8, 8, omega arith, equals_kept, omega arith)

layout_text_kept : Spares nothing layout_text 8
unfolding layout_text
layout_text_kept = (word_kept (k.Text ∷ []), tt)

layout_kept : Spares nothing layout 8
unfolding layout
layout_kept = gone_kept (the k.DataLayout ⨾ (the k.Equals ⨾ layout_text)) 8 (8, 8, omega arith, (8, 8, omega arith, layout_text_kept, omega arith), omega arith)

triple_kept : Spares nothing triple 8
unfolding triple
triple_kept = gone_kept (the k.Triple ⨾ equals_text) 8 (8, 8, omega arith, equals_kept, omega arith)

line_kept : Spares nothing target_line 8
unfolding target_line
line_kept = (layout_kept, triple_kept)

target_kept : Spares nothing target 1
unfolding target
target_kept = item_kept (the k.Target ⨾ target_line) (λ x. items.Skipped) (λ x st h. tt) (8, 8, omega arith, line_kept, omega arith)

group_kept : Spares nothing attribute_group 1
unfolding attribute_group
group_kept =
    item_kept (the k.AttributesWord ⨾ (the k.AttrNumber ⨾ (the k.Equals ⨾ in_braces))) (λ x. items.Skipped) (λ x st h. tt)
    (8, 8, omega arith, (8, 8, omega arith, (8, 16, omega arith, in_braces_kept, omega arith), omega arith), omega arith)

opaque_kept : Spares (base number) (act (λ t. add_type types.Opaque) (the k.OpaqueWord)) 2
opaque_kept = (1, 8, (λ t st from good sound. kept_type types.Opaque st (size_of st + 0 + 1) good tt (omega arith)), omega arith, omega arith)

body_kept : Spares (base number) type_body 2
unfolding type_body
body_kept = (opaque_kept, type_kept at.Plain)

type_item_kept : Spares nothing type_item 1
unfolding type_item
type_item_kept =
    item_kept (one locals ⨾ (the k.Equals ▷ (the k.TypeWord ▷ type_body))) (λ v. items.Type (v.0).token v.1) (λ v st h. h.1)
    (8, 8, omega arith, then_kept (the k.Equals) (the k.TypeWord ▷ type_body) 8 8 8 (omega arith) (then_kept (the k.TypeWord) type_body 8 8 2 (omega arith) body_kept (omega arith)) (omega arith), omega arith)

head_kept : Spares (pair token (base number)) global_head 8
unfolding global_head
head_kept =
    then_kept (the k.Equals) (attributes at.Global ▷ (one (k.GlobalWord ∷ k.ConstantWord ∷ []) ⨾ type_rule at.Plain)) 8 8 8 (omega arith)
    (then_kept (attributes at.Global) (one (k.GlobalWord ∷ k.ConstantWord ∷ []) ⨾ type_rule at.Plain) 8 0 8 (attributes_kept at.Global) (8, 2, omega arith, type_kept at.Plain, omega arith) (omega arith)) (omega arith)

section_rest_kept : Spares nothing section_rest 1
unfolding section_rest
section_rest_kept = (fewer shared reading nothing in_parens 16 1 (omega arith) in_parens_kept, fewer shared reading nothing (gone (one texts)) 8 1 (omega arith) (word_kept texts))

section_kept : Spares nothing section 1
unfolding section
section_kept = gone_kept (the k.Section ⨾ optional section_rest) 1 (8, 0, omega arith, (omega arith, section_rest_kept), omega arith)

attachment_kept : Spares nothing attachment 1
unfolding attachment
attachment_kept = gone_kept (one meta_names ⨾ the k.MetaNumber) 1 (8, 8, omega arith, omega arith, omega arith)

global_part_kept : Spares nothing global_part 1
unfolding global_part
global_part_kept = (section_kept, (attachment_kept, attribute_kept at.GlobalTail))

comma_part_kept : Spares nothing comma_part 1
unfolding comma_part
comma_part_kept = then_kept (one commas) global_part 1 8 1 (omega arith) global_part_kept (omega arith)

tail_kept : Spares nothing global_tail 0
unfolding global_tail
tail_kept = gone_kept (many comma_part) 0 (omega arith, comma_part_kept)

global_value_kept : Spares (base constant) global_value 2
unfolding global_value
global_value_kept = first_kept constant_rule global_tail 2 2 0 constant_kept tail_kept (omega arith)

global_kept : Spares nothing global_item 1
unfolding global_item
global_kept =
    item_kept (one (k.Global ∷ k.DebugGlobal ∷ []) ⨾ (global_head ⨾ global_value)) (λ v. items.Global (v.0).token (is_same (((v.1).0).0).kind k.ConstantWord) (((v.1).0).1) ((v.1).1)) (λ v st h. (((h.1).0).1, (h.1).1))
    (8, 8, omega arith, (8, 2, head_kept, global_value_kept, omega arith), omega arith)

packed_any_kept : Spares nothing packed_any 8
unfolding packed_any
packed_any_kept = gone_kept (the k.Less ⨾ (in_braces ⨾ the k.Greater)) 8 (8, 8, omega arith, (16, 8, in_braces_kept, omega arith, omega arith), omega arith)

used_value_kept : Spares nothing used_value 8
unfolding used_value
used_value_kept = (fewer shared reading nothing in_squares 16 8 (omega arith) in_squares_kept, (fewer shared reading nothing in_braces 16 8 (omega arith) in_braces_kept, packed_any_kept))

used_kept : Spares nothing used_item 1
unfolding used_item
used_kept =
    item_kept (the k.UsedGlobal ⨾ (global_head ⨾ (used_value ⨾ global_tail))) (λ v. items.Used) (λ v st h. tt)
    (8, 8, omega arith, (8, 8, head_kept, (8, 0, used_value_kept, tail_kept, omega arith), omega arith), omega arith)

attachments_kept : Spares nothing attachments 0
unfolding attachments
attachments_kept = gone_kept (many attachment) 0 (omega arith, attachment_kept)

declare_attachment_kept : Spares nothing declare_attachment 1
unfolding declare_attachment
declare_attachment_kept = gone_kept (the k.MetaName ⨾ the k.MetaNumber) 1 (8, 8, omega arith, omega arith, omega arith)

declare_part_kept : Spares nothing declare_part 1
unfolding declare_part
declare_part_kept = (declare_attachment_kept, attribute_kept at.DeclareTail)

declare_tail_kept : Spares nothing declare_tail 0
unfolding declare_tail
declare_tail_kept = gone_kept (many declare_part) 0 (omega arith, declare_part_kept)

declare_head_kept : Spares (base number) declare_head 8
unfolding declare_head
declare_head_kept =
    then_kept (the k.Declare) (attachments ▷ (attributes at.Declare ▷ type_rule at.Declare)) 8 8 2 (omega arith)
    (then_kept attachments (attributes at.Declare ▷ type_rule at.Declare) 2 0 2 attachments_kept (then_kept (attributes at.Declare) (type_rule at.Declare) 2 0 2 (attributes_kept at.Declare) (type_kept at.Declare) (omega arith)) (omega arith))
    (omega arith)

declare_parameters_kept : Spares (list (base parameter)) declare_parameters 16
unfolding declare_parameters
declare_parameters_kept = first_kept (parameters at.Declare) declare_tail 16 16 0 (parameters_kept at.Declare) declare_tail_kept (omega arith)

declare_kept : Spares nothing declare_item 1
unfolding declare_item
declare_kept = (
  1,
  2,
  (λ v st from good sound. kept_declare ((v.1).0).token v.0 ((v.1).1) st (size_of st + (0 + (0 + length ((v.1).1))) + 1) good sound.0 ((sound.1).1) (omega arith)),
  (8, 8, declare_head_kept, (8, 16, omega arith, declare_parameters_kept, omega arith), omega arith),
  omega arith,
)

define_part_kept : Spares nothing define_part 1
unfolding define_part
define_part_kept = (attachment_kept, attribute_kept at.Plain)

define_tail_kept : Spares nothing define_tail 0
unfolding define_tail
define_tail_kept = gone_kept (many define_part) 0 (omega arith, define_part_kept)

define_head_kept : Spares (base number) define_head 8
unfolding define_head
define_head_kept =
    then_kept (the k.Define) (attributes at.Plain ▷ type_rule at.Plain) 8 8 2 (omega arith)
    (then_kept (attributes at.Plain) (type_rule at.Plain) 2 0 2 (attributes_kept at.Plain) (type_kept at.Plain) (omega arith))
    (omega arith)

function_kept : Spares (list (base block)) function_body 16
unfolding function_body
function_kept = omega arith

define_body_kept : Spares (list (base block)) define_body 16
unfolding define_body
define_body_kept = then_kept define_tail function_body 16 0 16 define_tail_kept function_kept (omega arith)

define_rest_kept : Spares (pair (list (base parameter)) (list (base block))) define_rest 16
unfolding define_rest
define_rest_kept = (16, 16, parameters_kept at.Plain, define_body_kept, omega arith)

define_kept : Spares nothing define_item 1
unfolding define_item
define_kept = (
  1,
  2,
  (λ v st from good sound.
      kept_define ((v.1).0).token v.0 (((v.1).1).0) (((v.1).1).1) st (size_of st + (0 + (0 + (length (((v.1).1).0) + length (((v.1).1).1)))) + 1) good sound.0 (((sound.1).1).0) (((sound.1).1).1) (omega arith)),
  (8, 8, define_head_kept, (8, 16, omega arith, define_rest_kept, omega arith), omega arith),
  omega arith,
)

bang_kept : Spares nothing bang_node 8
unfolding bang_node
bang_kept = gone_kept (the k.Bang ⨾ in_braces) 8 (8, 16, omega arith, in_braces_kept, omega arith)

named_kept : Spares nothing named_node 8
unfolding named_node
named_kept = gone_kept (one meta_names ⨾ in_parens) 8 (8, 16, omega arith, in_parens_kept, omega arith)

node_kept : Spares nothing node 8
unfolding node
node_kept = (bang_kept, named_kept)

distinct_kept : Spares nothing maybe_distinct 0
unfolding maybe_distinct
distinct_kept = gone_kept (optional (the k.Distinct)) 0 (omega arith, omega arith)

node_item_kept : Spares nothing node_item 1
unfolding node_item
node_item_kept =
    item_kept (the k.MetaNumber ⨾ (the k.Equals ⨾ (maybe_distinct ⨾ node))) (λ v. items.Node (v.0).token) (λ v st h. tt)
    (8, 8, omega arith, (8, 8, omega arith, (0, 8, distinct_kept, node_kept, omega arith), omega arith), omega arith)

list_item_kept : (names : List Kind) → Spares nothing (list_item names) 1
unfolding list_item
list_item_kept names =
    item_kept (one names ⨾ (the k.Equals ⨾ bang_node)) (λ v. items.NodeList (v.0).token) (λ v st h. tt) (8, 8, omega arith, (8, 8, omega arith, bang_kept, omega arith), omega arith)

any_item_kept : (names : List Kind) → Spares nothing (item names) 1
unfolding item
any_item_kept names =
    (source_kept, (target_kept, (type_item_kept, (global_kept, (used_kept, (group_kept, (define_kept, (node_item_kept, (list_item_kept names, tt)))))))))

free_kept : Spares nothing free_items 0
unfolding free_items
free_kept = gone_kept (many (item meta_names)) 0 (omega arith, any_item_kept meta_names)

next_kept : Spares nothing next_items 1
unfolding next_items
next_kept = gone_kept (item (k.MetaDefinition ∷ []) ⨾ free_items) 1 (1, 0, any_item_kept (k.MetaDefinition ∷ []), free_kept, omega arith)

maybe_next_kept : Spares nothing maybe_next_items 0
unfolding maybe_next_items
maybe_next_kept = gone_kept (optional next_items) 0 (omega arith, next_kept)

declare_group_kept : Spares nothing declare_group 1
unfolding declare_group
declare_group_kept = gone_kept (declare_item ⨾ maybe_next_items) 1 (1, 0, declare_kept, maybe_next_kept, omega arith)

declare_groups_kept : Spares nothing declare_groups 0
unfolding declare_groups
declare_groups_kept = gone_kept (many declare_group) 0 (omega arith, declare_group_kept)

pub module_kept : Spares nothing module_rule 0
unfolding module_rule
module_kept = gone_kept (free_items ⨾ (declare_groups ⨾ the k.End)) 0 (0, 8, free_kept, (0, 8, declare_groups_kept, omega arith, omega arith), omega arith)
