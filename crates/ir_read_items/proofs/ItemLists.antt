-- The loops over items and their parts.
use Rattle.std.proofs.Common.{ℕ, List, [], ◌∷◌, ◌++◌, length, ◌<◌, ◌≡◌, refl, ◌∙◌, ap, Bool, true, false, cond, ◌||◌, Ok, Err}
use Rattle.ir_grammar.specs.declared.context.Context.TheVariants as at
use Rattle.ir_grammar.specs.declared.kind.Kind.{Kind}
use Rattle.ir_grammar.specs.declared.kind.Kind.TheVariants as k
use Rattle.ir_grammar.specs.declared.terminal.Terminal.{Terminal}
use Rattle.ir_grammar.specs.declared.terminal.Flaw.{Flaw}
use Rattle.ir_grammar.specs.Reading.{starts, first, is_empty}
use Rattle.ir_grammar.specs.Rules.{nothing}
use Rattle.ir_grammar.specs.Words.{meta_names}
use Rattle.ir_grammar.specs.Spelled.{Store}
use Rattle.ir_grammar.specs.Names.{shared}
use Rattle.ir_grammar.specs.Grammar.{production, read}
use Rattle.ir_grammar.specs.Attributes.{attribute}
use Rattle.ir_grammar.proofs.First.{shortens}
use Rattle.ir_grammar.proofs.Loops.{skip_more, skip_done, skip_failed}
use Rattle.ir_grammar.proofs.AttributeLists.{attribute_full}
use Rattle.ir_grammar.proofs.KindSets.{starts-append}
use Rattle.ir_read_items.specs.Items.{source_filename, target, attribute_group, type_item, attachment, comma_part, global_tail, global_item, used_item, attachments, declare_attachment, declare_part, declare_tail, declare_head, declare_item, define_head, define_item, node_item, list_item, item, free_items, next_items, declare_group, declare_groups}

pub tail_more : (levels : ℕ) (ts : List Terminal) (st : Store) (x : Unit {0} × List Terminal × Store)
    → starts (k.Comma ∷ k.MetaComma ∷ []) ts ≡ true → read levels comma_part ts st ≡ Ok x → read levels global_tail ts st ≡ read levels global_tail x.1 x.2
unfolding global_tail
tail_more levels ts st x h e = skip_more shared production levels nothing comma_part ts st x (unfold comma_part in refl) (unfold comma_part in h) e

pub tail_done : (levels : ℕ) (ts : List Terminal) (st : Store) → starts (k.Comma ∷ k.MetaComma ∷ []) ts ≡ false → read levels global_tail ts st ≡ Ok (tt, ts, st)
unfolding global_tail
tail_done levels ts st h = skip_done shared production levels nothing comma_part ts st (unfold comma_part in h)

pub tail_failed : (levels : ℕ) (ts : List Terminal) (st : Store) (e : Flaw)
    → starts (k.Comma ∷ k.MetaComma ∷ []) ts ≡ true → read levels comma_part ts st ≡ Err e → read levels global_tail ts st ≡ Err e
unfolding global_tail
tail_failed levels ts st e h q = skip_failed shared production levels nothing comma_part ts st e (unfold comma_part in h) q

pub tail_takes : (levels : ℕ) (ts : List Terminal) (st : Store) (x : Unit {0} × List Terminal × Store)
    → read levels comma_part ts st ≡ Ok x → length x.1 < length ts
tail_takes levels ts st x h = shortens shared production levels nothing comma_part ts st x (unfold comma_part in refl) h

pub attachments_more : (levels : ℕ) (ts : List Terminal) (st : Store) (x : Unit {0} × List Terminal × Store)
    → starts (k.MetaName ∷ k.MetaDefinition ∷ []) ts ≡ true → read levels attachment ts st ≡ Ok x → read levels attachments ts st ≡ read levels attachments x.1 x.2
unfolding attachments
attachments_more levels ts st x h e = skip_more shared production levels nothing attachment ts st x (unfold attachment in refl) (unfold attachment in h) e

pub attachments_done : (levels : ℕ) (ts : List Terminal) (st : Store) → starts (k.MetaName ∷ k.MetaDefinition ∷ []) ts ≡ false → read levels attachments ts st ≡ Ok (tt, ts, st)
unfolding attachments
attachments_done levels ts st h = skip_done shared production levels nothing attachment ts st (unfold attachment in h)

pub attachments_failed : (levels : ℕ) (ts : List Terminal) (st : Store) (e : Flaw)
    → starts (k.MetaName ∷ k.MetaDefinition ∷ []) ts ≡ true → read levels attachment ts st ≡ Err e → read levels attachments ts st ≡ Err e
unfolding attachments
attachments_failed levels ts st e h q = skip_failed shared production levels nothing attachment ts st e (unfold attachment in h) q

pub attachments_take : (levels : ℕ) (ts : List Terminal) (st : Store) (x : Unit {0} × List Terminal × Store)
    → read levels attachment ts st ≡ Ok x → length x.1 < length ts
attachments_take levels ts st x h = shortens shared production levels nothing attachment ts st x (unfold attachment in refl) h

-- a part begins as an attachment or an attribute
pub part_starts : (ts : List Terminal) → starts (first declare_part) ts ≡ (starts (k.MetaName ∷ []) ts || starts (first (attribute at.DeclareTail)) ts)
unfolding declare_part declare_attachment
part_starts ts = starts-append (k.MetaName ∷ []) (first (attribute at.DeclareTail)) ts

part_full : is_empty declare_part ≡ false
unfolding declare_part declare_attachment
part_full = attribute_full at.DeclareTail

pub parts_more : (levels : ℕ) (ts : List Terminal) (st : Store) (x : Unit {0} × List Terminal × Store)
    → starts (first declare_part) ts ≡ true → read levels declare_part ts st ≡ Ok x → read levels declare_tail ts st ≡ read levels declare_tail x.1 x.2
unfolding declare_tail
parts_more levels ts st x h e = skip_more shared production levels nothing declare_part ts st x (part_full) (h) e

pub parts_done : (levels : ℕ) (ts : List Terminal) (st : Store) → starts (first declare_part) ts ≡ false → read levels declare_tail ts st ≡ Ok (tt, ts, st)
unfolding declare_tail
parts_done levels ts st h = skip_done shared production levels nothing declare_part ts st (h)

pub parts_failed : (levels : ℕ) (ts : List Terminal) (st : Store) (e : Flaw)
    → starts (first declare_part) ts ≡ true → read levels declare_part ts st ≡ Err e → read levels declare_tail ts st ≡ Err e
unfolding declare_tail
parts_failed levels ts st e h q = skip_failed shared production levels nothing declare_part ts st e (h) q

pub parts_take : (levels : ℕ) (ts : List Terminal) (st : Store) (x : Unit {0} × List Terminal × Store)
    → read levels declare_part ts st ≡ Ok x → length x.1 < length ts
parts_take levels ts st x h = shortens shared production levels nothing declare_part ts st x (part_full) h

regroup : (a b c d : Bool) → (a || (b || (c || d))) ≡ (((a || b) || c) || d)
regroup true b c d = refl
regroup false true c d = refl
regroup false false true d = refl
regroup false false false d = refl

abbrev item_starts : List Kind
item_starts = k.SourceFilename ∷ k.Target ∷ k.Local ∷ k.LocalDefinition ∷ k.Global ∷ k.DebugGlobal ∷ k.UsedGlobal ∷ k.AttributesWord ∷ k.Define ∷ []

abbrev item_refused : List Kind
item_refused = k.External ∷ k.MetadataWord ∷ k.DollarWord ∷ k.OtherWord ∷ k.OtherType ∷ k.LabelWord ∷ k.WideIntType ∷ []

-- the kinds that an item is read at
pub item_kinds : (names : List Kind) (ts : List Terminal) → starts (first (item names)) ts
    ≡ (((starts (k.SourceFilename ∷ k.Target ∷ k.Local ∷ k.LocalDefinition ∷ k.Global ∷ k.DebugGlobal ∷ k.UsedGlobal ∷ k.AttributesWord ∷ k.Define ∷ []) ts || starts (k.MetaNumber ∷ []) ts)
    || starts names ts) || starts (k.External ∷ k.MetadataWord ∷ k.DollarWord ∷ k.OtherWord ∷ k.OtherType ∷ k.LabelWord ∷ k.WideIntType ∷ []) ts)
unfolding item source_filename target type_item global_item used_item attribute_group define_item define_head node_item list_item
item_kinds names ts =
    starts-append item_starts (k.MetaNumber ∷ [] ++ (names ++ item_refused)) ts
    ∙ (ap (λ v. starts item_starts ts || v) (starts-append (k.MetaNumber ∷ []) (names ++ item_refused) ts ∙ ap (λ v. starts (k.MetaNumber ∷ []) ts || v) (starts-append names item_refused ts))
    ∙ regroup (starts item_starts ts) (starts (k.MetaNumber ∷ []) ts) (starts names ts) (starts item_refused ts))

item_full : (names : List Kind) → is_empty (item names) ≡ false
unfolding item source_filename target type_item global_item used_item attribute_group define_item define_head node_item list_item
item_full names = refl

pub items_more : (levels : ℕ) (ts : List Terminal) (st : Store) (x : Unit {0} × List Terminal × Store)
    → starts (first (item meta_names)) ts ≡ true → read levels (item meta_names) ts st ≡ Ok x → read levels free_items ts st ≡ read levels free_items x.1 x.2
unfolding free_items
items_more levels ts st x h e = skip_more shared production levels nothing (item meta_names) ts st x (item_full meta_names) (h) e

pub items_done : (levels : ℕ) (ts : List Terminal) (st : Store) → starts (first (item meta_names)) ts ≡ false → read levels free_items ts st ≡ Ok (tt, ts, st)
unfolding free_items
items_done levels ts st h = skip_done shared production levels nothing (item meta_names) ts st (h)

pub items_failed : (levels : ℕ) (ts : List Terminal) (st : Store) (e : Flaw)
    → starts (first (item meta_names)) ts ≡ true → read levels (item meta_names) ts st ≡ Err e → read levels free_items ts st ≡ Err e
unfolding free_items
items_failed levels ts st e h q = skip_failed shared production levels nothing (item meta_names) ts st e (h) q

pub items_take : (levels : ℕ) (ts : List Terminal) (st : Store) (x : Unit {0} × List Terminal × Store)
    → read levels (item meta_names) ts st ≡ Ok x → length x.1 < length ts
items_take levels ts st x h = shortens shared production levels nothing (item meta_names) ts st x (item_full meta_names) h

pub next_starts : (ts : List Terminal) → starts (first next_items) ts ≡ starts (first (item (k.MetaDefinition ∷ []))) ts
unfolding next_items
next_starts ts = ap (λ e. starts (cond e (first (item (k.MetaDefinition ∷ [])) ++ first free_items) (first (item (k.MetaDefinition ∷ [])))) ts) (item_full (k.MetaDefinition ∷ []))

pub groups_more : (levels : ℕ) (ts : List Terminal) (st : Store) (x : Unit {0} × List Terminal × Store)
    → starts (k.Declare ∷ []) ts ≡ true → read levels declare_group ts st ≡ Ok x → read levels declare_groups ts st ≡ read levels declare_groups x.1 x.2
unfolding declare_groups
groups_more levels ts st x h e = skip_more shared production levels nothing declare_group ts st x (unfold declare_group declare_item declare_head in refl) (unfold declare_group declare_item declare_head in h) e

pub groups_done : (levels : ℕ) (ts : List Terminal) (st : Store) → starts (k.Declare ∷ []) ts ≡ false → read levels declare_groups ts st ≡ Ok (tt, ts, st)
unfolding declare_groups
groups_done levels ts st h = skip_done shared production levels nothing declare_group ts st (unfold declare_group declare_item declare_head in h)

pub groups_failed : (levels : ℕ) (ts : List Terminal) (st : Store) (e : Flaw)
    → starts (k.Declare ∷ []) ts ≡ true → read levels declare_group ts st ≡ Err e → read levels declare_groups ts st ≡ Err e
unfolding declare_groups
groups_failed levels ts st e h q = skip_failed shared production levels nothing declare_group ts st e (unfold declare_group declare_item declare_head in h) q

pub groups_take : (levels : ℕ) (ts : List Terminal) (st : Store) (x : Unit {0} × List Terminal × Store)
    → read levels declare_group ts st ≡ Ok x → length x.1 < length ts
groups_take levels ts st x h = shortens shared production levels nothing declare_group ts st x (unfold declare_group declare_item declare_head in refl) h
