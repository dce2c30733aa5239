-- What is read of a whole text lies in rows.
use Rattle.std.proofs.Common.{◌≡◌, ℕ, ◌+◌, ◌≤◌, List, [], ◌∷◌, ◌++◌, length, Option, None, Some, inl, inr, refl, sym, ◌∙◌, ap, subst, arith, length-append, append_assoc, zero-add}
use Rattle.ir_core.specs.declared.token.Token.{Token}
use Rattle.ir_grammar.specs.declared.context.Context.TheVariants as at
use Rattle.ir_grammar.specs.declared.kind.Kind.{Kind}
use Rattle.ir_grammar.specs.declared.kind.Kind.TheVariants as k
use Rattle.ir_grammar.specs.declared.terminal.Terminal.{Terminal}
use Rattle.ir_grammar.specs.declared.spelled.SpelledItem.{SpelledItem}
use Rattle.ir_grammar.specs.declared.spelled.SpelledItem.TheVariants as items
use Rattle.ir_grammar.specs.declared.spelled.SpelledParameter.{SpelledParameter}
use Rattle.ir_grammar.specs.declared.spelled_bodies.SpelledInstruction.{SpelledInstruction}
use Rattle.ir_grammar.specs.declared.spelled_bodies.SpelledBlock.{SpelledBlock}
use Rattle.ir_grammar.specs.Rules.{Sort, nothing, token, base, pair, list, Value, one, ◌⨾◌, act, the, ◌▷◌}
use Rattle.ir_grammar.specs.Names.{Base, number, constant, parameter, block, Production, shared}
use Rattle.ir_grammar.specs.Words.{locals, globals, meta_names}
use Rattle.ir_grammar.specs.Spelled.{Store, add_item}
use Rattle.ir_grammar.specs.SpelledBodies.{add_define}
use Rattle.ir_grammar.specs.Skipped.{in_braces}
use Rattle.ir_grammar.specs.Parameters.{parameters}
use Rattle.ir_grammar.specs.Blocks.{blocks_rule, function_body}
use Rattle.ir_read_body.specs.BodyReading.{nothing_read}
use Rattle.ir_read_items.specs.Items.{source_filename, target_line, target, attribute_group, equals_text, type_body, type_item, global_head, global_value, global_tail, global_item, used_value, used_item, declare_head, declare_parameters, declare_item, define_tail, define_head, define_body, define_rest, define_item, bang_node, node, maybe_distinct, node_item, list_item, item, free_items, next_items, maybe_next_items, declare_group, declare_groups, module_rule}
use Rattle.ir_read_items.specs.ItemLaws.{IsModule}
use Rattle.ir_read_items.specs.Rows.{AreRows, HasBlocks, Each, IsInRows}
use Rattle.ir_read_items.proofs.Runs.{Chain, Perhaps, Runs, runs, each_append}
use Rattle.ir_read_items.proofs.Calm.{Stay, still, on, Calm, calm_run, source_calm, target_calm, group_calm, type_item_calm, global_calm, used_calm, declare_calm, define_head_calm, parameters_calm, define_tail_calm, node_item_calm, list_item_calm}
use Rattle.ir_read_items.proofs.BlockRows.{IsFine, IsStatedIn, BlocksAdded, blocks_so}

-- rows behind rows are rows
append_rows : (from : ℕ) (a c : List SpelledInstruction) (bs ds : List SpelledBlock) → AreRows from a bs → AreRows (from + length a) c ds → AreRows from (a ++ c) (bs ++ ds)
append_rows from a c [] ds e h =
    let none : from + length a ≡ from = let p : length a ≡ 0 = ap length e in omega arith in
    subst (λ v. AreRows from (v ++ c) ds) (sym e) (subst (λ n. AreRows n c ds) none h)
append_rows from a c (b ∷ bs) ds (own, more, e, row, rest) h =
    let l : from + length a ≡ from + length own + length more = let p : length a ≡ length own + length more = ap length e ∙ length-append own more in omega arith in
    (own, more ++ c, ap (λ v. v ++ c) e ∙ append_assoc own more c, row, append_rows (from + length own) more c bs ds rest (subst (λ n. AreRows n c ds) l h))

-- so far all lies in rows
abbrev Good : (Token → Type 0) → Store → Type 0
Good P st = IsInRows P st

good_stays : (P : Token → Type 0) (st end : Store) → Stay st end → Good P st → Good P end
good_stays P st end s g = record {
  rows = subst (λ v. AreRows 0 v end.bodies.blocks) (sym s.0) (subst (λ v. AreRows 0 st.bodies.instructions v) (sym s.1) g.rows);
  blocks = subst (Each HasBlocks) (sym s.2) g.blocks;
  stated = subst (Each (IsStatedIn P)) (sym s.0) g.stated;
}

-- one item is added that is no definition of a function, or has a block
abbrev AddsItem : Store → Store → Type 0
AddsItem st end = (end.bodies.instructions ≡ st.bodies.instructions) × (end.bodies.blocks ≡ st.bodies.blocks) × ((i : SpelledItem) × (end.items ≡ st.items ++ i ∷ []) × HasBlocks i)

good_item : (P : Token → Type 0) (st end : Store) → AddsItem st end → Good P st → Good P end
good_item P st end (e, f, (i, q, h)) g = record {
  rows = subst (λ v. AreRows 0 v end.bodies.blocks) (sym e) (subst (λ v. AreRows 0 st.bodies.instructions v) (sym f) g.rows);
  blocks = subst (Each HasBlocks) (sym q) (each_append HasBlocks st.items (i ∷ []) g.blocks (h, tt));
  stated = subst (Each (IsStatedIn P)) (sym e) g.stated;
}

-- an item that is added behind a rule that adds none
item_so : (P : Token → Type 0) (s : Sort Base) (a : Production s) (f : Value shared s → Store → Unit {0} × Store) → Calm s a → ((y : Value shared s) (st : Store) → AddsItem st (f y st).1) → (x : Unit {0}) (st end : Store)
    → Runs (IsFine P) nothing (act {t = nothing} f a) x st end → Good P st → Good P end
item_so P s a f c adds x st end (y, m, w, e, e') g =
    subst (Good P) (sym e') (good_item P m (f y m).1 (adds y m) (good_stays P st m (calm_run (IsFine P) s a c y st m w) g))

-- ---- definitions of functions

body_so : (P : Token → Type 0) (bs : List SpelledBlock) (st end : Store) → Runs (IsFine P) (list (base block)) function_body bs st end → BlocksAdded P bs st end × (1 ≤ length bs)
unfolding function_body
body_so P bs st end (l, xs, d, fine) = blocks_so P bs st end (runs (IsFine P) l (list (base block)) blocks_rule xs st bs end d fine)

good_define : (P : Token → Type 0) (name : Token) (result : ℕ) (found : List SpelledParameter) (bs : List SpelledBlock) (st mid : Store) → Good P st → BlocksAdded P bs st mid → 1 ≤ length bs
    → Good P (add_define name result found bs mid).1
good_define P name result found bs st mid g h some = record {
  rows = subst (λ v. AreRows 0 v (mid.bodies.blocks ++ bs)) (sym h.instructions)
      (subst (λ v. AreRows 0 (st.bodies.instructions ++ h.more) (v ++ bs)) (sym h.blocks)
      (append_rows 0 st.bodies.instructions h.more st.bodies.blocks bs g.rows (subst (λ n. AreRows n h.more bs) (sym (zero-add (length st.bodies.instructions))) h.rows)));
  blocks = each_append HasBlocks mid.items _ (subst (Each HasBlocks) (sym h.items) g.blocks) (some, tt);
  stated = subst (Each (IsStatedIn P)) (sym h.instructions) (each_append (IsStatedIn P) st.bodies.instructions h.more g.stated h.stated);
}

define_so : (P : Token → Type 0) (x : Unit {0}) (st end : Store) → Runs (IsFine P) nothing define_item x st end → Good P st → Good P end
unfolding define_item define_rest define_body
define_so P x st end (y, m, (m1, ph, (m2, pg, (m3, pp, (z, m4, (m5, pt, pf), e2, e3)))), e, e') g =
    let s1 : Stay st m1 = calm_run (IsFine P) (base number) define_head define_head_calm y.0 st m1 ph in
    let s2 : Stay m1 m2 = subst (Stay m1) pg.2 (still m1) in
    let s3 : Stay m2 m3 = calm_run (IsFine P) (list (base parameter)) (parameters at.Plain) parameters_calm (((y.1).1).0) m2 m3 pp in
    let s4 : Stay m3 m5 = calm_run (IsFine P) nothing define_tail define_tail_calm z.0 m3 m5 pt in
    let s : Stay st m5 = on st m3 m5 (on st m2 m3 (on st m1 m2 s1 s2) s3) s4 in
    let b = body_so P z.1 m5 m4 pf in
    let added : BlocksAdded P (((y.1).1).1) m5 m = subst (λ v. BlocksAdded P v m5 m) (sym e2) (subst (BlocksAdded P z.1 m5) (sym e3) b.0) in
    let some : 1 ≤ length (((y.1).1).1) = subst (λ (v : List SpelledBlock). 1 ≤ length v) (sym e2) b.1 in
    subst (Good P) (sym e') (good_define P ((y.1).0).token y.0 (((y.1).1).0) (((y.1).1).1) m5 m (good_stays P st m5 s g) added some)

-- ---- items

-- each of these keeps all in rows
abbrev Keeps : (P : Token → Type 0) → (s : Sort Base) → Production s → Type 0
Keeps P s a = (x : Value shared s) (st end : Store) → Runs (IsFine P) s a x st end → Good P st → Good P end

source_so : (P : Token → Type 0) → Keeps P nothing source_filename
unfolding source_filename
source_so P = item_so P (pair token nothing) (the k.SourceFilename ⨾ equals_text) (λ v. add_item items.Skipped) source_calm (λ y st. (refl, refl, (items.Skipped, refl, tt)))

target_so : (P : Token → Type 0) → Keeps P nothing target
unfolding target
target_so P = item_so P (pair token nothing) (the k.Target ⨾ target_line) (λ v. add_item items.Skipped) target_calm (λ y st. (refl, refl, (items.Skipped, refl, tt)))

group_so : (P : Token → Type 0) → Keeps P nothing attribute_group
unfolding attribute_group
group_so P =
    item_so P (pair token (pair token (pair token nothing))) (the k.AttributesWord ⨾ (the k.AttrNumber ⨾ (the k.Equals ⨾ in_braces))) (λ v. add_item items.Skipped) group_calm (λ y st. (refl, refl, (items.Skipped, refl, tt)))

type_so : (P : Token → Type 0) → Keeps P nothing type_item
unfolding type_item
type_so P =
    item_so P (pair token (base number)) (one locals ⨾ (the k.Equals ▷ (the k.TypeWord ▷ type_body))) (λ v. add_item (items.Type (v.0).token v.1)) type_item_calm (λ y st. (refl, refl, (items.Type (y.0).token y.1, refl, tt)))

global_so : (P : Token → Type 0) → Keeps P nothing global_item
unfolding global_item
global_so P x st end (y, m, w, e, e') g =
    subst (Good P) (sym e') (good_item P m _ (refl, refl, (_, refl, tt)) (good_stays P st m (calm_run (IsFine P) (pair token (pair (pair token (base number)) (base constant))) (one (k.Global ∷ k.DebugGlobal ∷ []) ⨾ (global_head ⨾ global_value)) global_calm y st m w) g))

used_so : (P : Token → Type 0) → Keeps P nothing used_item
unfolding used_item
used_so P x st end (y, m, w, e, e') g =
    subst (Good P) (sym e') (good_item P m _ (refl, refl, (items.Used, refl, tt)) (good_stays P st m (calm_run (IsFine P) (pair token (pair (pair token (base number)) (pair nothing nothing))) (the k.UsedGlobal ⨾ (global_head ⨾ (used_value ⨾ global_tail))) used_calm y st m w) g))

declare_so : (P : Token → Type 0) → Keeps P nothing declare_item
unfolding declare_item
declare_so P x st end (y, m, w, e, e') g =
    subst (Good P) (sym e') (good_item P m _ (refl, refl, (_, refl, tt)) (good_stays P st m (calm_run (IsFine P) (pair (base number) (pair token (list (base parameter)))) (declare_head ⨾ (one globals ⨾ declare_parameters)) declare_calm y st m w) g))

node_so : (P : Token → Type 0) → Keeps P nothing node_item
unfolding node_item
node_so P x st end (y, m, w, e, e') g =
    subst (Good P) (sym e') (good_item P m _ (refl, refl, (items.Node (y.0).token, refl, tt)) (good_stays P st m (calm_run (IsFine P) (pair token (pair token (pair nothing nothing))) (the k.MetaNumber ⨾ (the k.Equals ⨾ (maybe_distinct ⨾ node))) node_item_calm y st m w) g))

list_so : (P : Token → Type 0) (names : List Kind) → Keeps P nothing (list_item names)
unfolding list_item
list_so P names x st end (y, m, w, e, e') g =
    subst (Good P) (sym e') (good_item P m _ (refl, refl, (items.NodeList (y.0).token, refl, tt)) (good_stays P st m (calm_run (IsFine P) (pair token (pair token nothing)) (one names ⨾ (the k.Equals ⨾ bang_node)) (list_item_calm names) y st m w) g))

any_item_so : (P : Token → Type 0) (names : List Kind) → Keeps P nothing (item names)
unfolding item
any_item_so P names x st end (inl r) g = source_so P x st end r g
any_item_so P names x st end (inr (inl r)) g = target_so P x st end r g
any_item_so P names x st end (inr (inr (inl r))) g = type_so P x st end r g
any_item_so P names x st end (inr (inr (inr (inl r)))) g = global_so P x st end r g
any_item_so P names x st end (inr (inr (inr (inr (inl r))))) g = used_so P x st end r g
any_item_so P names x st end (inr (inr (inr (inr (inr (inl r)))))) g = group_so P x st end r g
any_item_so P names x st end (inr (inr (inr (inr (inr (inr (inl r))))))) g = define_so P x st end r g
any_item_so P names x st end (inr (inr (inr (inr (inr (inr (inr (inl r)))))))) g = node_so P x st end r g
any_item_so P names x st end (inr (inr (inr (inr (inr (inr (inr (inr (inl r))))))))) g = list_so P names x st end r g
any_item_so P names x st end (inr (inr (inr (inr (inr (inr (inr (inr (inr r))))))))) g = absurd r

row_keeps : {A : Type 0} (P : Token → Type 0) (R : A → Store → Store → Type 0) → ((x : A) (st end : Store) → R x st end → Good P st → Good P end) → (xs : List A) (st end : Store) → Chain R xs st end → Good P st → Good P end
row_keeps P R h [] st end e g = subst (Good P) e g
row_keeps P R h (x ∷ xs) st end r g = let (m, p, q) = r in row_keeps P R h xs m end q (h x st m p g)

free_so : (P : Token → Type 0) → Keeps P nothing free_items
unfolding free_items
free_so P x st end (y, m, w, e, e') g = subst (Good P) (sym e') (row_keeps P (Runs (IsFine P) nothing (item meta_names)) (any_item_so P meta_names) y st m w g)

next_so : (P : Token → Type 0) → Keeps P nothing next_items
unfolding next_items
next_so P x st end (y, m, (n, p, q), e, e') g = subst (Good P) (sym e') (free_so P y.1 n m q (any_item_so P (k.MetaDefinition ∷ []) y.0 st n p g))

group_items_so : (P : Token → Type 0) → Keeps P nothing declare_group
unfolding declare_group maybe_next_items
group_items_so P x st end (y, m, (n, p, (z, l, w, e2, e3)), e, e') g =
    subst (Good P) (sym e') (subst (Good P) (sym e3) (perhaps_keeps P (Runs (IsFine P) nothing next_items) (next_so P) z n l w (declare_so P y.0 st n p g)))
  where
    perhaps_keeps : {A : Type 0} (P : Token → Type 0) (R : A → Store → Store → Type 0) → ((x : A) (st end : Store) → R x st end → Good P st → Good P end) → (x : Option A) (st end : Store) → Perhaps R x st end → Good P st → Good P end
    perhaps_keeps P R h None st end e g = subst (Good P) e g
    perhaps_keeps P R h (Some x) st end r g = h x st end r g

groups_so : (P : Token → Type 0) → Keeps P nothing declare_groups
unfolding declare_groups
groups_so P x st end (y, m, w, e, e') g = subst (Good P) (sym e') (row_keeps P (Runs (IsFine P) nothing declare_group) (group_items_so P) y st m w g)

module_so : (P : Token → Type 0) → Keeps P nothing module_rule
unfolding module_rule
module_so P x st end (y, m, (n, p, (l, q, r)), e, e') g =
    subst (Good P) (sym e') (subst (Good P) r.2 (groups_so P (y.1).0 n l q (free_so P y.0 st n p g)))

nothing_in_rows : (P : Token → Type 0) → Good P nothing_read
nothing_in_rows P = record { rows = refl; blocks = tt; stated = tt }

-- what a text spells lies in rows
pub module_in_rows : (P : Token → Type 0) (levels : ℕ) (tokens : List Terminal) (store : Store) → Each (IsFine P) tokens → IsModule levels tokens store → IsInRows P store
module_in_rows P levels tokens store fine d = module_so P tt nothing_read store (runs (IsFine P) levels nothing module_rule tokens nothing_read tt store d fine) (nothing_in_rows P)

each_fine : (ts : List Terminal) → Each (IsFine (λ t. Unit {0})) ts
each_fine [] = tt
each_fine (t ∷ ts) = ((λ h. tt), each_fine ts)

-- the same, whatever alignments it states
pub any_rows : (levels : ℕ) (tokens : List Terminal) (store : Store) → IsModule levels tokens store → IsInRows (λ t. Unit {0}) store
any_rows levels tokens store d = module_in_rows (λ t. Unit {0}) levels tokens store (each_fine tokens) d
