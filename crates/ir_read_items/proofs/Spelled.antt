-- What was spelled, from the outcome of reading.
use Rattle.std.proofs.Common.{ℕ, ◌*◌, List, [], ◌∷◌, ◌++◌, length, ◌≤◌, ◌≡◌, refl, sym, ◌∙◌, ap, subst, true, false, Ok, Err, All, arith, length-append, append-nil, append_assoc}
use Rattle.std.proofs.lemmas.List.Elements.{All-nil}
use Rattle.ir_core.specs.declared.token.Token.{Token}
use Rattle.ir_core.specs.declared.refusals.Place.{Place}
use Rattle.ir_grammar.specs.declared.kind.Kind.TheVariants as k
use Rattle.ir_grammar.specs.declared.terminal.Terminal.{Terminal}
use Rattle.ir_grammar.specs.declared.terminal.Flaw.{Flaw}
use Rattle.ir_grammar.specs.Kinds.{is_among}
use Rattle.ir_grammar.specs.Reading.{Outcome, ◌>>=◌, starts}
use Rattle.ir_grammar.specs.Rules.{Sort, Value, nothing, one, ◌⨾◌, act, Derives, one_token, both, left, right, absent, present, done, again, inner, acted}
use Rattle.ir_grammar.specs.Conditions.{ends}
use Rattle.ir_grammar.specs.Names.{Base, Production, shared}
use Rattle.ir_grammar.specs.Spelled.{Store}
use Rattle.ir_grammar.specs.KindOf.{text_of, terminals_of, end_of_text}
use Rattle.ir_grammar.specs.Grammar.{production, read, nesting_limit}
use Rattle.ir_grammar.specs.SoundStore.{IsInRange, IsSoundStore, size_of}
use Rattle.ir_grammar.proofs.Sound.{all_sound}
use Rattle.ir_grammar.proofs.Complete.{again_read}
use Rattle.ir_grammar.proofs.WellFormed.{well_formed}
use Rattle.ir_grammar.proofs.Kept.{Each, each_of_all, kept}
use Rattle.ir_grammar.proofs.Ranged.{text_has_no_end}
use Rattle.ir_grammar.proofs.SoundSteps.{reading}
use Rattle.ir_grammar.proofs.NamesKept.{names_kept}
use Rattle.ir_read_items.specs.Items.{module_rule, declare_groups}
use Rattle.ir_read_body.specs.BodyReading.{nothing_read}
use Rattle.ir_read_items.specs.ItemReading.{spelled}
use Rattle.ir_read_items.specs.ItemLaws.{IsModule}
use Rattle.ir_read_items.proofs.ItemsKept.{module_kept}
use Rattle.ir_read_items.proofs.ModuleClear.{module_clear}

-- what was read to the end
pub record IsRead (tokens : List Terminal) (store : Store) : Type 0 where
  pub front : List Terminal
  pub rest : List Terminal
  pub whole : tokens ≡ front ++ rest
  pub derived : IsModule nesting_limit front store

read_so : (tokens : List Terminal) (store : Store) (r : Outcome Store (Unit {0})) → read nesting_limit module_rule tokens nothing_read ≡ r → (r >>= λ x. Ok x.2) ≡ Ok store → IsRead tokens store
read_so tokens store (Err e) h q = cc
read_so tokens store (Ok x) h q =
    let (front, e, d) = all_sound shared production nesting_limit nothing module_rule tokens nothing_read x h in
    let s : x.2 ≡ store = cc in
    record { front = front; rest = x.1; whole = e; derived = subst (λ v. IsModule nesting_limit front v) s d }

pub spelled_read : (tokens : List Terminal) (store : Store) → spelled tokens ≡ Ok store → IsRead tokens store
spelled_read tokens store h = read_so tokens store (read nesting_limit module_rule tokens nothing_read) refl h

nothing_sound : IsSoundStore nothing_read
nothing_sound = record {
  types = All-nil _;
  fields = All-nil _;
  constants = All-nil _;
  elements = All-nil _;
  indices = All-nil _;
  parameters = All-nil _;
  items = All-nil _;
  bodies = record { operands = All-nil _; incoming = All-nil _; cases = All-nil _; instructions = All-nil _; blocks = All-nil _ };
}

each_front : {A : Type 0} (P : A → Type 0) (xs ys : List A) → Each P (xs ++ ys) → Each P xs
each_front P [] ys h = tt
each_front P (x ∷ xs) ys h = (h.0, each_front P xs ys h.1)

-- what was read is sound, and there is little of it
pub record IsSmallAndSound (tokens : List Terminal) (store : Store) : Type 0 where
  pub sound : IsSoundStore store
  pub small : size_of store ≤ 8 * length tokens

pub spelled_sound : (tokens : List Terminal) (store : Store) → All IsInRange tokens → spelled tokens ≡ Ok store → IsSmallAndSound tokens store
spelled_sound tokens store fine h =
    let r = spelled_read tokens store h in
    let each : Each IsInRange (r.front ++ r.rest) = each_of_all IsInRange (r.front ++ r.rest) (subst (λ v. All IsInRange v) r.whole fine) in
    let b = kept shared reading production names_kept nesting_limit nothing module_rule r.front nothing_read tt store 0 r.derived module_kept (each_front IsInRange r.front r.rest each) nothing_sound in
    let l : length tokens ≡ length (r.front ++ r.rest) = ap length r.whole in
    record { sound = b.good; small = let light = b.light in omega (arith, l, length-append r.front r.rest) }

module_ends : (rest : List Terminal) → starts (ends module_rule) rest ≡ false
unfolding module_rule declare_groups
module_ends [] = refl
module_ends (t ∷ ts) = refl

-- a module is read, whatever follows it
pub module_spelled : (tokens rest : List Terminal) (store : Store) → IsModule nesting_limit tokens store → spelled (tokens ++ rest) ≡ Ok store
module_spelled tokens rest store d =
    ap (λ r. r >>= λ x. Ok x.2) (again_read shared production well_formed nesting_limit nothing module_rule tokens nothing_read tt store d module_clear rest (module_ends rest))

failed_so : (e : Flaw) (r : Outcome Store (Unit {0})) → (r >>= λ x. Ok x.2) ≡ Err e → r ≡ Err e
failed_so e (Ok x) h = cc
failed_so e (Err d) h = let q : d ≡ e = cc in ap Err q

-- a flaw of the text is the flaw of reading
pub spelled_failed : (tokens : List Terminal) (e : Flaw) → spelled tokens ≡ Err e → read nesting_limit module_rule tokens nothing_read ≡ Err e
spelled_failed tokens e h = failed_so e (read nesting_limit module_rule tokens nothing_read) h

-- this token isn't the end of a text
abbrev NoEnd : Terminal → Type 0
NoEnd t = is_among (k.End ∷ []) t.kind ≡ true → ⊥

no_middle : (pre : List Terminal) (h : Terminal) (m : List Terminal) → pre ++ h ∷ m ≡ [] → ⊥
no_middle [] h m e = cc
no_middle (p ∷ pre) h m e = cc

-- where the end stands, nothing follows
nothing_behind : (pre : List Terminal) (e : Terminal) (rest body : List Terminal) (last : Terminal) → Each NoEnd body → is_among (k.End ∷ []) e.kind ≡ true → body ++ last ∷ [] ≡ pre ++ e ∷ rest → rest ≡ []
nothing_behind [] e rest [] last none h q = cc
nothing_behind [] e rest (b ∷ body) last none h q = let p : b ≡ e = cc in absurd (none.0 (subst (λ v. is_among (k.End ∷ []) v.kind ≡ true) (sym p) h))
nothing_behind (p ∷ pre) e rest [] last none h q = let r : pre ++ e ∷ rest ≡ [] = cc in absurd (no_middle pre e rest r)
nothing_behind (p ∷ pre) e rest (b ∷ body) last none h q = let r : body ++ last ∷ [] ≡ pre ++ e ∷ rest = cc in nothing_behind pre e rest body last none.1 h r

-- which tokens a derivation takes one behind the other, as far as its rule is a row
abbrev Says : (s : Sort Base) → Production s → List Terminal → Type 0
Says _ (one ks) ts = (t : Terminal) × (ts ≡ t ∷ []) × (is_among ks t.kind ≡ true)
Says _ (◌⨾◌ {s = s} {t = t} a b) ts = (xs : List Terminal) × (ys : List Terminal) × (ts ≡ xs ++ ys) × Says s a xs × Says t b ys
Says _ (act {s = s} f a) ts = Says s a ts
Says _ _ ts = Unit {0}

says : (l : ℕ) (s : Sort Base) (a : Production s) (ts : List Terminal) (st : Store) (x : Value shared s) (end : Store) → Derives shared production l s a ts st x end → Says s a ts
says l _ _ _ st _ _ (one_token t h) = (t, refl, h)
says l _ _ _ st _ end (both {s = s} {t = t} {a = a} {b = b} {xs = xs} {ys = ys} {st' = st'} {x = x} {y = y} p q) = (xs, ys, refl, says l s a xs st x st' p, says l t b ys st' y end q)
says l s _ ts st x end (left p) = tt
says l s _ ts st x end (right p) = tt
says l _ _ _ st _ _ absent = tt
says l _ _ ts st _ end (present p) = tt
says l _ _ _ st _ _ done = tt
says l _ _ _ st _ end (again p q) = tt
says _ _ _ _ st x end (inner o c ko p kc) = tt
says l _ _ ts st _ _ (acted {s = s} {a = a} {st' = st'} {x = x} p) = says l s a ts st x st' p

-- behind a module there is nothing, where no other token is the end
whole_module : (levels : ℕ) (front rest body : List Terminal) (last : Terminal) (store : Store) → IsModule levels front store → Each NoEnd body → body ++ last ∷ [] ≡ front ++ rest → rest ≡ []
unfolding module_rule
whole_module levels front rest body last store d none w =
    let (xs, more, e, free, (ys, one_more, e', groups, (t, e'', h))) = says levels nothing module_rule front nothing_read tt store d in
    let split : front ++ rest ≡ (xs ++ ys) ++ t ∷ rest =
    ap (λ v. v ++ rest) (e ∙ ap (λ v. xs ++ v) (e' ∙ ap (λ v. ys ++ v) e''))
    ∙ (append_assoc xs (ys ++ t ∷ []) rest ∙ (ap (λ v. xs ++ v) (append_assoc ys (t ∷ []) rest) ∙ sym (append_assoc xs ys (t ∷ rest)))) in
    nothing_behind (xs ++ ys) t rest body last none h (w ∙ split)

-- a text that is read is a module
pub text_is_module : (source : List ℕ) (ts : List Token) (place : Place) (store : Store) → spelled (text_of source ts place) ≡ Ok store → IsModule nesting_limit (text_of source ts place) store
text_is_module source ts place store h =
    let r = spelled_read (text_of source ts place) store h in
    let none : r.rest ≡ [] = whole_module nesting_limit r.front r.rest (terminals_of source ts) (end_of_text place) store r.derived (text_has_no_end source ts) r.whole in
    let e : text_of source ts place ≡ r.front = r.whole ∙ (ap (λ v. r.front ++ v) none ∙ append-nil r.front) in
    subst (λ v. IsModule nesting_limit v store) (sym e) r.derived
