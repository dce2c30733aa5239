-- Each step of reading keeps what was read sound.
use Rattle.std.proofs.Common.{ℕ, ◌+◌, List, [], ◌∷◌, ◌++◌, length, ◌≤◌, ◌<◌, ◌≡◌, Bool, All, arith, length-append}
use Rattle.ir_core.specs.declared.token.Token.{Token}
use Rattle.ir_grammar.specs.declared.spelled.SpelledType.{SpelledType}
use Rattle.ir_grammar.specs.declared.spelled.SpelledType.TheVariants as types
use Rattle.ir_grammar.specs.declared.spelled.SpelledConstant.{SpelledConstant}
use Rattle.ir_grammar.specs.declared.spelled.SpelledConstant.TheVariants as constants
use Rattle.ir_grammar.specs.declared.spelled.SpelledItem.{SpelledItem}
use Rattle.ir_grammar.specs.declared.spelled.SpelledItem.TheVariants as items
use Rattle.ir_grammar.specs.declared.spelled.SpelledParameter.{SpelledParameter}
use Rattle.ir_grammar.specs.declared.spelled.TypedConstant.{TypedConstant}
use Rattle.ir_grammar.specs.declared.spelled.TypedIndex.{TypedIndex}
use Rattle.ir_grammar.specs.Rules.{nothing, base, list, Value}
use Rattle.ir_grammar.specs.Spelled.{Store, add_type, add_struct_type, add_constant, add_array, add_struct, add_address, add_item, add_declare}
use Rattle.ir_grammar.specs.Names.{Base, Carrier, number, constant, element, index, parameter, operand, typed, incoming, case, attachment, operation, instruction, block, shared}
use Rattle.ir_grammar.specs.SoundStore.{IsInRange, IsSoundType, Counts, counts_of, IsSoundConstant, IsSoundElement, IsSoundIndex, IsSoundParameter, IsSoundItem, IsSoundOperand, IsSoundTyped, IsSoundIncoming, IsSoundCase, IsSoundOperation, IsSoundInstruction, IsSoundBlock, IsSoundBodies, IsSoundStore, size_of}
use Rattle.std.proofs.lemmas.List.Elements.{All-append, All-cons, All-nil}
use Rattle.ir_grammar.proofs.SoundBodies.{all_more, IsBelow, GrownBodies, same_bodies, bodies_on, operand_stays, typed_stays, incoming_stays, case_stays, operation_stays, instruction_stays, block_stays, bodies_stay}
use Rattle.ir_grammar.proofs.Kept.{Keeping, SoundValue, items_in, Kept}

-- a base value among what was read
abbrev pub SoundIn : (b : Base) → Carrier b → Store → Type 0
SoundIn number n st = n < length st.types
SoundIn constant n st = n < length st.constants
SoundIn element e st = IsSoundElement (counts_of st) e
SoundIn index i st = IsSoundIndex (counts_of st) i
SoundIn parameter p st = IsSoundParameter (counts_of st) p
SoundIn operand x st = IsSoundOperand (counts_of st) x
SoundIn typed x st = IsSoundTyped (counts_of st) x
SoundIn incoming x st = IsSoundIncoming (counts_of st) x
SoundIn case x st = IsSoundCase (counts_of st) x
SoundIn attachment x st = Unit {0}
SoundIn operation x st = IsSoundOperation (counts_of st) x
SoundIn instruction x st = IsSoundInstruction (counts_of st) x
SoundIn block x st = IsSoundBlock (counts_of st) x

-- there is no less of anything
pub record Grown (before after : Store) : Type 0 where
  pub types : length before.types ≤ length after.types
  pub fields : length before.fields ≤ length after.fields
  pub constants : length before.constants ≤ length after.constants
  pub elements : length before.elements ≤ length after.elements
  pub indices : length before.indices ≤ length after.indices
  pub parameters : length before.parameters ≤ length after.parameters
  pub bodies : GrownBodies before.bodies after.bodies

pub still : (st : Store) → Grown st st
still st = record { types = omega arith; fields = omega arith; constants = omega arith; elements = omega arith; indices = omega arith; parameters = omega arith; bodies = same_bodies st.bodies }

pub grown_on : (a b c : Store) → Grown a b → Grown b c → Grown a c
grown_on a b c g h = record {
  types = let p = g.types in let q = h.types in omega arith;
  fields = let p = g.fields in let q = h.fields in omega arith;
  constants = let p = g.constants in let q = h.constants in omega arith;
  elements = let p = g.elements in let q = h.elements in omega arith;
  indices = let p = g.indices in let q = h.indices in omega arith;
  parameters = let p = g.parameters in let q = h.parameters in omega arith;
  bodies = bodies_on a.bodies b.bodies c.bodies g.bodies h.bodies;
}

pub below : (st st' : Store) → Grown st st' → IsBelow (counts_of st) (counts_of st')
below st st' g = record {
  types = g.types;
  constants = g.constants;
  elements = g.elements;
  indices = g.indices;
  parameters = g.parameters;
  operands = g.bodies.operands;
  incoming = g.bodies.incoming;
  cases = g.bodies.cases;
  attachments = g.bodies.attachments;
  instructions = g.bodies.instructions;
  blocks = g.bodies.blocks;
}

pub stays : (b : Base) (x : Carrier b) (st st' : Store) → Grown st st' → SoundIn b x st → SoundIn b x st'
stays number x st st' g h = let p = g.types in omega arith
stays constant x st st' g h = let p = g.constants in omega arith
stays element x st st' g h = let p = g.types in let q = g.constants in let h0 = h.0 in let h1 = h.1 in (omega arith, omega arith)
stays index x st st' g h = let p = g.types in omega arith
stays parameter x st st' g h = let p = g.types in omega arith
stays operand x st st' g h = operand_stays (counts_of st) (counts_of st') (below st st' g) x h
stays typed x st st' g h = typed_stays (counts_of st) (counts_of st') (below st st' g) x h
stays incoming x st st' g h = incoming_stays (counts_of st) (counts_of st') (below st st' g) x h
stays case x st st' g h = case_stays (counts_of st) (counts_of st') (below st st' g) x h
stays attachment x st st' g h = tt
stays operation x st st' g h = operation_stays (counts_of st) (counts_of st') (below st st' g) x h
stays instruction x st st' g h = instruction_stays (counts_of st) (counts_of st') (below st st' g) x h
stays block x st st' g h = block_stays (counts_of st) (counts_of st') (below st st' g) x h

-- what reading keeps
abbrev pub reading : Keeping shared
reading = record { Good = IsSoundStore; Sound = SoundIn; Grows = Grown; Fine = IsInRange; weight = size_of; same = still; on = grown_on; later = stays }

type_stays : (n m f g : ℕ) → n ≤ m → f ≤ g → (t : SpelledType) → IsSoundType n f t → IsSoundType m g t
type_stays n m f g le lf (types.Int w) h = h
type_stays n m f g le lf (types.Array c i) h = let h1 = h.1 in (h.0, omega arith)
type_stays n m f g le lf (types.Struct a c p) h = omega arith
type_stays n m f g le lf types.Void h = tt
type_stays n m f g le lf types.Ptr h = tt
type_stays n m f g le lf types.Opaque h = tt
type_stays n m f g le lf types.Metadata h = tt
type_stays n m f g le lf (types.Named t) h = tt

constant_stays : (n m : Counts) → IsBelow n m → (c : SpelledConstant) → IsSoundConstant n c → IsSoundConstant m c
constant_stays n m b (constants.Local t) h = tt
constant_stays n m b (constants.Global t) h = tt
constant_stays n m b (constants.Integer i) h = tt
constant_stays n m b (constants.Bool v) h = tt
constant_stays n m b constants.Null h = tt
constant_stays n m b constants.Zero h = tt
constant_stays n m b (constants.Bytes t) h = tt
constant_stays n m b (constants.Array a c) h = let p = b.elements in omega arith
constant_stays n m b (constants.Struct a c k) h = let p = b.elements in omega arith
constant_stays n m b (constants.Address t v a c) h =
    let p = b.types in let q = b.constants in let r = b.indices in let h0 = h.0 in let h1 = h.1 in let h2 = h.2 in (omega arith, omega arith, omega arith)

item_stays : (n m : Counts) → IsBelow n m → (i : SpelledItem) → IsSoundItem n i → IsSoundItem m i
item_stays n m b items.Skipped h = tt
item_stays n m b (items.Type name ty) h = let p = b.types in omega arith
item_stays n m b (items.Global name c ty value) h = let p = b.types in let q = b.constants in let h0 = h.0 in let h1 = h.1 in (omega arith, omega arith)
item_stays n m b items.Used h = tt
item_stays n m b (items.Declare name result a c) h = let p = b.types in let q = b.parameters in let h0 = h.0 in let h1 = h.1 in (omega arith, omega arith)
item_stays n m b (items.Define name result a c e k) h =
    let p = b.types in let q = b.parameters in let r = b.blocks in let h0 = h.0 in let h1 = h.1 in let h2 = h.2 in (omega arith, omega arith, omega arith)
item_stays n m b (items.Node t) h = tt
item_stays n m b (items.NodeList t) h = tt

-- what was read stays sound among more
pub record StaySound (st after : Store) : Type 0 where
  pub types : All (IsSoundType (length after.types) (length after.fields)) st.types
  pub fields : All (λ n. n < length after.types) st.fields
  pub constants : All (IsSoundConstant (counts_of after)) st.constants
  pub elements : All (IsSoundElement (counts_of after)) st.elements
  pub indices : All (IsSoundIndex (counts_of after)) st.indices
  pub parameters : All (IsSoundParameter (counts_of after)) st.parameters
  pub items : All (IsSoundItem (counts_of after)) st.items
  pub bodies : IsSoundBodies (counts_of after) st.bodies

pub lists_stay : (st after : Store) → IsSoundStore st → Grown st after → StaySound st after
lists_stay st after h g =
    let b = below st after g in
    let lt = g.types in
    let lf = g.fields in
    let lc = g.constants in
    record {
      types = all_more (IsSoundType (length st.types) (length st.fields)) (IsSoundType (length after.types) (length after.fields)) st.types (type_stays (length st.types) (length after.types) (length st.fields) (length after.fields) lt lf) h.types;
      fields = all_more (λ n. n < length st.types) (λ n. n < length after.types) st.fields (λ x p. omega arith) h.fields;
      constants = all_more (IsSoundConstant (counts_of st)) (IsSoundConstant (counts_of after)) st.constants (constant_stays (counts_of st) (counts_of after) b) h.constants;
      elements = all_more (IsSoundElement (counts_of st)) (IsSoundElement (counts_of after)) st.elements (λ x p. let p0 = p.0 in let p1 = p.1 in (omega arith, omega arith)) h.elements;
      indices = all_more (IsSoundIndex (counts_of st)) (IsSoundIndex (counts_of after)) st.indices (λ x p. omega arith) h.indices;
      parameters = all_more (IsSoundParameter (counts_of st)) (IsSoundParameter (counts_of after)) st.parameters (λ x p. omega arith) h.parameters;
      items = all_more (IsSoundItem (counts_of st)) (IsSoundItem (counts_of after)) st.items (item_stays (counts_of st) (counts_of after) b) h.items;
      bodies = bodies_stay (counts_of st) (counts_of after) b st.bodies h.bodies;
    }

-- nothing is added
pub kept_same : (t : _) (x : Value shared t) (st : Store) (budget : ℕ) → IsSoundStore st → SoundValue shared reading t x st → size_of st + items_in shared reading t x ≤ budget → Kept shared reading t x st st budget
kept_same t x st budget good h le = record { good = good; grows = still st; sound = h; light = le }

one_more : {A : Type 0} (P : A → Type 0) (xs : List A) (x : A) → All P xs → P x → All P (xs ++ x ∷ [])
one_more P xs x h p = All-append P xs (x ∷ []) h (All-cons P x [] p (All-nil P))

-- a sound list of values is sound one by one
elements_sound : (xs : List TypedConstant) (st : Store) → SoundValue shared reading (list (base element)) xs st → All (IsSoundElement (counts_of st)) xs
elements_sound [] st h = All-nil (IsSoundElement (counts_of st))
elements_sound (x ∷ xs) st h = All-cons (IsSoundElement (counts_of st)) x xs h.0 (elements_sound xs st h.1)

indices_sound : (xs : List TypedIndex) (st : Store) → SoundValue shared reading (list (base index)) xs st → All (IsSoundIndex (counts_of st)) xs
indices_sound [] st h = All-nil (IsSoundIndex (counts_of st))
indices_sound (x ∷ xs) st h = All-cons (IsSoundIndex (counts_of st)) x xs h.0 (indices_sound xs st h.1)

pub parameters_sound : (xs : List SpelledParameter) (st : Store) → SoundValue shared reading (list (base parameter)) xs st → All (IsSoundParameter (counts_of st)) xs
parameters_sound [] st h = All-nil (IsSoundParameter (counts_of st))
parameters_sound (x ∷ xs) st h = All-cons (IsSoundParameter (counts_of st)) x xs h.0 (parameters_sound xs st h.1)

numbers_sound : (xs : List ℕ) (st : Store) → SoundValue shared reading (list (base number)) xs st → All (λ n. n < length st.types) xs
numbers_sound [] st h = All-nil (λ n. n < length st.types)
numbers_sound (x ∷ xs) st h = All-cons (λ n. n < length st.types) x xs h.0 (numbers_sound xs st h.1)

-- a type is added
pub kept_type : (t : SpelledType) (st : Store) (budget : ℕ) → IsSoundStore st → IsSoundType (length st.types) (length st.fields) t → size_of st + 1 ≤ budget
    → Kept shared reading (base number) (add_type t st).0 st (add_type t st).1 budget
kept_type t st budget good h le =
    let longer : length (st.types ++ t ∷ []) ≡ length st.types + 1 = length-append st.types (t ∷ []) in
    let g : Grown st (add_type t st).1 = record { types = omega (arith, longer); fields = omega arith; constants = omega arith; elements = omega arith; indices = omega arith; parameters = omega arith; bodies = same_bodies st.bodies } in
    let s = lists_stay st (add_type t st).1 good g in
    record {
      good = record {
        types = one_more (IsSoundType (length (st.types ++ t ∷ [])) (length st.fields)) st.types t s.types (type_stays (length st.types) (length (st.types ++ t ∷ [])) (length st.fields) (length st.fields) (omega (arith, longer)) (omega arith) t h);
        fields = s.fields;
        constants = s.constants;
        elements = s.elements;
        indices = s.indices;
        parameters = s.parameters;
        items = s.items;
        bodies = s.bodies;
      };
      grows = g;
      sound = omega (arith, longer);
      light = omega (arith, longer);
    }

-- a struct's fields are added, and then its type
pub kept_struct_type : (packed : Bool) (found : List ℕ) (st : Store) (budget : ℕ) → IsSoundStore st → SoundValue shared reading (list (base number)) found st → size_of st + length found + 1 ≤ budget
    → Kept shared reading (base number) (add_struct_type packed found st).0 st (add_struct_type packed found st).1 budget
kept_struct_type packed found st budget good h le =
    let mid : Store = record st { fields = st.fields ++ found } in
    let longer : length (st.fields ++ found) ≡ length st.fields + length found = length-append st.fields found in
    let g : Grown st mid = record { types = omega arith; fields = omega (arith, longer); constants = omega arith; elements = omega arith; indices = omega arith; parameters = omega arith; bodies = same_bodies st.bodies } in
    let s = lists_stay st mid good g in
    let good' : IsSoundStore mid = record {
      types = s.types;
      fields = All-append (λ n. n < length st.types) st.fields found s.fields (numbers_sound found st h);
      constants = s.constants;
      elements = s.elements;
      indices = s.indices;
      parameters = s.parameters;
      items = s.items;
      bodies = s.bodies;
    } in
    let k = kept_type (types.Struct (length st.fields) (length found) packed) mid budget good' (omega (arith, longer)) (omega (arith, longer)) in
    record { good = k.good; grows = grown_on st mid (add_struct_type packed found st).1 g k.grows; sound = k.sound; light = k.light }

-- a constant is added
pub kept_constant : (c : SpelledConstant) (st : Store) (budget : ℕ) → IsSoundStore st → IsSoundConstant (counts_of st) c → size_of st + 1 ≤ budget
    → Kept shared reading (base constant) (add_constant c st).0 st (add_constant c st).1 budget
kept_constant c st budget good h le =
    let longer : length (st.constants ++ c ∷ []) ≡ length st.constants + 1 = length-append st.constants (c ∷ []) in
    let g : Grown st (add_constant c st).1 = record { types = omega arith; fields = omega arith; constants = omega (arith, longer); elements = omega arith; indices = omega arith; parameters = omega arith; bodies = same_bodies st.bodies } in
    let s = lists_stay st (add_constant c st).1 good g in
    record {
      good = record {
        types = s.types;
        fields = s.fields;
        constants = one_more (IsSoundConstant (counts_of (add_constant c st).1)) st.constants c s.constants (constant_stays (counts_of st) (counts_of (add_constant c st).1) (below st (add_constant c st).1 g) c h);
        elements = s.elements;
        indices = s.indices;
        parameters = s.parameters;
        items = s.items;
        bodies = s.bodies;
      };
      grows = g;
      sound = omega (arith, longer);
      light = omega (arith, longer);
    }

-- elements are added
with_elements : (found : List TypedConstant) (st : Store) → IsSoundStore st → SoundValue shared reading (list (base element)) found st
    → IsSoundStore (record st { elements = st.elements ++ found }) × Grown st (record st { elements = st.elements ++ found })
with_elements found st good h =
    let mid : Store = record st { elements = st.elements ++ found } in
    let longer : length (st.elements ++ found) ≡ length st.elements + length found = length-append st.elements found in
    let g : Grown st mid = record { types = omega arith; fields = omega arith; constants = omega arith; elements = omega (arith, longer); indices = omega arith; parameters = omega arith; bodies = same_bodies st.bodies } in
    let s = lists_stay st mid good g in (
      record {
        types = s.types;
        fields = s.fields;
        constants = s.constants;
        elements = All-append (IsSoundElement (counts_of mid)) st.elements found s.elements (all_more (IsSoundElement (counts_of st)) (IsSoundElement (counts_of mid)) found (λ x p. p) (elements_sound found st h));
        indices = s.indices;
        parameters = s.parameters;
        items = s.items;
        bodies = s.bodies;
      },
      g,
    )

pub kept_array : (found : List TypedConstant) (st : Store) (budget : ℕ) → IsSoundStore st → SoundValue shared reading (list (base element)) found st → size_of st + length found + 1 ≤ budget
    → Kept shared reading (base constant) (add_array found st).0 st (add_array found st).1 budget
kept_array found st budget good h le =
    let mid : Store = record st { elements = st.elements ++ found } in
    let longer : length (st.elements ++ found) ≡ length st.elements + length found = length-append st.elements found in
    let (good', g) = with_elements found st good h in
    let k = kept_constant (constants.Array (length st.elements) (length found)) mid budget good' (omega (arith, longer)) (omega (arith, longer)) in
    record { good = k.good; grows = grown_on st mid (add_array found st).1 g k.grows; sound = k.sound; light = k.light }

pub kept_struct : (packed : Bool) (found : List TypedConstant) (st : Store) (budget : ℕ) → IsSoundStore st → SoundValue shared reading (list (base element)) found st → size_of st + length found + 1 ≤ budget
    → Kept shared reading (base constant) (add_struct packed found st).0 st (add_struct packed found st).1 budget
kept_struct packed found st budget good h le =
    let mid : Store = record st { elements = st.elements ++ found } in
    let longer : length (st.elements ++ found) ≡ length st.elements + length found = length-append st.elements found in
    let (good', g) = with_elements found st good h in
    let k = kept_constant (constants.Struct (length st.elements) (length found) packed) mid budget good' (omega (arith, longer)) (omega (arith, longer)) in
    record { good = k.good; grows = grown_on st mid (add_struct packed found st).1 g k.grows; sound = k.sound; light = k.light }

-- an address is added, behind its indices
pub kept_address : (ty value : ℕ) (found : List TypedIndex) (st : Store) (budget : ℕ) → IsSoundStore st → ty < length st.types → value < length st.constants → SoundValue shared reading (list (base index)) found st
    → size_of st + length found + 1 ≤ budget → Kept shared reading (base constant) (add_address ty value found st).0 st (add_address ty value found st).1 budget
kept_address ty value found st budget good ht hv h le =
    let mid : Store = record st { indices = st.indices ++ found } in
    let longer : length (st.indices ++ found) ≡ length st.indices + length found = length-append st.indices found in
    let g : Grown st mid = record { types = omega arith; fields = omega arith; constants = omega arith; elements = omega arith; indices = omega (arith, longer); parameters = omega arith; bodies = same_bodies st.bodies } in
    let s = lists_stay st mid good g in
    let good' : IsSoundStore mid = record {
      types = s.types;
      fields = s.fields;
      constants = s.constants;
      elements = s.elements;
      indices = All-append (IsSoundIndex (counts_of mid)) st.indices found s.indices (all_more (IsSoundIndex (counts_of st)) (IsSoundIndex (counts_of mid)) found (λ x p. p) (indices_sound found st h));
      parameters = s.parameters;
      items = s.items;
      bodies = s.bodies;
    } in
    let k = kept_constant (constants.Address ty value (length st.indices) (length found)) mid budget good' (ht, hv, omega (arith, longer)) (omega (arith, longer)) in
    record { good = k.good; grows = grown_on st mid (add_address ty value found st).1 g k.grows; sound = k.sound; light = k.light }

-- an item is added
pub kept_item : (i : SpelledItem) (st : Store) (budget : ℕ) → IsSoundStore st → IsSoundItem (counts_of st) i → size_of st + 1 ≤ budget
    → Kept shared reading nothing (add_item i st).0 st (add_item i st).1 budget
kept_item i st budget good h le =
    let longer : length (st.items ++ i ∷ []) ≡ length st.items + 1 = length-append st.items (i ∷ []) in
    let g : Grown st (add_item i st).1 = record { types = omega arith; fields = omega arith; constants = omega arith; elements = omega arith; indices = omega arith; parameters = omega arith; bodies = same_bodies st.bodies } in
    let s = lists_stay st (add_item i st).1 good g in
    record {
      good = record {
        types = s.types;
        fields = s.fields;
        constants = s.constants;
        elements = s.elements;
        indices = s.indices;
        parameters = s.parameters;
        items = one_more (IsSoundItem (counts_of st)) st.items i s.items h;
        bodies = s.bodies;
      };
      grows = g;
      sound = tt;
      light = omega (arith, longer);
    }

-- a declare is added, behind its parameters
pub kept_declare : (name : Token) (ty : ℕ) (found : List SpelledParameter) (st : Store) (budget : ℕ) → IsSoundStore st → ty < length st.types → SoundValue shared reading (list (base parameter)) found st
    → size_of st + length found + 1 ≤ budget → Kept shared reading nothing (add_declare name ty found st).0 st (add_declare name ty found st).1 budget
kept_declare name ty found st budget good ht h le =
    let mid : Store = record st { parameters = st.parameters ++ found } in
    let longer : length (st.parameters ++ found) ≡ length st.parameters + length found = length-append st.parameters found in
    let g : Grown st mid = record { types = omega arith; fields = omega arith; constants = omega arith; elements = omega arith; indices = omega arith; parameters = omega (arith, longer); bodies = same_bodies st.bodies } in
    let s = lists_stay st mid good g in
    let good' : IsSoundStore mid = record {
      types = s.types;
      fields = s.fields;
      constants = s.constants;
      elements = s.elements;
      indices = s.indices;
      parameters = All-append (IsSoundParameter (counts_of mid)) st.parameters found s.parameters (all_more (IsSoundParameter (counts_of st)) (IsSoundParameter (counts_of mid)) found (λ x p. p) (parameters_sound found st h));
      items = s.items;
      bodies = s.bodies;
    } in
    let k = kept_item (items.Declare name ty (length st.parameters) (length found)) mid budget good' (ht, omega (arith, longer)) (omega (arith, longer)) in
    record { good = k.good; grows = grown_on st mid (add_declare name ty found st).1 g k.grows; sound = tt; light = k.light }
