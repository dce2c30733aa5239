-- The globals at the start of a run: memory has their first bytes and tags, which are the story's.
use Rattle.std.proofs.Common.{◌≡◌, ℕ, zero, suc, ◌+◌, ◌-◌, ◌*◌, ◌%◌, ◌^◌, ◌<◌, ◌≤◌, Bool, true, false, if◌then◌else◌, List, [], ◌∷◌, length, map, slice_get, replicate, Option, Some, None, is_some, option_map, ◌⊎◌, inl, inr, refl, sym, ◌∙◌, ap, subst, arith, take}
use Rattle.std.proofs.lemmas.Bool.{cond-true, cond-false}
use Rattle.std.proofs.lemmas.List.{length-map, length-replicate}
use Rattle.std.proofs.lemmas.Option.{slice_get-map}
use Rattle.std.specs.List.{enumerate_from, list_any}
use Rattle.global_tags.proofs.GlobalLemmas.{get-descriptors, constants-within, variables-within}
use Rattle.global_tags.specs.GlobalBytes.{piece_number, loaded}
use Rattle.global_tags.specs.GlobalPlaces.{global_size, constants_size, variables_at, variables_size, layout_of, place_of_global, descriptor_of, descriptors_of}
use Rattle.global_tags.specs.declared.descriptor.Descriptor.{Descriptor}
use Rattle.hw_base.proofs.ByteLaws.{length-le_bytes}
use Rattle.hw_base.specs.AddressMap.{rounded_size}
use Rattle.hw_base.specs.Bytes.{le_bytes}
use Rattle.hw_base.specs.declared.pointers.Base.TheVariants.{Object}
use Rattle.hw_base.specs.declared.pointers.Obj.{Obj}
use Rattle.ir_core.proofs.Capping.{layout_at-capped}
use Rattle.ir_core.specs.Layout.{layout_at, layout_size, capped, exact_layouts, alloc_size_of}
use Rattle.ir_core.specs.Resolved.{IsPieceOf, IsPartWithin}
use Rattle.ir_core.specs.declared.ir_module.GlobalVar.{GlobalVar}
use Rattle.ir_core.specs.declared.operands.Operand.{Operand}
use Rattle.ir_core.specs.declared.operands.Operand.TheVariants.{Reg, Int as Literal, Null, Global}
use Rattle.ir_core.specs.declared.types.TypeLayout.{TypeLayout}
use Rattle.ir_core.specs.declared.types.TypeLayout.TheVariants.{Known, NoSize, Loop}
use Rattle.ir_machine.proofs.BlockPlaces.{all-at}
use Rattle.ir_machine.proofs.CodeAt.{get-below}
use Rattle.ir_machine.specs.State.{MachineSetting}
use Rattle.ir_meaning.specs.BirthChanges.{HasItsBytes}
use Rattle.ir_meaning.specs.Births.{Globals, Birth, SourceObject, is_living, object_in, get_object}
use Rattle.ir_meaning.specs.Start.{part_bytes, with_parts, global_object}
use Rattle.ir_meaning.specs.Values.{SourceByte, Data}
use Rattle.tag_story.proofs.GlobalPlacesTold.{placed_globals, placed_global, placed-is, globals-new}
use Rattle.tag_story.proofs.Owners.{covers-in}
use Rattle.tag_story.proofs.StoryLaws.{born-laid}
use Rattle.tag_story.proofs.ToldLaws.{no_story-laid}
use Rattle.tag_story.specs.Story.{StorySetting, Placed, StoryBirth, Story, get_placed, placed_in, no_story}
use Rattle.tag_story.specs.StoryFacts.{IsLaidOut, IsObject}
use Rattle.tag_story.specs.StoryTags.{covers, owned_tag, tag_by, memory_tag, owner_from, freed_tag}
use Rattle.tag_story.specs.Telling.{global_placed, globals_told}
use Rattle.tbi_memory.specs.AddressSpace.{AddressSpace, is_in, space_at_start}
use Rattle.tbi_memory.specs.MappedBytes.{byte_at}
use Rattle.simulation.proofs.BirthLists.{told_birth, new-byte}
use Rattle.simulation.proofs.BirthOwners.{CoverNot, OneCovers, one-or-none, from-pushed}
use Rattle.simulation.proofs.BirthRelated.{IsInMap, ObjectsRelated}
use Rattle.simulation.proofs.Sizes.{size-rounded}
use Rattle.simulation.proofs.FinePasses.{owned}
use Rattle.simulation.proofs.FreshMemory.{AreFresh, all-tags, all-tags_other}
use Rattle.simulation.proofs.MappedRegions.{constant-mapped, variable-mapped}
use Rattle.detection.proofs.LoadedGlobals.{ArePieces, HavePieces, length-with_parts, parts-known, globals-some, globals-constants, globals-shadow, globals-image, globals-last}
use Rattle.detection.proofs.StartMemory.{ranges, start-mapped, start-zero, start-tags}
use Rattle.step_simulation.proofs.WritesFollow.{data-known, data-image, pointer-length, pointer-image, pointer-known}
use Rattle.simulation.specs.Parts.{IsTold, LiesAsConstant}
use Rattle.simulation.specs.Relation.{IsSetting, HasGlobals, story_setting}
use Rattle.simulation.specs.Writes.{AreKnown}

-- ---- the sizes of globals

-- the size that a module keeps for a type is its size, if that is 2 ^ 40 bytes at most
capped-size : (layout : TypeLayout) → layout_size layout ≤ 2 ^ 40 → layout_size (capped layout) ≡ layout_size layout
capped-size (Known size align) small = omega (arith, small)
capped-size NoSize small = refl
capped-size Loop small = refl

module _ (setting : MachineSetting) (is : IsSetting setting) where
  abbrev e : StorySetting
  e = story_setting setting

  abbrev layouts : List TypeLayout
  layouts = setting.program.layouts

  abbrev variables : List GlobalVar
  variables = setting.program.globals

  -- where the globals are
  abbrev pub descriptors : List Descriptor
  descriptors = descriptors_of setting.places layouts variables (setting.word 0)

  abbrev pub placed : List Placed
  placed = placed_globals e (setting.word 0)

  -- memory without and with them
  abbrev pub empty_space : AddressSpace
  empty_space = space_at_start setting.places (layout_of setting.places layouts variables)

  abbrev pub space : AddressSpace
  space = loaded setting.places layouts variables (setting.word 0)

  -- the birth of all globals on both sides
  abbrev pub told_globals : StoryBirth
  told_globals = told_birth Globals 0 [] placed

  abbrev pub source_globals : Birth
  source_globals = record { region = Globals; task = 0; born = []; objects = map (global_object setting.program) variables }

  -- ---- places

  -- a constant is in their range, and a variable past it
  where-global : (k : ℕ) (g : GlobalVar) (bit : Bool) → g.constant ≡ bit → slice_get variables k ≡ Some g → LiesAsConstant bit setting.places.globals_at (setting.places.globals_at + constants_size layouts variables) (placed_global e (setting.word 0) k g)
  where-global k g true c there =
      let from = cond-true g.constant (setting.places.globals_at + constants_size layouts (take k variables)) (variables_at setting.places layouts variables + variables_size layouts (take k variables)) c in
      let to = constants-within setting.places layouts variables k g there c in
      (omega (arith, from), to)
  where-global k g false c there =
      let from = cond-false g.constant (setting.places.globals_at + constants_size layouts (take k variables)) (variables_at setting.places layouts variables + variables_size layouts (take k variables)) c in
      omega (arith, from)

  global-mapped : (k : ℕ) (g : GlobalVar) (bit : Bool) → g.constant ≡ bit → slice_get variables k ≡ Some g → IsInMap e (placed_global e (setting.word 0) k g)
  global-mapped k g true c there = let inside = where-global k g true c there in constant-mapped e (placed_global e (setting.word 0) k g) inside.0 inside.1
  global-mapped k g false c there =
      let from = cond-false g.constant (setting.places.globals_at + constants_size layouts (take k variables)) (variables_at setting.places layouts variables + variables_size layouts (take k variables)) c in
      variable-mapped e (placed_global e (setting.word 0) k g) (omega (arith, from)) (variables-within setting.places layouts variables k g there c)

  in-map : (k : ℕ) (x : Placed) → slice_get placed k ≡ Some x → IsInMap e x
  in-map k x h = let (g, there, same) = placed-is e (setting.word 0) k x h in subst (IsInMap e) same (global-mapped k g g.constant refl there)

  pub laid : IsLaidOut e (globals_told e no_story)
  laid = born-laid e no_story Globals 0 [] placed [] 0 (no_story-laid e) (globals-new e no_story (setting.word 0) is.room (no_story-laid e) refl)

  new-object : (k : ℕ) (x : Placed) → slice_get placed k ≡ Some x → IsObject (told_globals ∷ []) 0 k told_globals x
  new-object k x h = record { there = refl; object = h }

  fresh : AreFresh placed
  fresh =
      record {
        aligned = λ k x h. laid.aligned 0 k told_globals x (new-object k x h);
        apart = λ k j x y h i. elim (laid.apart 0 k 0 j told_globals told_globals x y (new-object k x h) (new-object j y i) refl refl) [
          | inl apart ↦ inl apart
          | inr both ↦ inr both.1
        ];
      }

  -- ---- objects

  -- an object of the source is a global
  record IsGlobal (o : Obj) (x : SourceObject) : Type 0 where
    birth : o.birth ≡ 0
    g : GlobalVar
    there : slice_get variables o.index ≡ Some g
    same : global_object setting.program g ≡ x

  source-object : (o : Obj) (x : SourceObject) → get_object (source_globals ∷ []) o ≡ Some x → IsGlobal o x
  source-object o x h = by_number o.birth refl h
    where
      mapped : slice_get (map (global_object setting.program) variables) o.index ≡ option_map (global_object setting.program) (slice_get variables o.index)
      mapped = slice_get-map (global_object setting.program) variables o.index

      by_global : (v : Option GlobalVar) → slice_get variables o.index ≡ v → o.birth ≡ 0 → slice_get (map (global_object setting.program) variables) o.index ≡ Some x → IsGlobal o x
      by_global None here zeroth found = let none = sym (mapped ∙ ap (option_map (global_object setting.program)) here) ∙ found in absurd cc
      by_global (Some g) here zeroth found =
          let one : Some (global_object setting.program g) ≡ Some x = sym (mapped ∙ ap (option_map (global_object setting.program)) here) ∙ found in
          record { birth = zeroth; g = g; there = here; same = cc }

      by_number : (n : ℕ) → o.birth ≡ n → object_in (slice_get (source_globals ∷ []) n) o.index ≡ Some x → IsGlobal o x
      by_number zero zeroth found = by_global (slice_get variables o.index) refl zeroth found
      by_number (suc n) later found = absurd cc

  -- its place in the story
  placed-object : (o : Obj) (x : Placed) → get_placed (told_globals ∷ []) o ≡ Some x → slice_get placed o.index ≡ Some x
  placed-object o x h = by_number o.birth h
    where
      by_number : (n : ℕ) → placed_in (slice_get (told_globals ∷ []) n) o.index ≡ Some x → slice_get placed o.index ≡ Some x
      by_number zero found = found
      by_number (suc n) found = absurd cc

  global-placed : (o : Obj) (x : SourceObject) (global : IsGlobal o x) (p : Placed) → get_placed (told_globals ∷ []) o ≡ Some p → placed_global e (setting.word 0) o.index global.g ≡ p
  global-placed o x global p at =
      let (g, there, same) = placed-is e (setting.word 0) o.index p (placed-object o p at) in
      let found : Some g ≡ Some global.g = sym there ∙ global.there in
      let one : g ≡ global.g = cc in
      ap (placed_global e (setting.word 0) o.index) (sym one) ∙ same

  descriptor-there : (k : ℕ) (g : GlobalVar) → slice_get variables k ≡ Some g → slice_get descriptors k ≡ Some (descriptor_of setting.places layouts variables (setting.word 0) k g)
  descriptor-there k g h = get-descriptors setting.places layouts variables (setting.word 0) k g h

  -- ---- pieces

  pointer-born : (index : ℕ) (g : GlobalVar) → slice_get variables index ≡ Some g → get_placed (told_globals ∷ []) (record { birth = 0; index = index }) ≡ Some (placed_global e (setting.word 0) index g)
  pointer-born index g h = slice_get-map global_placed descriptors index ∙ ap (option_map global_placed) (descriptor-there index g h)

  -- the bytes of a piece, by its value
  record IsValue (size : ℕ) (value : Operand) : Type 0 where
    count : length (part_bytes size value) ≡ size
    image : map (Rattle.tag_story.specs.Story.byte_image (told_globals ∷ [])) (part_bytes size value) ≡ le_bytes size (piece_number descriptors value)
    known : AreKnown (told_globals ∷ []) (part_bytes size value)

  number-value : (size n : ℕ) → IsValue size (Literal n)
  number-value size n = record { count = length-map _ _ ∙ length-le_bytes size n; image = data-image (told_globals ∷ []) (le_bytes size n); known = data-known (told_globals ∷ []) size n }

  each-value : (size : ℕ) (value : Operand) → IsPieceOf (length variables) size value → IsValue size value
  each-value size (Reg r) h = absurd h
  each-value size (Literal n) h = number-value size n
  each-value size Null h = let zeros = number-value size 0 in record { count = zeros.count; image = zeros.image; known = zeros.known }
  each-value size (Global index off) h =
      let (g, there) = get-below variables index h.1 in
      let born = pointer-born index g there in
      let o : Obj = record { birth = 0; index = index } in
      record {
        count = pointer-length (Object o) off ∙ sym h.0;
        image =
            pointer-image (told_globals ∷ []) (Object o) off
            ∙ ap (λ p. le_bytes 8 (Rattle.tag_story.specs.Story.number_in p off)) born
            ∙ ap (λ p. le_bytes 8 (Rattle.global_tags.specs.GlobalPlaces.number_of p off)) (sym (descriptor-there index g there))
            ∙ ap (λ n. le_bytes n (piece_number descriptors (Global index off))) (sym h.0);
        known = pointer-known (told_globals ∷ []) (Object o) off (placed_global e (setting.word 0) index g, born);
      }

  kept-size : (k : ℕ) (g : GlobalVar) → slice_get variables k ≡ Some g → alloc_size_of setting.program.types setting.program.fields g.ty ≡ global_size layouts g
  kept-size k g there =
      let runnable = all-at (Rattle.ir_core.specs.Runnable.IsRunnableGlobal setting.program) variables k g is.runnable.globals there in
      sym (ap (λ ls. layout_size (layout_at ls g.ty)) is.runnable.resolved.outside.layouts
      ∙ ap layout_size (layout_at-capped (exact_layouts setting.program.types setting.program.fields) g.ty)
      ∙ capped-size (layout_at (exact_layouts setting.program.types setting.program.fields) g.ty) runnable.size.small)

  pieces-of : (k : ℕ) (g : GlobalVar) → slice_get variables k ≡ Some g → ArePieces (told_globals ∷ []) descriptors (global_size layouts g) g.init
  pieces-of k g there j part h =
      let runnable = all-at (Rattle.ir_core.specs.Runnable.IsRunnableGlobal setting.program) variables k g is.runnable.globals there in
      let resolved = all-at (Rattle.ir_core.specs.Resolved.IsResolvedGlobal setting.program) variables k g is.runnable.resolved.outside.globals there in
      let within = all-at (IsPartWithin (length variables) (alloc_size_of setting.program.types setting.program.fields g.ty)) g.init j part (resolved.init runnable.fits runnable.size) h in
      let value = each-value part.size part.value within.piece in
      let inside = within.inside in
      let size = kept-size k g there in
      record { inside = omega (arith, inside, size); count = value.count; image = value.image; known = value.known }

  have-pieces : HavePieces (told_globals ∷ []) descriptors descriptors variables
  have-pieces k d g there here =
      let found : Some (descriptor_of setting.places layouts variables (setting.word 0) k g) ≡ Some d = sym (descriptor-there k g here) ∙ there in
      let same : descriptor_of setting.places layouts variables (setting.word 0) k g ≡ d = cc in
      subst (λ (x : Descriptor). ArePieces (told_globals ∷ []) descriptors x.size g.init) same (pieces-of k g here)

  -- ---- bytes

  mapped-there : (k : ℕ) (g : GlobalVar) (address : ℕ) → slice_get variables k ≡ Some g → (placed_global e (setting.word 0) k g).at ≤ address → address < (placed_global e (setting.word 0) k g).at + rounded_size (global_size layouts g) → list_any (is_in address) (ranges setting is) ≡ true
  mapped-there k g address there low high = global-mapped k g g.constant refl there address low high

  own-byte : (k : ℕ) (g : GlobalVar) (i : ℕ) (byte : SourceByte) → slice_get variables k ≡ Some g → slice_get (with_parts (replicate (global_size layouts g) (Data 0)) g.init) i ≡ Some byte
      → byte_at space.bytes ((placed_global e (setting.word 0) k g).at + i) ≡ Some (Rattle.tag_story.specs.Story.byte_image (told_globals ∷ []) byte)
  own-byte k g i byte there h =
      globals-image (told_globals ∷ []) descriptors empty_space descriptors variables have-pieces fresh k _ g (descriptor-there k g there) there
      (λ j zero_byte at.
      let is_zero = new-byte (global_size layouts g) j zero_byte at in
      let few = is_zero.1 in
      let whole = size-rounded (global_size layouts g) in
      start-zero setting is ((placed_global e (setting.word 0) k g).at + j) (mapped-there k g ((placed_global e (setting.word 0) k g).at + j) there (omega arith) (omega (arith, few, whole)))
      ∙ ap (λ b. Some (Rattle.tag_story.specs.Story.byte_image (told_globals ∷ []) b)) (sym is_zero.0))
      i byte h

  each-byte : (o : Obj) (x : SourceObject) (p : Placed) (i : ℕ) (byte : SourceByte) → get_object (source_globals ∷ []) o ≡ Some x → get_placed (told_globals ∷ []) o ≡ Some p → slice_get x.bytes i ≡ Some byte → byte_at space.bytes (p.at + i) ≡ Some (Rattle.tag_story.specs.Story.byte_image (told_globals ∷ []) byte)
  each-byte o x p i byte there at h =
      let global = source-object o x there in
      subst (λ (q : Placed). byte_at space.bytes (q.at + i) ≡ Some (Rattle.tag_story.specs.Story.byte_image (told_globals ∷ []) byte)) (global-placed o x global p at)
      (own-byte o.index global.g i byte global.there (ap (λ (y : SourceObject). slice_get y.bytes i) global.same ∙ h))

  each-last : (o : Obj) (x : SourceObject) (p : Placed) → get_object (source_globals ∷ []) o ≡ Some x → get_placed (told_globals ∷ []) o ≡ Some p → is_living x.life ≡ true → 0 < p.size % 16 → byte_at space.bytes (p.at + rounded_size p.size - 1) ≡ Some p.tag
  each-last o x p there at living short =
      let global = source-object o x there in
      let same = global-placed o x global p at in
      let some = (Rattle.tag_story.proofs.BirthPlaces.rounded-some (global_size layouts global.g)).0 in
      let own = placed_global e (setting.word 0) o.index global.g in
      subst (λ (q : Placed). byte_at space.bytes (q.at + rounded_size q.size - 1) ≡ Some q.tag) same
      (globals-last (told_globals ∷ []) descriptors empty_space descriptors variables have-pieces fresh o.index _ global.g (descriptor-there o.index global.g global.there) global.there
      (subst (λ (q : Placed). 0 < q.size % 16) (sym same) short)
      (ap is_some (start-zero setting is (own.at + rounded_size (global_size layouts global.g) - 1) (mapped-there o.index global.g (own.at + rounded_size (global_size layouts global.g) - 1) global.there (omega (arith, some)) (omega (arith, some))))))

  each-known : (o : Obj) (x : SourceObject) (i : ℕ) (byte : SourceByte) → get_object (source_globals ∷ []) o ≡ Some x → slice_get x.bytes i ≡ Some byte → Rattle.simulation.specs.Parts.IsKnownByte (told_globals ∷ []) byte
  each-known o x i byte there h =
      let global = source-object o x there in
      parts-known (told_globals ∷ []) descriptors (global_size layouts global.g) (replicate (global_size layouts global.g) (Data 0)) global.g.init (pieces-of o.index global.g global.there)
      (λ j other at. subst (Rattle.simulation.specs.Parts.IsKnownByte (told_globals ∷ [])) (sym (new-byte (global_size layouts global.g) j other at).0) (let small : 0 < 256 = omega arith in small))
      i byte (ap (λ (y : SourceObject). slice_get y.bytes i) global.same ∙ h)

  -- ---- tags

  many-descriptors : length variables ≡ length descriptors
  many-descriptors = sym (length-map _ _ ∙ count 0 variables)
    where
      count : (n : ℕ) (gs : List GlobalVar) → length (enumerate_from n gs) ≡ length gs
      count n [] = refl
      count n (g ∷ gs) = ap suc (count (n + 1) gs)

  tag-there : (k g : ℕ) (x : Placed) → slice_get placed k ≡ Some x → covers x g ≡ true → is_some (byte_at empty_space.shadow g) ≡ true
  unfolding owner_from freed_tag
  tag-there k g x h over =
      let inside = covers-in x g over in
      ap is_some (start-tags setting is g) ∙ ap (λ bit. is_some {T = ℕ} (if bit then Some 0 else None)) (in-map k x h (16 * g) inside.0 inside.1)

  pub each-tag : (g : ℕ) → byte_at space.shadow g ≡ memory_tag e (globals_told e no_story) g
  each-tag g = ap (λ shadow. byte_at shadow g) (globals-shadow descriptors empty_space empty_space descriptors variables many-descriptors refl) ∙ by_cover (one-or-none placed g)
    where
      by_cover : OneCovers placed g ⊎ CoverNot placed g → byte_at (Rattle.simulation.proofs.FreshMemory.with_all_fresh empty_space placed).shadow g ≡ memory_tag e (globals_told e no_story) g
      by_cover (inl one) =
          let (owner, (found, same)) = owned e (globals_told e no_story) g 0 one.k told_globals one.x laid (new-object one.k one.x one.there) refl one.over in
          all-tags empty_space placed one.k g one.x fresh one.there one.over (tag-there one.k g one.x one.there one.over)
          ∙ sym (ap (tag_by e [] g) found ∙ ap (λ (p : Placed). Some (owned_tag p g)) same)
      by_cover (inr none) =
          all-tags_other empty_space placed g (λ k x h. (fresh.aligned k x h, none k x h))
          ∙ start-tags setting is g
          ∙ ap (tag_by e [] g) (sym (from-pushed 0 [] told_globals g none))

  -- ---- what is related of the globals

  same-sizes : (n : ℕ) (gs : List GlobalVar) → map (λ (x : Placed). x.size) (map global_placed (map (λ numbered. descriptor_of setting.places layouts variables (setting.word 0) numbered.0 numbered.1) (enumerate_from n gs))) ≡ map (λ (x : SourceObject). x.size) (map (global_object setting.program) gs)
  same-sizes n [] = refl
  same-sizes n (g ∷ gs) = ap (λ sizes. global_size layouts g ∷ sizes) (same-sizes (n + 1) gs)

  globals-told-so : IsTold source_globals told_globals
  globals-told-so =
      record {
        region = refl;
        task = refl;
        born = refl;
        sizes = same-sizes 0 variables;
        lives = λ k x h. let global = source-object (record { birth = 0; index = k }) x h in ap (λ (y : SourceObject). y.life) (sym global.same);
      }

  each-told : (n : ℕ) (birth : Birth) (story : StoryBirth) → slice_get (source_globals ∷ []) n ≡ Some birth → slice_get (told_globals ∷ []) n ≡ Some story → IsTold birth story
  each-told zero birth story h there =
      let own : source_globals ≡ birth = cc in
      let same : told_globals ≡ story = cc in
      subst (λ b. IsTold b story) own (subst (IsTold source_globals) same globals-told-so)
  each-told (suc n) birth story h there = absurd cc

  has-bytes : (o : Obj) (x : SourceObject) → get_object (source_globals ∷ []) o ≡ Some x → HasItsBytes x
  has-bytes o x there =
      let global = source-object o x there in
      subst HasItsBytes global.same (length-with_parts (replicate (global_size layouts global.g) (Data 0)) global.g.init ∙ length-replicate (global_size layouts global.g) (Data 0))

  has-globals : (gs : List GlobalVar) → HasGlobals gs (told_globals ∷ []) descriptors
  has-globals [] = tt
  has-globals (g ∷ gs) = (told_globals, refl, refl, refl)

  pub mapped : Rattle.simulation.specs.Parts.IsMapped e space.bytes
  mapped address = globals-some descriptors empty_space descriptors variables address ∙ start-mapped setting is address

  pub objects-related : ObjectsRelated setting (source_globals ∷ []) (globals_told e no_story) space descriptors
  objects-related =
      record {
        told = record { count = refl; each = each-told };
        their_bytes = has-bytes;
        known = each-known;
        tags = each-tag;
        bytes = record { byte = each-byte; last = each-last };
        mapped = mapped;
        constants = λ o x p there at.
            let global = source-object o x there in
            let same = globals-constants descriptors empty_space descriptors variables in
            subst (λ end. LiesAsConstant x.constant space.constants_at end p) (sym same.1)
            (subst (λ from. LiesAsConstant x.constant from (setting.places.globals_at + constants_size layouts variables) p) (sym same.0)
            (subst (λ (q : Placed). LiesAsConstant x.constant setting.places.globals_at (setting.places.globals_at + constants_size layouts variables) q) (global-placed o x global p at)
            (where-global o.index global.g x.constant (ap (λ (y : SourceObject). y.constant) global.same) global.there)));
        globals = has-globals variables;
      }
