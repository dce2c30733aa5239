use Rattle.std.proofs.Common.{◌≡◌, ℕ, List, Bool, ◌++◌, ap, ◌∙◌}
use Rattle.std.specs.List.{flat_map}
use Rattle.ir_grammar.specs.Spelled.{Store, store_of}
use Rattle.ir_grammar.specs.declared.spelled.SpelledItem.{SpelledItem}
use Rattle.ir_grammar.specs.declared.spelled.SpelledType.{SpelledType}
use Rattle.ir_grammar.specs.declared.spelled.SpelledConstant.{SpelledConstant}
use Rattle.ir_grammar.specs.declared.spelled.SpelledParameter.{SpelledParameter}
use Rattle.ir_names.specs.declared.fault.NameFault.{NameFault}
use Rattle.ir_names.specs.First.{first_fault}
use Rattle.ir_names.specs.Faults.{definitions_faults, declare_faults, type_faults, constants_faults, faults_by}
use Rattle.ir_names.specs.Starts.{start_marks}
use Rattle.ir_names.proofs.First.{in_parts, if_same}
use Rattle.ir_names.proofs.resolve.first_fault.Goals as goal

slices : (source : List ℕ) (keys : List (List ℕ)) (items : List SpelledItem) (store : Store) (ps : List SpelledParameter) (ts : List SpelledType) (marks : List Bool) (ks : List SpelledConstant)
    → ps ≡ store.parameters → ts ≡ store.types → marks ≡ start_marks source keys items store → ks ≡ store.constants
    → first_fault (definitions_faults source keys 0 items ++ flat_map (declare_faults source ps) items ++ flat_map (type_faults source keys items) ts ++ constants_faults source keys items marks 0 ks)
    ≡ first_fault (faults_by source keys items store)
slices source keys items store ps ts marks ks p t m k =
    let own : List NameFault = definitions_faults source keys 0 items in
    ap (λ xs. first_fault (own ++ flat_map (declare_faults source xs) items ++ flat_map (type_faults source keys items) ts ++ constants_faults source keys items marks 0 ks)) p
    ∙ ap (λ xs. first_fault (own ++ flat_map (declare_faults source store.parameters) items ++ flat_map (type_faults source keys items) xs ++ constants_faults source keys items marks 0 ks)) t
    ∙ ap (λ xs. first_fault (own ++ flat_map (declare_faults source store.parameters) items ++ flat_map (type_faults source keys items) store.types ++ constants_faults source keys items xs 0 ks)) m
    ∙ ap (λ xs. first_fault (own ++ flat_map (declare_faults source store.parameters) items ++ flat_map (type_faults source keys items) store.types ++ constants_faults source keys items (start_marks source keys items store) 0 xs)) k

pub returns : goal.returns
returns c =
    let source : List ℕ = c.args.source.now in
    let keys : List (List ℕ) = c.args.index.now in
    let items : List SpelledItem = c.args.items.now in
    let parts = in_parts (definitions_faults source keys 0 items) (flat_map (declare_faults source c.as_slice-parameters.result.now) items) (flat_map (type_faults source keys items) c.as_slice.result.now) (constants_faults source keys items c.as_slice-2.result.now 0 c.as_slice-3.result.now)
    c.in_ok-own.own c.in_ok-declares.declares c.in_ok-types.types c.in_ok-own.ensures c.in_ok-declares.ensures c.in_ok-types.ensures in
    let whole = parts ∙ slices source keys items (store_of c.args.found.now) c.as_slice-parameters.result.now c.as_slice.result.now c.as_slice-2.result.now c.as_slice-3.result.now c.as_slice-parameters.ensures.value c.as_slice.ensures.value (c.as_slice-2.ensures.value ∙ c.in_ok-marks.ensures) c.as_slice-3.ensures.value in
    if_same c.beside_constants.result _ _ whole c.beside_constants.ensures
