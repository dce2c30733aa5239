-- One tag in all granules of a run, a granule at a time.
use Rattle.std.proofs.Common.{◌≡◌, ◌≢◌, ℕ, ◌+◌, ◌<◌, ◌≤◌, Bool, true, false, List, length, get_or, take, drop, Some, sym, ◌∙◌, ap, arith}
use Rattle.std.specs.Prelude.{slice_get, ◌==◌, ◌&&◌}
use Rattle.std.specs.List.{list_all}
use Rattle.std.proofs.lemmas.List.{get_or-take, get_or-drop, length-take-le, length-drop}
use Rattle.std.proofs.lemmas.List.Folds.{list_all_more, list_all_at}
use Rattle.std.proofs.lemmas.Option.{slice_get-get_or}
use Rattle.std.proofs.lemmas.Bool.Decides.{nat_tests}
use Rattle.hw_region.specs.RegionBytes.{bytes_from}

-- the granule of a run
run_get_or : (tags : List ℕ) (first count i x : ℕ) → first + count ≤ length tags → i < count → Some x ≡ slice_get tags (first + i)
    → get_or (bytes_from tags first count) i 0 ≡ x
run_get_or tags first count i x inside below e =
    let there : slice_get tags (first + i) ≡ Some (get_or tags (first + i) 0) = slice_get-get_or tags (first + i) 0 (omega (arith, inside, below)) in
    let same : get_or tags (first + i) 0 ≡ x = cc in
    get_or-take count (drop first tags) i 0 below ∙ get_or-drop first tags i 0 ∙ same

length-run : (tags : List ℕ) (first count : ℕ) → first + count ≤ length tags → length (bytes_from tags first count) ≡ count
length-run tags first count inside = length-take-le count (drop first tags) (omega (arith, inside, length-drop first tags))

-- one granule more has the tag
pub same_tag_more : (tags : List ℕ) (first count i tag x : ℕ) → first + count ≤ length tags → i < count → Some x ≡ slice_get tags (first + i) → x ≡ tag
    → list_all (λ t. t == tag) (take i (bytes_from tags first count)) ≡ true
    → list_all (λ t. t == tag) (take (i + 1) (bytes_from tags first count)) ≡ true
same_tag_more tags first count i tag x inside below e same so_far =
    let run : List ℕ = bytes_from tags first count in
    let here : get_or run i 0 ≡ tag = run_get_or tags first count i x inside below e ∙ same in
    let last : (get_or run i 0 == tag) ≡ true = grind (arith, nat_tests) in
    list_all_more (λ t. t == tag) run i 0 (omega (arith, length-run tags first count inside, below))
    ∙ (ap (λ (b : Bool). b && (get_or run i 0 == tag)) so_far ∙ last)

-- a granule with another tag settles it
pub other_tag : (tags : List ℕ) (first count i tag x : ℕ) → first + count ≤ length tags → i < count → Some x ≡ slice_get tags (first + i) → x ≢ tag
    → false ≡ list_all (λ t. t == tag) (bytes_from tags first count)
other_tag tags first count i tag x inside below e other =
    let run : List ℕ = bytes_from tags first count in
    let here : get_or run i 0 ≡ x = run_get_or tags first count i x inside below e in
    let apart : get_or run i 0 ≢ tag = λ h. other (sym here ∙ h) in
    let test : (get_or run i 0 == tag) ≡ false = grind (arith, nat_tests) in
    sym (list_all_at (λ t. t == tag) run i 0 (omega (arith, length-run tags first count inside, below)) test)
