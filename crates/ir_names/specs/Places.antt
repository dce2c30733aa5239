-- Keys as the program keeps them, and the map from each to its first place.
use Rattle.std.specs.Prelude.{◌≡◌, ℕ, List, map, Option, None, Some, Vec}
use Rattle.std.specs.declared.alloc.Global.{Global}
use Rattle.std.specs.Ordering.{nat_cmp}
use Rattle.std.specs.Cmp.Lexicographic.{slice_cmp}
use Rattle.std.specs.BTreeMap.{BTreeMap, get_by}
use denote.Ref.{Bor}
use Rattle.ir_names.specs.Keys.{first_with}

-- the bytes of keys
abbrev pub keys_in : List (Vec ℕ Global) → List (List ℕ)
keys_in keys = map (λ key. key.items) keys

-- the first place, where there is one, else the second
abbrev pub place_or : Option ℕ → Option ℕ → Option ℕ
place_or None other = other
place_or (Some place) other = Some place

-- the place that the map has for a key
abbrev pub place_in : BTreeMap (Bor (List ℕ)) ℕ → List ℕ → Option ℕ
place_in places key = get_by (λ k. slice_cmp nat_cmp key k.now) places

-- the map has for each key the place of the first with it
abbrev pub IsIndex : BTreeMap (Bor (List ℕ)) ℕ → List (List ℕ) → Type 0
IsIndex places keys = (key : List ℕ) → place_in places key ≡ first_with key keys
