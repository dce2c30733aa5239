-- The memory tags of an object's granules (Clang, "Hardware-assisted AddressSanitizer Design Documentation", "Algorithm" and
-- "Short granules"; that an empty object has the memory tag 0 is this project's choice). An object begins at a granule's
-- first address, and takes its size rounded up to a multiple of 16, and at least 16 bytes.
use Rattle.std.specs.Prelude.{ℕ, zero, suc, ◌+◌, ◌*◌, ◌/◌, ◌%◌, nat_le, ◌==◌, if◌then◌else◌, List, [], ◌∷◌, ◌++◌, replicate}

-- granule k of an object, counted from 0, has the object's tag if it lies wholly inside it; the granule with the
-- object's end has the number of the object's bytes in it
abbrev pub tag_in : (size tag k : ℕ) → ℕ
tag_in size tag k = if nat_le (16 * k + 16) size then tag else size % 16

-- the tag of the granule with the end of an object, if it isn't wholly inside the object
abbrev pub short_granule : ℕ → List ℕ
short_granule zero = 0 ∷ []
short_granule (suc n) = if suc n % 16 == 0 then [] else suc n % 16 ∷ []

-- the tags of all granules of an object of this size and tag, in order
abbrev pub object_tags : (size tag : ℕ) → List ℕ
object_tags size tag = replicate (size / 16) tag ++ short_granule size
