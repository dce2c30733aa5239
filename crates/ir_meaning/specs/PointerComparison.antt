-- Comparison of pointers (LLVM Language Reference, "'icmp' Instruction", which compares addresses). Here pointers have no
-- addresses: the answer is given where it is the same at all places that the objects could have, and there is none elsewhere.
-- This project's choice.
use Rattle.std.specs.Prelude.{ℕ, max, Bool, false, not, ◌&&◌, ◌==◌, nat_lt, nat_le, if◌then◌else◌, List, Option, Some, None, option_map}
use Rattle.hw_base.specs.declared.operators.Pred.{Pred}
use Rattle.hw_base.specs.declared.operators.Pred.TheVariants.{Eq, Ne, Ugt, Uge, Ult, Ule, Sgt, Sge, Slt, Sle}
use Rattle.hw_base.specs.declared.pointers.Base.{Base}
use Rattle.hw_base.specs.declared.pointers.Base.TheVariants.{Null, Object}
use Rattle.ir_arith.specs.Comparison.{compare_result}
use Rattle.ir_meaning.specs.Births.{SourceObject, Birth, is_living, get_object}
use Rattle.ir_meaning.specs.Encoding.{same_object}

-- a pointer into an object, at most at its end, differs from null
abbrev pub null_equal : Option SourceObject → ℕ → ℕ → Option Bool
null_equal None off null_off = None
null_equal (Some x) off null_off = if (null_off == 0) && nat_le off x.size then Some false else None

-- the pointer points at a byte of a living object, or at the start of an empty one
abbrev pub is_within : SourceObject → ℕ → Bool
is_within x off = is_living x.life && nat_lt off (max x.size 1)

-- pointers into two different living objects differ
abbrev pub objects_equal : Option SourceObject → ℕ → Option SourceObject → ℕ → Option Bool
objects_equal (Some x) a (Some y) b = if is_within x a && is_within y b then Some false else None
objects_equal x a y b = None

-- Whether two pointers are equal, or none where that hangs on addresses: with the same base their offsets are compared.
unfoldable pub pointers_equal : List Birth → Base → ℕ → Base → ℕ → Option Bool
pointers_equal births Null a Null b = Some (a == b)
pointers_equal births Null a (Object p) b = null_equal (get_object births p) b a
pointers_equal births (Object o) a Null b = null_equal (get_object births o) a b
pointers_equal births (Object o) a (Object p) b =
    if same_object o p then Some (a == b) else objects_equal (get_object births o) a (get_object births p) b

-- offsets within an object have the same order read as signed and as unsigned numbers
abbrev pub unsigned_code : Pred → Pred
unsigned_code Sgt = Ugt
unsigned_code Sge = Uge
unsigned_code Slt = Ult
unsigned_code Sle = Ule
unsigned_code pred = pred

-- both offsets are at most the size
abbrev pub offsets_ordered : Pred → Option SourceObject → ℕ → ℕ → Option Bool
offsets_ordered pred None a b = None
offsets_ordered pred (Some x) a b =
    if nat_le a x.size && nat_le b x.size then Some (compare_result (unsigned_code pred) 64 a b) else None

-- Whether two pointers stand in an order, or none where that hangs on addresses: within one object, up to its end, their offsets are
-- compared.
unfoldable pub pointers_ordered : List Birth → Pred → Base → ℕ → Base → ℕ → Option Bool
pointers_ordered births pred (Object o) a (Object p) b =
    if same_object o p then offsets_ordered pred (get_object births o) a b else None
pointers_ordered births pred base a other b = None

-- the comparison by its condition code
abbrev pub pointers_compared : List Birth → Pred → Base → ℕ → Base → ℕ → Option Bool
pointers_compared births Eq base a other b = pointers_equal births base a other b
pointers_compared births Ne base a other b = option_map not (pointers_equal births base a other b)
pointers_compared births pred base a other b = pointers_ordered births pred base a other b
