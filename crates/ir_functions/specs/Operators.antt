-- The operators that words of instructions spell (LLVM Language Reference, "Binary Operations", "Bitwise Binary Operations",
-- "'icmp' Instruction", "Conversion Operations", "'atomicrmw' Instruction"). The grammar takes no other words there.
use Rattle.std.specs.Prelude.{ℕ, List, if◌then◌else◌, codes}
use Rattle.std.specs.Str.{bytes_eq}
use Rattle.hw_base.specs.declared.operators.BinOp.{BinOp}
use Rattle.hw_base.specs.declared.operators.BinOp.TheVariants as binary
use Rattle.hw_base.specs.declared.operators.Pred.{Pred}
use Rattle.hw_base.specs.declared.operators.Pred.TheVariants as pred
use Rattle.hw_base.specs.declared.operators.CastOp.{CastOp}
use Rattle.hw_base.specs.declared.operators.CastOp.TheVariants as cast
use Rattle.hw_base.specs.declared.operators.RmwOp.{RmwOp}
use Rattle.hw_base.specs.declared.operators.RmwOp.TheVariants as rmw

-- operators of bits
abbrev pub bitwise_operator : List ℕ → BinOp
bitwise_operator word =
    if bytes_eq word (codes "shl") then binary.Shl else (
    if bytes_eq word (codes "lshr") then binary.LShr else (
    if bytes_eq word (codes "ashr") then binary.AShr else (
    if bytes_eq word (codes "and") then binary.And else (
    if bytes_eq word (codes "or") then binary.Or else binary.Xor))))

-- operators of two integers
abbrev pub binary_operator : List ℕ → BinOp
binary_operator word =
    if bytes_eq word (codes "add") then binary.Add else (
    if bytes_eq word (codes "sub") then binary.Sub else (
    if bytes_eq word (codes "mul") then binary.Mul else (
    if bytes_eq word (codes "udiv") then binary.UDiv else (
    if bytes_eq word (codes "sdiv") then binary.SDiv else (
    if bytes_eq word (codes "urem") then binary.URem else (
    if bytes_eq word (codes "srem") then binary.SRem else bitwise_operator word))))))

-- predicates of comparisons
abbrev pub predicate : List ℕ → Pred
predicate word =
    if bytes_eq word (codes "eq") then pred.Eq else (
    if bytes_eq word (codes "ne") then pred.Ne else (
    if bytes_eq word (codes "ugt") then pred.Ugt else (
    if bytes_eq word (codes "uge") then pred.Uge else (
    if bytes_eq word (codes "ult") then pred.Ult else (
    if bytes_eq word (codes "ule") then pred.Ule else (
    if bytes_eq word (codes "sgt") then pred.Sgt else (
    if bytes_eq word (codes "sge") then pred.Sge else (
    if bytes_eq word (codes "slt") then pred.Slt else pred.Sle))))))))

-- conversions of integers
abbrev pub cast_operator : List ℕ → CastOp
cast_operator word =
    if bytes_eq word (codes "trunc") then cast.Trunc else (if bytes_eq word (codes "zext") then cast.ZExt else cast.SExt)

-- operators of `atomicrmw` by order
abbrev pub order_operator : List ℕ → RmwOp
order_operator word =
    if bytes_eq word (codes "max") then rmw.Max else (
    if bytes_eq word (codes "min") then rmw.Min else (
    if bytes_eq word (codes "umax") then rmw.UMax else rmw.UMin))

-- operators of `atomicrmw`
abbrev pub rmw_operator : List ℕ → RmwOp
rmw_operator word =
    if bytes_eq word (codes "xchg") then rmw.Xchg else (
    if bytes_eq word (codes "add") then rmw.Add else (
    if bytes_eq word (codes "sub") then rmw.Sub else (
    if bytes_eq word (codes "and") then rmw.And else (
    if bytes_eq word (codes "nand") then rmw.Nand else (
    if bytes_eq word (codes "or") then rmw.Or else (
    if bytes_eq word (codes "xor") then rmw.Xor else order_operator word))))))
