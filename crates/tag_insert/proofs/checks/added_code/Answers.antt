use Rattle.std.proofs.Common.{◌≡◌, sym, ap, ◌∙◌, subst}
use Rattle.ir_core.specs.declared.lib_functions.Lib.{Lib}
use Rattle.ir_core.specs.declared.operations.Op.{Op}
use Rattle.mi_code.specs.TagChecks.{added_code, library_checks}
use Rattle.tag_insert.specs.Additions.{added_ops}
use Rattle.tag_insert.proofs.checks.added_code.Goals as goal

pub returns-in-CallLib : goal.returns-in-CallLib
returns-in-CallLib c =
    let checks = c.library_checks.ensures ∙ ap (λ (function : Lib). library_checks function c.in-CallLib.args) c.lib_of.ensures in
    subst (λ (op : Op). added_ops c.library_checks.result ≡ added_code c.args.m.now c.args.sizes.now op) (sym c.in-CallLib.is) checks
