use Rattle.std.proofs.Common.{[], ◌∷◌, ◌++◌, sym, ◌∙◌, ap, subst, append_assoc, append-nil}
use Rattle.ir_grammar.specs.Rules.{nothing, Derives}
use Rattle.ir_grammar.specs.Names.{shared}
use Rattle.ir_grammar.specs.Grammar.{production, nesting_limit}
use Rattle.ir_grammar.proofs.Viable.{begins_before}
use Rattle.ir_grammar.proofs.Grown.{stuck, no_whole}
use Rattle.ir_grammar.proofs.Deeper.{bracket_begins, too_few_levels}
use Rattle.ir_grammar.proofs.Causes.{unsupported_form}
use Rattle.ir_grammar.proofs.Unsupported.{form_unsupported}
use Rattle.ir_grammar.proofs.WellFormed.{well_formed}
use Rattle.ir_read_items.specs.Items.{module_rule}
use Rattle.ir_read_body.specs.BodyReading.{nothing_read}
use Rattle.ir_read_items.specs.ItemReading.{spelled}
use Rattle.ir_read_items.proofs.ModuleClear.{module_clear, module_goes_on, module_has}
use Rattle.ir_read_items.proofs.Spelled.{module_spelled, spelled_failed, text_is_module}
use Rattle.ir_read_items.proofs.laws.texts_are_modules.Goals as goal

pub returns-clause-read : goal.returns-clause-read
returns-clause-read c = λ source tokens end store h. text_is_module source tokens end store h

pub returns-clause-complete : goal.returns-clause-complete
returns-clause-complete c = λ tokens store d. ap spelled (sym (append-nil tokens)) ∙ module_spelled tokens [] store d

pub returns-clause-before : goal.returns-clause-before
returns-clause-before c = λ tokens e h. begins_before shared production well_formed nesting_limit nothing module_rule tokens nothing_read e module_goes_on module_has (spelled_failed tokens e h)

pub returns-clause-at : goal.returns-clause-at
returns-clause-at c = λ front token rest e h at other begun.
    let (k, more, x, end, d) = begun in
    stuck shared production well_formed nesting_limit nothing module_rule front token rest nothing_read e module_clear module_goes_on (spelled_failed (front ++ token ∷ rest) e h) at other k more x end
    (subst (λ v. Derives shared production k nothing module_rule v nothing_read x end) (append_assoc front (token ∷ []) more) d)

pub returns-clause-whole : goal.returns-clause-whole
returns-clause-whole c = λ tokens e h other levels store d. no_whole shared production well_formed nesting_limit nothing module_rule tokens nothing_read e module_clear (spelled_failed tokens e h) other levels tt store d

pub returns-clause-nesting : goal.returns-clause-nesting
returns-clause-nesting c = λ front token rest e h at n. bracket_begins shared production well_formed nesting_limit nothing module_rule front token rest nothing_read e module_goes_on module_has (spelled_failed (front ++ token ∷ rest) e h) at n

pub returns-clause-levels : goal.returns-clause-levels
returns-clause-levels c = λ front token rest e h at more store d. too_few_levels shared production well_formed nesting_limit nothing module_rule front token rest nothing_read e module_clear module_goes_on (spelled_failed (front ++ token ∷ rest) e h) at more tt store d

pub returns-clause-unsupported : goal.returns-clause-unsupported
returns-clause-unsupported c = λ tokens e h u. unsupported_form shared production nesting_limit nothing module_rule tokens nothing_read e (spelled_failed tokens e h) u

pub returns-clause-listed : goal.returns-clause-listed
returns-clause-listed c = λ front token rest e h at other d. form_unsupported shared production well_formed nesting_limit nothing module_rule front token rest nothing_read e module_clear module_goes_on (spelled_failed (front ++ token ∷ rest) e h) at other d
