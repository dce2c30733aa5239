use Rattle.std.proofs.Common.{[], ◌∷◌, subst, append_assoc}
use Rattle.ir_grammar.specs.Rules.{base, list, Derives}
use Rattle.ir_grammar.specs.Names.{block, shared}
use Rattle.ir_grammar.specs.Grammar.{production, nesting_limit}
use Rattle.ir_grammar.specs.Blocks.{function_body}
use Rattle.ir_grammar.proofs.Sound.{all_sound}
use Rattle.ir_grammar.proofs.Complete.{again_read}
use Rattle.ir_grammar.proofs.Viable.{begins_before}
use Rattle.ir_grammar.proofs.Grown.{stuck, no_whole}
use Rattle.ir_grammar.proofs.Deeper.{bracket_begins, too_few_levels}
use Rattle.ir_grammar.proofs.Causes.{unsupported_form}
use Rattle.ir_grammar.proofs.Unsupported.{form_unsupported}
use Rattle.ir_grammar.proofs.WellFormed.{well_formed}
use Rattle.ir_read_body.proofs.BodyClear.{body_clear, body_goes_on, body_has, body_ends}
use Rattle.ir_read_body.proofs.laws.bodies_are_derived.Goals as goal

pub returns-clause-read : goal.returns-clause-read
returns-clause-read c = λ tokens store x h. all_sound shared production nesting_limit (list (base block)) function_body tokens store x h

pub returns-clause-complete : goal.returns-clause-complete
returns-clause-complete c = λ front rest before blocks after d. again_read shared production well_formed nesting_limit (list (base block)) function_body front before blocks after d body_clear rest (body_ends rest)

pub returns-clause-before : goal.returns-clause-before
returns-clause-before c = λ tokens store e h. begins_before shared production well_formed nesting_limit (list (base block)) function_body tokens store e body_goes_on body_has h

pub returns-clause-at : goal.returns-clause-at
returns-clause-at c = λ front token rest store e h at other begun.
    let (k, more, x, end, d) = begun in
    stuck shared production well_formed nesting_limit (list (base block)) function_body front token rest store e body_clear body_goes_on h at other k more x end
    (subst (λ v. Derives shared production k (list (base block)) function_body v store x end) (append_assoc front (token ∷ []) more) d)

pub returns-clause-whole : goal.returns-clause-whole
returns-clause-whole c = λ tokens store e h other levels blocks after d. no_whole shared production well_formed nesting_limit (list (base block)) function_body tokens store e body_clear h other levels blocks after d

pub returns-clause-nesting : goal.returns-clause-nesting
returns-clause-nesting c = λ front token rest store e failed at n. bracket_begins shared production well_formed nesting_limit (list (base block)) function_body front token rest store e body_goes_on body_has failed at n

pub returns-clause-levels : goal.returns-clause-levels
returns-clause-levels c = λ front token rest store e failed at more blocks after d. too_few_levels shared production well_formed nesting_limit (list (base block)) function_body front token rest store e body_clear body_goes_on failed at more blocks after d

pub returns-clause-unsupported : goal.returns-clause-unsupported
returns-clause-unsupported c = λ tokens store e failed u. unsupported_form shared production nesting_limit (list (base block)) function_body tokens store e failed u

pub returns-clause-listed : goal.returns-clause-listed
returns-clause-listed c = λ front token rest store e failed at other d. form_unsupported shared production well_formed nesting_limit (list (base block)) function_body front token rest store e body_clear body_goes_on failed at other d
