use Rattle.std.proofs.Common.{[], ◌∷◌, subst, append_assoc}
use Rattle.ir_grammar.specs.Rules.{Derives}
use Rattle.ir_grammar.specs.Names.{shared}
use Rattle.ir_grammar.specs.Grammar.{production}
use Rattle.ir_grammar.proofs.Sound.{all_sound}
use Rattle.ir_grammar.proofs.Complete.{again_read}
use Rattle.ir_grammar.proofs.Viable.{begins_before}
use Rattle.ir_grammar.proofs.Grown.{stuck, no_whole}
use Rattle.ir_grammar.proofs.Deeper.{bracket_begins, too_few_levels}
use Rattle.ir_grammar.proofs.Causes.{unsupported_form}
use Rattle.ir_grammar.proofs.Unsupported.{form_unsupported, no_bad_first}
use Rattle.ir_grammar.proofs.WellFormed.{well_formed}
use Rattle.ir_grammar.proofs.laws.reading_is_deriving.Goals as goal

pub returns-clause-sound : goal.returns-clause-sound
returns-clause-sound c = λ levels s a ts st x h. all_sound shared production levels s a ts st x h

pub returns-clause-complete : goal.returns-clause-complete
returns-clause-complete c = λ levels s a front rest st x end clear d follow. again_read shared production well_formed levels s a front st x end d clear rest follow

pub returns-clause-before : goal.returns-clause-before
returns-clause-before c = λ levels s a ts st e g has_one h. begins_before shared production well_formed levels s a ts st e g has_one h

pub returns-clause-at : goal.returns-clause-at
returns-clause-at c = λ levels s a front token rest st e clear g failed at other begun.
    let (k, more, x, end, d) = begun in
    stuck shared production well_formed levels s a front token rest st e clear g failed at other k more x end
    (subst (λ v. Derives shared production k s a v st x end) (append_assoc front (token ∷ []) more) d)

pub returns-clause-whole : goal.returns-clause-whole
returns-clause-whole c = λ levels s a ts st e clear failed other k x end d. no_whole shared production well_formed levels s a ts st e clear failed other k x end d

pub returns-clause-nesting : goal.returns-clause-nesting
returns-clause-nesting c = λ levels s a front token rest st e g has_one failed at n. bracket_begins shared production well_formed levels s a front token rest st e g has_one failed at n

pub returns-clause-levels : goal.returns-clause-levels
returns-clause-levels c = λ levels s a front token rest st e clear g failed at more x end d. too_few_levels shared production well_formed levels s a front token rest st e clear g failed at more x end d

pub returns-clause-unsupported : goal.returns-clause-unsupported
returns-clause-unsupported c = λ levels s a ts st e failed u. unsupported_form shared production levels s a ts st e failed u

pub returns-clause-listed : goal.returns-clause-listed
returns-clause-listed c = λ levels s a front token rest st e clear g failed at other d. form_unsupported shared production well_formed levels s a front token rest st e clear g failed at other d

pub returns-clause-first : goal.returns-clause-first
returns-clause-first c = λ levels s a token rest st e clear g k failed at b. no_bad_first shared production well_formed levels s a token rest st e clear g k failed at b
