use Rattle.accepted_detection.proofs.Always.{prints-as-source, prints-as-others}
use Rattle.accepted_detection.proofs.laws.faultless_accepted_programs_print_the_same.Goals as goal

pub returns-clause-as_source : goal.returns-clause-as_source
returns-clause-as_source c setting turns bound is accepted room clean = prints-as-source setting turns bound is accepted room clean

pub returns-clause-all_words : goal.returns-clause-all_words
returns-clause-all_words c setting other turns bound is accepted room clean = prints-as-others setting turns bound is accepted other room clean
