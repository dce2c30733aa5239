-- What a text comes to, by how it is accepted.
use Rattle.std.proofs.Common.{◌≡◌, ℕ, List, length, true, false, refl, inl, inr, Ok, arith}
use Rattle.std.specs.Prelude.{nat_le}
use Rattle.std.proofs.lemmas.Bool.Decides.{nat_tests}
use Rattle.ir_core.specs.declared.ir_module.Module.{Module}
use Rattle.ir_core.specs.declared.refusals.Refusal.{Refusal}
use Rattle.ir_accept.specs.Accepted.{IsAcceptedAs, IsFaulty}
use Rattle.hw_base.specs.declared.numbers.TheConstants.{MOST_TEXT}
use Rattle.hw_ports.specs.Content.{Content, Unobservable, Absent, Bytes, Reads}
use Rattle.hw_ports.specs.declared.ports.FileText.{FileText}
use Rattle.hw_ports.specs.declared.ports.FileText.TheVariants as file_text
use Rattle.hw_driver.specs.Line.{Line}
use Rattle.hw_driver.specs.Answer.{Decision, ReadsAs, Whole, TooLong, JudgesText, JudgesModule, refused_decision, seen, too_long}

-- a text that is accepted is judged as its module
pub JudgesText-module : (l : Line) (text : List ℕ) (m : Module) (d : Decision) → IsAcceptedAs text m → JudgesModule l m d → JudgesText l (Whole text) d
JudgesText-module l text m d accepted (inl (built, run)) = inl (record { m = m; accepted = (accepted, built); run = run })
JudgesText-module l text m d accepted (inr (refusal, unbuilt, is)) = inr (record { refusal = refusal; refused = inr (m, accepted, unbuilt); decision = is })

pub JudgesText-faulty : (l : Line) (text : List ℕ) (refusal : Refusal) (d : Decision) → IsFaulty text refusal → d ≡ refused_decision refusal → JudgesText l (Whole text) d
JudgesText-faulty l text refusal d faulty is = inr (record { refusal = refusal; refused = inl faulty; decision = is })

pub judged_too_long : (l : Line) (d : Decision) → d ≡ refused_decision too_long → JudgesText l TooLong d
judged_too_long l d is = inr (record { refusal = too_long; refused = refl; decision = is })

-- a file that was read reads so
pub reads_seen : (content : Content) (read : FileText) (text : List ℕ) → Reads content MOST_TEXT (Ok read) text → ReadsAs content (seen read text)
reads_seen Unobservable read text h = tt
reads_seen Absent read text h = h
reads_seen (Bytes bytes) file_text.Whole text h =
    let most = h.1 in
    let test : nat_le (length bytes) MOST_TEXT ≡ true = grind (arith, nat_tests, most) in
    rw (h.0, test) refl
reads_seen (Bytes bytes) file_text.Longer text h =
    let test : nat_le (length bytes) MOST_TEXT ≡ false = grind (arith, nat_tests, h) in
    rw test refl
