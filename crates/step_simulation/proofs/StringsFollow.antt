-- The machine checks and reads strings as the source does, byte by byte.
use Rattle.std.proofs.Common.{◌≡◌, ℕ, zero, suc, ◌+◌, ◌%◌, ◌^◌, ◌<◌, ◌==◌, Bool, true, false, List, [], ◌∷◌, ◌++◌, length, map, Option, Some, None, option_map, Result, Ok, Err, refl, sym, ◌∙◌, ap, subst, arith}
use Rattle.std.proofs.lemmas.Bool.Decides.{nat_tests}
use Rattle.hw_base.specs.TaggedAddress.{address_of}
use Rattle.hw_base.specs.declared.accesses.Access.TheVariants.{Read}
use Rattle.hw_base.specs.declared.pointers.Base.{Base}
use Rattle.hw_shadow.specs.declared.mismatch.Mismatch.{Mismatch}
use Rattle.hw_tags.specs.TaskRuns.{Stuck}
use Rattle.ir_core.specs.declared.ir_module.Function.{Function}
use Rattle.ir_lib.proofs.ScanLemmas.{checked_string-more}
use Rattle.ir_lib.proofs.StringLemmas.{checked_string-ok}
use Rattle.ir_lib.specs.Strings as memory
use Rattle.ir_lib.specs.Strings.{checked_from, checked_string, after_checked, scan_bound, next_byte, unmapped_at}
use Rattle.ir_lib.specs.declared.string_fault.StringFault.{StringFault}
use Rattle.ir_machine.specs.CheckSteps.{on_checked, str_step}
use Rattle.ir_machine.specs.Operands.{number_in as machine_number, pointer_in}
use Rattle.ir_machine.specs.State.{MachineSetting, MachineSeen, MachineOutcome}
use Rattle.ir_machine.specs.StepEnds.{advanced, chain_known, gives_to, prints}
use Rattle.ir_machine.specs.TextFunctions as machine
use Rattle.ir_machine.specs.declared.found.Found.TheVariants.{Memory}
use Rattle.ir_meaning.specs.AccessRule.{AccessAnswer, Fine, Violates, WritesConstant, IsOutside, NoAnswer, accessed, access_answer}
use Rattle.ir_meaning.specs.Births.{bytes_at}
use Rattle.ir_meaning.specs.LibraryCalls.{on_string}
use Rattle.ir_meaning.specs.Operands.{with_pointer}
use Rattle.ir_meaning.specs.State.{SourceOutcome, printing}
use Rattle.ir_meaning.specs.StepEnds.{on_answer, violation_of, gives, gives_with}
use Rattle.ir_meaning.specs.Strings.{StringAnswer, Whole, Refused, MeetsPiece, NotEnded, byte_before, by_byte, by_access, string_from, string_at, base_size}
use Rattle.ir_meaning.specs.Values.{Value, Integer, Address, SourceByte, Data, Piece}
use Rattle.mi_code.specs.MachineOperands.{call_result}
use Rattle.mi_code.specs.declared.operands.MiOperand.{MiOperand}
use Rattle.tag_story.specs.Judging.{judged, access_judged, refusing_by}
use Rattle.tag_story.specs.Story.{number_of, byte_image}
use Rattle.tag_story.specs.Telling.{all_told}
use Rattle.tag_story.specs.ToldRun.{ToldSeen, source_seen}
use Rattle.tag_story.specs.declared.judgement.Judgement.{Judgement}
use Rattle.tag_story.specs.declared.judgement.Judgement.TheVariants.{Passes, Refused as JudgedRefused}
use Rattle.tbi_memory.specs.AddressSpace.{check, read}
use Rattle.tbi_memory.specs.MappedBytes.{byte_at, after_byte}
use Rattle.step_simulation.proofs.ArithmeticFollows.{IsOperandOf}
use Rattle.step_simulation.proofs.CheckFollows.{reported}
use Rattle.step_simulation.proofs.CheckedAccess.{read-writes-nothing, inside-unchecked}
use Rattle.simulation.proofs.ChecksAgree.{checks-judged}
use Rattle.step_simulation.proofs.LibraryParts.{pointer-named, gives_to-follows, prints-follows}
use Rattle.step_simulation.proofs.LoadFollows.{pointer-is}
use Rattle.step_simulation.proofs.PlainSteps.{FollowsIn, IsBeforeNext, own_site}
use Rattle.step_simulation.proofs.PointerFollows.{further}
use Rattle.step_simulation.proofs.PointerLoads.{fine-length}
use Rattle.simulation.proofs.ReadImages.{fine-read}
use Rattle.simulation.specs.Checks.{FindsJudged, lies_inside, refusing_found}
use Rattle.step_simulation.specs.Following.{FollowsJudged}
use Rattle.simulation.specs.Relation.{IsSetting, SeenLike, story_setting}
use Rattle.tbi_memory.specs.declared.mem_fault.MemFault.{MemFault}
use Rattle.tbi_memory.specs.declared.mem_fault.MemFault.TheVariants.{Unmapped}

-- a read of one byte
abbrev one_read : Option ℕ → (address : ℕ) → Result (List ℕ) MemFault
one_read byte address = elim byte [ None ↦ Err (Unmapped address) | Some b ↦ after_byte b (Ok []) ]

-- the string ends at a byte, or goes on after it
abbrev whole_or : (ends : Bool) → Result (List ℕ) StringFault → Result (List ℕ) StringFault
whole_or ends later = elim ends [ true ↦ Ok [] | false ↦ later ]

-- ---- what a check of a string finds, beside what the source says of it

module _ (setting : MachineSetting) (t : ToldSeen) (m : MachineSeen) (is : IsSetting setting) (like : SeenLike setting t m) where
  -- a byte that the rule refuses is what the check finds, if the tag rule refuses it too
  abbrev pub FindsByte : (number : ℕ) → Judgement → Result (List ℕ) StringFault → Type 0
  FindsByte number (Passes coincidence) r = Unit {0}
  FindsByte number (JudgedRefused refused) r = (found : Mismatch) × (r ≡ Err (record { at = number; found = found })) × (refusing_by found ≡ refused)

  abbrev pub FindsRefused : Base → (off : ℕ) → AccessAnswer → Result (List ℕ) StringFault → Type 0
  FindsRefused base off Fine r = Unit {0}
  FindsRefused base off (Violates kind) r = FindsByte (number_of t.shared.story.births base off) (access_judged (story_setting setting) t.shared.story t.shared.source.births (number_of t.shared.story.births base off) 1) r
  FindsRefused base off WritesConstant r = ⊥
  FindsRefused base off (IsOutside reason) r = Unit {0}
  FindsRefused base off NoAnswer r = Unit {0}

  abbrev pub FindsString : Base → StringAnswer → Result (List ℕ) StringFault → Type 0
  FindsString base (Whole ns) r = r ≡ Ok ns
  FindsString base (Refused off refusal) r = FindsRefused base off refusal r
  FindsString base MeetsPiece r = Unit {0}
  FindsString base NotEnded r = Unit {0}

  -- one more byte before
  byte-judged : (number n : ℕ) (judgement : Judgement) (r : Result (List ℕ) StringFault) → FindsByte number judgement r → FindsByte number judgement (after_checked n r)
  byte-judged number n (Passes coincidence) r h = tt
  byte-judged number n (JudgedRefused refused) r h = (h.0, ap (after_checked n) h.1, h.2)

  refused-later : (base : Base) (off n : ℕ) (answer : AccessAnswer) (r : Result (List ℕ) StringFault) → FindsRefused base off answer r → FindsRefused base off answer (after_checked n r)
  refused-later base off n Fine r h = tt
  refused-later base off n (Violates kind) r h = byte-judged (number_of t.shared.story.births base off) n (access_judged (story_setting setting) t.shared.story t.shared.source.births (number_of t.shared.story.births base off) 1) r h
  refused-later base off n WritesConstant r h = h
  refused-later base off n (IsOutside reason) r h = tt
  refused-later base off n NoAnswer r h = tt

  string-later : (base : Base) (n : ℕ) (answer : StringAnswer) (r : Result (List ℕ) StringFault) → FindsString base answer r → FindsString base (byte_before n answer) (after_checked n r)
  string-later base n (Whole ns) r h = ap (after_checked n) h
  string-later base n (Refused off refusal) r h = refused-later base off n refusal r h
  string-later base n MeetsPiece r h = tt
  string-later base n NotEnded r h = tt

  -- ---- one byte

  -- the check of a byte, and what is done with it
  abbrev checked_at : Option Mismatch → Option ℕ → (number : ℕ) → Result (List ℕ) StringFault → Result (List ℕ) StringFault
  checked_at found byte number later =
      elim found [
        | Some one ↦ Err (record { at = number; found = one })
        | None ↦ elim byte [ None ↦ Err (unmapped_at number) | Some b ↦ elim (b == 0) [ true ↦ Ok [] | false ↦ after_checked b later ] ]
      ]

  checked-suc : (fuel number : ℕ) → checked_from m.shared.memory (suc fuel) number ≡ checked_at (check m.shared.memory number 1) (byte_at m.shared.memory.bytes (address_of number)) number (checked_from m.shared.memory fuel (next_byte number))
  unfolding checked_from
  checked-suc fuel number = refl

  byte-refused : (base : Base) (off : ℕ) (found : Option Mismatch) (judgement : Judgement) (byte : Option ℕ) (later : Result (List ℕ) StringFault) → FindsJudged judgement (option_map Memory found) → FindsByte (number_of t.shared.story.births base off) judgement (checked_at found byte (number_of t.shared.story.births base off) later)
  byte-refused base off found (Passes coincidence) byte later h = tt
  byte-refused base off None (JudgedRefused refused) byte later h = let none = h.1.0 in absurd cc
  byte-refused base off (Some one) (JudgedRefused refused) byte later h =
      let same : Memory one ≡ h.0 = let found = h.1.0 in cc in
      (one, refl, ap refusing_found same ∙ h.1.1)

  -- the machine's byte of a fine access
  fine-byte : (base : Base) (off : ℕ) (byte : SourceByte) → access_answer t.shared.source.births Read base off 1 1 ≡ Fine → bytes_at t.shared.source.births base off 1 ≡ byte ∷ [] → byte_at m.shared.memory.bytes (address_of (number_of t.shared.story.births base off)) ≡ Some (byte_image t.shared.story.births byte)
  unfolding Rattle.tbi_memory.specs.MappedBytes.read_bytes
  fine-byte base off byte fine are =
      let read_is : read m.shared.memory (number_of t.shared.story.births base off) 1 ≡ Ok (byte_image t.shared.story.births byte ∷ []) = fine-read setting t.shared m.shared is like.shared Read base off 1 1 (λ same. absurd cc) fine ∙ ap (λ bytes. Ok (map (byte_image t.shared.story.births) bytes)) are in
      by_byte_at (byte_at m.shared.memory.bytes (address_of (number_of t.shared.story.births base off))) refl read_is
    where
      by_byte_at : (o : Option ℕ) → byte_at m.shared.memory.bytes (address_of (number_of t.shared.story.births base off)) ≡ o
          → one_read o (address_of (number_of t.shared.story.births base off)) ≡ Ok (byte_image t.shared.story.births byte ∷ [])
          → byte_at m.shared.memory.bytes (address_of (number_of t.shared.story.births base off)) ≡ Some (byte_image t.shared.story.births byte)
      by_byte_at None here h = absurd cc
      by_byte_at (Some b) here h = let same : b ∷ [] ≡ byte_image t.shared.story.births byte ∷ [] = cc in here ∙ ap (λ (xs : List ℕ). elim xs [ [] ↦ None | x ∷ rest ↦ Some x ]) same

  unchecked : (base : Base) (off : ℕ) → access_answer t.shared.source.births Read base off 1 1 ≡ Fine → check m.shared.memory (number_of t.shared.story.births base off) 1 ≡ None
  unchecked base off fine = inside-unchecked setting t m is like Read base off 1 1 (number_of t.shared.story.births base off) (λ same. absurd cc) refl (ap lies_inside fine)

  next-number : (base : Base) (off : ℕ) → off < 2 ^ 64 → next_byte (number_of t.shared.story.births base off) ≡ number_of t.shared.story.births base ((off + 1) % 2 ^ 64)
  next-number base off small =
      let same : off % 2 ^ 64 ≡ off = omega (arith, small) in
      let step = further t.shared.story.births base off 1 in
      let whole : (number_of t.shared.story.births base off % 2 ^ 64 + 1) % 2 ^ 64 ≡ (number_of t.shared.story.births base off + 1) % 2 ^ 64 = omega arith in
      sym whole ∙ step ∙ ap (λ n. number_of t.shared.story.births base ((n + 1) % 2 ^ 64)) same

  -- the string from a fine byte on
  from-byte : (base : Base) (off : ℕ) (bytes : List SourceByte) (later : StringAnswer) (rest : Result (List ℕ) StringFault) → access_answer t.shared.source.births Read base off 1 1 ≡ Fine → bytes_at t.shared.source.births base off 1 ≡ bytes → length bytes ≡ 1 → FindsString base later rest
      → FindsString base (by_byte bytes later) (checked_at (check m.shared.memory (number_of t.shared.story.births base off) 1) (byte_at m.shared.memory.bytes (address_of (number_of t.shared.story.births base off))) (number_of t.shared.story.births base off) rest)
  from-byte base off [] later rest fine are one h = tt
  from-byte base off (Piece o at j ∷ bytes) later rest fine are one h = tt
  from-byte base off (Data zero ∷ bytes) later rest fine are one h =
      let alone : bytes_at t.shared.source.births base off 1 ≡ Data 0 ∷ [] = are ∙ ap (λ xs. Data 0 ∷ xs) (no-more bytes (omega (arith, one))) in
      ap (λ (found : Option Mismatch). checked_at found (byte_at m.shared.memory.bytes (address_of (number_of t.shared.story.births base off))) (number_of t.shared.story.births base off) rest) (unchecked base off fine)
      ∙ ap (λ (byte : Option ℕ). checked_at None byte (number_of t.shared.story.births base off) rest) (fine-byte base off (Data 0) fine alone)
    where
      no-more : (xs : List SourceByte) → length xs ≡ 0 → xs ≡ []
      no-more [] h = refl
      no-more (x ∷ xs) h = absurd (omega (arith, h))
  from-byte base off (Data (suc n) ∷ bytes) later rest fine are one h =
      let alone : bytes_at t.shared.source.births base off 1 ≡ Data (suc n) ∷ [] = are ∙ ap (λ xs. Data (suc n) ∷ xs) (no-more bytes (omega (arith, one))) in
      subst (FindsString base (byte_before (suc n) later))
      (sym (ap (λ (found : Option Mismatch). checked_at found (byte_at m.shared.memory.bytes (address_of (number_of t.shared.story.births base off))) (number_of t.shared.story.births base off) rest) (unchecked base off fine)
      ∙ ap (λ (byte : Option ℕ). checked_at None byte (number_of t.shared.story.births base off) rest) (fine-byte base off (Data (suc n)) fine alone)
      ∙ ap (λ (bit : Bool). whole_or bit (after_checked (suc n) rest)) (let some : (suc n == 0) ≡ false = grind (arith, nat_tests) in some)))
      (string-later base (suc n) later rest h)
    where
      no-more : (xs : List SourceByte) → length xs ≡ 0 → xs ≡ []
      no-more [] h = refl
      no-more (x ∷ xs) h = absurd (omega (arith, h))

  -- ---- strings

  by-answer : (base : Base) (off : ℕ) (answer : AccessAnswer) (later : StringAnswer) (rest : Result (List ℕ) StringFault) → access_answer t.shared.source.births Read base off 1 1 ≡ answer → FindsString base later rest
      → FindsString base (by_access off answer (by_byte (bytes_at t.shared.source.births base off 1) later)) (checked_at (check m.shared.memory (number_of t.shared.story.births base off) 1) (byte_at m.shared.memory.bytes (address_of (number_of t.shared.story.births base off))) (number_of t.shared.story.births base off) rest)
  by-answer base off Fine later rest fine h = from-byte base off (bytes_at t.shared.source.births base off 1) later rest fine refl (fine-length setting t.shared m.shared like.shared base off 0 1 fine) h
  by-answer base off (Violates kind) later rest here h =
      byte-refused base off (check m.shared.memory (number_of t.shared.story.births base off) 1) (access_judged (story_setting setting) t.shared.story t.shared.source.births (number_of t.shared.story.births base off) 1) (byte_at m.shared.memory.bytes (address_of (number_of t.shared.story.births base off))) rest
      (checks-judged setting t.shared m.shared like.shared (number_of t.shared.story.births base off) 1)
  by-answer base off WritesConstant later rest here h = read-writes-nothing (accessed t.shared.source.births base) off 1 1 here
  by-answer base off (IsOutside reason) later rest here h = tt
  by-answer base off NoAnswer later rest here h = tt

  string-found : (tries more : ℕ) (base : Base) (off : ℕ) → off < 2 ^ 64 → FindsString base (string_from tries t.shared.source.births base off) (checked_from m.shared.memory (tries + more) (number_of t.shared.story.births base off))
  unfolding string_from
  string-found zero more base off small = tt
  string-found (suc tries) more base off small =
      let fuel : suc tries + more ≡ suc (tries + more) = omega arith in
      let later = string-found tries more base ((off + 1) % 2 ^ 64) (let below : (off + 1) % 2 ^ 64 < 2 ^ 64 = omega arith in below) in
      let next = subst (λ n. FindsString base (string_from tries t.shared.source.births base ((off + 1) % 2 ^ 64)) (checked_from m.shared.memory (tries + more) n)) (sym (next-number base off small)) later in
      subst (FindsString base (string_from (suc tries) t.shared.source.births base off)) (sym (ap (λ k. checked_from m.shared.memory k (number_of t.shared.story.births base off)) fuel ∙ checked-suc (tries + more) (number_of t.shared.story.births base off)))
      (by-answer base off (access_answer t.shared.source.births Read base off 1 1) (string_from tries t.shared.source.births base ((off + 1) % 2 ^ 64)) (checked_from m.shared.memory (tries + more) (next_byte (number_of t.shared.story.births base off))) refl next)

  -- the check of a string finds what the source says of it
  pub string-checked : (base : Base) (off : ℕ) → off < 2 ^ 64 → FindsString base (string_at t.shared.source.births base off) (checked_string m.shared.memory (number_of t.shared.story.births base off))
  string-checked base off small =
      let tries = suc (base_size t.shared.source.births base) in
      let turned : tries + scan_bound m.shared.memory (number_of t.shared.story.births base off) ≡ scan_bound m.shared.memory (number_of t.shared.story.births base off) + tries = omega arith in
      subst (FindsString base (string_at t.shared.source.births base off))
      (ap (λ fuel. checked_from m.shared.memory fuel (number_of t.shared.story.births base off)) turned ∙ checked_string-more m.shared.memory (number_of t.shared.story.births base off) tries like.shared.ends)
      (string-found tries (scan_bound m.shared.memory (number_of t.shared.story.births base off)) base off small)

-- ---- the steps

module _ (setting : MachineSetting) (t : ToldSeen) (m : MachineSeen) (f : Function) (is : IsSetting setting) (like : SeenLike setting t m) where
  -- what the check of a string ends in
  judged-string : (base : Base) (off : ℕ) (kind : Rattle.hw_base.specs.declared.accesses.Kind.Kind) (next : MachineSeen → MachineOutcome) (judgement : Judgement) (r : Result (List ℕ) StringFault) → FindsByte setting t m is like (number_of t.shared.story.births base off) judgement r
      → FollowsJudged setting judgement t.shared (violation_of (source_seen t) kind Read base off 1) t.step [] (on_checked m (own_site t) next r)
  judged-string base off kind next (Passes coincidence) r h = tt
  judged-string base off kind next (JudgedRefused refused) r h =
      subst (λ (s : Result (List ℕ) StringFault). FollowsJudged setting (JudgedRefused refused) t.shared (violation_of (source_seen t) kind Read base off 1) t.step [] (on_checked m (own_site t) next s)) (sym h.1) (
        (chain_known m (own_site t)).shared,
        m.frame ∷ m.callers,
        _,
        refl,
        reported setting t m like (violation_of (source_seen t) kind Read base off 1) 1 (number_of t.shared.story.births base off) h.0 refused refl refl refl refl h.2,
      )

  refused-follows : (base : Base) (off : ℕ) (answer : AccessAnswer) (next : MachineSeen → MachineOutcome) (r : Result (List ℕ) StringFault) → FindsRefused setting t m is like base off answer r → FollowsIn setting t m (on_answer (source_seen t) Read base off 1 answer Stuck) (on_checked m (own_site t) next r)
  unfolding on_answer all_told judged
  refused-follows base off Fine next r h = tt
  refused-follows base off (Violates kind) next r h = judged-string base off kind next (access_judged (story_setting setting) t.shared.story t.shared.source.births (number_of t.shared.story.births base off) 1) r h
  refused-follows base off WritesConstant next r h = absurd h
  refused-follows base off (IsOutside reason) next r h = tt
  refused-follows base off NoAnswer next r h = tt

  string-follows : (base : Base) (answer : StringAnswer) (outcome : SourceOutcome) (next : MachineSeen → MachineOutcome) (r : Result (List ℕ) StringFault) → FindsString setting t m is like base answer r
      → ((ns : List ℕ) → answer ≡ Whole ns → r ≡ Ok ns → FollowsIn setting t m outcome (next (advanced m))) → FollowsIn setting t m (on_string (source_seen t) base answer outcome) (on_checked m (own_site t) next r)
  unfolding on_string all_told
  string-follows base (Whole ns) outcome next r h follows = subst (λ (s : Result (List ℕ) StringFault). FollowsIn setting t m outcome (on_checked m (own_site t) next s)) (sym h) (follows ns refl h)
  string-follows base (Refused off refusal) outcome next r h follows = refused-follows base off refusal next r h
  string-follows base MeetsPiece outcome next r h follows = tt
  string-follows base NotEnded outcome next r h follows = tt

  -- the check of the string of an argument
  pub text-follows : (x : MiOperand) (pointer : Option Value) (go : MachineSeen → MachineOutcome) (outcome : SourceOutcome) → IsOperandOf t m x pointer
      → ((base : Base) (off : ℕ) (ns : List ℕ) → pointer ≡ Some (Address base off) → string_at t.shared.source.births base (off % 2 ^ 64) ≡ Whole ns → memory.string_at m.shared.memory (pointer_in m x) ≡ Ok ns → FollowsIn setting t m outcome (go (advanced m)))
      → FollowsIn setting t m (with_pointer pointer (λ base off. on_string (source_seen t) base (string_at t.shared.source.births base off) outcome)) (str_step m (own_site t) (pointer_in m x) go)
  unfolding str_step
  text-follows x pointer go outcome is_pointer follows =
      pointer-named setting t m pointer (machine_number m x) _ _ is_pointer (λ base off named known number.
      let same = pointer-is setting t m f is like x base off number in
      string-follows base (string_at t.shared.source.births base (off % 2 ^ 64)) outcome go (checked_string m.shared.memory (pointer_in m x))
      (subst (λ n. FindsString setting t m is like base (string_at t.shared.source.births base (off % 2 ^ 64)) (checked_string m.shared.memory n)) (sym same) (string-checked setting t m is like base (off % 2 ^ 64) (let small : off % 2 ^ 64 < 2 ^ 64 = omega arith in small)))
      (λ ns whole found. follows base off ns named whole (checked_string-ok m.shared.memory (pointer_in m x) ns found)))

  module _ (before : IsBeforeNext setting t m f) (result : Option ℕ) (start : ℕ) (ns : List ℕ) (found : memory.string_at m.shared.memory start ≡ Ok ns) where
    pub strlen-follows : FollowsIn setting t m (gives (source_seen t) result (Integer (length ns))) (machine.strlen_step m (own_site t) (call_result result) start)
    unfolding machine.strlen_step
    strlen-follows =
        subst (λ r. FollowsIn setting t m (gives (source_seen t) result (Integer (length ns))) (machine.on_string m (own_site t) start (λ bytes. gives_to m (call_result result) (length bytes)) r)) (sym found)
        (gives_to-follows setting t m f like before result (Integer (length ns)) (length ns) tt tt refl)

    pub puts-follows : FollowsIn setting t m (gives_with (source_seen t) result (Integer 0) (printing (ns ++ 10 ∷ []))) (machine.puts_step m (own_site t) (call_result result) start)
    unfolding machine.puts_step
    puts-follows =
        subst (λ r. FollowsIn setting t m (gives_with (source_seen t) result (Integer 0) (printing (ns ++ 10 ∷ []))) (machine.on_string m (own_site t) start (λ bytes. prints m (call_result result) 0 (bytes ++ 10 ∷ [])) r)) (sym found)
        (prints-follows setting t m f like before result (Integer 0) 0 (ns ++ 10 ∷ []) tt tt refl)
