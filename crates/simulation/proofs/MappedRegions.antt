-- Constants and variables are mapped; and so are the heap and the stacks, which lie past the constants.
use Rattle.std.proofs.Common.{◌≡◌, ℕ, ◌+◌, ◌*◌, ◌<◌, ◌≤◌, ◌||◌, Bool, true, false, refl, arith}
use Rattle.std.proofs.lemmas.Bool.Decides.{nat_tests}
use Rattle.global_tags.specs.GlobalPlaces.{constants_size, variables_at, variables_size}
use Rattle.hw_base.specs.AddressMap.{rounded_size}
use Rattle.ir_meaning.specs.Births.{Stack, Heap}
use Rattle.tag_story.proofs.BirthPlaces.{stack-inside}
use Rattle.tag_story.specs.Story.{StorySetting, Placed}
use Rattle.tag_story.specs.StoryFacts.{HasRoom, IsInRegion}
use Rattle.tbi_memory.specs.AddressSpace.{is_in}
use Rattle.simulation.proofs.BirthRelated.{IsInMap}

any-first : (a b c d : Bool) → a ≡ true → (a || (b || (c || (d || false)))) ≡ true
any-first true b c d h = refl
any-first false b c d h = absurd cc

any-second : (a b c d : Bool) → b ≡ true → (a || (b || (c || (d || false)))) ≡ true
any-second true b c d h = refl
any-second false true c d h = refl
any-second false false c d h = absurd cc

any-third : (a b c d : Bool) → c ≡ true → (a || (b || (c || (d || false)))) ≡ true
any-third true b c d h = refl
any-third false true c d h = refl
any-third false false true d h = refl
any-third false false false d h = cc

any-fourth : (a b c d : Bool) → d ≡ true → (a || (b || (c || (d || false)))) ≡ true
any-fourth true b c d h = refl
any-fourth false true c d h = refl
any-fourth false false true d h = refl
any-fourth false false false true h = refl
any-fourth false false false false h = cc

-- the ranges of constants, variables, stacks and the heap, each with an address or not
abbrev in_constants : StorySetting → ℕ → Bool
in_constants e address = is_in address (record { at = e.places.globals_at; count = constants_size e.program.layouts e.program.globals })

abbrev in_variables : StorySetting → ℕ → Bool
in_variables e address = is_in address (record { at = variables_at e.places e.program.layouts e.program.globals; count = variables_size e.program.layouts e.program.globals })

abbrev in_stacks : StorySetting → ℕ → Bool
in_stacks e address = is_in address (record { at = e.places.stacks_at; count = e.places.most_tasks * e.places.stack_length })

abbrev in_heap : StorySetting → ℕ → Bool
in_heap e address = is_in address (record { at = e.places.heap_at; count = e.places.heap_length })

pub constant-mapped : (e : StorySetting) (x : Placed) → e.places.globals_at ≤ x.at → x.at + rounded_size x.size ≤ e.places.globals_at + constants_size e.program.layouts e.program.globals → IsInMap e x
constant-mapped e x from to address low high =
    let first : e.places.globals_at ≤ address = omega (arith, from, low) in
    let last : address < e.places.globals_at + constants_size e.program.layouts e.program.globals = omega (arith, to, high) in
    any-first (in_constants e address) (in_variables e address) (in_stacks e address) (in_heap e address) (let here : is_in address (record { at = e.places.globals_at; count = constants_size e.program.layouts e.program.globals }) ≡ true = grind (arith, nat_tests) in here)

pub variable-mapped : (e : StorySetting) (x : Placed) → variables_at e.places e.program.layouts e.program.globals ≤ x.at → x.at + rounded_size x.size ≤ variables_at e.places e.program.layouts e.program.globals + variables_size e.program.layouts e.program.globals → IsInMap e x
variable-mapped e x from to address low high =
    let first : variables_at e.places e.program.layouts e.program.globals ≤ address = omega (arith, from, low) in
    let last : address < variables_at e.places e.program.layouts e.program.globals + variables_size e.program.layouts e.program.globals = omega (arith, to, high) in
    any-second (in_constants e address) (in_variables e address) (in_stacks e address) (in_heap e address) (let here : is_in address (record { at = variables_at e.places e.program.layouts e.program.globals; count = variables_size e.program.layouts e.program.globals }) ≡ true = grind (arith, nat_tests) in here)

pub heap-mapped : (e : StorySetting) (task : ℕ) (x : Placed) → IsInRegion e Heap task x → IsInMap e x
heap-mapped e task x inside address low high =
    let from = inside.0 in
    let to = inside.1 in
    let first : e.places.heap_at ≤ address = omega (arith, from, low) in
    let last : address < e.places.heap_at + e.places.heap_length = omega (arith, to, high) in
    any-fourth (in_constants e address) (in_variables e address) (in_stacks e address) (in_heap e address) (let here : is_in address (record { at = e.places.heap_at; count = e.places.heap_length }) ≡ true = grind (arith, nat_tests) in here)

pub stack-mapped : (e : StorySetting) (func task : ℕ) (x : Placed) → IsInRegion e (Stack func) task x → IsInMap e x
stack-mapped e func task x inside address low high =
    let own = stack-inside e task inside.0 in
    let from = inside.1 in
    let to = inside.2 in
    let first : e.places.stacks_at ≤ address = omega (arith, from, low) in
    let last : address < e.places.stacks_at + e.places.most_tasks * e.places.stack_length = omega (arith, to, high, own) in
    any-third (in_constants e address) (in_variables e address) (in_stacks e address) (in_heap e address) (let here : is_in address (record { at = e.places.stacks_at; count = e.places.most_tasks * e.places.stack_length }) ≡ true = grind (arith, nat_tests) in here)

constants-below : (e : StorySetting) → HasRoom e → e.places.globals_at + constants_size e.program.layouts e.program.globals ≤ e.places.stacks_at
constants-below e room = let below = room.globals_below in omega (arith, below)

pub stack-past : (e : StorySetting) (func task : ℕ) (x : Placed) → HasRoom e → IsInRegion e (Stack func) task x → e.places.globals_at + constants_size e.program.layouts e.program.globals ≤ x.at
stack-past e func task x room inside = let below = constants-below e room in let from = inside.1 in omega (arith, below, from)

pub heap-past : (e : StorySetting) (task : ℕ) (x : Placed) → HasRoom e → IsInRegion e Heap task x → e.places.globals_at + constants_size e.program.layouts e.program.globals ≤ x.at
heap-past e task x room inside = let below = constants-below e room in let stacks = room.stacks_below in let from = inside.0 in omega (arith, below, stacks, from)
