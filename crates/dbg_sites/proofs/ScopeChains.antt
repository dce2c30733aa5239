-- Chains of scopes and of inlined calls that end at all end within as many steps as there are nodes.
use Rattle.std.proofs.Common.{◌≡◌, ℕ, zero, suc, ◌<◌, List, [], ◌∷◌, length, Bool, true, false, ◌&&◌, Option, Some, None, if◌then◌else◌, arith, refl, sym, ap, ◌∙◌, subst}
use Rattle.std.specs.List.{All, slice_get}
use Rattle.std.specs.Option.{IfSome}
use Rattle.ir_core.specs.declared.meta.Node.{Node}
use Rattle.ir_core.specs.declared.meta.NodeKind.{NodeKind}
use Rattle.ir_core.specs.declared.meta.NodeKind.TheVariants.{Location, Subprogram, File, Other}
use Rattle.ir_core.specs.Scopes.{scope_by, next_scope, next_call, scopes_end, calls_end}
use Rattle.ir_grammar.specs.DebugNodes.{IsThere, IsLocationThere, IsResolved}
use Rattle.dbg_sites.proofs.Endings.{ends, ends_within, StaysBelow}

got_holds : {X : Type 0} (P : X → Type 0) (xs : List X) (i : ℕ) → All P xs → IfSome (slice_get xs i) P
got_holds P [] i h = tt
got_holds P (x ∷ xs) zero h = h zero x (omega arith)
got_holds P (x ∷ xs) (suc i) h = got_holds P xs i (λ k d within. h (suc k) d (omega arith))

-- ---- scopes

scopes_step : List Node → ℕ → Option ℕ
scopes_step nodes k = next_scope (slice_get nodes k)

scopes-ends : (n : ℕ) (nodes : List Node) (o : Option ℕ) → scopes_end n nodes o ≡ ends (scopes_step nodes) n o
unfolding scopes_end scopes_step
scopes-ends n nodes None = refl
scopes-ends zero nodes (Some k) = refl
scopes-ends (suc n) nodes (Some k) = scopes-ends n nodes (next_scope (slice_get nodes k))

there : (nodes : List Node) (o : Option ℕ) (j : ℕ) → IfSome o (IsThere nodes) → o ≡ Some j → j < length nodes
there nodes None j h e = cc
there nodes (Some k) j h e = let same : k ≡ j = cc in subst (λ i. i < length nodes) same h

scope_there : (nodes : List Node) (kind : NodeKind) (scope : Option ℕ) (j : ℕ) → IfSome scope (IsThere nodes) → scope_by kind scope ≡ Some j → j < length nodes
scope_there nodes Location scope j h e = there nodes scope j h e
scope_there nodes Subprogram scope j h e = cc
scope_there nodes File scope j h e = there nodes scope j h e
scope_there nodes Other scope j h e = there nodes scope j h e

next_there : (nodes : List Node) (o : Option Node) (j : ℕ) → IfSome o (IsResolved nodes) → next_scope o ≡ Some j → j < length nodes
next_there nodes None j h e = cc
next_there nodes (Some node) j h e = scope_there nodes node.kind node.scope j h.scope e

scopes_stay : (nodes : List Node) → All (IsResolved nodes) nodes → StaysBelow (length nodes) (scopes_step nodes)
unfolding scopes_step
scopes_stay nodes h k j less e = next_there nodes (slice_get nodes k) j (got_holds (IsResolved nodes) nodes k h) e

pub scopes_within : (nodes : List Node) (k n : ℕ) → All (IsResolved nodes) nodes → k < length nodes → scopes_end n nodes (Some k) ≡ true → scopes_end (length nodes) nodes (Some k) ≡ true
scopes_within nodes k n h less e =
    scopes-ends (length nodes) nodes (Some k) ∙ ends_within (length nodes) (scopes_step nodes) (scopes_stay nodes h) k n less (sym (scopes-ends n nodes (Some k)) ∙ e)

-- ---- inlined calls: a location whose scopes don't end leads to itself

calls_step : List Node → ℕ → Option ℕ
calls_step nodes k = if scopes_end (length nodes) nodes (Some k) then next_call (slice_get nodes k) else Some k

stuck : (nodes : List Node) (n k : ℕ) → scopes_end (length nodes) nodes (Some k) ≡ false → ends (calls_step nodes) n (Some k) ≡ false
unfolding calls_step
stuck nodes zero k h = refl
stuck nodes (suc n) k h =
    let same : calls_step nodes k ≡ Some k = rw h in ap (λ o. ends (calls_step nodes) n o) same ∙ stuck nodes n k h

calls_by : (nodes : List Node) (n k : ℕ) (b : Bool) → scopes_end (length nodes) nodes (Some k) ≡ b
    → calls_end n nodes (next_call (slice_get nodes k)) ≡ ends (calls_step nodes) n (next_call (slice_get nodes k))
    → (b && calls_end n nodes (next_call (slice_get nodes k))) ≡ ends (calls_step nodes) n (calls_step nodes k)
unfolding calls_step
calls_by nodes n k true h e = let same : calls_step nodes k ≡ next_call (slice_get nodes k) = rw h in e ∙ sym (ap (λ o. ends (calls_step nodes) n o) same)
calls_by nodes n k false h e = sym (let same : calls_step nodes k ≡ Some k = rw h in ap (λ o. ends (calls_step nodes) n o) same ∙ stuck nodes n k h)

calls-ends : (n : ℕ) (nodes : List Node) (o : Option ℕ) → calls_end n nodes o ≡ ends (calls_step nodes) n o
unfolding calls_end
calls-ends n nodes None = refl
calls-ends zero nodes (Some k) = refl
calls-ends (suc n) nodes (Some k) = calls_by nodes n k (scopes_end (length nodes) nodes (Some k)) refl (calls-ends n nodes (next_call (slice_get nodes k)))

location_there : (nodes : List Node) (k : ℕ) → IsLocationThere nodes k → k < length nodes
location_there [] k h = cc
location_there (node ∷ nodes) zero h = omega arith
location_there (node ∷ nodes) (suc k) h = let less : k < length nodes = location_there nodes k h in omega arith

inlined_there : (nodes : List Node) (o : Option ℕ) (j : ℕ) → IfSome o (IsLocationThere nodes) → o ≡ Some j → j < length nodes
inlined_there nodes None j h e = cc
inlined_there nodes (Some k) j h e = let same : k ≡ j = cc in subst (λ i. i < length nodes) same (location_there nodes k h)

call_there : (nodes : List Node) (o : Option Node) (j : ℕ) → IfSome o (IsResolved nodes) → next_call o ≡ Some j → j < length nodes
call_there nodes None j h e = cc
call_there nodes (Some node) j h e = inlined_there nodes node.inlined j h.inlined e

calls_there : (nodes : List Node) (k j : ℕ) (b : Bool) → All (IsResolved nodes) nodes → k < length nodes → (if b then next_call (slice_get nodes k) else Some k) ≡ Some j → j < length nodes
calls_there nodes k j true h less e = call_there nodes (slice_get nodes k) j (got_holds (IsResolved nodes) nodes k h) e
calls_there nodes k j false h less e = let same : k ≡ j = cc in subst (λ i. i < length nodes) same less

calls_stay : (nodes : List Node) → All (IsResolved nodes) nodes → StaysBelow (length nodes) (calls_step nodes)
unfolding calls_step
calls_stay nodes h k j less e = calls_there nodes k j (scopes_end (length nodes) nodes (Some k)) h less e

pub calls_within : (nodes : List Node) (k n : ℕ) → All (IsResolved nodes) nodes → k < length nodes → calls_end n nodes (Some k) ≡ true → calls_end (length nodes) nodes (Some k) ≡ true
calls_within nodes k n h less e =
    calls-ends (length nodes) nodes (Some k) ∙ ends_within (length nodes) (calls_step nodes) (calls_stay nodes h) k n less (sym (calls-ends n nodes (Some k)) ∙ e)
