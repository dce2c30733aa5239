-- Outcomes taken apart.
use Rattle.std.proofs.Common.{◌≡◌, refl, Bool, true, false, cond, ◌⊎◌, inl, inr, Result, Ok, Err}
use Rattle.ir_grammar.specs.declared.terminal.Flaw.{Flaw}
use Rattle.ir_grammar.specs.Reading.{◌>>=◌}

-- a value came of a value
pub bind_ok : {A B : Type 0} (r : Result A Flaw) (f : A → Result B Flaw) (y : B) → (r >>= f) ≡ Ok y → (x : A) × (r ≡ Ok x) × (f x ≡ Ok y)
bind_ok (Ok x) f y h = (x, refl, h)
bind_ok (Err e) f y h = cc

-- a flaw came first, or behind a value
pub bind_err : {A B : Type 0} (r : Result A Flaw) (f : A → Result B Flaw) (e : Flaw) → (r >>= f) ≡ Err e → (r ≡ Err e) ⊎ ((x : A) × (r ≡ Ok x) × (f x ≡ Err e))
bind_err (Ok x) f e h = inr (x, refl, h)
bind_err (Err d) f e h = inl (let p : d ≡ e = cc in cc)

-- one of two was chosen
pub chosen : {A : Type 0} (b : Bool) (x y z : A) → cond b x y ≡ z → ((b ≡ true) × (x ≡ z)) ⊎ ((b ≡ false) × (y ≡ z))
chosen true x y z h = inl (refl, h)
chosen false x y z h = inr (refl, h)

-- what is read behind a value
pub bind_value : {A B : Type 0} (r : Result A Flaw) (f : A → Result B Flaw) (x : A) → r ≡ Ok x → (r >>= f) ≡ f x
bind_value r f x h = rw h refl

-- what is read behind a flaw
pub bind_flaw : {A B : Type 0} (r : Result A Flaw) (f : A → Result B Flaw) (e : Flaw) → r ≡ Err e → (r >>= f) ≡ Err e
bind_flaw r f e h = rw h refl

-- the same behind the same value
pub bind_same : {A B : Type 0} (r : Result A Flaw) (f g : A → Result B Flaw) → ((x : A) → r ≡ Ok x → f x ≡ g x) → (r >>= f) ≡ (r >>= g)
bind_same (Ok x) f g h = h x refl
bind_same (Err e) f g h = refl
