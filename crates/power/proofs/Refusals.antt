-- What a call that is not refused has tested.
use Rattle.std.proofs.Common.{◌≡◌, Bool, true, false, cond, Some, None, Option, sym, refl}
use Rattle.std.proofs.lemmas.Option.{none-some}

-- the test failed, and no later one refused
pub cond_none : {E : Type 0} (b : Bool) (e : E) (o : Option E) → cond b (Some e) o ≡ None → (b ≡ false) × (o ≡ None)
cond_none true e o p = absurd (none-some e (sym p))
cond_none false e o p = (refl, p)
