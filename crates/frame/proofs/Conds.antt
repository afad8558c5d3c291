-- Functions of a `cond`, and `cond`s with equal arms.
use Rattle.std.proofs.Common.{◌≡◌, Bool, true, false, cond, refl}

pub cond_of : {A B : Type 0} (f : A → B) (b : Bool) (x y : A) → f (cond b x y) ≡ cond b (f x) (f y)
cond_of f true x y = refl
cond_of f false x y = refl

pub cond_same : {A : Type 0} (b : Bool) (x x' y y' : A) → (b ≡ true → x ≡ x') → (b ≡ false → y ≡ y') → cond b x y ≡ cond b x' y'
cond_same true x x' y y' p q = p refl
cond_same false x x' y y' p q = q refl
