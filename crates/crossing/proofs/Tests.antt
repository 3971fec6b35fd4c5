-- A choice whose test is known.
use Rattle.std.proofs.Common.{◌≡◌, Bool, true, false, cond, refl}

pub then_first : {X : Type 0} → (b : Bool) (x y : X) → b ≡ true → cond b x y ≡ x
then_first true x y e = refl
then_first false x y e = cc

pub else_second : {X : Type 0} → (b : Bool) (x y : X) → b ≡ false → cond b x y ≡ y
else_second true x y e = cc
else_second false x y e = refl
