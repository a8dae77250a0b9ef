-- how a line's description computes, check by check, and what an accepting one has passed
use Rattle.std.proofs.Common.{◌≡◌, Bool, true, false, T, Some, Ok, Err, Option, refl, ap, ◌∙◌, arith}
use Rattle.reading.specs.declared.faults.DomainFault.{DomainFault}
use Rattle.reading.specs.Lines.{Check, ◌>>=◌, ◌>>◌, must, found}

pub step : {A B : Type 0} {x : Check A} {a : A} (f : A → Check B) {y : Check B} → x ≡ Ok a → f a ≡ y → (x >>= f) ≡ y
step f e h = ap (λ z. z >>= f) e ∙ h

pub stop : {A B : Type 0} {x : Check A} {e : DomainFault} (f : A → Check B) → x ≡ Err e → (x >>= f) ≡ Err e
stop f e = ap (λ z. z >>= f) e

pub pass : {A : Type 0} {b : Bool} (e : DomainFault) {x y : Check A} → b ≡ true → x ≡ y → (must b e >> x) ≡ y
pass e {x} q h = ap (λ b. must b e >> x) q ∙ h

pub fail : {A : Type 0} {b : Bool} (e : DomainFault) (x : Check A) → b ≡ false → (must b e >> x) ≡ Err e
fail e x q = ap (λ b. must b e >> x) q

pub bound : {A B : Type 0} (x : Check A) (f : A → Check B) (y : B) → (x >>= f) ≡ Ok y → (a : A) × (x ≡ Ok a) × (f a ≡ Ok y)
bound (Ok a) f y e = (a, refl, e)
bound (Err g) f y e = absurd cc

pub passed : {A : Type 0} (b : Bool) (g : DomainFault) (x : Check A) (y : A) → (must b g >> x) ≡ Ok y → T b × (x ≡ Ok y)
passed b g x y e = grind arith

pub got : {A : Type 0} (o : Option A) (g : DomainFault) (y : A) → found o g ≡ Ok y → o ≡ Some y
got o g y e = grind arith

pub ok_eq : {A : Type 0} {x y : A} → ◌≡◌ {A = Check A} (Ok x) (Ok y) → x ≡ y
ok_eq e = cc
