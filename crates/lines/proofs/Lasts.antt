-- the last of the methods
use Rattle.std.proofs.Common.{◌≡◌, ℕ, zero, suc, ◌-◌, ◌<◌, List, [], ◌∷◌, map, length, get_or, set, refl, ap, ◌∙◌, arith}
use Rattle.reading.specs.Tables.{last_or, on_last}

pub last_at : {A B : Type 0} (f : A → B) (d : B) (xs : List A) (x : A) → 0 < length xs → x ≡ get_or xs (length xs - 1) x → last_or d (map f xs) ≡ f x
last_at f d [] x h e = absurd (omega arith)
last_at f d (y ∷ []) x h e = ap f (cc)
last_at f d (y ∷ z ∷ zs) x h e =
    let n : length (y ∷ z ∷ zs) - 1 ≡ suc (length (z ∷ zs) - 1) = omega arith in
    last_at f (f y) (z ∷ zs) x (omega arith) (e ∙ ap (λ (n : ℕ). get_or (y ∷ z ∷ zs) n x) n)

pub set_last : {A B : Type 0} (f : A → B) (g : B → B) (xs : List A) (i : ℕ) (y d : A) → length xs ≡ suc i → f y ≡ g (f (get_or xs i d)) → map f (set xs i y) ≡ on_last g (map f xs)
set_last f g [] i y d h e = absurd (omega arith)
set_last f g (x ∷ []) zero y d h e = rw e refl
set_last f g (x ∷ []) (suc i) y d h e = absurd (omega arith)
set_last f g (x ∷ z ∷ zs) zero y d h e = absurd (omega arith)
set_last f g (x ∷ z ∷ zs) (suc i) y d h e = ap (λ (ws : List _). f x ∷ ws) (set_last f g (z ∷ zs) i y d (omega arith) e)

pub set_same : {A B : Type 0} (f : A → B) (xs : List A) (i : ℕ) (y d : A) → f y ≡ f (get_or xs i d) → map f (set xs i y) ≡ map f xs
set_same f [] i y d e = refl
set_same f (x ∷ xs) zero y d e = rw e refl
set_same f (x ∷ xs) (suc i) y d e = ap (λ (ws : List _). f x ∷ ws) (set_same f xs i y d e)
