use Rattle.std.proofs.Common.{Bool, ◌&&◌, T, List, [], ◌∷◌, arith}
use Rattle.theory.specs.Lists.{All, all}
use Rattle.theory.specs.Rules.{Decides}

pub and_both : (a b : Bool) → T (a && b) → T a × T b
and_both a b h = grind arith

pub both-and : (a b : Bool) → T a → T b → T (a && b)
both-and a b h k = grind arith

-- a test of each element decides what it decides of every one
pub all_decided : {X : Type 0} (p : X → Bool) (P : X → Type 0)
    → ((x : X) → Decides (p x) (P x)) → (xs : List X) → Decides (all p xs) (All P xs)
all_decided p P each [] = (λ _. tt, λ _. tt)
all_decided p P each (x ∷ xs) = grind (arith, each x, all_decided p P each xs)
