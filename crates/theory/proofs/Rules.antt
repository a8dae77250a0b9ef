use Rattle.std.proofs.Common.{◌≡◌, ℕ, ◌<◌, Bool, true, ◌&&◌, T, List, [], ◌∷◌, ◌++◌, arith}
use Rattle.theory.specs.Lists.{All, all}
use Rattle.theory.specs.Model.{Task, level_of, Vanishing}
use Rattle.theory.specs.Rules.{vanishes, rung, rungs, Decides, RulesDecided}
use Rattle.theory.specs.declared.Subtask.{Subtask}
use Rattle.theory.specs.declared.Subtask.TheVariants.{Compound}
use Rattle.theory.proofs.Lists.{and_both, both-and, all_decided}

module _ (tasks : List Task) where
  decided : (s : Subtask) → Decides (vanishes tasks s) (Vanishing tasks s)
  decided s = grind arith

  all_vanish : (ss : List Subtask) → Decides (all (vanishes tasks) ss) (All (Vanishing tasks) ss)
  all_vanish = all_decided (vanishes tasks) (Vanishing tasks) decided

  -- the flag tells that all before the list may vanish
  ladder_kept : (n : ℕ) (pre : Bool) (us : List Subtask) (t : ℕ) (vs : List Subtask)
      → T pre → T (rungs tasks n pre (us ++ (Compound t ∷ vs))) → All (Vanishing tasks) us → All (Vanishing tasks) vs → level_of tasks t < n
  ladder_kept n pre [] t vs p h a b = grind (arith, all_vanish vs)
  ladder_kept n pre (u ∷ us) t vs p h a b =
      ladder_kept n (pre && vanishes tasks u) us t vs (grind (arith, decided u)) (and_both _ _ h).1 a.1 b

  -- the rule of a list, where the flag tells that all before it may vanish
  abbrev Kept : ℕ → Bool → List Subtask → Type 0
  Kept n pre ss =
      T pre → (us : List Subtask) (t : ℕ) (vs : List Subtask) → ss ≡ us ++ (Compound t ∷ vs)
      → All (Vanishing tasks) us → All (Vanishing tasks) vs → level_of tasks t < n

  rung-tested : (n : ℕ) (pre : Bool) (s : Subtask) (ss : List Subtask)
      → (T pre → (t : ℕ) → s ≡ Compound t → All (Vanishing tasks) ss → level_of tasks t < n) → T (rung tasks n pre s ss)
  rung-tested n pre s ss h = grind (arith, all_vanish ss)

  ladder-tested : (n : ℕ) (pre : Bool) (ss : List Subtask) → Kept n pre ss → T (rungs tasks n pre ss)
  ladder-tested n pre [] h = tt
  ladder-tested n pre (s ∷ ss) h =
      let kept : Kept n (pre && vanishes tasks s) ss =
      λ p us t vs e a b. h (and_both _ _ p).0 (s ∷ us) t vs (cc) ((decided s).0 (and_both pre _ p).1, a) b in
      both-and _ _ (rung-tested n pre s ss (λ p t e. h p [] t ss (cc) tt)) (ladder-tested n (pre && vanishes tasks s) ss kept)

pub rules_decided : RulesDecided
rules_decided tasks owner ss = (
  grind (arith, all_vanish tasks ss, decided tasks (Compound owner)),
  (
    λ h us t vs e a b. ladder_kept tasks (level_of tasks owner) true us t vs tt (rw e at h) a b,
    λ h. ladder-tested tasks (level_of tasks owner) true ss (λ _. h),
  ),
)
