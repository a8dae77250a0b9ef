-- What a fold over a slice comes to, where each call joins one more value.
use Rattle.std.proofs.Common.{◌≡◌, List, [], ◌∷◌, ◌++◌, map, Bor, Iter}
use mathlib.Core.List.{map-append}
use denote.Param.Members.{Mut}
use Rattle.std.specs.Fn.{Called}
use Rattle.std.specs.Iterator.{Drains}
use Rattle.std.specs.List.{FoldsTo}
use Rattle.std.proofs.lemmas.Fn.{fold_over, fronts, slice_gives}
use Rattle.theory.specs.Algebra.{joined}
use Rattle.theory.proofs.Sums.{Monoid, joined-append}

module _ {V M : Type 0} (means : V → M) {join : M → M → M} {neutral : M} (monoid : Monoid join neutral) where
  abbrev total : List V → M
  total ys = joined join neutral (map means ys)

  push : (ys : List V) (x : V) → total (ys ++ (x ∷ [])) ≡ join (total ys) (means x)
  push ys x = simp (map-append, joined-append monoid, monoid.right)

  pub fold_joins : {F : Type 0} (g : Mut F (V × (Bor V × Unit {0})) V) (f : F)
      → ((a : V) (x : Bor V) (b : V) (f' : F) → Called g f (a, (x, tt)) b f' → (means b ≡ join (means a) (means x.now)) × (f' ≡ f))
      → (s : Iter V) (a r : V) → means a ≡ neutral
      → (xs : List (Bor V)) × (f' : F) × Drains fronts s xs × FoldsTo {P = F × V} (λ p x q. Called g p.0 (p.1, (x, tt)) q.1 q.0) (f, a) xs (f', r)
      → means r ≡ joined join neutral (map means s.rest.now)
  fold_joins g f step s a r =
      fold_over fronts (λ y. y.now) g (λ ys a. means a ≡ total ys) f
      (λ ys a x b f' kept called. let one = step a x b f' called in (cc (push ys x.now), one.1))
      s s.rest.now a r (slice_gives s)
