-- an array of five that is filled from the front with the first elements of a list
use Rattle.std.proofs.Common.{◌≡◌, ℕ, ◌+◌, ◌<◌, ◌≤◌, ◌⊎◌, inl, inr, min, List, [], ◌∷◌, ◌++◌, length, get_or, take, drop, set, sym, refl, ap, ◌∙◌, arith, subst}
use Rattle.std.proofs.lemmas.List.{drop_more, take_more, take_more_set, take_min, length-set}

-- n elements were seen, and rest is still to come
pub record Filled {A : Type 0} (fs xs rest : List A) (n : ℕ) : Type 0 where
  pub size : length xs ≡ 5
  pub left : drop n fs ≡ rest
  pub seen : n + length rest ≡ length fs
  pub front : take (min n 5) xs ≡ take (min n 5) fs

-- the same, where its parts are written in another way
pub filled_as : {A : Type 0} {fs xs ys rest left : List A} {n k : ℕ} → xs ≡ ys → rest ≡ left → n ≡ k → Filled fs xs rest n → Filled fs ys left k
filled_as {A} {fs} {xs} {ys} {rest} {left} {n} {k} x r e f =
    subst (λ (i : ℕ). Filled fs ys left i) e (subst (λ (l : List A). Filled fs ys l n) r (subst (λ (l : List A). Filled fs l rest n) x f))

module _ {A : Type 0} (fs xs : List A) where
  pub filled_none : length xs ≡ 5 → Filled fs xs fs 0
  filled_none h = record { size = h; left = refl; seen = omega arith; front = refl }

  module _ (x : A) (rest : List A) (n : ℕ) (f : Filled fs xs (x ∷ rest) n) where
    more : n < length fs
    more = omega (arith, f.seen)

    next : get_or fs n x ∷ drop (n + 1) fs ≡ x ∷ rest
    next = sym (drop_more fs n x more) ∙ f.left

    pub filled_more : n < 5 → Filled fs (set xs n x) rest (n + 1)
    filled_more h =
        let now : min n 5 ≡ n = omega arith in
        let then : min (n + 1) 5 ≡ n + 1 = omega arith in
        let first : get_or fs n x ≡ x = cc next in
        record {
          size = length-set xs n x ∙ f.size;
          left = cc next;
          seen = omega (arith, f.seen);
          front = rw then (take_more_set xs n x (omega (arith, f.size)) ∙ ap (λ (l : List A). l ++ x ∷ []) (rw now at f.front)
              ∙ ap (λ (y : A). take n fs ++ y ∷ []) (sym first) ∙ sym (take_more fs n x more));
        }

    pub filled_past : 5 ≤ n → Filled fs xs rest (n + 1)
    filled_past h =
        let same : min (n + 1) 5 ≡ min n 5 = omega arith in
        record { size = f.size; left = cc next; seen = omega (arith, f.seen); front = rw same f.front }

  pub filled_end : (n : ℕ) → Filled fs xs [] n → (n ≡ length fs) × (take n xs ≡ take 5 fs)
  filled_end n f =
      let e : n ≡ length fs = omega (arith, f.seen) in
      let m : min n 5 ≡ min n (length xs) = omega (arith, f.size) in
      let k : min n 5 ≡ min 5 (length fs) = omega arith in
      (e, sym (take_min n xs) ∙ ap (λ (i : ℕ). take i xs) (sym m) ∙ f.front ∙ ap (λ (i : ℕ). take i fs) k ∙ take_min 5 fs)

  -- where the array is full or nothing is still to come, it has the first five elements
  pub filled_all : (rest : List A) (n : ℕ) → Filled fs xs rest n → (n ≡ 5) ⊎ (rest ≡ []) → take (n + length rest) xs ≡ take 5 fs
  filled_all rest n f (inl e) =
      let whole : min (n + length rest) (length xs) ≡ 5 = omega (arith, f.size) in
      let five : min n 5 ≡ 5 = omega arith in
      sym (take_min (n + length rest) xs) ∙ ap (λ (i : ℕ). take i xs) whole ∙ rw five at f.front
  filled_all rest n f (inr e) =
      let none : n + length rest ≡ n = omega (arith, ap length e) in
      ap (λ (i : ℕ). take i xs) none ∙ (filled_end n (filled_as refl e refl f)).1
