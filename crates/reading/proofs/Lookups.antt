-- what a lookup by name finds, where the names are distinct
use Rattle.std.proofs.Common.{◌≡◌, ℕ, zero, suc, ◌<◌, List, [], ◌∷◌, ◌++◌, length, get_or, Some, None, refl, subst, arith}
use Rattle.std.proofs.lemmas.Slice.Eq.{bytes_eq-Decides}
use Rattle.fields.specs.Text.{Bytes}
use Rattle.theory.specs.Lists.{All}
use Rattle.theory.specs.declared.Subtask.{Subtask}
use Rattle.theory.specs.declared.Subtask.TheVariants.{Primitive, Compound}
use Rattle.reading.specs.Tables.{Tables, action_names, task_names, index_of, symbol_of}
use Rattle.reading.specs.Declares.{Distinct, Names, IsSubtask}
use Rattle.reading.proofs.Alls.{all-at, all_left, all_right, all_both}

-- each of the names is another one
abbrev pub Fresh : Bytes → List Bytes → Type 0
Fresh n xs = All (λ x. x ≡ n → ⊥) xs

module _ {A : Type 0} where
  pub distinct_left : (xs ys : List A) → Distinct (xs ++ ys) → Distinct xs
  distinct_left [] ys h = tt
  distinct_left (x ∷ xs) ys h = (all_left (λ y. x ≡ y → ⊥) xs ys h.0, distinct_left xs ys h.1)

  pub distinct_right : (xs ys : List A) → Distinct (xs ++ ys) → Distinct ys
  distinct_right [] ys h = h
  distinct_right (x ∷ xs) ys h = distinct_right xs ys h.1

  -- an element differs from those before it
  pub distinct_mid : (xs : List A) (y : A) (ys : List A) → Distinct (xs ++ y ∷ ys) → All (λ x. x ≡ y → ⊥) xs
  distinct_mid [] y ys h = tt
  distinct_mid (x ∷ xs) y ys h = ((all_right (λ y. x ≡ y → ⊥) xs (y ∷ ys) h.0).0, distinct_mid xs y ys h.1)

  pub distinct_more : (xs : List A) (y : A) → Distinct xs → All (λ x. x ≡ y → ⊥) xs → Distinct (xs ++ y ∷ [])
  distinct_more [] y h k = (tt, tt)
  distinct_more (x ∷ xs) y h k = (all_both (λ y. x ≡ y → ⊥) xs (y ∷ []) h.0 (k.0, tt), distinct_more xs y h.1 k.1)

  pub distinct_apart : (xs ys : List A) (i : ℕ) (d : A) → Distinct (xs ++ ys) → i < length ys → All (λ x. x ≡ get_or ys i d → ⊥) xs
  distinct_apart [] ys i d h k = tt
  distinct_apart (x ∷ xs) ys i d h k = (all-at (λ y. x ≡ y → ⊥) ys i d (all_right (λ y. x ≡ y → ⊥) xs ys h.0) k, distinct_apart xs ys i d h.1 k)

pub index_names : (n : Bytes) (tb : List Bytes) (i : ℕ) → index_of n tb ≡ Some i → Names tb n i
index_names n [] i e = absurd cc
index_names n (x ∷ xs) zero e = grind (arith, bytes_eq-Decides x n)
index_names n (x ∷ xs) (suc i) e = grind (arith, index_names n xs i)

pub names_index : (n : Bytes) (tb : List Bytes) (i : ℕ) → Distinct tb → Names tb n i → index_of n tb ≡ Some i
names_index n [] i d h = grind arith
names_index n (x ∷ xs) zero d h = grind (arith, bytes_eq-Decides x n)
names_index n (x ∷ xs) (suc i) d h = grind (arith, bytes_eq-Decides x n, names_index n xs i d.1, all-at (λ y. x ≡ y → ⊥) xs i [] d.0)

pub none_fresh : (n : Bytes) (tb : List Bytes) → index_of n tb ≡ None → Fresh n tb
none_fresh n [] e = tt
none_fresh n (x ∷ xs) e = grind (arith, none_fresh n xs, bytes_eq-Decides x n)

pub fresh_none : (n : Bytes) (tb : List Bytes) → Fresh n tb → index_of n tb ≡ None
fresh_none n [] h = refl
fresh_none n (x ∷ xs) h = grind (arith, h.0, fresh_none n xs h.1, bytes_eq-Decides x n)

-- the names of actions and tasks
abbrev pub symbols : Tables → List Bytes
symbols t = action_names t ++ task_names t

module _ (t : Tables) (n : Bytes) where
  pub symbol_names_lem : (s : Subtask) → symbol_of t n ≡ Some s → IsSubtask t n s
  symbol_names_lem (Primitive a) e = grind (arith, index_names n (action_names t) a)
  symbol_names_lem (Compound j) e = grind (arith, index_names n (task_names t) j)

  pub names_symbol : (s : Subtask) → Distinct (symbols t) → IsSubtask t n s → symbol_of t n ≡ Some s
  names_symbol (Primitive a) d h = grind (arith, names_index n (action_names t) a (distinct_left (action_names t) (task_names t) d))
  names_symbol (Compound j) d h =
      let u = subst (λ (m : Bytes). Fresh m (action_names t)) h.1 (distinct_apart (action_names t) (task_names t) j [] d h.0) in
      grind (arith, fresh_none n (action_names t) u, names_index n (task_names t) j (distinct_right (action_names t) (task_names t) d))

  pub none_symbol : symbol_of t n ≡ None → Fresh n (symbols t)
  none_symbol e = all_both (λ x. x ≡ n → ⊥) (action_names t) (task_names t) (none_fresh n (action_names t) (grind arith)) (none_fresh n (task_names t) (grind arith))

  pub symbol_none : Fresh n (symbols t) → symbol_of t n ≡ None
  symbol_none h =
      let a = all_left (λ x. x ≡ n → ⊥) (action_names t) (task_names t) h in
      let b = all_right (λ x. x ≡ n → ⊥) (action_names t) (task_names t) h in
      grind (arith, fresh_none n (action_names t) a, fresh_none n (task_names t) b)
