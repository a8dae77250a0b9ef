-- a text cut at each separator
use Rattle.std.proofs.Common.{◌≡◌, ℕ, suc, ◌+◌, ◌-◌, ◌<◌, ◌≤◌, Bool, true, false, cond, eqb, List, [], ◌∷◌, ◌++◌, length, get_or, take, drop, sym, refl, ap, ◌∙◌, le_of_suc-le-suc, not-suc-le-zero, not, ltb, Some, None, Option, subst, ltb-true, ltb-false, add-one, arith, eq-eqb, ne_eqb, eqb-true}
use borrow.Author.Tests.{eqb-false}
use Rattle.std.proofs.lemmas.List.{take_rest, at_drop_more}
use Rattle.theory.specs.Lists.{All}
use Rattle.fields.specs.Text.{Bytes, cons_first, parted, joined, Free, Cut}
use Rattle.std.specs.Option.{MatchOption}
use Rattle.std.specs.List.{position, position_or_len}

module _ (s : ℕ) where
  -- how many bytes stand before the first separator, or how many there are
  abbrev head : Bytes → ℕ
  head [] = 0
  head (b ∷ bs) = cond (eqb b s) 0 (suc (head bs))

  head-is : (l : Bytes) → position_or_len (λ b. eqb b s) l ≡ head l
  head-is [] = refl
  head-is (b ∷ bs) =
      let h = head-is bs in
      elim (eqb b s) as (λ t. cond (not t) (1 + position_or_len (λ c. eqb c s) bs) 0 ≡ cond t 0 (suc (head bs))) [ true ↦ refl | false ↦ omega (arith, h) ]

  abbrev After : ℕ → Bytes → Bool → Type 0
  After b bs t =
      cond t 0 (suc (head bs)) < suc (length bs) → cond t ([] ∷ parted s bs) (cons_first b (parted s bs))
      ≡ take (cond t 0 (suc (head bs))) (b ∷ bs) ∷ parted s (drop (suc (cond t 0 (suc (head bs)))) (b ∷ bs))

  -- the first piece ends at the first separator
  parted-head : (l : Bytes) → head l < length l → parted s l ≡ take (head l) l ∷ parted s (drop (suc (head l)) l)
  parted-head [] h = absurd (not-suc-le-zero h)
  parted-head (b ∷ bs) h =
      (elim (eqb b s) as (λ t. After b bs t) [ true ↦ λ _. refl | false ↦ λ k. ap (cons_first b) (parted-head bs (le_of_suc-le-suc k)) ]) h

  abbrev Whole : ℕ → Bytes → Bool → Type 0
  Whole b bs t = suc (length bs) ≤ cond t 0 (suc (head bs)) → cond t ([] ∷ parted s bs) (cons_first b (parted s bs)) ≡ (b ∷ bs) ∷ []

  parted_whole : (l : Bytes) → length l ≤ head l → parted s l ≡ l ∷ []
  parted_whole [] h = refl
  parted_whole (b ∷ bs) h =
      (elim (eqb b s) as (λ t. Whole b bs t) [ true ↦ λ k. absurd (not-suc-le-zero k) | false ↦ λ k. ap (cons_first b) (parted_whole bs (le_of_suc-le-suc k)) ]) h

  abbrev Found : Bytes → Option ℕ → Type 0
  Found l r = MatchOption r (length l ≤ head l) (λ n. (n ≡ head l) × (head l < length l))

  found : (l : Bytes) → Found l (position (λ b. eqb b s) l)
  found l = rw (head-is l) (go (ltb (head l) (length l)) refl)
    where
      go : (t : Bool) → ltb (head l) (length l) ≡ t → Found l (cond t (Some (head l)) None)
      go true e = (refl, ltb-true _ _ e)
      go false e = ltb-false _ _ e

  -- one step of the cutting: the piece and what is left, as the code has them
  pub cut_more : (l : Bytes) (n : ℕ) → Some n ≡ position (λ b. eqb b s) l → parted s l ≡ take n l ∷ parted s (take (length l - (n + 1)) (drop (n + 1) l))
  cut_more l n e =
      let f = subst (Found l) (sym e) (found l) in
      rw (take_rest l (n + 1), add-one n, f.0) (parted-head l f.1)

  pub cut_last : (l : Bytes) → None ≡ position (λ b. eqb b s) l → parted s l ≡ l ∷ []
  cut_last l e = parted_whole l (subst (Found l) (sym e) (found l))

  first_pos : (b : ℕ) (fs : List Bytes) → 0 < length (cons_first b fs)
  first_pos b [] = omega arith
  first_pos b (f ∷ fs) = omega arith

  pub parted_pos : (l : Bytes) → 0 < length (parted s l)
  parted_pos [] = omega arith
  parted_pos (b ∷ bs) = elim (eqb b s) as (λ t. 0 < length (cond t ([] ∷ parted s bs) (cons_first b (parted s bs)))) [ true ↦ omega arith | false ↦ first_pos b (parted s bs) ]

  first_len : (b : ℕ) (fs : List Bytes) → 0 < length fs → length (cons_first b fs) ≡ length fs
  first_len b [] h = absurd (not-suc-le-zero h)
  first_len b (f ∷ fs) h = refl

  -- the turn of a loop that counts the separators
  pub count_yes : (xs : Bytes) (i : ℕ) → i < length xs → get_or xs i 0 ≡ s → length (parted s (drop i xs)) ≡ suc (length (parted s (drop (i + 1) xs)))
  count_yes xs i h e =
      at_drop_more (λ (l : Bytes). length (parted s l)) xs i 0 h
      ∙ ap (λ (t : Bool). length (cond t ([] ∷ parted s (drop (i + 1) xs)) (cons_first (get_or xs i 0) (parted s (drop (i + 1) xs))))) (eq-eqb (get_or xs i 0) s e)

  pub count_no : (xs : Bytes) (i : ℕ) → i < length xs → (get_or xs i 0 ≡ s → ⊥) → length (parted s (drop i xs)) ≡ length (parted s (drop (i + 1) xs))
  count_no xs i h e =
      at_drop_more (λ (l : Bytes). length (parted s l)) xs i 0 h
      ∙ ap (λ (t : Bool). length (cond t ([] ∷ parted s (drop (i + 1) xs)) (cons_first (get_or xs i 0) (parted s (drop (i + 1) xs))))) (ne_eqb (get_or xs i 0) s e)
      ∙ first_len (get_or xs i 0) (parted s (drop (i + 1) xs)) (parted_pos (drop (i + 1) xs))

  pub parted_len : (l : Bytes) → length (parted s l) ≤ suc (length l)
  parted_len [] = omega arith
  parted_len (b ∷ bs) =
      let h = parted_len bs in
      elim (eqb b s) as (λ t. length (cond t ([] ∷ parted s bs) (cons_first b (parted s bs))) ≤ suc (suc (length bs))) [
        | true ↦ omega arith
        | false ↦ omega (arith, first_len b (parted s bs) (parted_pos bs))
      ]

  joined-some : (f : Bytes) (gs : List Bytes) → 0 < length gs → joined s (f ∷ gs) ≡ f ++ s ∷ joined s gs
  joined-some f [] h = absurd (not-suc-le-zero h)
  joined-some f (g ∷ gs) h = refl

  joined-first : (b : ℕ) (fs : List Bytes) → joined s (cons_first b fs) ≡ b ∷ joined s fs
  joined-first b [] = refl
  joined-first b (f ∷ []) = refl
  joined-first b (f ∷ g ∷ fs) = refl

  free-first : (b : ℕ) (fs : List Bytes) → (b ≡ s → ⊥) → All (Free s) fs → All (Free s) (cons_first b fs)
  free-first b [] n h = ((n, tt), tt)
  free-first b (f ∷ fs) n h = ((n, h.0), h.1)

  abbrev Back : ℕ → Bytes → Bool → Type 0
  Back b bs t =
      eqb b s ≡ t → (joined s (cond t ([] ∷ parted s bs) (cons_first b (parted s bs))) ≡ b ∷ bs) × All (Free s) (cond t ([] ∷ parted s bs) (cons_first b (parted s bs)))

  rejoins : (l : Bytes) → (joined s (parted s l) ≡ l) × All (Free s) (parted s l)
  rejoins [] = (refl, (tt, tt))
  rejoins (b ∷ bs) =
      let h = rejoins bs in
      (elim (eqb b s) as (λ t. Back b bs t) [
        | true ↦ λ e. (joined-some [] (parted s bs) (parted_pos bs) ∙ ap (λ (z : Bytes). s ∷ z) h.0 ∙ ap (λ (x : ℕ). x ∷ bs) (sym (eqb-true b s e)), (tt, h.1))
        | false ↦ λ e. (joined-first b (parted s bs) ∙ ap (λ (z : Bytes). b ∷ z) h.0, free-first b (parted s bs) (eqb-false b s e) h.1)
      ]) refl

  pub parted_cut : (l : Bytes) → Cut s l (parted s l)
  parted_cut l = record { some = parted_pos l; joins = (rejoins l).0; free = (rejoins l).1 }

  parted-free : (f : Bytes) → Free s f → parted s f ≡ f ∷ []
  parted-free [] h = refl
  parted-free (b ∷ bs) h = rw (ne_eqb b s h.0) (ap (cons_first b) (parted-free bs h.1))

  parted_front : (f rest : Bytes) → Free s f → parted s (f ++ s ∷ rest) ≡ f ∷ parted s rest
  parted_front [] rest h = rw (eq-eqb s s refl)
  parted_front (b ∷ bs) rest h = rw (ne_eqb b s h.0) (ap (cons_first b) (parted_front bs rest h.1))

  parted-joined : (fs : List Bytes) → 0 < length fs → All (Free s) fs → parted s (joined s fs) ≡ fs
  parted-joined [] h k = absurd (not-suc-le-zero h)
  parted-joined (f ∷ []) h k = parted-free f k.0
  parted-joined (f ∷ g ∷ fs) h k = parted_front f (joined s (g ∷ fs)) k.0 ∙ ap (λ (z : List Bytes). f ∷ z) (parted-joined (g ∷ fs) (omega arith) k.1)

  pub cut_parted : (l : Bytes) (fs : List Bytes) → Cut s l fs → fs ≡ parted s l
  cut_parted l fs c = sym (parted-joined fs c.some c.free) ∙ ap (parted s) c.joins
