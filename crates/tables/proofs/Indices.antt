-- the place that a search by name finds
use Rattle.std.proofs.Common.{◌≡◌, ℕ, suc, ◌+◌, Bool, true, false, cond, not, ltb, List, [], ◌∷◌, map, length, Some, None, Option, refl, ap, ◌∙◌, arith, lt-ltb, le-ltb, ltb-true, ltb-false}
use Rattle.std.specs.List.{position, position_or_len}
use Rattle.std.specs.Str.{bytes_eq}
use Rattle.fields.specs.Text.{Bytes}
use Rattle.reading.specs.Tables.{index_of, next}

abbrev within : ℕ → ℕ → Option ℕ
within p l = cond (ltb p l) (Some p) None

one_more : (p l : ℕ) → within (1 + p) (suc l) ≡ next (within p l)
one_more p l = go (ltb p l) refl
  where
    go : (b : Bool) → ltb p l ≡ b → within (1 + p) (suc l) ≡ next (cond b (Some p) None)
    go true e = ap (λ (b : Bool). cond b (Some (1 + p)) None) (lt-ltb (1 + p) (suc l) (omega (arith, ltb-true p l e))) ∙ ap Some (omega arith)
    go false e = ap (λ (b : Bool). cond b (Some (1 + p)) None) (le-ltb (1 + p) (suc l) (omega (arith, ltb-false p l e)))

-- the first entry whose name this is has the number that the tables give
pub position_is : {A : Type 0} (text : A → Bytes) (n : Bytes) (xs : List A) → position (λ x. bytes_eq (text x) n) xs ≡ index_of n (map text xs)
position_is text n [] = refl
position_is text n (x ∷ xs) =
    elim (bytes_eq (text x) n) as (λ b. within (cond (not b) (1 + position_or_len (λ y. bytes_eq (text y) n) xs) 0) (suc (length xs)) ≡ cond b (Some 0) (next (index_of n (map text xs)))) [
      | true ↦ ap (λ (b : Bool). cond b (Some 0) None) (lt-ltb 0 (suc (length xs)) (omega arith))
      | false ↦ one_more (position_or_len (λ y. bytes_eq (text y) n) xs) (length xs) ∙ ap next (position_is text n xs)
    ]
