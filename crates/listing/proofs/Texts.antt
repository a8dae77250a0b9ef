-- texts that are made part by part
use Rattle.std.proofs.Common.{◌≡◌, ℕ, suc, ◌+◌, ◌/◌, ◌^◌, ◌<◌, cond, nat_eq, List, [], ◌∷◌, ◌++◌, map, length, get_or, drop, refl, sym, ap, ◌∙◌, append-nil, shr-shr}
use Rattle.std.proofs.lemmas.Simd.{map-map}
use Rattle.std.proofs.lemmas.List.{drop_more}
use Rattle.std.specs.Int.{bit_at}
use Rattle.std.specs.List.{flat_map}
use Rattle.fields.specs.Text.{Bytes, comma}
use Rattle.listing.specs.Listing.{chosen, name_list, numbered}

-- a name, and the names after it with a comma before each
pub name_first : (n : Bytes) (ns : List Bytes) → n ++ flat_map (λ m. comma ∷ m) ns ≡ name_list (n ∷ ns)
name_first n [] = append-nil n
name_first n (m ∷ ns) = ap (λ (b : Bytes). n ++ comma ∷ b) (name_first m ns)

-- a name of an entry in a table that is read by f
pub get_or-names : {A B : Type 0} (name : B → Bytes) (f : A → B) (xs : List A) (ys : List B) (i : ℕ) → map f xs ≡ ys → get_or (map (λ x. name (f x)) xs) i [] ≡ get_or (map name ys) i []
get_or-names name f xs ys i e = ap (λ (l : List Bytes). get_or l i []) (sym (map-map name f xs) ∙ ap (map name) e)

-- the texts of entries that are read by f
pub numbered-map : {A B : Type 0} (text : ℕ → B → Bytes) (f : A → B) (n : ℕ) (xs : List A) → numbered (λ i x. text i (f x)) n xs ≡ numbered text n (map f xs)
numbered-map text f n [] = refl
numbered-map text f n (x ∷ xs) = ap (λ (b : Bytes). text n (f x) ++ b) (numbered-map text f (suc n) xs)

-- the names of a set from the i-th fact on: by bit i it is the first of them or not
pub chosen_at : (set i : ℕ) (ns : List Bytes) (n : Bytes) → i < length ns → n ≡ get_or ns i n
    → chosen (set / 2 ^ i) (drop i ns) ≡ cond (nat_eq (bit_at set i) 1) (n ∷ chosen (set / 2 ^ (i + 1)) (drop (i + 1) ns)) (chosen (set / 2 ^ (i + 1)) (drop (i + 1) ns))
chosen_at set i ns n h e =
    let rest = drop (i + 1) ns in
    let here = nat_eq (bit_at set i) 1 in
    ap (chosen (set / 2 ^ i)) (drop_more ns i n h)
    ∙ ap (λ (x : Bytes). cond here (x ∷ chosen (set / 2 ^ i / 2) rest) (chosen (set / 2 ^ i / 2) rest)) (sym e)
    ∙ ap (λ (s : ℕ). cond here (n ∷ chosen s rest) (chosen s rest)) (shr-shr set i 1)
