-- a list of names read from the left
use Rattle.std.proofs.Common.{◌≡◌, ℕ, ◌<◌, ◌≤◌, Bool, true, false, cond, ltb, List, [], ◌∷◌, length, Some, None, Ok, Err, Option, ap, ◌∙◌, arith, lt-ltb}
use Rattle.std.proofs.lemmas.Bool.Decides.{nat_tests}
use Rattle.fields.specs.Read.{short_list_in}
use Rattle.fields.specs.Text.{Bytes}
use Rattle.reading.specs.Lines.{Check, ◌>>=◌, found, taking, with_last}
use Rattle.reading.specs.declared.faults.DomainFault.{DomainFault}

module _ {A B : Type 0} (step : B → A → B) (find : Bytes → Option A) (e : DomainFault) (acc : B) where
  abbrev next : List Bytes → Option A → Check B
  next rest o = found o e >>= λ x. taking step find e (step acc x) rest

  pub take_more : (ns : List Bytes) (n : Bytes) (rest : List Bytes) (x : A) → ns ≡ n ∷ rest → find n ≡ Some x → taking step find e acc ns ≡ taking step find e (step acc x) rest
  take_more ns n rest x q f = ap (taking step find e acc) q ∙ ap (next rest) f

  pub take_none : (ns : List Bytes) (n : Bytes) (rest : List Bytes) → ns ≡ n ∷ rest → find n ≡ None → taking step find e acc ns ≡ Err e
  take_none ns n rest q f = ap (taking step find e acc) q ∙ ap (next rest) f

  pub take_end : (ns : List Bytes) → ns ≡ [] → taking step find e acc ns ≡ Ok acc
  take_end ns q = ap (taking step find e acc) q

-- a short list is short
pub short_len : (fs : List Bytes) (k most : ℕ) (ns : List Bytes) → Ok ns ≡ short_list_in fs k most → length ns ≤ most
short_len fs k most ns e = grind (arith, nat_tests)

-- an element put at the end of a short list, where there was room
module _ {A : Type 0} (b : Bool) (xs : List A) where
  pub with_some : (ys : List A) → Some ys ≡ cond b (Some xs) None → (ys ≡ xs) × (b ≡ true)
  with_some ys e = grind arith

  pub with_none : None ≡ cond b (Some xs) None → b ≡ false
  with_none e = grind arith

pub with_room : {A : Type 0} (xs : List A) (x : A) → length xs < 4 → cond (ltb (length xs) 4) (with_last xs x) xs ≡ with_last xs x
with_room xs x h = ap (λ (b : Bool). cond b (with_last xs x) xs) (lt-ltb _ _ h)
