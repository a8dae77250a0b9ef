-- what a field says, both ways
use Rattle.std.proofs.Common.{◌≡◌, ℕ, ◌≤◌, Bool, true, false, T, List, [], ◌∷◌, ◌++◌, length, Some, None, Ok, Option, sym, refl, ap, ◌∙◌, append_assoc, append-nil, arith}
use Rattle.std.specs.List.{fold}
use Rattle.std.proofs.lemmas.Bool.Decides.{nat_tests}
use Rattle.fields.specs.Text.{Bytes, at, name_form, only, items}
use Rattle.fields.specs.Read.{number_in, mark_in, list_in, short_list_in}
use Rattle.theory.specs.Lists.{All, all}
use Rattle.theory.specs.Rules.{Decides}
use Rattle.theory.proofs.Lists.{all_decided}
use Rattle.theory.specs.declared.Subtask.{Subtask}
use Rattle.reading.specs.declared.faults.DomainFault.{DomainFault}
use Rattle.reading.specs.declared.faults.DomainFault.TheVariants.{Undeclared}
use Rattle.reading.specs.Tables.{Tables, fact_of, symbol_of}
use Rattle.reading.specs.Lines.{found, field, new_name, old_name, taking, with_fact, with_last, fact_set, subtask_list}
use Rattle.reading.specs.Declares.{Each, Distinct, Names, IsNumber, IsMark, set_of, IsFactSet, IsSubtask}
use Rattle.reading.proofs.Checks.{step, bound, got, ok_eq}
use Rattle.reading.proofs.Lookups.{index_names, names_index, symbol_names_lem, names_symbol, symbols}

names_all : (ns : List Bytes) → Decides (all name_form ns) (All (λ n. T (name_form n)) ns)
names_all = all_decided name_form (λ n. T (name_form n)) (λ n. (λ h. h, λ h. h))

only-is : (b : ℕ) (f : Bytes) → T (only b f) → f ≡ b ∷ []
only-is b [] h = absurd h
only-is b (c ∷ []) h = grind (arith, nat_tests)
only-is b (c ∷ d ∷ cs) h = grind (arith, nat_tests)

module _ (fs : List Bytes) (k : ℕ) where
  pub number-said : (low high v : ℕ) → field (number_in fs k low high) ≡ Ok v → IsNumber low high (at fs k) v
  number-said low high v e = grind (arith, nat_tests)

  pub said-number : (low high v : ℕ) → IsNumber low high (at fs k) v → field (number_in fs k low high) ≡ Ok v
  said-number low high v h = grind (arith, nat_tests)

  pub mark-said : (v : Bool) → field (mark_in fs k) ≡ Ok v → IsMark (at fs k) v
  mark-said true e = grind (arith, only-is 118 (at fs k))
  mark-said false e = grind (arith, only-is 110 (at fs k))

  pub said-mark : (v : Bool) → IsMark (at fs k) v → field (mark_in fs k) ≡ Ok v
  said-mark true h = rw h refl
  said-mark false h = rw h refl

  list_said : (ns : List Bytes) → field (list_in fs k) ≡ Ok ns → (items (at fs k) ≡ ns) × All (λ n. T (name_form n)) (items (at fs k))
  list_said ns e = grind (arith, names_all (items (at fs k)))

  said_list : All (λ n. T (name_form n)) (items (at fs k)) → field (list_in fs k) ≡ Ok (items (at fs k))
  said_list h = grind (arith, (names_all (items (at fs k))).1 h)

  short-said : (most : ℕ) (ns : List Bytes) → field (short_list_in fs k most) ≡ Ok ns → (items (at fs k) ≡ ns) × All (λ n. T (name_form n)) (items (at fs k)) × (length (items (at fs k)) ≤ most)
  short-said most ns e = grind (arith, nat_tests, names_all (items (at fs k)))

  said-short : (most : ℕ) → All (λ n. T (name_form n)) (items (at fs k)) → length (items (at fs k)) ≤ most → field (short_list_in fs k most) ≡ Ok (items (at fs k))
  said-short most h l = grind (arith, nat_tests, (names_all (items (at fs k))).1 h)

  module _ {A : Type 0} (find : Bytes → Option A) where
    pub new-said : (n : Bytes) → new_name find fs k ≡ Ok n → (at fs k ≡ n) × T (name_form (at fs k)) × (find (at fs k) ≡ None)
    new-said n e = grind arith

    pub said-new : T (name_form (at fs k)) → find (at fs k) ≡ None → new_name find fs k ≡ Ok (at fs k)
    said-new h e = grind arith

    pub old_said : (x : A) → old_name find fs k ≡ Ok x → T (name_form (at fs k)) × (find (at fs k) ≡ Some x)
    old_said x e = grind arith

    pub said_old : (x : A) → T (name_form (at fs k)) → find (at fs k) ≡ Some x → old_name find fs k ≡ Ok x
    said_old x h e = grind arith

folded_set : (set : ℕ) (xs : List ℕ) → fold with_fact set xs ≡ set_of set xs
folded_set set [] = refl
folded_set set (x ∷ xs) = folded_set (with_fact set x) xs

pub folded_last : {A : Type 0} (acc xs : List A) → fold with_last acc xs ≡ acc ++ xs
folded_last acc [] = sym (append-nil acc)
folded_last acc (x ∷ xs) = folded_last (acc ++ x ∷ []) xs ∙ append_assoc acc (x ∷ []) xs

module _ {A B : Type 0} (f : B → A → B) (find : Bytes → Option A) (g : DomainFault) (S : Bytes → A → Type 0) where
  pub taking-said : ((n : Bytes) (x : A) → find n ≡ Some x → S n x) → (acc : B) (ns : List Bytes) (y : B) → taking f find g acc ns ≡ Ok y → (xs : List A) × Each S ns xs × (fold f acc xs ≡ y)
  taking-said is acc [] y e = ([], tt, ok_eq e)
  taking-said is acc (n ∷ ns) y e =
      let a = bound (found (find n) g) _ y e in
      let r = taking-said is (f acc a.0) ns y a.2 in
      (a.0 ∷ r.0, (is n a.0 (got (find n) g a.0 a.1), r.1), r.2)

  said-taking : ((n : Bytes) (x : A) → S n x → find n ≡ Some x) → (acc : B) (ns : List Bytes) (xs : List A) → Each S ns xs → taking f find g acc ns ≡ Ok (fold f acc xs)
  said-taking is acc [] [] h = refl
  said-taking is acc [] (x ∷ xs) h = elim h [ ]
  said-taking is acc (n ∷ ns) [] h = elim h [ ]
  said-taking is acc (n ∷ ns) (x ∷ xs) h = step _ (ap (λ (o : Option A). found o g) (is n x h.0)) (said-taking is (f acc x) ns xs h.1)

module _ (t : Tables) (fs : List Bytes) (k : ℕ) where
  pub set_said : (set : ℕ) → fact_set t fs k ≡ Ok set → IsFactSet t (at fs k) set
  set_said set e =
      let a = bound (field (list_in fs k)) _ set e in
      let b = list_said fs k a.0 a.1 in
      let r = taking-said with_fact (fact_of t) (Undeclared k) (Names t.facts) (λ n i e. index_names n t.facts i e) 0 a.0 set a.2 in
      grind (arith, b, r.1, r.2, folded_set 0 r.0)

  pub said_set : (set : ℕ) → Distinct t.facts → IsFactSet t (at fs k) set → fact_set t fs k ≡ Ok set
  said_set set d h =
      step _ (said_list fs k h.names)
      (said-taking with_fact (fact_of t) (Undeclared k) (Names t.facts) (λ n i e. names_index n t.facts i d e) 0 (items (at fs k)) h.numbers h.named ∙ ap Ok (folded_set 0 h.numbers ∙ h.is))

  pub subtasks-said : (ss : List Subtask) → subtask_list t fs k ≡ Ok ss → All (λ n. T (name_form n)) (items (at fs k)) × (length (items (at fs k)) ≤ 4) × Each (IsSubtask t) (items (at fs k)) ss
  subtasks-said ss e =
      let a = bound (field (short_list_in fs k 4)) _ ss e in
      let b = short-said fs k 4 a.0 a.1 in
      let r = taking-said with_last (symbol_of t) (Undeclared k) (IsSubtask t) (symbol_names_lem t) [] a.0 ss a.2 in
      grind (arith, b, r.1, r.2, folded_last [] r.0)

  pub said-subtasks : (ss : List Subtask) → Distinct (symbols t) → All (λ n. T (name_form n)) (items (at fs k)) → length (items (at fs k)) ≤ 4 → Each (IsSubtask t) (items (at fs k)) ss → subtask_list t fs k ≡ Ok ss
  said-subtasks ss d a l h =
      step _ (said-short fs k 4 a l)
      (said-taking with_last (symbol_of t) (Undeclared k) (IsSubtask t) (λ n s e. names_symbol t n s d e) [] (items (at fs k)) ss h ∙ ap Ok (folded_last [] ss))
