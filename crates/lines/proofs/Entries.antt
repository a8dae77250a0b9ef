-- a line in two parts: the fields that it reads, and what is checked of what they read
use Rattle.std.proofs.Common.{◌≡◌, ℕ, suc, ◌+◌, true, eqb, [], is_err, IsErrAnd, Ok, Err, vec_items, Result, sym, refl, ap, ◌∙◌, add-one, arith}
use lib.Bits.{bit_and}
use Rattle.fields.specs.Held.{line_fields}
use Rattle.fields.specs.Read.{number_in, mark_in}
use Rattle.fields.specs.declared.line.Line.{Line}
use Rattle.theory.specs.Model.{Method}
use Rattle.theory.specs.Rules.{keeps_mark, keeps_ladder}
use Rattle.theory.specs.declared.Constraint.{Constraint}
use Rattle.theory.specs.declared.Constraint.TheVariants.{Between}
use Rattle.reading.specs.Lines.{Check, ◌>>=◌, ◌>>◌, must, room, field, constrain, action_line, task_line, method_line, position_line, between_line}
use Rattle.reading.specs.Tables as plain
use Rattle.reading.specs.declared.faults.DomainFault.{DomainFault}
use Rattle.reading.specs.declared.faults.DomainFault.TheVariants.{Clash, Mark, Ladder}
use Rattle.reading.proofs.Checks.{step, stop}
use Rattle.tables.specs.Held.{few_items, task_ranks}
use Rattle.tables.specs.declared.entries.Method.{Method as Held}
use Rattle.lines.specs.declared.filled.Tables.{Tables}
use Rattle.lines.specs.Closes.{meant, closes}
use Rattle.lines.specs.Entries.{action_in, task_in, method_in, rules_for, position_in, between_in}
use Rattle.lines.specs.Took.{Took, new_symbol, old_fact, old_task, fact_set, subtask_list, arity}
use Rattle.lines.proofs.Closing.{closed_roomy}

two : {A B R S : Type 0} (g : R → Check S) (f : A → B → R) (a : Check A) (b : Check B) → (a >>= λ x. b >>= λ y. g (f x y)) ≡ ((a >>= λ x. b >>= λ y. Ok (f x y)) >>= g)
two g f a b = grind arith

three : {A B C R S : Type 0} (g : R → Check S) (f : A → B → C → R) (a : Check A) (b : Check B) (c d : A → Check C) → ((x : A) → c x ≡ d x)
    → (a >>= λ x. b >>= λ y. c x >>= λ z. g (f x y z)) ≡ ((a >>= λ x. b >>= λ y. d x >>= λ z. Ok (f x y z)) >>= g)
three g f a b c d same = grind (arith, same)

four : {A B C D R S : Type 0} (g : R → Check S) (f : A → B → C → D → R) (a : Check A) (b : Check B) (c : Check C) (d : Check D)
    → (a >>= λ x. b >>= λ y. c >>= λ z. d >>= λ w. g (f x y z w)) ≡ ((a >>= λ x. b >>= λ y. c >>= λ z. d >>= λ w. Ok (f x y z w)) >>= g)
four g f a b c d = grind arith

-- the rules, and then the entry
rules : (p q : Check (Unit {0})) {A : Type 0} (x : Check A) → (p >> (q >> x)) ≡ ((p >> q) >> x)
rules p q x = grind arith

module _ (t : Tables) (l : Line) where
  abbrev T : plain.Tables
  T = meant t

  abbrev action_rest : plain.ActionEntry → Check plain.Tables
  action_rest a = room 64 T.actions >> (must (eqb (bit_and a.adds a.deletes) 0) Clash >> Ok (plain.add_action T a))

  action_parts : action_line T (line_fields l) ≡ (action_in t l >>= action_rest)
  action_parts = four action_rest (λ n needs adds deletes. record { name = n; needs = needs; adds = adds; deletes = deletes }) (new_symbol t l 2) (fact_set t l 3) (fact_set t l 4) (fact_set t l 5)

  pub action_stop : {e : DomainFault} → Err e ≡ action_in t l → action_line T (line_fields l) ≡ Err e
  action_stop p = action_parts ∙ stop action_rest (sym p)

  pub action_goes : {a : plain.ActionEntry} {y : Check plain.Tables} → Ok a ≡ action_in t l → action_rest a ≡ y → action_line T (line_fields l) ≡ y
  action_goes p h = action_parts ∙ step action_rest (sym p) h

  abbrev task_rest : plain.TaskEntry → Check plain.Tables
  task_rest e = room 48 T.tasks >> Ok (plain.add_task T e)

  task_parts : task_line T (line_fields l) ≡ (task_in t l >>= task_rest)
  task_parts = three task_rest (λ n level vanish. record { name = n; level = level; vanish = vanish }) (new_symbol t l 2) (field (number_in (line_fields l) 3 0 7)) (λ n. field (mark_in (line_fields l) 4)) (λ n. field (mark_in (line_fields l) 4)) (λ n. refl)

  pub task_stop : {e : DomainFault} → Err e ≡ task_in t l → task_line T (line_fields l) ≡ Err e
  task_stop p = task_parts ∙ stop task_rest (sym p)

  pub task_goes : {a : plain.TaskEntry} {y : Check plain.Tables} → Ok a ≡ task_in t l → task_rest a ≡ y → task_line T (line_fields l) ≡ y
  task_goes p h = task_parts ∙ step task_rest (sym p) h

  abbrev method_rest : Method → Check plain.Tables
  method_rest m = room 128 T.methods >> (must (keeps_mark (plain.ranks T) m.owner m.subtasks) Mark >> (must (keeps_ladder (plain.ranks T) m.owner m.subtasks) Ladder >> Ok (plain.add_method T m)))

  method_parts : method_line T (line_fields l) ≡ (method_in t l >>= method_rest)
  method_parts = four method_rest (λ owner price grade subtasks. record { owner = owner; price = price; grade = grade; subtasks = subtasks; constraints = [] })
      (old_task t l 2) (field (number_in (line_fields l) 3 0 1000)) (field (number_in (line_fields l) 4 0 9)) (subtask_list t l 5)

  pub method_stop : {e : DomainFault} → Err e ≡ method_in t l → method_line T (line_fields l) ≡ Err e
  method_stop p = method_parts ∙ stop method_rest (sym p)

  pub method_goes : {m : Method} {y : Check plain.Tables} → Ok m ≡ method_in t l → method_rest m ≡ y → method_line T (line_fields l) ≡ y
  method_goes p h = method_parts ∙ step method_rest (sym p) h

  module _ (constraint : ℕ → ℕ → Constraint) where
    abbrev position_rest : ℕ × ℕ → Check plain.Tables
    position_rest p = constrain T (constraint p.0 p.1)

    position-parts : position_line constraint T (line_fields l) ≡ (position_in t l >>= position_rest)
    position-parts = two position_rest (λ j f. (j, f)) (field (number_in (line_fields l) 2 0 (arity t))) (old_fact t l 3)

    pub position-stop : {e : DomainFault} → Err e ≡ position_in t l → position_line constraint T (line_fields l) ≡ Err e
    position-stop p = position-parts ∙ stop position_rest (sym p)

    pub position_goes : {j f : ℕ} → Ok (j, f) ≡ position_in t l → position_line constraint T (line_fields l) ≡ constrain T (constraint j f)
    position_goes p = position-parts ∙ step position_rest (sym p) refl

  between_parts : between_line T (line_fields l) ≡ (between_in t l >>= constrain T)
  between_parts = three (constrain T) Between (field (number_in (line_fields l) 2 1 (arity t))) (old_fact t l 3) (λ i. field (number_in (line_fields l) 4 (suc i) (arity t))) (λ i. field (number_in (line_fields l) 4 (i + 1) (arity t)))
      (λ i. ap (λ (low : ℕ). field (number_in (line_fields l) 4 low (arity t))) (sym (add-one i)))

  pub between_stop : {e : DomainFault} → Err e ≡ between_in t l → between_line T (line_fields l) ≡ Err e
  between_stop p = between_parts ∙ stop (constrain T) (sym p)

  pub between_goes : {c : Constraint} → Ok c ≡ between_in t l → between_line T (line_fields l) ≡ constrain T c
  between_goes p = between_parts ∙ step (constrain T) (sym p) refl

-- a method's rules, kept or not
module _ (t : Tables) (m : Held) (x : Check plain.Tables) where
  abbrev mark : Check (Unit {0})
  mark = must (keeps_mark (task_ranks (vec_items t.tasks)) m.task (few_items m.subtasks)) Mark

  abbrev ladder : Check (Unit {0})
  ladder = must (keeps_ladder (task_ranks (vec_items t.tasks)) m.task (few_items m.subtasks)) Ladder

  pub rules-kept : Ok tt ≡ rules_for t m → (mark >> (ladder >> x)) ≡ x
  rules-kept e = rules mark ladder x ∙ ap (λ (r : Check (Unit {0})). r >> x) (sym e)

  pub rules_broken : {f : DomainFault} → Err f ≡ rules_for t m → (mark >> (ladder >> x)) ≡ Err f
  rules_broken e = rules mark ladder x ∙ ap (λ (r : Check (Unit {0})). r >> x) (sym e)

-- a fault passed up leaves the tables as they were
pub took_up : (r : Result (Unit {0}) DomainFault) (t : Tables) (c : Check plain.Tables) (e : DomainFault) → (is_err r ≡ true) × IsErrAnd r (λ f. f ≡ e) → c ≡ Err e → closes t ≡ true → Took r t t c
took_up r t c e h q k = grind (arith, closed_roomy t k)

pub took_as : (r : Result (Unit {0}) DomainFault) (old new : Tables) {c d : Check plain.Tables} → c ≡ d → Took r old new d → Took r old new c
took_as r old new e h = grind arith
