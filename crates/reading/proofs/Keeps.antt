-- a line that is accepted keeps the tables sound
use Rattle.std.proofs.Common.{◌≡◌, ℕ, suc, ◌^◌, ◌<◌, ◌≤◌, T, eqb, ltb, List, [], ◌∷◌, ◌++◌, length, get_or, Ok, sym, refl, ap, subst, arith, ltb→lt, length-append, pow_pos, pow_mono}
use mathlib.Core.List.{map-append}
use lib.Bits.{bit_and, or_lt}
use lib.ListN.{length-map, get_or-append}
use lib.Pow.{pow-lt}
use Rattle.fields.specs.Text.{Bytes, at, items}
use Rattle.fields.specs.Read.{number_in, mark_in}
use Rattle.theory.specs.Lists.{All}
use Rattle.theory.specs.Model.{Task, Method, Vanishing, no_task, no_method}
use Rattle.theory.specs.Rules.{keeps_mark, keeps_ladder}
use Rattle.theory.specs.declared.Subtask.{Subtask}
use Rattle.theory.specs.declared.Subtask.TheVariants.{Primitive, Compound}
use Rattle.theory.specs.declared.Constraint.{Constraint}
use Rattle.theory.specs.declared.Constraint.TheVariants.{Before, After, Between}
use Rattle.theory.proofs.Rules.{rules_decided}
use Rattle.reading.specs.declared.faults.DomainFault.TheVariants.{Full, Clash, Mark, Ladder}
use Rattle.reading.specs.declared.kinds.Kind.{Kind}
use Rattle.reading.specs.declared.kinds.Kind.TheVariants as kind
use Rattle.reading.specs.Tables.{Tables, ActionEntry, TaskEntry, rank, ranks, task_names, fact_of, task_of, symbol_of, add_fact, add_action, add_task, add_method, add_constraint, constrained}
use Rattle.reading.specs.Lines.{field, new_name, old_name, with_fact, fact_set, subtask_list, fact_line, action_line, task_line, method_line, last_method, arity, position_line, between_line}
use Rattle.reading.specs.Reading.{declared}
use Rattle.reading.specs.Sound.{SubtaskIn, ConstraintIn, SoundAction, SoundMethod, Sound, sound}
use Rattle.reading.specs.Declares.{Names, IsFactSet, IsSubtask, set_of}
use Rattle.reading.proofs.Checks.{bound, passed, ok_eq}
use Rattle.reading.proofs.Alls.{all_map, all_both, all_left, all_right, all_last, each_length, each_right, length_last}
use Rattle.reading.proofs.Lookups.{index_names}
use Rattle.reading.proofs.Fields.{old_said, number-said, set_said, subtasks-said}
use Rattle.reading.proofs.Sounds.{sound_decided}

-- a table with room for one more
added : {A : Type 0} (xs : List A) (x : A) (most : ℕ) → T (ltb (length xs) most) → length (xs ++ x ∷ []) ≤ most
added xs x most h = omega (arith, length-append xs (x ∷ []), ltb→lt (length xs) most h)

longer : {A : Type 0} (xs : List A) (x : A) → length xs ≤ length (xs ++ x ∷ [])
longer xs x = omega (arith, length-append xs (x ∷ []))

set_lt : (n set : ℕ) (fs : List ℕ) → set < 2 ^ n → All (λ f. f < n) fs → set_of set fs < 2 ^ n
set_lt n set [] h k = h
set_lt n set (f ∷ fs) h k = set_lt n (with_fact set f) fs (or_lt n set (2 ^ f) h (pow-lt k.0)) k.1

fact_set-lt : (t : Tables) (f : Bytes) (set : ℕ) → IsFactSet t f set → set < 2 ^ length t.facts
fact_set-lt t f set h =
    subst (λ s. s < 2 ^ length t.facts) h.is
    (set_lt (length t.facts) 0 h.numbers (pow_pos (length t.facts)) (each_right (Names t.facts) (λ i. i < length t.facts) (λ n i k. k.0) (items f) h.numbers h.named))

pub subtask_here : (t : Tables) (n : Bytes) (s : Subtask) → IsSubtask t n s → SubtaskIn (length t.actions) (length t.tasks) s
subtask_here t n s h = grind (arith, length-map t.actions (λ (a : ActionEntry). a.name), length-map t.tasks (λ (e : TaskEntry). e.name))

-- tables that grew, and whose tasks keep their ranks
record Grown (t u : Tables) : Type 0 where
  facts : length t.facts ≤ length u.facts
  actions : length t.actions ≤ length u.actions
  tasks : length t.tasks ≤ length u.tasks
  same : (i : ℕ) → i < length t.tasks → get_or (ranks u) i no_task ≡ get_or (ranks t) i no_task

module _ (t u : Tables) (g : Grown t u) where
  subtask_still : (s : Subtask) → SubtaskIn (length t.actions) (length t.tasks) s → SubtaskIn (length u.actions) (length u.tasks) s
  subtask_still s h = grind (arith, g.actions, g.tasks)

  constraint_still : (k : ℕ) (c : Constraint) → ConstraintIn (length t.facts) k c → ConstraintIn (length u.facts) k c
  constraint_still k c h = grind (arith, g.facts)

  actions_still : (xs : List ActionEntry) → All (SoundAction (length t.facts)) xs → All (SoundAction (length u.facts)) xs
  actions_still = all_map (SoundAction (length t.facts)) (SoundAction (length u.facts)) (λ a s. let p : 2 ^ length t.facts ≤ 2 ^ length u.facts = pow_mono g.facts in grind arith)

  vanishing_before : (ss : List Subtask) → All (SubtaskIn (length t.actions) (length t.tasks)) ss → All (Vanishing (ranks u)) ss → All (Vanishing (ranks t)) ss
  vanishing_before [] h v = tt
  vanishing_before (Primitive a ∷ ss) h v = (v.0, vanishing_before ss h.1 v.1)
  vanishing_before (Compound j ∷ ss) h v = (subst (λ (k : Task). T k.vanish) (g.same j h.0) v.0, vanishing_before ss h.1 v.1)

  method_still : (m : Method) → SoundMethod t m → SoundMethod u m
  method_still m s =
      let o = g.same m.owner s.owner in
      record {
        owner = omega (arith, s.owner, g.tasks);
        subtasks = all_map _ _ subtask_still m.subtasks s.subtasks;
        few = s.few;
        constraints = all_map _ _ (constraint_still (length m.subtasks)) m.constraints s.constraints;
        mark = λ v. subst (λ (k : Task). T k.vanish) (sym o) (s.mark (vanishing_before m.subtasks s.subtasks v));
        ladder = λ us j vs e a b.
            let i = subst (All (SubtaskIn (length t.actions) (length t.tasks))) e s.subtasks in
            let r = all_right (SubtaskIn (length t.actions) (length t.tasks)) us (Compound j ∷ vs) i in
            let k = s.ladder us j vs e (vanishing_before us (all_left _ us (Compound j ∷ vs) i) a) (vanishing_before vs r.1 b) in
            omega (arith, k, ap (λ (k : Task). k.level) (g.same j r.0), ap (λ (k : Task). k.level) o);
      }

  methods_still : (ms : List Method) → All (SoundMethod t) ms → All (SoundMethod u) ms
  methods_still = all_map (SoundMethod t) (SoundMethod u) method_still

-- each kind of line
module _ (t u : Tables) (fs : List Bytes) where
  fact-keeps : fact_line t fs ≡ Ok u → Sound t → Sound u
  fact-keeps e s =
      let n = bound (new_name (fact_of t) fs 2) _ u e in
      let r = passed (ltb (length t.facts) 64) Full (Ok (add_fact t n.0)) u n.2 in
      let g : Grown t (add_fact t n.0) = record { facts = longer t.facts n.0; actions = omega arith; tasks = omega arith; same = λ i h. refl } in
      subst Sound (ok_eq r.1) (grind (arith, added t.facts n.0 64 r.0, actions_still t (add_fact t n.0) g t.actions s.sets, methods_still t (add_fact t n.0) g t.methods s.ways))

  action_keeps : action_line t fs ≡ Ok u → Sound t → Sound u
  action_keeps e s =
      let n = bound (new_name (symbol_of t) fs 2) _ u e in
      let p = bound (fact_set t fs 3) _ u n.2 in
      let a = bound (fact_set t fs 4) _ u p.2 in
      let x = bound (fact_set t fs 5) _ u a.2 in
      let v : ActionEntry = record { name = n.0; needs = p.0; adds = a.0; deletes = x.0 } in
      let r = passed (ltb (length t.actions) 64) Full _ u x.2 in
      let b = passed (eqb (bit_and a.0 x.0) 0) Clash (Ok (add_action t v)) u r.1 in
      let w : SoundAction (length t.facts) v = grind (arith, fact_set-lt t _ p.0 (set_said t fs 3 p.0 p.1), fact_set-lt t _ a.0 (set_said t fs 4 a.0 a.1), fact_set-lt t _ x.0 (set_said t fs 5 x.0 x.1)) in
      let g : Grown t (add_action t v) = record { facts = omega arith; actions = longer t.actions v; tasks = omega arith; same = λ i h. refl } in
      subst Sound (ok_eq b.1) (grind (arith, added t.actions v 64 r.0, all_both (SoundAction (length t.facts)) t.actions (v ∷ []) s.sets (w, tt), methods_still t (add_action t v) g t.methods s.ways))

  task_keeps : task_line t fs ≡ Ok u → Sound t → Sound u
  task_keeps e s =
      let n = bound (new_name (symbol_of t) fs 2) _ u e in
      let p = bound (field (number_in fs 3 0 7)) _ u n.2 in
      let m = bound (field (mark_in fs 4)) _ u p.2 in
      let v : TaskEntry = record { name = n.0; level = p.0; vanish = m.0 } in
      let r = passed (ltb (length t.tasks) 48) Full (Ok (add_task t v)) u m.2 in
      let q = map-append rank t.tasks (v ∷ []) in
      let k = get_or-append (ranks t) (rank v ∷ []) no_task in
      let g : Grown t (add_task t v) = record { facts = omega arith; actions = omega arith; tasks = longer t.tasks v; same = λ i h. rw q (k i (rw length-map h)) } in
      let levels = all_both (λ (e : TaskEntry). e.level ≤ 7) t.tasks (v ∷ []) s.levels ((number-said fs 3 0 7 p.0 p.1).3, tt) in
      subst Sound (ok_eq r.1) (grind (arith, added t.tasks v 48 r.0, levels, methods_still t (add_task t v) g t.methods s.ways))

  method_keeps : method_line t fs ≡ Ok u → Sound t → Sound u
  method_keeps e s =
      let o = bound (old_name (task_of t) fs 2) _ u e in
      let p = bound (field (number_in fs 3 0 1000)) _ u o.2 in
      let d = bound (field (number_in fs 4 0 9)) _ u p.2 in
      let ss = bound (subtask_list t fs 5) _ u d.2 in
      let r = passed (ltb (length t.methods) 128) Full _ u ss.2 in
      let a = passed (keeps_mark (ranks t) o.0 ss.0) Mark _ u r.1 in
      let v : Method = record { owner = o.0; price = p.0; grade = d.0; subtasks = ss.0; constraints = [] } in
      let b = passed (keeps_ladder (ranks t) o.0 ss.0) Ladder (Ok (add_method t v)) u a.1 in
      let z = subtasks-said t fs 5 ss.0 ss.1 in
      let rules = rules_decided (ranks t) o.0 ss.0 in
      let g : Grown t (add_method t v) = record { facts = omega arith; actions = omega arith; tasks = omega arith; same = λ i h. refl } in
      let i : o.0 < length t.tasks = simp length-map at (index_names _ (task_names t) o.0 (old_said fs 2 (task_of t) o.0 o.1).1).0 in
      let ins = each_right (IsSubtask t) (SubtaskIn (length t.actions) (length t.tasks)) (subtask_here t) (items (at fs 5)) ss.0 z.2 in
      let w : SoundMethod (add_method t v) v = grind (arith, i, ins, z.1, each_length (IsSubtask t) (items (at fs 5)) ss.0 z.2, rules.0.0 a.0, rules.1.0 b.0) in
      let ways = all_both (SoundMethod (add_method t v)) t.methods (v ∷ []) (methods_still t (add_method t v) g t.methods s.ways) (w, tt) in
      subst Sound (ok_eq b.1) (grind (arith, added t.methods v 128 r.0, ways))

-- the last method takes a constraint in range
constraint_keeps : (t : Tables) (c : Constraint) → Sound t → ConstraintIn (length t.facts) (arity t) c → Sound (add_constraint t c)
constraint_keeps t c s k =
    let g : Grown t (add_constraint t c) = record { facts = omega arith; actions = omega arith; tasks = omega arith; same = λ i h. refl } in
    let more : SoundMethod (add_constraint t c) (last_method t) → SoundMethod (add_constraint t c) (constrained c (last_method t)) = λ w.
    let cs = all_both (ConstraintIn (length t.facts) (arity t)) (last_method t).constraints (c ∷ []) w.constraints (k, tt) in grind (arith, cs) in
    let ways = all_last (SoundMethod (add_constraint t c)) (constrained c) no_method t.methods (methods_still t (add_constraint t c) g t.methods s.ways) more in
    grind (arith, length_last (constrained c) t.methods, ways)

module _ (t u : Tables) (fs : List Bytes) where
  fact_here : (k f : ℕ) → old_name (fact_of t) fs k ≡ Ok f → f < length t.facts
  fact_here k f e = (index_names _ t.facts f (old_said fs k (fact_of t) f e).1).0

  position-keeps : (c : ℕ → ℕ → Constraint) → ((facts k j f : ℕ) → j ≤ k → f < facts → ConstraintIn facts k (c j f)) → position_line c t fs ≡ Ok u → Sound t → Sound u
  position-keeps c w e s =
      let j = bound (field (number_in fs 2 0 (arity t))) _ u e in
      let f = bound (old_name (fact_of t) fs 3) _ u j.2 in
      let r = passed (ltb (length (last_method t).constraints) 4) Full (Ok (add_constraint t (c j.0 f.0))) u f.2 in
      subst Sound (ok_eq r.1) (constraint_keeps t (c j.0 f.0) s (w (length t.facts) (arity t) j.0 f.0 (number-said fs 2 0 (arity t) j.0 j.1).3 (fact_here 3 f.0 f.1)))

  between_keeps : between_line t fs ≡ Ok u → Sound t → Sound u
  between_keeps e s =
      let i = bound (field (number_in fs 2 1 (arity t))) _ u e in
      let f = bound (old_name (fact_of t) fs 3) _ u i.2 in
      let j = bound (field (number_in fs 4 (suc i.0) (arity t))) _ u f.2 in
      let r = passed (ltb (length (last_method t).constraints) 4) Full (Ok (add_constraint t (Between i.0 f.0 j.0))) u j.2 in
      let b = number-said fs 4 (suc i.0) (arity t) j.0 j.1 in
      subst Sound (ok_eq r.1) (constraint_keeps t (Between i.0 f.0 j.0) s ((number-said fs 2 1 (arity t) i.0 i.1).2, b.2, b.3, fact_here 3 f.0 f.1))

sound_keeps : (c : Kind) (t u : Tables) (fs : List Bytes) → declared c t fs ≡ Ok u → Sound t → Sound u
sound_keeps kind.Fact t u fs = fact-keeps t u fs
sound_keeps kind.Action t u fs = action_keeps t u fs
sound_keeps kind.Task t u fs = task_keeps t u fs
sound_keeps kind.Method t u fs = method_keeps t u fs
sound_keeps kind.Before t u fs = position-keeps t u fs Before (λ facts k j f a b. (a, b))
sound_keeps kind.After t u fs = position-keeps t u fs After (λ facts k j f a b. (a, b))
sound_keeps kind.Between t u fs = between_keeps t u fs
sound_keeps kind.Closing t u fs = λ e s. subst Sound (ok_eq e) s

pub keeps : (c : Kind) (t u : Tables) (fs : List Bytes) → declared c t fs ≡ Ok u → T (sound t) → T (sound u)
keeps c t u fs e h = (sound_decided u).1 (sound_keeps c t u fs e ((sound_decided t).0 h))
