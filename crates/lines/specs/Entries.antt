-- what the fields of a line read as, before the checks that concern its table
use Rattle.std.specs.Prelude.{ℕ, ◌+◌, cond, List, [], length, Ok, vec_items, nat_lt}
use Rattle.fields.specs.Held.{line_fields}
use Rattle.fields.specs.Read.{number_in, mark_in}
use Rattle.fields.specs.declared.line.Line.{Line}
use Rattle.theory.specs.Model as model
use Rattle.theory.specs.Rules.{keeps_mark, keeps_ladder}
use Rattle.theory.specs.declared.Subtask.{Subtask}
use Rattle.theory.specs.declared.Constraint.{Constraint}
use Rattle.theory.specs.declared.Constraint.TheVariants.{Between}
use Rattle.reading.specs.Lines.{Check, ◌>>=◌, ◌>>◌, must, field, with_last}
use Rattle.reading.specs.Tables.{ActionEntry, TaskEntry}
use Rattle.reading.specs.declared.faults.DomainFault.TheVariants.{Mark, Ladder}
use Rattle.tables.specs.Held.{few_items, task_ranks}
use Rattle.tables.specs.declared.entries.Method.{Method}
use Rattle.lines.specs.declared.filled.Tables.{Tables}
use Rattle.lines.specs.Took.{new_symbol, old_fact, old_task, fact_set, subtask_list, arity}

module _ (t : Tables) (l : Line) where
  abbrev pub action_in : Check ActionEntry
  action_in = do
    n ← new_symbol t l 2
    needs ← fact_set t l 3
    adds ← fact_set t l 4
    deletes ← fact_set t l 5
    Ok (record { name = n; needs = needs; adds = adds; deletes = deletes })

  abbrev pub task_in : Check TaskEntry
  task_in = do
    n ← new_symbol t l 2
    level ← field (number_in (line_fields l) 3 0 7)
    vanish ← field (mark_in (line_fields l) 4)
    Ok (record { name = n; level = level; vanish = vanish })

  abbrev pub method_in : Check model.Method
  method_in = do
    owner ← old_task t l 2
    price ← field (number_in (line_fields l) 3 0 1000)
    grade ← field (number_in (line_fields l) 4 0 9)
    subtasks ← subtask_list t l 5
    Ok (record { owner = owner; price = price; grade = grade; subtasks = subtasks; constraints = [] })

  abbrev pub position_in : Check (ℕ × ℕ)
  position_in = do
    j ← field (number_in (line_fields l) 2 0 (arity t))
    f ← old_fact t l 3
    Ok (j, f)

  abbrev pub between_in : Check Constraint
  between_in = do
    i ← field (number_in (line_fields l) 2 1 (arity t))
    f ← old_fact t l 3
    j ← field (number_in (line_fields l) 4 (i + 1) (arity t))
    Ok (Between i f j)

-- the rules of a method
abbrev pub rules_for : Tables → Method → Check (Unit {0})
rules_for t m = do
  must (keeps_mark (task_ranks (vec_items t.tasks)) m.task (few_items m.subtasks)) Mark
  must (keeps_ladder (task_ranks (vec_items t.tasks)) m.task (few_items m.subtasks)) Ladder

-- a list with one more at its end, where fewer than four stand in it
abbrev pub with_subtask : List Subtask → Subtask → List Subtask
with_subtask xs x = cond (nat_lt (length xs) 4) (with_last xs x) xs
