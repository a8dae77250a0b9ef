-- the level and the mark of a task at its place
use Rattle.std.proofs.Common.{◌≡◌, ℕ, ◌<◌, ◌≤◌, ltb, List, map, length, get_or, Some, None, Option, sym, ap, ◌∙◌, ltb-true, ltb-false}
use Rattle.std.specs.Borrow.{Bor}
use Rattle.std.specs.Option.{is_some, IfSome, MatchOption}
use Rattle.std.proofs.lemmas.List.{get_or_past, get_or-map, length-map}
use Rattle.theory.specs.Model.{Task, no_task}
use Rattle.reading.specs.Tables.{rank}
use Rattle.tables.specs.Held.{task_entry, task_ranks}
use Rattle.tables.specs.declared.entries.Task.{Task as Entry}

module _ (ts : List Entry) (i : ℕ) where
  rank-at : (x : Entry) → i < length ts → x ≡ get_or ts i x → get_or (task_ranks ts) i no_task ≡ rank (task_entry x)
  rank-at x h e =
      get_or-map rank (map task_entry ts) i (task_entry x) no_task (simp length-map h)
      ∙ ap rank (get_or-map task_entry ts i x (task_entry x) h ∙ ap task_entry (sym e))

  rank-past : length ts ≤ i → get_or (task_ranks ts) i no_task ≡ no_task
  rank-past h = get_or_past (task_ranks ts) i no_task (simp (length-map, length-map) h)

  -- what a question on the task says, and what it says where there is none
  pub asked : {V : Type 0} (of : Task → V) (v : V) (r : Option (Bor Entry)) (Says : Bor Entry → Type 0)
      → is_some r ≡ ltb i (length ts) → IfSome r (λ x. x.now ≡ get_or ts i x.now) → MatchOption r (v ≡ of no_task) Says
      → ((x : Bor Entry) → Says x → v ≡ of (rank (task_entry x.now))) → v ≡ of (get_or (task_ranks ts) i no_task)
  asked of v None Says n e m says = m ∙ sym (ap of (rank-past (ltb-false i (length ts) (sym n))))
  asked of v (Some x) Says n e m says = says x m ∙ sym (ap of (rank-at x.now (ltb-true i (length ts) (sym n)) e))
