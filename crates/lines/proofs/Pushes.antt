-- a line that puts an entry at the end of its table
use Rattle.std.proofs.Common.{◌≡◌, List, [], ◌∷◌, ◌++◌, true, eqb, Ok, vec_items, vec_capacity, arith, Vec, Global, sym, ap, ◌∙◌}
use lib.Bits.{bit_and}
use Rattle.fields.specs.Held.{name_text, line_fields}
use Rattle.fields.specs.Text.{Bytes}
use Rattle.fields.specs.declared.line.Line.{Line}
use Rattle.fields.specs.declared.name.Name.{Name}
use Rattle.theory.specs.Model.{Method as Way}
use Rattle.reading.specs.Lines.{room}
use Rattle.reading.specs.Tables.{ActionEntry, TaskEntry, add_method}
use Rattle.reading.specs.declared.faults.DomainFault.TheVariants.{Clash}
use Rattle.reading.specs.declared.kinds.Kind.{Kind}
use Rattle.reading.specs.declared.kinds.Kind.TheVariants as kind
use Rattle.reading.proofs.Checks.{step, pass}
use Rattle.tables.specs.Held.{action_entry, task_entry, method_entry}
use Rattle.tables.specs.declared.entries.Action.{Action}
use Rattle.tables.specs.declared.entries.Task.{Task}
use Rattle.tables.specs.declared.entries.Method.{Method}
use Rattle.lines.specs.declared.filled.Tables.{Tables}
use Rattle.lines.specs.Closes.{meant, closes}
use Rattle.lines.specs.Entries.{action_in, task_in, method_in, rules_for}
use Rattle.lines.specs.Took.{Declares, new_fact}
use Rattle.lines.proofs.Closing.{closed_roomy, took_closed}
use Rattle.lines.proofs.Entries.{action_goes, task_goes, method_goes, rules-kept}
use Rattle.lines.proofs.Rooms.{room_goes, pushed}

-- the entry x stands at the end of the table, in the room that it had
pub record Pushed {A : Type 0} (old new : Vec A Global) (x : A) : Type 0 where
  pub items : vec_items new ≡ vec_items old ++ x ∷ []
  pub capacity : vec_capacity new ≡ vec_capacity old

-- a line that was taken, and so left the rules and the room as they have to be
pub record Taken (old new : Tables) (k : Kind) (l : Line) : Type 0 where
  pub took : Declares (Ok tt) old new k l
  pub ok : closes new ≡ true

module _ (t : Tables) (l : Line) (ok : closes t ≡ true) where
  taken : (new : Tables) (k : Kind) → Declares (Ok tt) t new k l → Taken t new k l
  taken new k h = record { took = h; ok = took_closed k (line_fields l) (Ok tt) t new ok h }

  pub fact_took : (v : Vec Name Global) (x : Name) (xs : List Name) → Ok (name_text x) ≡ new_fact t l 2 → Ok tt ≡ room 64 xs → xs ≡ vec_items t.facts → Pushed t.facts v x
      → Taken t (record { facts = v; actions = t.actions; tasks = t.tasks; methods = t.methods }) kind.Fact l
  fact_took v x xs n r e p = taken (record { facts = v; actions = t.actions; tasks = t.tasks; methods = t.methods }) kind.Fact (
    step _ (sym n) (room_goes name_text (vec_items t.facts) xs 64 _ r e
        ∙ ap (λ (ns : List Bytes). Ok (record { facts = ns; actions = (meant t).actions; tasks = (meant t).tasks; methods = (meant t).methods })) (sym (pushed name_text (vec_items t.facts) (vec_items v) x p.items))),
    grind (arith, p.capacity, closed_roomy t ok),
  )

  pub action_took : (v : Vec Action Global) (x : Action) (xs : List Action) → Ok (action_entry x) ≡ action_in t l → Ok tt ≡ room 64 xs → xs ≡ vec_items t.actions
      → eqb (bit_and x.adds x.deletes) 0 ≡ true → Pushed t.actions v x
      → Taken t (record { facts = t.facts; actions = v; tasks = t.tasks; methods = t.methods }) kind.Action l
  action_took v x xs n r e z p = taken (record { facts = t.facts; actions = v; tasks = t.tasks; methods = t.methods }) kind.Action (
    action_goes t l n (room_goes action_entry (vec_items t.actions) xs 64 _ r e
        ∙ pass Clash z (ap (λ (es : List ActionEntry). Ok (record { facts = (meant t).facts; actions = es; tasks = (meant t).tasks; methods = (meant t).methods })) (sym (pushed action_entry (vec_items t.actions) (vec_items v) x p.items)))),
    grind (arith, p.capacity, closed_roomy t ok),
  )

  pub task_took : (v : Vec Task Global) (x : Task) (xs : List Task) → Ok (task_entry x) ≡ task_in t l → Ok tt ≡ room 48 xs → xs ≡ vec_items t.tasks → Pushed t.tasks v x
      → Taken t (record { facts = t.facts; actions = t.actions; tasks = v; methods = t.methods }) kind.Task l
  task_took v x xs n r e p = taken (record { facts = t.facts; actions = t.actions; tasks = v; methods = t.methods }) kind.Task (
    task_goes t l n (room_goes task_entry (vec_items t.tasks) xs 48 _ r e
        ∙ ap (λ (es : List TaskEntry). Ok (record { facts = (meant t).facts; actions = (meant t).actions; tasks = es; methods = (meant t).methods })) (sym (pushed task_entry (vec_items t.tasks) (vec_items v) x p.items))),
    grind (arith, p.capacity, closed_roomy t ok),
  )

  pub method_took : (v : Vec Method Global) (x : Method) (xs : List Method) → Ok (method_entry x) ≡ method_in t l → Ok tt ≡ room 128 xs → xs ≡ vec_items t.methods
      → Ok tt ≡ rules_for t x → Pushed t.methods v x
      → Taken t (record { facts = t.facts; actions = t.actions; tasks = t.tasks; methods = v }) kind.Method l
  method_took v x xs n r e k p = taken (record { facts = t.facts; actions = t.actions; tasks = t.tasks; methods = v }) kind.Method (
    method_goes t l n (room_goes method_entry (vec_items t.methods) xs 128 _ r e
        ∙ rules-kept t x (Ok (add_method (meant t) (method_entry x))) k
        ∙ ap (λ (ms : List Way). Ok (record { facts = (meant t).facts; actions = (meant t).actions; tasks = (meant t).tasks; methods = ms })) (sym (pushed method_entry (vec_items t.methods) (vec_items v) x p.items))),
    grind (arith, p.capacity, closed_roomy t ok),
  )
