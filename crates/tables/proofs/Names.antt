-- names as they are looked through, and as the tables mean them
use Rattle.std.proofs.Common.{◌≡◌, List, map, sym, ap₂}
use mathlib.Core.List.{map-map}
use Rattle.fields.specs.Text.{Bytes}
use Rattle.reading.specs.Tables.{ActionEntry, TaskEntry, index_of, or_task}
use Rattle.tables.specs.Held.{action_name, action_entry, task_name, task_entry, symbol_in}
use Rattle.tables.specs.declared.entries.Action.{Action}
use Rattle.tables.specs.declared.entries.Task.{Task}

action_names : (xs : List Action) → map action_name xs ≡ map (λ (e : ActionEntry). e.name) (map action_entry xs)
action_names xs = sym (map-map (λ (e : ActionEntry). e.name) action_entry xs)

pub task_names_lem : (xs : List Task) → map task_name xs ≡ map (λ (e : TaskEntry). e.name) (map task_entry xs)
task_names_lem xs = sym (map-map (λ (e : TaskEntry). e.name) task_entry xs)

pub symbol_in_lem : (xs : List Action) (ts : List Task) (n : Bytes)
    → symbol_in xs ts n ≡ or_task (index_of n (map (λ (e : ActionEntry). e.name) (map action_entry xs))) (index_of n (map (λ (e : TaskEntry). e.name) (map task_entry ts)))
symbol_in_lem xs ts n = ap₂ (λ (x y : List Bytes). or_task (index_of n x) (index_of n y)) (action_names xs) (task_names_lem ts)
