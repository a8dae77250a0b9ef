-- what a line reads as in the tables, and what it does to them
use Rattle.std.specs.Prelude.{◌≡◌, ℕ, true, List, Ok, Err, Result}
use Rattle.fields.specs.Held.{line_fields}
use Rattle.fields.specs.Text.{Bytes}
use Rattle.fields.specs.declared.line.Line.{Line}
use Rattle.theory.specs.declared.Subtask.{Subtask}
use Rattle.reading.specs.Lines as plain
use Rattle.reading.specs.Reading.{declared}
use Rattle.reading.specs.Tables as plain-tables
use Rattle.reading.specs.declared.faults.DomainFault.{DomainFault}
use Rattle.reading.specs.declared.kinds.Kind.{Kind}
use Rattle.lines.specs.declared.filled.Tables.{Tables}
use Rattle.lines.specs.Closes.{meant, roomy}

-- the answer and the tables after it are those of a definition; a refusal leaves the tables as they were
abbrev pub Took : Result (Unit {0}) DomainFault → Tables → Tables → plain.Check plain-tables.Tables → Type 0
Took (Ok x) old new c = (c ≡ Ok (meant new)) × (roomy new ≡ true)
Took (Err e) old new c = (c ≡ Err e) × (meant new ≡ meant old) × (roomy new ≡ true)

-- a kind of line, read in some tables
abbrev pub Reading : Type 0
Reading = plain-tables.Tables → List Bytes → plain.Check plain-tables.Tables

abbrev pub TookLine : Result (Unit {0}) DomainFault → Tables → Tables → Reading → Line → Type 0
TookLine r old new reads l = Took r old new (reads (meant old) (line_fields l))

-- a line of this kind
abbrev pub Declares : Result (Unit {0}) DomainFault → Tables → Tables → Kind → Line → Type 0
Declares r old new kind l = TookLine r old new (declared kind) l

module _ (t : Tables) (l : Line) (k : ℕ) where
  abbrev pub new_fact : plain.Check Bytes
  new_fact = plain.new_name (plain-tables.fact_of (meant t)) (line_fields l) k

  abbrev pub new_symbol : plain.Check Bytes
  new_symbol = plain.new_name (plain-tables.symbol_of (meant t)) (line_fields l) k

  abbrev pub old_fact : plain.Check ℕ
  old_fact = plain.old_name (plain-tables.fact_of (meant t)) (line_fields l) k

  abbrev pub old_task : plain.Check ℕ
  old_task = plain.old_name (plain-tables.task_of (meant t)) (line_fields l) k

  abbrev pub fact_set : plain.Check ℕ
  fact_set = plain.fact_set (meant t) (line_fields l) k

  abbrev pub subtask_list : plain.Check (List Subtask)
  subtask_list = plain.subtask_list (meant t) (line_fields l) k

abbrev pub arity : Tables → ℕ
arity t = plain.arity (meant t)
