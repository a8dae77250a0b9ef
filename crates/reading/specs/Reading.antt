-- a reader of a domain: what it answers to each line, and how it stands after it
use Rattle.std.specs.Prelude.{ℕ, ◌+◌, ◌-◌, ◌^◌, min, Bool, true, false, cond, ◌&&◌, List, [], ◌∷◌, length, Some, None, Ok, Err, Option, Result, ◌==◌, nat_le}
use Rattle.fields.specs.Text.{Bytes, fields, at}
use Rattle.fields.specs.declared.faults.LineFault.TheVariants.{Letter, Count}
use Rattle.theory.specs.declared.Constraint.TheVariants.{Before, After}
use Rattle.reading.specs.declared.faults.DomainFault.{DomainFault}
use Rattle.reading.specs.declared.faults.DomainFault.TheVariants.{Line}
use Rattle.reading.specs.declared.faults.Fault.{Fault}
use Rattle.reading.specs.declared.kinds.Kind.{Kind}
use Rattle.reading.specs.declared.kinds.Kind.TheVariants as kind
use Rattle.reading.specs.declared.kinds.Section.{Section}
use Rattle.reading.specs.declared.kinds.Section.TheVariants.{Facts, Actions, Tasks, Methods, Closed}
use Rattle.reading.specs.Tables as tables
use Rattle.reading.specs.Lines.{Check, ◌>>=◌, ◌>>◌, must, found, fact_line, action_line, task_line, method_line, position_line, between_line}

-- the letters F, A, T, M, B, P, K and E
abbrev pub kind_at : ℕ → Option Kind
kind_at b =
    cond (b == 70) (Some kind.Fact) (cond (b == 65) (Some kind.Action) (cond (b == 84) (Some kind.Task) (cond (b == 77) (Some kind.Method)
    (cond (b == 66) (Some kind.Before) (cond (b == 80) (Some kind.After) (cond (b == 75) (Some kind.Between) (cond (b == 69) (Some kind.Closing) None)))))))

-- the first field is one letter
abbrev pub kind_of : Bytes → Option Kind
kind_of [] = None
kind_of (b ∷ []) = kind_at b
kind_of (b ∷ c ∷ bs) = None

-- the group that a line of this kind belongs to
abbrev pub group : Kind → Section
group kind.Fact = Facts
group kind.Action = Actions
group kind.Task = Tasks
group kind.Method = Methods
group kind.Before = Methods
group kind.After = Methods
group kind.Between = Methods
group kind.Closing = Closed

-- the groups in their order
abbrev pub rank_of : Section → ℕ
rank_of Facts = 0
rank_of Actions = 1
rank_of Tasks = 2
rank_of Methods = 3
rank_of Closed = 4

-- a constraint stands below a method
abbrev pub is_constraint : Kind → Bool
is_constraint kind.Fact = false
is_constraint kind.Action = false
is_constraint kind.Task = false
is_constraint kind.Method = false
is_constraint kind.Before = true
is_constraint kind.After = true
is_constraint kind.Between = true
is_constraint kind.Closing = false

-- a line may stand in its own group or before a later one, a constraint only among methods, and none after the closing line
abbrev pub allowed : Section → Kind → Bool
allowed s c = nat_le (rank_of s) 3 && (cond (is_constraint c) (rank_of s == 3) (nat_le (rank_of s) (rank_of (group c))))

-- how many fields a line has, the letter too
abbrev pub field_count : Kind → ℕ
field_count kind.Fact = 2
field_count kind.Action = 5
field_count kind.Task = 4
field_count kind.Method = 5
field_count kind.Before = 3
field_count kind.After = 3
field_count kind.Between = 4
field_count kind.Closing = 1

-- the tables with what a line's fields say
abbrev pub declared : Kind → tables.Tables → List Bytes → Check tables.Tables
declared kind.Fact = fact_line
declared kind.Action = action_line
declared kind.Task = task_line
declared kind.Method = method_line
declared kind.Before = position_line Before
declared kind.After = position_line After
declared kind.Between = between_line
declared kind.Closing = λ t _. Ok t

-- the kind of a line: its letter is known and allowed here, it has the number of fields that its letter asks for, and at most 255 bytes
abbrev pub head : Section → Bytes → Check Kind
head s l = do
  c ← found (kind_of (at (fields l) 1)) (Line Letter)
  must (allowed s c) (Line Letter)
  must (length (fields l) == field_count c && nat_le (length l) 255) (Line (Count (length (fields l))))
  Ok c

-- a line after one of group s: its group, and the tables with it
abbrev pub line : Section → tables.Tables → Bytes → Check (Section × tables.Tables)
line s t l = do
  c ← head s l
  u ← declared c t (fields l)
  Ok (group c, u)

-- A reader that has refused no line before the closing one: the group of the last accepted line, the tables, and how many lines were read.
-- Or one that has, with the first fault.
pub data Reader : Type 0 where
  reading : Section → tables.Tables → ℕ → Reader
  refused : Fault → Reader

abbrev pub Answer : Type 0
Answer = Result (Unit {0}) Fault

abbrev pub start : Reader
start = reading Facts tables.empty 0

-- one line more; the count stops at the largest number of 64 bits
abbrev pub counted : ℕ → ℕ
counted n = min (n + 1) (2 ^ 64 - 1)

abbrev pub fault_at : DomainFault → ℕ → Fault
fault_at f n = record { cause = f; line = n }

-- a fault before the closing line stays for ever, and after it the domain stays
abbrev pub faulted : Section → tables.Tables → ℕ → DomainFault → Reader
faulted Facts t n f = refused (fault_at f n)
faulted Actions t n f = refused (fault_at f n)
faulted Tasks t n f = refused (fault_at f n)
faulted Methods t n f = refused (fault_at f n)
faulted Closed t n f = reading Closed t n

abbrev pub taken : Section → tables.Tables → ℕ → Check (Section × tables.Tables) → Answer × Reader
taken s t n (Ok (r, u)) = (Ok tt, reading r u n)
taken s t n (Err f) = (Err (fault_at f n), faulted s t n f)

-- the answer to a line, and the reader after it
abbrev pub reads : Reader → Bytes → Answer × Reader
reads (reading s t n) l = taken s t (counted n) (line s t l)
reads (refused f) l = (Err f, refused f)

-- after all lines of a text
abbrev pub after_all : Reader → List Bytes → Reader
after_all r [] = r
after_all r (l ∷ ls) = after_all (reads r l).1 ls

-- the answers to all lines of a text
abbrev pub answers : Reader → List Bytes → List Answer
answers r [] = []
answers r (l ∷ ls) = (reads r l).0 ∷ answers (reads r l).1 ls
